-- The forms that each call takes, and the answer to a record that passes SHAPE and RANGE.
use Rattle.std.specs.Prelude.{List}
use Rattle.paper_lower.specs.Checks.{first, granted}
use Rattle.paper_lower.specs.Records.{Record as PaperRecord}
use Rattle.paper_lower.specs.Forms.{Form, policy_forms, lower_forms, request_forms}
use Rattle.paper_lower.specs.Kinds.{Kind, chosen, Answer}
use Rattle.records.specs.declared.Call.{Call}
use Rattle.records.specs.declared.Call.TheVariants.{Load, Lower, Request}

-- The forms that a call takes.
abbrev pub forms_of : Call → List Form
forms_of Load = policy_forms
forms_of Lower = lower_forms
forms_of Request = request_forms

-- The answer to a record that passes SHAPE and RANGE: the first check of its kind that applies.
unfoldable pub settled : {T : Type 0} → List (Kind T) → T → PaperRecord → Answer T
settled ks t p =
    record {
      reply = first ((chosen ks p.kind).checks t p);
      tables = granted (first ((chosen ks p.kind).checks t p)) ((chosen ks p.kind).next t p) t;
    }
