-- The elements as document 000 prints them, one line for each element in the notation of its DTDs, and a reader of that notation. It is proved that
-- `elements_of` is the table of these lines, without what the call refuses (Promises, ElementsAsPrinted). So only these lines need comparing with 000.
use Rattle.std.specs.Prelude.{ℕ, zero, suc, ◌-◌, Bool, true, false, not, cond, ◌||◌, List, [], ◌∷◌, ◌++◌, eqb, length, drop}
use Prim.Native.String.{String}
use Rattle.paper_lower.specs.Lists.{Maybe, some, many, keep, each, lists_open}
use Rattle.paper_lower.specs.Lists.Maybe.{none, just}
use Rattle.paper_opl.specs.Reading.{Text, text, Read, after, same, starts, expect, skip, space, name, reading_open}
use Rattle.paper_opl.specs.Reading.Read.{got, bad}
use Rattle.paper_opl.specs.Elements.{Class, Attribute, Times, Child, Element}
use Rattle.paper_opl.specs.Elements.Class.{names, number, any, spare}
use Rattle.paper_opl.specs.Elements.Times.{once, perhaps, often, least}

-- ---- Content models.

-- Reads the sign after a name or a group: "?", "*", "+", or none.
unfoldable pub times : Text → Read Times
times s =
    cond (starts (text "?") s) (got perhaps (drop 1 s))
    (cond (starts (text "*") s) (got often (drop 1 s))
    (cond (starts (text "+") s) (got least (drop 1 s))
    (got once s)))

-- Reads names separated by "|".
unfoldable pub choice : ℕ → Text → Read (List Text)
choice zero s = bad s
choice (suc n) s =
    after (name s) (λ w r. cond (starts (text "|") (skip r))
    (after (choice n (skip (drop 1 (skip r)))) (λ ws u. got (w ∷ ws) u))
    (got (w ∷ []) (skip r)))

-- Reads names separated by ",", each with its sign.
unfoldable pub sequence : ℕ → Text → Read (List Child)
sequence zero s = bad s
sequence (suc n) s =
    after (name s) (λ w r. after (times r) (λ k u. cond (starts (text ",") (skip u))
    (after (sequence n (skip (drop 1 (skip u)))) (λ cs z. got (record { times = k; names = w ∷ [] } ∷ cs) z))
    (got (record { times = k; names = w ∷ [] } ∷ []) (skip u))))

-- The first result, or the second if the first is a refusal.
abbrev pub either : {A : Type 0} → Read A → Read A → Read A
either (got x s) other = got x s
either (bad s) other = other

-- Reads a content model: "EMPTY"; "(a | b)" with a sign after it, which includes "(a)"; or "(a, b?, c*)".
unfoldable pub model : Text → Read (List Child)
model s =
    cond (starts (text "EMPTY") s) (got [] (drop 5 s))
    (after (expect (text "(") s) (λ _ r.
    either
    (after (choice (length r) r) (λ ws u. after (expect (text ")") u) (λ _ z. after (times z) (λ k y. got (record { times = k; names = ws } ∷ []) y))))
    (after (sequence (length r) r) (λ cs u. after (expect (text ")") u) (λ _ z. got cs z)))))

-- ---- Attributes. All of them are CDATA.

-- Whether the second text ends with the first.
unfoldable pub ends_in : Text → Text → Bool
ends_in w s = same (drop (length s - length w) s) w

-- The class of a required attribute: a name if it is called `.._id` or `.._role`, a number if it is called `cardinality`, and any value otherwise.
abbrev pub class_of : Text → Class
class_of w = cond (ends_in (text "_id") w || ends_in (text "_role") w) names (cond (same w (text "cardinality")) number any)

-- Reads the declaration of one attribute.
unfoldable pub attribute : Text → Read Attribute
attribute s =
    after (name s) (λ w r. after (space r) (λ _ u. after (expect (text "CDATA") u) (λ _ z. after (space z) (λ _ y.
    cond (starts (text "#REQUIRED") y) (got (record { name = w; class = class_of w }) (drop 9 y))
    (after (expect (text "#IMPLIED") y) (λ _ x. got (record { name = w; class = spare }) x))))))

-- Reads the declarations of attributes up to ">".
unfoldable pub attributes : ℕ → Text → Read (List Attribute)
attributes zero s = bad s
attributes (suc n) s =
    cond (starts (text ">") (skip s)) (got [] (drop 1 (skip s)))
    (after (attribute (skip s)) (λ a r. after (attributes n r) (λ more u. got (a ∷ more) u)))

-- ---- A line: "<!ELEMENT name model>", followed by "<!ATTLIST name attributes>" if the element has attributes.

-- Reads the attribute list of the element w, or nothing at the end of the line.
unfoldable pub attlist : Text → Text → Read (List Attribute)
attlist w s =
    cond (same s []) (got [] s)
    (after (expect (text "<!ATTLIST ") s) (λ _ r. after (expect w r) (λ _ u. attributes (length u) u)))

-- Reads one line.
unfoldable pub declared : Text → Read Element
declared s =
    after (expect (text "<!ELEMENT ") s) (λ _ r. after (name r) (λ w u. after (space u) (λ _ z. after (model z) (λ cs y.
    after (expect (text ">") y) (λ _ x. after (attlist w (skip x)) (λ given v. got (record { name = w; attributes = given; children = cs }) v))))))

-- Applies f to a result if the whole text was read.
abbrev pub wholly : {A B : Type 0} → Read A → (A → Maybe B) → Maybe B
wholly (got x []) f = f x
wholly (got x (b ∷ s)) f = none
wholly (bad s) f = none

-- A list with one more element in front, if there is a list.
abbrev pub before : Element → Maybe (List Element) → Maybe (List Element)
before e none = none
before e (just es) = just (e ∷ es)

-- The elements of some lines, if each line can be read to its end.
unfoldable pub table : List String → Maybe (List Element)
table [] = just []
table (l ∷ ls) = wholly (declared (text l)) (λ e. before e (table ls))

-- ---- "sssod, ssodp and elements of other sections are not accepted".

-- Children, without the names that are not in the table; a child without any name left is dropped.
unfoldable pub children_among : List Element → List Child → List Child
children_among es cs =
    keep (λ c. not (eqb (many c.names) 0))
    (each (λ c. record { times = c.times; names = keep (λ w. some (λ e. same e.name w) es) c.names }) cs)

-- A table in which children that have no row are dropped.
unfoldable pub closed : List Element → List Element
closed es = each (λ e. record { name = e.name; attributes = e.attributes; children = children_among es e.children }) es

-- A table without the elements of these names, neither as rows nor as children.
abbrev pub less : List String → List Element → List Element
less ws es = closed (keep (λ e. not (some (same e.name) (each text ws))) es)

-- ssodp (separation attached to permissions) with the elements that occur only in it, and sssod (strict separation).
unfoldable pub refused_elements : List String
refused_elements =
    "static_separation_of_duty_attached_to_permissions"
    ∷ "critical_permission_sets"
    ∷ "critical_permission_set"
    ∷ "critical_permissions"
    ∷ "critical_permission"
    ∷ "strict_static_separation_of_duty"
    ∷ []

-- Further elements that a call refuses: for the wider call, who has touched which object; for Ask 4's call, also the sections that only the wider call reads.
unfoldable pub refused_further : Bool → List String
refused_further true = "uocw" ∷ []
refused_further false =
    "module_role_hierarchy_policy"
    ∷ "role_hierarchy"
    ∷ "inherit_role"
    ∷ "module_sep_duty_rh_policy"
    ∷ "module_chinese_wall_policy"
    ∷ "cw_partitions"
    ∷ "cw_partition"
    ∷ "partition_object"
    ∷ "uocws"
    ∷ "uocw"
    ∷ []

-- The table without what a call refuses.
abbrev pub accepted : Bool → Maybe (List Element) → Maybe (List Element)
accepted all none = none
accepted all (just es) = just (less (refused_elements ++ refused_further all) es)

-- ---- The lines, by 000's sections.

-- The lines.
unfoldable pub printed : List String
printed =
    -- 5.2, listing 2
    "<!ELEMENT policy_object (policy_object_attributes, active_modules, policy_object_modules)>"
    ∷ "<!ELEMENT policy_object_attributes (attribute*)>"
    ∷ "<!ELEMENT attribute EMPTY> <!ATTLIST attribute key CDATA #REQUIRED value CDATA #REQUIRED>"
    ∷ "<!ELEMENT active_modules (active_module*)>"
    ∷ "<!ELEMENT active_module EMPTY> <!ATTLIST active_module name CDATA #REQUIRED>"
    ∷ "<!ELEMENT policy_object_modules (module_rbac_core_policy | module_role_hierarchy_policy | module_sep_duty_policy | module_sep_duty_rh_policy | module_exo_context_policy | module_chinese_wall_policy | module_obj_sep_duty_policy | module_wf_core_policy | module_wf_sep_duty_policy | module_wf_sep_duty_cc_policy | module_wf_cardinality_policy | module_wf_bind_duty_policy | module_wf_prereq_step_policy)+>"
    -- 6.1, listing 4
    ∷ "<!ELEMENT module_rbac_core_policy (users, roles, permissions, user_assignments, permission_assignments)>"
    ∷ "<!ELEMENT users (user)*>"
    ∷ "<!ELEMENT roles (role)*>"
    ∷ "<!ELEMENT permissions (permission)*>"
    ∷ "<!ELEMENT user_assignments (user_assignment)*>"
    ∷ "<!ELEMENT permission_assignments (permission_assignment)*>"
    ∷ "<!ELEMENT user EMPTY> <!ATTLIST user user_id CDATA #REQUIRED>"
    ∷ "<!ELEMENT role EMPTY> <!ATTLIST role role_id CDATA #REQUIRED role_description CDATA #IMPLIED>"
    ∷ "<!ELEMENT permission (operation, object)> <!ATTLIST permission permission_id CDATA #REQUIRED>"
    ∷ "<!ELEMENT operation EMPTY> <!ATTLIST operation operation_id CDATA #REQUIRED>"
    ∷ "<!ELEMENT object EMPTY> <!ATTLIST object object_id CDATA #REQUIRED>"
    ∷ "<!ELEMENT user_assignment EMPTY> <!ATTLIST user_assignment role_id CDATA #REQUIRED user_id CDATA #REQUIRED>"
    ∷ "<!ELEMENT permission_assignment EMPTY> <!ATTLIST permission_assignment permission_id CDATA #REQUIRED role_id CDATA #REQUIRED>"
    -- 6.3, listing 8
    ∷ "<!ELEMENT module_sep_duty_policy (static_separation_of_duty?, static_separation_of_duty_attached_to_permissions?, strict_static_separation_of_duty?, dynamic_separation_of_duty?)>"
    ∷ "<!ELEMENT static_separation_of_duty (critical_role_sets)>"
    ∷ "<!ELEMENT static_separation_of_duty_attached_to_permissions (critical_permission_sets)>"
    ∷ "<!ELEMENT strict_static_separation_of_duty (critical_role_sets)>"
    ∷ "<!ELEMENT dynamic_separation_of_duty (critical_role_sets)>"
    ∷ "<!ELEMENT critical_role_sets (critical_role_set)*>"
    ∷ "<!ELEMENT critical_role_set (critical_roles)> <!ATTLIST critical_role_set cardinality CDATA #REQUIRED name CDATA #IMPLIED description CDATA #IMPLIED>"
    ∷ "<!ELEMENT critical_roles (critical_role)+>"
    ∷ "<!ELEMENT critical_role EMPTY> <!ATTLIST critical_role role_id CDATA #REQUIRED>"
    ∷ "<!ELEMENT critical_permission_sets (critical_permission_set)*>"
    ∷ "<!ELEMENT critical_permission_set (critical_permissions)> <!ATTLIST critical_permission_set cardinality CDATA #REQUIRED name CDATA #IMPLIED description CDATA #IMPLIED>"
    ∷ "<!ELEMENT critical_permissions (critical_permission)+>"
    ∷ "<!ELEMENT critical_permission EMPTY> <!ATTLIST critical_permission permission_id CDATA #REQUIRED>"
    -- 6.8, listing 18
    ∷ "<!ELEMENT module_wf_core_policy (task_permission_assignments,task_role_assignments)>"
    ∷ "<!ELEMENT task_permission_assignments (task_permission_assignment*)>"
    ∷ "<!ELEMENT task_role_assignments (task_role_assignment*)>"
    ∷ "<!ELEMENT task_permission_assignment EMPTY> <!ATTLIST task_permission_assignment task_id CDATA #REQUIRED permission_id CDATA #REQUIRED>"
    ∷ "<!ELEMENT task_role_assignment EMPTY> <!ATTLIST task_role_assignment task_id CDATA #REQUIRED role_id CDATA #REQUIRED>"
    -- 6.9, listing 20
    ∷ "<!ELEMENT module_wf_sep_duty_policy (hdsodsl?, hdsod?, hdsodtp?)>"
    ∷ "<!ELEMENT hdsodsl (critical_workflow_template*)>"
    ∷ "<!ELEMENT critical_workflow_template EMPTY> <!ATTLIST critical_workflow_template template_id CDATA #REQUIRED>"
    ∷ "<!ELEMENT hdsod (critical_tasks_set)*>"
    ∷ "<!ELEMENT critical_tasks_set (critical_task)+> <!ATTLIST critical_tasks_set cardinality CDATA #REQUIRED name CDATA #IMPLIED description CDATA #IMPLIED>"
    ∷ "<!ELEMENT critical_task EMPTY> <!ATTLIST critical_task task_id CDATA #REQUIRED>"
    ∷ "<!ELEMENT hdsodtp (hdsodtp_partitioning)*>"
    ∷ "<!ELEMENT hdsodtp_partitioning (hdsodtp_partition)*> <!ATTLIST hdsodtp_partitioning name CDATA #IMPLIED description CDATA #IMPLIED>"
    ∷ "<!ELEMENT hdsodtp_partition (partition_task)+> <!ATTLIST hdsodtp_partition name CDATA #IMPLIED description CDATA #IMPLIED>"
    ∷ "<!ELEMENT partition_task EMPTY> <!ATTLIST partition_task task_id CDATA #REQUIRED>"
    -- 6.11 to 6.13, listings 24, 26 and 28
    ∷ "<!ELEMENT module_wf_cardinality_policy (task_cardinalities)>"
    ∷ "<!ELEMENT task_cardinalities (task_cardinality*)>"
    ∷ "<!ELEMENT task_cardinality EMPTY> <!ATTLIST task_cardinality task_id CDATA #REQUIRED cardinality CDATA #REQUIRED>"
    ∷ "<!ELEMENT module_wf_bind_duty_policy (bind_of_duty_constraints)>"
    ∷ "<!ELEMENT bind_of_duty_constraints (bind_of_duty_constraint*)>"
    ∷ "<!ELEMENT bind_of_duty_constraint EMPTY> <!ATTLIST bind_of_duty_constraint task_id CDATA #REQUIRED bound_task_id CDATA #REQUIRED>"
    ∷ "<!ELEMENT module_wf_prereq_step_policy (prereq_steps)>"
    ∷ "<!ELEMENT prereq_steps (prereq_step*)>"
    ∷ "<!ELEMENT prereq_step EMPTY> <!ATTLIST prereq_step prereq_task_id CDATA #REQUIRED task_id CDATA #REQUIRED>"
    -- 6.2, listing 6
    ∷ "<!ELEMENT module_role_hierarchy_policy (role_hierarchy)>"
    ∷ "<!ELEMENT role_hierarchy (inherit_role)*>"
    ∷ "<!ELEMENT inherit_role EMPTY> <!ATTLIST inherit_role lower_role CDATA #REQUIRED upper_role CDATA #REQUIRED>"
    -- 6.4: listing 10 is missing; "we inherit the definitions" of 6.3's module
    ∷ "<!ELEMENT module_sep_duty_rh_policy (static_separation_of_duty?, static_separation_of_duty_attached_to_permissions?, strict_static_separation_of_duty?, dynamic_separation_of_duty?)>"
    -- 6.6, listing 14
    ∷ "<!ELEMENT module_chinese_wall_policy (cw_partitions, uocws)>"
    ∷ "<!ELEMENT cw_partitions (cw_partition)*>"
    ∷ "<!ELEMENT cw_partition (partition_object)*>"
    ∷ "<!ELEMENT partition_object EMPTY> <!ATTLIST partition_object object_id CDATA #REQUIRED>"
    ∷ "<!ELEMENT uocws (uocw)*>"
    ∷ "<!ELEMENT uocw EMPTY> <!ATTLIST uocw user_id CDATA #REQUIRED object_id CDATA #REQUIRED>"
    ∷ []

-- Opens the definitions of this page together, for computing the table.
unfoldable pub dtd_open : Unit {0}
unfolding lists_open reading_open times choice sequence model ends_in attribute attributes attlist declared table children_among closed refused_elements refused_further printed
dtd_open = tt
