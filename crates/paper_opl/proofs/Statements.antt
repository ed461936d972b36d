-- The proofs of the statements in specs/Promises.antt.
use mathlib.Core.Path.{refl}
use mathlib.Core.Bool.{true, false}
use Rattle.paper_opl.specs.Elements.{elements, elements_of}
use Rattle.paper_opl.specs.Dtd.{dtd_open}
use Rattle.paper_opl.specs.Promises.{ElementsAsPrinted, AcceptedYields, RefusalsWriteNothing, ReadExactly, ReadAlike, AnsweredAlike, LinesReadExactly, DepthNeverBites, LimitsOfNames, NumbersInOrder, NumbersDiffer}
use Rattle.paper_opl.proofs.Accepted.{accepted, refusal-writes-nothing, answered-alike}
use Rattle.paper_opl.proofs.DocumentLaid.{exactly, read_alike}
use Rattle.paper_opl.proofs.LinesBack.{lines-exactly}
use Rattle.paper_opl.proofs.Depth.{depth-never-bites}
use Rattle.paper_opl.proofs.Numbers.{limits-of-names, first-declared, numbers-differ}

-- By computation.
pub elements-as-printed : ElementsAsPrinted
unfolding dtd_open elements elements_of
elements-as-printed false = refl
elements-as-printed true = refl

pub accepted-yields : AcceptedYields
accepted-yields = accepted

pub refusals-write-nothing : RefusalsWriteNothing
refusals-write-nothing = refusal-writes-nothing

pub read-exactly : ReadExactly
read-exactly = exactly

pub both-read-alike : ReadAlike
both-read-alike = read_alike

pub both-answer-alike : AnsweredAlike
both-answer-alike = answered-alike

pub lines-read-exactly : LinesReadExactly
lines-read-exactly = lines-exactly

pub deep-enough : DepthNeverBites
deep-enough = depth-never-bites

pub names-within-limits : LimitsOfNames
names-within-limits = limits-of-names

pub numbers-in-order : NumbersInOrder
numbers-in-order = first-declared

pub numbers-all-differ : NumbersDiffer
numbers-all-differ = numbers-differ
