-- The program's calls and answers as those of a history.
use Rattle.std.specs.Prelude.{◌≡◌, ◌<◌, ◌≤◌, List, map, length, take, drop, Some, Ok, Err, Option, Result}
use Rattle.history.specs.declared.call.Call.{Call}
use Rattle.history.specs.declared.call.Call.TheVariants.{Enter, Strike, Cap}
use Rattle.theory.specs.Figures.{Fault, fault}
use Rattle.theory.specs.Edits.{Edit, enter, strike, limit}
use Rattle.theory.specs.History.{Replayed}
use Rattle.names.specs.declared.refusal.Refusal.{Refusal}
use Rattle.sheet.specs.declared.table.Sheet.{Sheet}
use Rattle.sheet.specs.Views.{table_of}
use Rattle.names.specs.Refusals.{fault_of, refused}
use Rattle.names.specs.Timings.{timing_of}

abbrev pub edit_of : Call → Edit
edit_of (Enter p w) = enter p.0 (timing_of w)
edit_of (Strike p) = strike p.0
edit_of (Cap p k) = limit p.0 k.0

-- what a call is answered
abbrev pub Answer : Type 0
Answer = Result (Unit {0}) Refusal

-- each of these calls edits the sheet
abbrev pub some_edit : Call → Option Edit
some_edit x = Some (edit_of x)

abbrev pub edits_of : List Call → List (Option Edit)
edits_of calls = map some_edit calls

abbrev pub faults_in : List Answer → List (Option Fault)
faults_in answers = map refused answers

-- What a replay into a list promises: the first entries are the answers and no other entry has changed. It is
-- refused with 1 at 0 exactly when the list is shorter than the calls, and then nothing has changed.
abbrev pub ReplayedInto : List Call → List Answer → List Answer → Result Sheet Refusal → Type 0
ReplayedInto calls old new (Ok s) =
    (length calls ≤ length old) × Replayed (edits_of calls) (faults_in (take (length calls) new)) (table_of s)
    × (drop (length calls) new ≡ drop (length calls) old)
ReplayedInto calls old new (Err e) = (length old < length calls) × (fault_of e ≡ fault 1 0) × (new ≡ old)
