use Rattle.std.proofs.Common.{◌≡◌, length, take, drop}
use Rattle.theory.proofs.Histories.{SoFar}
use Rattle.sheet.specs.Views.{table_of}
use Rattle.history.specs.Calls.{edits_of, faults_in}
use Rattle.history.proofs.make_calls.Given as goal

abbrev pub invariant-loop-i : goal.invariant-loop-i
invariant-loop-i l =
    SoFar (edits_of l.calls) l.i (faults_in (take l.i l.answers)) (table_of l.sheet) × (drop (length l.calls) l.answers ≡ drop (length l.calls) l.initial.answers)
