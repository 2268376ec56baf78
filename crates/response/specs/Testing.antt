-- The answers of the tests, as plain figures.
use Rattle.std.specs.Prelude.{◌≡◌, ℕ, ◌≤◌, true, List, length, Some, None, Ok, Err, Option, Result, nat_le}
use Rattle.names.specs.declared.Priority.{Priority}
use Rattle.names.specs.declared.refusal.Refusal.{Refusal}
use Rattle.names.specs.Refusals.{fault_of}
use Rattle.sheet.specs.declared.row.Row.{Row}
use Rattle.sheet.specs.Views.{figures}
use Rattle.theory.specs.Delays.{Charge}
use Rattle.theory.specs.Edits.{unless}
use Rattle.theory.specs.Figures.{Table, Fault, is_row, priorities, within}
use Rattle.theory.specs.Outcomes.{Verdict}
use Rattle.theory.specs.Tests.{PairPasses, Earlier}
use Rattle.delay.specs.Blockers.{blocker_of}
use Rattle.response.specs.declared.outcome.Outcome.{Outcome}
use Rattle.response.specs.Verdicts.{verdict_of}

-- the first failure that a column test finds: row, blocker and outcome
abbrev pub failure_of : Option (Priority × Option Priority × Outcome) → Option (ℕ × ℕ × Verdict)
failure_of None = None
failure_of (Some (p, b, o)) = Some (p.0, blocker_of b, verdict_of o)

-- a failure names a blocker only where there is one
abbrev pub BlockerNamed : Option (Priority × Option Priority × Outcome) → Type 0
BlockerNamed None = Unit {0}
BlockerNamed (Some (p, None, o)) = Unit {0}
BlockerNamed (Some (p, Some b, o)) = 1 ≤ b.0

-- ---- inside the crate

-- the row at p, where the column is long enough and there is one; otherwise whatever is asked next is not asked
abbrev pub RowAt : Table → List ℕ → ℕ → Result Row Refusal → Type 0
RowAt rows h p (Ok r) = (priorities ≤ length h) × (within priorities p ≡ true) × (figures (Some r) ≡ rows p)
RowAt rows h p (Err e) =
    (rest : Option Fault) →
    Some (fault_of e) ≡ unless (nat_le priorities (length h)) 1 0 (unless (within priorities p) 2 p (unless (is_row (rows p)) 6 p rest))

-- every pair before (i, b) passes
abbrev pub PassesTo : Table → Charge → List ℕ → ℕ → ℕ → Type 0
PassesTo rows c h i b = (k a : ℕ) → Earlier k a i b → PairPasses rows c h k a
