-- The outcomes in the column of own priorities.
use Rattle.std.specs.Prelude.{◌≡◌, ℕ, ◌-◌, false, List, Some, None, Option, slice_index_or}
use Rattle.theory.specs.Columns.{blocks, OwnColumn}
use Rattle.theory.specs.Delays.{Charge}
use Rattle.theory.specs.Figures.{Table, Within, priorities}
use Rattle.theory.specs.Tests.{RowOutcome}
use Rattle.response.specs.declared.outcome.Outcome.{Outcome}
use Rattle.response.specs.Verdicts.{verdict_of}

-- the outcome of the row at p without a blocker, None where no row is
abbrev pub OutcomeAt : Table → Charge → List ℕ → ℕ → Option Outcome → Type 0
OutcomeAt rows c h p None = rows p ≡ None
OutcomeAt rows c h p (Some o) = RowOutcome rows c h p 0 (verdict_of o)

-- The outcome of each row in the column of own priorities, the first that of priority 1. No row of it has a blocker.
pub record OwnOutcomes (rows : Table) (c : Charge) (outcomes : List (Option Outcome)) : Type 0 where
  pub column : List ℕ
  pub own : OwnColumn rows column
  pub unblocked : (p b : ℕ) → blocks column b p ≡ false
  pub each : (p : ℕ) → Within priorities p → OutcomeAt rows c column p (slice_index_or outcomes (p - 1) None)
