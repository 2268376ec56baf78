use Rattle.std.specs.Prelude.{ℕ, suc, Bool, true, Some, None, Option}
use Rattle.sheet.specs.declared.row.Row.{Row}
use Rattle.theory.specs.Figures.{within}

-- a row at place k, which is priority k + 1, has a cap from 1 to that priority
abbrev pub cap_fits : ℕ → Option Row → Bool
cap_fits k None = true
cap_fits k (Some r) = within (suc k) r.«cap».0
