-- The program's outcomes as verdicts.
use Rattle.theory.specs.Outcomes.{Verdict, overcharged, no_period, late, passes}
use Rattle.response.specs.declared.outcome.Outcome.{Outcome}
use Rattle.response.specs.declared.outcome.Outcome.TheVariants.{TooMuch, NoPeriod, Late, Passes}

abbrev pub verdict_of : Outcome → Verdict
verdict_of (TooMuch j) = overcharged j.0
verdict_of NoPeriod = no_period
verdict_of (Late k r) = late k r
verdict_of (Passes r) = passes r
