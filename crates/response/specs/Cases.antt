-- The equations of a case, and what is found in them.
use Rattle.std.specs.Prelude.{ℕ, ◌≤◌, Some, None, Option}
use Rattle.names.specs.Timings.{timing_of}
use Rattle.theory.specs.Equations.{Equations, Period, period_top}
use Rattle.theory.specs.Figures.{Timing}
use Rattle.theory.specs.Outcomes.{Verdict, overcharged, no_period, late, passes, NoPeriod, FirstLate, InTime}
use Rattle.response.specs.declared.case.Case.{Case}
use Rattle.response.specs.Demands.{equations_in}

abbrev pub own_timing : Case → Timing
own_timing q = timing_of q.own.timing

abbrev pub equations_of : Case → Equations
equations_of q = equations_in q.own q.blocking q.preempting.now q.others.now

-- the active period, None where there is none
abbrev pub PeriodFound : Equations → Option ℕ → Type 0
PeriodFound e None = NoPeriod e
PeriodFound e (Some l) = Period e l × (l ≤ period_top)

-- the outcome where no row is charged too much
abbrev pub JobsJudged : Equations → Timing → Verdict → Type 0
JobsJudged e w (overcharged j) = ⊥
JobsJudged e w no_period = NoPeriod e
JobsJudged e w (late k r) = FirstLate e w k r
JobsJudged e w (passes r) = InTime e w r
