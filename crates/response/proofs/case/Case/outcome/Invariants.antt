use Rattle.theory.specs.Regular.{Climbs}
use Rattle.theory.proofs.Judging.{Seen}
use Rattle.response.specs.Cases.{own_timing, equations_of}
use Rattle.response.proofs.case.Case.outcome.Given as goal

abbrev pub invariant-loop-k : goal.invariant-loop-k
invariant-loop-k l = Seen (equations_of l.self) (own_timing l.self) l.k l.worst × Climbs 0 ((equations_of l.self).start l.k) l.from
