use Rattle.std.proofs.Common.{ℕ, ◌+◌, ◌-◌}
use Rattle.theory.specs.Regular.{Climbs, Mono}
use Rattle.response.specs.Solving.{Computes}
use Rattle.response.proofs.solve.least_solution.Given as goal

abbrev pub invariant-loop-x : goal.invariant-loop-x
invariant-loop-x g l = (low : ℕ) (f : ℕ → ℕ) → Computes (λ x y. goal.F-post g l.demand x y) f l.top → Mono f → Climbs low f l.from → Climbs low f l.x

abbrev pub decreases-loop-x : goal.decreases-loop-x
decreases-loop-x g l = l.top + 1 - l.x
