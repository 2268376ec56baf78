use Rattle.std.proofs.Common.{◌<◌, ◌≤◌, sym, ◌∙◌, subst, arith}
use Rattle.theory.specs.Regular.{Climbs}
use Rattle.theory.proofs.Solutions.{climb_to, climb_least}
use Rattle.response.proofs.solve.least_solution.Goals as goal

pub loop-x-init : goal.loop-x-init
loop-x-init g c low f computes mono climbs = subst (Climbs low f) (sym c.from-x.ensures) climbs

pub returns-then-next-x : goal.returns-then-next-x
returns-then-next-x g c low f computes mono climbs =
    let top : c.loop-x.x ≤ c.args.top = omega (arith, c.from.ensures) in
    let is = computes c.loop-x.x c.demand-next.result top c.demand-next.ensures in
    (climb_least mono (c.loop-x.invariant low f computes mono climbs) (sym c.if-next-x.true ∙ is), top)

-- the demand is no less than x, since the search began at a number that is not above a solution
pub loop-x-smaller : goal.loop-x-smaller
loop-x-smaller g c =
    let q = c.requires in
    let is = q.computes c.loop-x.x c.demand-next.result (omega (arith, c.from.ensures)) c.demand-next.ensures in
    let up = (c.loop-x.invariant q.low q.f q.computes q.mono q.climbs).up in
    let more : c.loop-x.x < c.demand-next.result = omega (arith, is, up, c.if-next-x.false) in
    omega (arith, more, c.from.ensures)

pub loop-x-preserved : goal.loop-x-preserved
loop-x-preserved g c low f computes mono climbs =
    climb_to mono (c.loop-x.invariant low f computes mono climbs) (computes c.loop-x.x c.demand-next.result (omega (arith, c.from.ensures)) c.demand-next.ensures)

pub returns : goal.returns
returns g c low f computes mono climbs m from under =
    omega (arith, (c.loop-x.invariant low f computes mono climbs).under m from under, c.from.ensures)
