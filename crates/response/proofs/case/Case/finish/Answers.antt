use Rattle.std.proofs.Common.{◌≡◌, ◌+◌, arith, rules}
use Rattle.theory.proofs.Jobs.{finish_warm}
use Rattle.response.specs.Cases.{own_timing, equations_of}
use Rattle.response.specs.Ticks.{ticks_of}
use Rattle.response.proofs.Solving.{some_found, found_in}
use Rattle.response.proofs.case.Case.finish.Goals as goal

pub least_solution-requires : goal.least_solution-requires
least_solution-requires c =
    let q = c.args.self.now in
    record {
      callable = λ x l. search rules;
      low = 1;
      f = (equations_of q).finish c.args.k c.args.s;
      computes = λ x y l is.
          let sum : y ≡ c.fixed_demand-fixed.result + ticks_of q.preempting.now x = search rules in
          omega (arith, sum, c.fixed_demand-fixed.ensures.value);
      mono = q.regular.finish_up c.args.k c.args.s;
      climbs = finish_warm (equations_of q) (own_timing q) q.regular c.args.k c.args.s c.requires.starts;
    }

pub unwrap-requires : goal.unwrap-requires
unwrap-requires c =
    let q = c.args.self.now in
    let f = (equations_of q).finish c.args.k c.args.s in
    let warm = finish_warm (equations_of q) (own_timing q) q.regular c.args.k c.args.s c.requires.starts in
    let l = c.requires.active.solves.from in
    some_found 1 f c.args.period _
    (
    c.least_solution.ensures 1 f (λ x y le is.
    let sum : y ≡ c.fixed_demand-fixed.result + ticks_of q.preempting.now x = search rules in
    omega (arith, sum, c.fixed_demand-fixed.ensures.value)) (q.regular.finish_up c.args.k c.args.s) warm
    )
    l (q.regular.finish_within c.args.k c.args.s c.args.period c.requires.active c.requires.among c.requires.within)

pub returns : goal.returns
returns c =
    let q = c.args.self.now in
    let f = (equations_of q).finish c.args.k c.args.s in
    let warm = finish_warm (equations_of q) (own_timing q) q.regular c.args.k c.args.s c.requires.starts in
    let found =
    found_in 1 f c.args.period _ _
    (
    c.least_solution.ensures 1 f (λ x y le is.
    let sum : y ≡ c.fixed_demand-fixed.result + ticks_of q.preempting.now x = search rules in
    omega (arith, sum, c.fixed_demand-fixed.ensures.value)) (q.regular.finish_up c.args.k c.args.s) warm
    )
    c.unwrap.ensures in
    record { is = found.0; within = found.1 }
