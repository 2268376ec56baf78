use Rattle.std.proofs.Common.{◌-◌, arith, rules}
use Rattle.response.specs.Cases.{equations_of}
use Rattle.response.proofs.Solving.{some_found, found_in}
use Rattle.response.proofs.case.Case.start.Goals as goal

pub unwrap-requires : goal.unwrap-requires
unwrap-requires c =
    let q = c.args.self.now in
    let f = (equations_of q).start c.args.k in
    let up = q.regular.start_up c.args.k in
    some_found 0 f (c.args.period - 1) _ (c.least_solution.ensures 0 f (λ x y l is. search rules) up c.requires.below) (omega arith)
    (q.regular.start_within c.args.k c.args.period c.requires.active c.requires.among)

pub returns : goal.returns
returns c =
    let q = c.args.self.now in
    let f = (equations_of q).start c.args.k in
    let up = q.regular.start_up c.args.k in
    let found = found_in 0 f (c.args.period - 1) _ _ (c.least_solution.ensures 0 f (λ x y l is. search rules) up c.requires.below) c.unwrap.ensures in
    record { is = found.0; within = omega (arith, found.1, c.requires.active.solves.from) }
