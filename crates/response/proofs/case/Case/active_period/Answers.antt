use Rattle.std.proofs.Common.{rules}
use Rattle.theory.proofs.Solutions.{climb_first}
use Rattle.response.specs.Cases.{equations_of}
use Rattle.response.proofs.Solving.{period_found}
use Rattle.response.proofs.case.Case.active_period.Goals as goal

pub least_solution-requires : goal.least_solution-requires
least_solution-requires c =
    let q = c.args.self.now in
    record {
      callable = λ x l. search rules;
      low = 1;
      f = (equations_of q).period;
      computes = λ x y l is. search rules;
      mono = q.regular.period_up;
      climbs = climb_first q.regular.period_first;
    }

pub returns : goal.returns
returns c =
    let q = c.args.self.now in
    period_found (equations_of q) _ (c.least_solution.ensures 1 (equations_of q).period (λ x y l is. search rules) q.regular.period_up (climb_first q.regular.period_first))
