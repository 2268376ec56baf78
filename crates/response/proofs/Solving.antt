-- What a search for a least solution finds.
use Rattle.std.proofs.Common.{◌≡◌, ℕ, ◌≤◌, Some, None, Option, refl, subst, arith}
use Rattle.std.specs.Option.{IsSome}
use Rattle.theory.specs.Equations.{Equations, period_top}
use Rattle.theory.specs.Least.{Least}
use Rattle.response.specs.Cases.{PeriodFound}
use Rattle.response.specs.Solving.{LeastUpTo}

pub period_found : (e : Equations) (o : Option ℕ) → LeastUpTo 1 e.period period_top o → PeriodFound e o
period_found e (Some l) found = found
period_found e None none = λ l s le. omega (arith, none l s.from (let z = s.same in omega arith), le)

module _ (low : ℕ) (f : ℕ → ℕ) (top : ℕ) where
  -- there is a solution up to a top that asks no more of itself
  pub some_found : (o : Option ℕ) → LeastUpTo low f top o → low ≤ top → f top ≤ top → IsSome o
  some_found (Some x) found from under = refl
  some_found None none from under = absurd (omega (arith, none top from under))

  pub found_in : (o : Option ℕ) (x : ℕ) → LeastUpTo low f top o → o ≡ Some x → Least low f x × (x ≤ top)
  found_in o x found is = subst (LeastUpTo low f top) is found
