-- What a search for the least solution of an equation is given, and what it finds.
use Rattle.std.specs.Prelude.{◌≡◌, ℕ, ◌<◌, ◌≤◌, Some, None, Option}
use Rattle.theory.specs.Least.{Least}
use Rattle.theory.specs.Regular.{Climbs, Mono}

-- calls that answer y to x, for x up to the top, compute f
abbrev pub Computes : (ℕ → ℕ → Type 0) → (ℕ → ℕ) → ℕ → Type 0
Computes post f top = (x y : ℕ) → x ≤ top → post x y → y ≡ f x

-- the demand may be called up to the top, and computes a function that never falls; the search starts at a number
-- that is not above a solution
pub record Searchable {A : Type 0} (pre : A → ℕ → Type 0) (post : A → ℕ → ℕ → Type 0) (demand : A) (from top : ℕ) : Type 0 where
  pub callable : (x : ℕ) → x ≤ top → pre demand x
  pub low : ℕ
  pub f : ℕ → ℕ
  pub computes : Computes (post demand) f top
  pub mono : Mono f
  pub climbs : Climbs low f from

-- the least solution of f, None where every number up to the top is below what f asks of it
abbrev pub LeastUpTo : ℕ → (ℕ → ℕ) → ℕ → Option ℕ → Type 0
LeastUpTo low f top (Some x) = Least low f x × (x ≤ top)
LeastUpTo low f top None = (m : ℕ) → low ≤ m → f m ≤ m → top < m
