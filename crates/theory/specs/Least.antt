-- Least solutions of an equation n = F n.
use Rattle.std.specs.Prelude.{◌≡◌, ℕ, ◌≤◌}

-- n is low or more, and solves the equation
pub record Solves (low : ℕ) (F : ℕ → ℕ) (n : ℕ) : Type 0 where
  pub from : low ≤ n
  pub same : n ≡ F n

-- n solves it, and no smaller number from low on does
pub record Least (low : ℕ) (F : ℕ → ℕ) (n : ℕ) : Type 0 where
  pub solves : Solves low F n
  pub least : (m : ℕ) → Solves low F m → n ≤ m
