-- Every column fits, or has a first misfit.
use Rattle.std.proofs.Common.{◌≡◌, ℕ, zero, suc, ◌+◌, ◌<◌, ◌≤◌, true, List, Some, None, Option, subst, inl, inr, arith}
use Rattle.std.proofs.lemmas.Bool.{cases_Bool, cases_lt}
use Rattle.theory.specs.Columns.{entry, fits_at, FirstMisfit}
use Rattle.theory.specs.Figures.{Table, Within, priorities}

module _ (rows : Table) (h : List ℕ) where
  -- looked for from p on, where n priorities are left
  search_from : (n p : ℕ) → 1 ≤ p → p + n ≡ priorities + 1 → ((q : ℕ) → Within priorities q → q < p → fits_at rows q (entry h q) ≡ true)
      → (m : Option ℕ) × FirstMisfit rows h m
  search_from zero p low is fits = (None, λ q r. fits q r (omega arith))
  search_from (suc n) p low is fits =
      elim (cases_Bool (fits_at rows p (entry h p))) [
        | inr not ↦ (Some p, record { among = (low, omega arith); fails = not; first = fits })
        | inl here ↦ search_from n (p + 1) (omega arith) (omega arith) (λ q r l. elim (cases_lt q p) [
          | inl lt ↦ fits q r lt
          | inr ge ↦ (let same : p ≡ q = omega arith in subst (λ (k : ℕ). fits_at rows k (entry h k) ≡ true) same here)
        ])
      ]

  pub first_misfit : (m : Option ℕ) × FirstMisfit rows h m
  first_misfit = search_from priorities 1 (omega arith) (omega arith) (λ q r l. absurd (omega (arith, r.0)))
