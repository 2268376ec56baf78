-- Reading a column.
use Rattle.std.proofs.Common.{◌≡◌, ℕ, zero, suc, ◌+◌, ◌-◌, ◌<◌, ◌≤◌, List, get_or, take, ap, sym, ◌∙◌, arith}
use Rattle.std.proofs.lemmas.List.{get_or-take}
use Rattle.theory.specs.Columns.{entry}

-- entry p stands at place p - 1
pub entry_at : (h : List ℕ) (p : ℕ) → 1 ≤ p → entry h p ≡ get_or h (p - 1) 0
entry_at h zero l = let never : ⊥ = omega arith in absurd never
entry_at h (suc k) l = let e : k ≡ suc k - 1 = omega arith in ap (λ (i : ℕ). get_or h i 0) e

-- place i of the first entries of a column has entry i + 1
pub entry_among_first : (h y : List ℕ) (n i : ℕ) → y ≡ take n h → i < n → get_or y i 0 ≡ entry h (i + 1)
entry_among_first h y n i is l =
    let place : i + 1 - 1 ≡ i = omega arith in
    ap (λ (xs : List ℕ). get_or xs i 0) is ∙ get_or-take n h i 0 l ∙ sym (entry_at h (i + 1) (omega arith) ∙ ap (λ (k : ℕ). get_or h k 0) place)
