-- An array that a closure fills place by place.
use Rattle.std.proofs.Common.{ℕ, zero, suc, ◌+◌, ◌<◌, ◌≤◌, List, get_or, sym, subst, inl, inr, eq-or-lt_of_le, arith}
use Rattle.std.specs.Array.{IsFromFnResultFrom}
use denote.Param.Members.{Mut, Called}

-- Where every call at k keeps I of the closure and answers what P says of k, each place is as P says.
module _ {F B : Type 0} (g : Mut F (ℕ × Unit {0}) B) (I : F → Type 0) (P : ℕ → B → Type 0)
    (step : (f f' : F) (k : ℕ) (y : B) → I f → Called g f (k, tt) y f' → P k y × I f') where
  pub each_filled : (f : F) (ys : List B) (i n : ℕ) → I f → IsFromFnResultFrom g f ys i n → (k : ℕ) (d : B) → i ≤ k → k < i + n → P k (get_or ys k d)
  each_filled f ys i zero ok all k d l u = absurd (omega arith)
  each_filled f ys i (suc n) ok all k d l u =
      let here = step f all.0 i all.1 ok all.3 in
      elim (eq-or-lt_of_le l) [
        | inl same ↦ subst (λ (j : ℕ). P j (get_or ys j d)) same (subst (P i) (sym (all.2.1 d)) here.0)
        | inr less ↦ each_filled all.0 ys (i + 1) n here.1 all.4 k d (omega arith) (omega arith)
      ]
