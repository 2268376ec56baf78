-- At most one row stands at a priority.
use Rattle.std.proofs.Common.{◌≡◌, ℕ, zero, suc, ◌<◌, ◌⊎◌, List, Some, None, Option, sym, refl, ap, ◌∙◌, subst, inl, inr, ⊎_elim, arith}
use Rattle.theory.specs.Figures.{Figures, Fault}
use Rattle.theory.specs.Edits.{Edit, enter, limit}
use Rattle.theory.specs.History.{Accepted, Uncapped, LastCap, Stands}

order : (m n : ℕ) → (m < n) ⊎ ((m ≡ n) ⊎ (n < m))
order zero zero = inr (inl refl)
order zero (suc n) = inl (omega arith)
order (suc m) zero = inr (inr (omega arith))
order (suc m) (suc n) = ⊎_elim (λ l. inl (omega arith)) (⊎_elim (λ e. inr (inl (ap suc e))) (λ l. inr (inr (omega arith)))) (order m n)

figures_same : (f g : Figures) → f.timing ≡ g.timing → f.limit ≡ g.limit → f ≡ g
figures_same f g a b = λ i. record { timing = a i; limit = b i }

-- o is the row at p before place n, or None where none stands
abbrev pub RowIs : (ℕ → Edit → Type 0) → ℕ → ℕ → Option Figures → Type 0
RowIs A n p None = (f : Figures) → Stands A n p f → ⊥
RowIs A n p (Some f) = Stands A n p f

module _ (A : ℕ → Edit → Type 0) (one : (j : ℕ) (x y : Edit) → A j x → A j y → x ≡ y) (n p : ℕ) where
  lastcap_same : (i k l : ℕ) → LastCap A i n p k → LastCap A i n p l → k ≡ l
  lastcap_same i k l g h =
      ⊎_elim (λ lt. absurd (g.latest h.place l lt h.before h.accepted))
      (⊎_elim
      (λ e.
      let same : limit p k ≡ limit p l = one h.place (limit p k) (limit p l) (subst (λ (m : ℕ). A m (limit p k)) e g.accepted) h.accepted in
      cc)
      (λ lt. absurd (h.latest g.place k lt g.before g.accepted)))
      (order g.place h.place)

  cap_same : (i k l : ℕ) → LastCap A i n p k ⊎ ((k ≡ 1) × Uncapped A i n p) → LastCap A i n p l ⊎ ((l ≡ 1) × Uncapped A i n p) → k ≡ l
  cap_same i k l (inl g) (inl h) = lastcap_same i k l g h
  cap_same i k l (inl g) (inr h) = absurd (h.1 g.place k g.after g.before g.accepted)
  cap_same i k l (inr g) (inl h) = absurd (g.1 h.place l h.after h.before h.accepted)
  cap_same i k l (inr g) (inr h) = g.0 ∙ sym h.0

  stands_same : (f g : Figures) → Stands A n p f → Stands A n p g → f ≡ g
  stands_same f g s t =
      ⊎_elim (λ lt. absurd (s.no_enter t.place g.timing lt t.before t.accepted))
      (⊎_elim
      (λ e.
      let same : enter p f.timing ≡ enter p g.timing = one t.place (enter p f.timing) (enter p g.timing) (subst (λ (m : ℕ). A m (enter p f.timing)) e s.accepted) t.accepted in
      figures_same f g (cc)
      (cap_same t.place f.limit g.limit
      (subst (λ (i : ℕ). LastCap A i n p f.limit ⊎ ((f.limit ≡ 1) × Uncapped A i n p)) e s.capped) t.capped))
      (λ lt. absurd (t.no_enter s.place f.timing lt s.before s.accepted)))
      (order s.place t.place)

  row_exact : (o : Option Figures) → RowIs A n p o → (f : Figures) → Stands A n p f → o ≡ Some f
  row_exact None h f s = absurd (h f s)
  row_exact (Some g) h f s = ap Some (stands_same g f h s)

  pub row_one : (o u : Option Figures) → RowIs A n p o → RowIs A n p u → o ≡ u
  row_one None None h k = refl
  row_one None (Some g) h k = absurd (h g k)
  row_one (Some f) None h k = absurd (k f h)
  row_one (Some f) (Some g) h k = ap Some (stands_same f g h k)

  pub told_at : (o : Option Figures) → RowIs A n p o → (f : Figures) → (o ≡ Some f → Stands A n p f) × (Stands A n p f → o ≡ Some f)
  told_at o h f = (λ e. subst (λ (u : Option Figures). RowIs A n p u) e h, row_exact o h f)

-- a sheet that is told has at each priority the row that stands there
pub row_told : (A : ℕ → Edit → Type 0) (n p : ℕ) (o : Option Figures) → ((f : Figures) → (o ≡ Some f → Stands A n p f) × (Stands A n p f → o ≡ Some f)) → RowIs A n p o
row_told A n p None h = λ f s. let e : None ≡ Some f = (h f).1 s in let z : ◌≡◌ {A = ℕ} 0 1 = cc in omega arith
row_told A n p (Some f) h = (h f).0 refl

-- one edit at most is accepted at a place
pub accepted_one : (calls : List (Option Edit)) (answers : List (Option Fault)) (j : ℕ) (x y : Edit) → Accepted calls answers j x → Accepted calls answers j y → x ≡ y
accepted_one calls answers j x y g h = let a = g.call in let b = h.call in cc
