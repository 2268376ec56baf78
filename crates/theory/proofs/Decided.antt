-- The law of histories leaves one answer to each edit, and one sheet at the end.
use Rattle.std.proofs.Common.{◌≡◌, ℕ, zero, suc, ◌<◌, List, [], ◌∷◌, length, Some, Option, sym, ap, ◌∙◌, not-suc-le-zero, arith}
use mathlib.Core.Path.{fun_ext}
use Rattle.std.specs.List.{slice_get}
use Rattle.theory.specs.Figures.{Table, Fault}
use Rattle.theory.specs.Edits.{Edit, refusal}
use Rattle.theory.specs.History.{Accepted, Told, History, CallsDecide}
use Rattle.theory.proofs.Standing.{row_one, row_told, accepted_one}
use Rattle.theory.proofs.Growing.{Agree, row_over}

nth_within : {X : Type 0} (xs : List X) (i : ℕ) (x : X) → slice_get xs i ≡ Some x → i < length xs
nth_within [] i x h = let z : ◌≡◌ {A = ℕ} 0 1 = cc in omega arith
nth_within (y ∷ xs) zero x h = omega arith
nth_within (y ∷ xs) (suc i) x h = let l = nth_within xs i x h in omega arith

module _ (calls : List (Option Edit)) (answers answers' : List (Option Fault)) (final final' : Table)
    (law : History calls answers final) (law' : History calls answers' final') where
  -- the edits before place m have the same answers
  abbrev Same : ℕ → Type 0
  Same m = (n : ℕ) (e : Edit) → n < m → slice_get calls n ≡ Some (Some e) → slice_get answers' n ≡ slice_get answers n

  to : (m : ℕ) → Same m → Agree (Accepted calls answers) (Accepted calls answers') m
  to m s j e l h = record { call = h.call; granted = s j e l h.call ∙ h.granted }

  back : (m : ℕ) → Same m → Agree (Accepted calls answers') (Accepted calls answers) m
  back m s j e l h = record { call = h.call; granted = sym (s j e l h.call) ∙ h.granted }

  -- then they tell the same sheet
  told_same : (m : ℕ) → Same m → (rows rows' : Table) → Told (Accepted calls answers) m rows → Told (Accepted calls answers') m rows' → (p : ℕ) → rows' p ≡ rows p
  told_same m s rows rows' t t' p =
      row_one (Accepted calls answers') (accepted_one calls answers') m p (rows' p) (rows p)
      (row_told (Accepted calls answers') m p (rows' p) (t' p))
      (row_over (Accepted calls answers) (Accepted calls answers') m (to m s) (back m s) p (rows p) (row_told (Accepted calls answers) m p (rows p) (t p)))

  same_here : (n : ℕ) (e : Edit) → Same n → slice_get calls n ≡ Some (Some e) → slice_get answers' n ≡ slice_get answers n
  same_here n e s h =
      let l = nth_within calls n (Some e) h in
      let g = law.each n l in
      let k = law'.each n l in
      k.right e h ∙ ap (λ (t : Table). Some (refusal e t)) (fun_ext (told_same n s g.rows k.rows g.before k.before)) ∙ sym (g.right e h)

  same : (m : ℕ) → Same m
  same zero n e l h = absurd (not-suc-le-zero l)
  same (suc m) n e l h = same_here n e (λ j d lj. same m j d (omega arith)) h

pub decided : CallsDecide
decided calls answers final law answers' final' law' = (
  λ n e h. same calls answers answers' final final' law law' (suc n) n e (omega arith) h,
  told_same calls answers answers' final final' law law' (length calls) (same calls answers answers' final final' law law' (length calls)) final final' law.last law'.last,
)
