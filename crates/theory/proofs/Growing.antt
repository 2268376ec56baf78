-- One place more in a history.
use Rattle.std.proofs.Common.{◌≡◌, ℕ, ◌+◌, ◌<◌, Bool, true, false, cond, eqb, ◌⊎◌, Some, None, Option, sym, refl, ap, ◌∙◌, subst, inl, inr, ⊎_elim, le_of_suc-le-suc, eq-or-lt_of_le, add-one, arith, eqb-true}
use borrow.Author.Tests.{eqb-false}
use Rattle.theory.specs.Figures.{Timing, Figures, Table, Fault, is_row, priorities, within}
use Rattle.theory.specs.Edits.{Edit, enter, strike, limit, unless, refusal, capped, left_by}
use Rattle.theory.specs.History.{Uncapped, LastCap, Stands}
use Rattle.theory.proofs.Standing.{RowIs}

pub split : (j n : ℕ) → j < n + 1 → (j ≡ n) ⊎ (j < n)
split j n l = eq-or-lt_of_le (le_of_suc-le-suc (subst (λ (m : ℕ). j < m) (add-one n) l))

-- what holds neither at n nor at j where j is below n does not hold at j below n + 1
neither : (P : ℕ → Type 0) (j n : ℕ) → (P n → ⊥) → (j < n → P j → ⊥) → j < n + 1 → P j → ⊥
neither P j n here below l a = ⊎_elim (λ e. here (subst P e a)) (λ lt. below lt a) (split j n l)

-- the priority that an edit names
abbrev named : Edit → ℕ
named (enter p w) = p
named (strike p) = p
named (limit p k) = p

-- no edit that names p is accepted at place n
abbrev pub Quiet : (ℕ → Edit → Type 0) → ℕ → ℕ → Type 0
Quiet A n p = (e : Edit) → A n e → named e ≡ p → ⊥

-- what A accepts before n that names p, B accepts before m
abbrev Carries : (ℕ → Edit → Type 0) → ℕ → (ℕ → Edit → Type 0) → ℕ → ℕ → Type 0
Carries A n B m p = (j : ℕ) (e : Edit) → named e ≡ p → j < n → A j e → (j < m) × B j e

-- A row at p depends on nothing but the accepted edits that name p.
module _ (A : ℕ → Edit → Type 0) (n : ℕ) (B : ℕ → Edit → Type 0) (m p : ℕ) (to : Carries A n B m p) (back : Carries B m A n p) where
  uncapped_carried : (i : ℕ) → Uncapped A i n p → Uncapped B i m p
  uncapped_carried i u = λ j k ij jm b. let h = back j (limit p k) refl jm b in u j k ij h.0 h.1

  cap_carried : (i k : ℕ) → LastCap A i n p k ⊎ ((k ≡ 1) × Uncapped A i n p) → LastCap B i m p k ⊎ ((k ≡ 1) × Uncapped B i m p)
  cap_carried i k (inl h) =
      let g = to h.place (limit p k) refl h.before h.accepted in
      inl (record { place = h.place; after = h.after; before = g.0; accepted = g.1; latest = uncapped_carried h.place h.latest })
  cap_carried i k (inr h) = inr (h.0, uncapped_carried i h.1)

  stands_carried : (f : Figures) → Stands A n p f → Stands B m p f
  stands_carried f s =
      let g = to s.place (enter p f.timing) refl s.before s.accepted in
      record {
        place = s.place;
        before = g.0;
        accepted = g.1;
        no_enter = λ j w ij jm b. let h = back j (enter p w) refl jm b in s.no_enter j w ij h.0 h.1;
        no_strike = λ j ij jm b. let h = back j (strike p) refl jm b in s.no_strike j ij h.0 h.1;
        capped = cap_carried s.place f.limit s.capped;
      }

row_carried : (A : ℕ → Edit → Type 0) (n : ℕ) (B : ℕ → Edit → Type 0) (m p : ℕ) → Carries A n B m p → Carries B m A n p → (o : Option Figures) → RowIs A n p o → RowIs B m p o
row_carried A n B m p to back None h = λ f s. h f (stands_carried B m A n p back to f s)
row_carried A n B m p to back (Some f) h = stands_carried A n B m p to back f h

-- one place more at which p is not named
pub row_quiet : (A : ℕ → Edit → Type 0) (n p : ℕ) → Quiet A n p → (o : Option Figures) → RowIs A n p o → RowIs A (n + 1) p o
row_quiet A n p quiet =
    row_carried A n A (n + 1) p (λ j e h l a. (omega arith, a))
    (λ j e h l a. (⊎_elim (λ eq. absurd (quiet e (subst (λ (k : ℕ). A k e) eq a) h)) (λ lt. lt) (split j n l), a))

-- One place more, at which the edit x is accepted, and no other.
module _ (A : ℕ → Edit → Type 0) (n : ℕ) (x : Edit) (here : A n x) (only : (y : Edit) → A n y → y ≡ x) where
  stands_enter : (p : ℕ) (w : Timing) → x ≡ enter p w → Stands A (n + 1) p (record { timing = w; limit = 1 })
  stands_enter p w e =
      record {
        place = n;
        before = omega arith;
        accepted = subst (λ (y : Edit). A n y) e here;
        no_enter = λ j v ij jn a. omega arith;
        no_strike = λ j ij jn a. omega arith;
        capped = inr (refl, λ j k ij jn a. omega arith);
      }

  gone_strike : (p : ℕ) → x ≡ strike p → (f : Figures) → Stands A (n + 1) p f → ⊥
  gone_strike p e f s =
      neither (λ (m : ℕ). A m (enter p f.timing)) s.place n
      (λ a. let same = only (enter p f.timing) a in let z : ◌≡◌ {A = ℕ} 0 1 = cc in omega arith)
      (λ lt a. s.no_strike n lt (omega arith) (subst (λ (y : Edit). A n y) e here))
      s.before s.accepted

  stands_cap : (p k : ℕ) → x ≡ limit p k → (f : Figures) → Stands A n p f → Stands A (n + 1) p (record { timing = f.timing; limit = k })
  stands_cap p k e f s =
      record {
        place = s.place;
        before = omega (arith, s.before);
        accepted = s.accepted;
        no_enter =
            λ j w ij.
            neither (λ (m : ℕ). A m (enter p w)) j n
            (λ a. let same = only (enter p w) a in let z : ◌≡◌ {A = ℕ} 0 1 = cc in omega arith)
            (λ lt. s.no_enter j w ij lt);
        no_strike =
            λ j ij.
            neither (λ (m : ℕ). A m (strike p)) j n
            (λ a. let same = only (strike p) a in let z : ◌≡◌ {A = ℕ} 0 1 = cc in omega arith)
            (λ lt. s.no_strike j ij lt);
        capped =
            inl
            (record {
              place = n;
              after = s.before;
              before = omega arith;
              accepted = subst (λ (y : Edit). A n y) e here;
              latest = λ j l ij jn a. omega arith;
            });
      }

  -- nothing is accepted there that names another priority
  quiet : (q : ℕ) → (named x ≡ q → ⊥) → Quiet A n q
  quiet q apart = λ e a h. apart (ap named (sym (only e a)) ∙ h)

-- one row put, and the others quiet
row_put : (A : ℕ → Edit → Type 0) (n p : ℕ) (new : Option Figures) (rows : Table) → RowIs A (n + 1) p new →
    ((q : ℕ) → RowIs A n q (rows q)) → ((q : ℕ) → (p ≡ q → ⊥) → Quiet A n q) → (q : ℕ) (b : Bool) → eqb q p ≡ b → RowIs A (n + 1) q (cond b new (rows q))
row_put A n p new rows here was others q true e = subst (λ (k : ℕ). RowIs A (n + 1) k new) (sym (eqb-true q p e)) here
row_put A n p new rows here was others q false e = row_quiet A n q (others q (λ k. eqb-false q p e (sym k))) (rows q) (was q)

never_none : (b : Bool) (x y : Fault) → cond b (Some x) (Some y) ≡ None → ⊥
never_none true x y h = let z : ◌≡◌ {A = ℕ} 0 1 = cc in omega arith
never_none false x y h = let z : ◌≡◌ {A = ℕ} 0 1 = cc in omega arith

row_capped : (A : ℕ → Edit → Type 0) (n p k : ℕ) → A n (limit p k) → ((y : Edit) → A n y → y ≡ limit p k) → (o : Option Figures) →
    unless (within priorities p) 2 p (unless (is_row o) 6 p (unless (within p k) 7 p None)) ≡ None → RowIs A n p o → RowIs A (n + 1) p (capped k o)
row_capped A n p k here only None r h = absurd (never_none (within priorities p) _ _ r)
row_capped A n p k here only (Some f) r h = stands_cap A n (limit p k) here only p k refl f h

-- the rows after an accepted edit
pub rows_granted : (A : ℕ → Edit → Type 0) (n : ℕ) (x : Edit) → A n x → ((y : Edit) → A n y → y ≡ x) → (rows : Table) → refusal x rows ≡ None →
    ((q : ℕ) → RowIs A n q (rows q)) → (q : ℕ) → RowIs A (n + 1) q (left_by x rows q)
rows_granted A n (enter p w) here only rows e was q =
    row_put A n p (Some (record { timing = w; limit = 1 })) rows (stands_enter A n (enter p w) here only p w refl) was
    (quiet A n (enter p w) here only) q (eqb q p) refl
rows_granted A n (strike p) here only rows e was q =
    row_put A n p None rows (gone_strike A n (strike p) here only p refl) was
    (quiet A n (strike p) here only) q (eqb q p) refl
rows_granted A n (limit p k) here only rows e was q =
    row_put A n p (capped k (rows p)) rows (row_capped A n p k here only (rows p) e (was p)) was
    (quiet A n (limit p k) here only) q (eqb q p) refl

-- the same edits accepted before place n
abbrev pub Agree : (A B : ℕ → Edit → Type 0) → ℕ → Type 0
Agree A B n = (j : ℕ) (e : Edit) → j < n → A j e → B j e

pub row_over : (A B : ℕ → Edit → Type 0) (n : ℕ) → Agree A B n → Agree B A n → (p : ℕ) (o : Option Figures) → RowIs A n p o → RowIs B n p o
row_over A B n to back p = row_carried A n B n p (λ j e h l a. (l, to j e l a)) (λ j e h l b. (l, back j e l b))
