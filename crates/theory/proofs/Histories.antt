-- The law of histories, call by call.
use Rattle.std.proofs.Common.{◌≡◌, ℕ, zero, suc, ◌+◌, ◌<◌, List, [], ◌∷◌, ◌++◌, length, Some, None, Option, sym, refl, ap, ◌∙◌, subst, ⊎_elim, le_of_suc-le-suc, not-suc-le-zero, arith}
use Rattle.std.proofs.lemmas.List.{length_push}
use Rattle.std.specs.List.{slice_get}
use Rattle.theory.specs.Figures.{Figures, Table, Fault, after}
use Rattle.theory.specs.Edits.{Edit, refusal, left_by, Edited}
use Rattle.theory.specs.History.{Accepted, Told, Answered, History}
use Rattle.theory.proofs.Standing.{RowIs, told_at, row_told, accepted_one}
use Rattle.theory.proofs.Growing.{split, rows_granted, row_quiet, row_over}

-- one call made: an edit, or a call that leaves every row as it was
abbrev pub Made : Option Edit → Table → Option Fault → Table → Type 0
Made (Some e) rows a rows' = Edited e rows a rows'
Made None rows a rows' = (q : ℕ) → rows' q ≡ rows q

-- what holds after the first n calls
pub record SoFar (calls : List (Option Edit)) (n : ℕ) (answers : List (Option Fault)) (rows : Table) : Type 0 where
  pub sizes : length answers ≡ n
  pub each : (m : ℕ) → m < n → Answered calls answers m
  pub last : (p : ℕ) → RowIs (Accepted calls answers) n p (rows p)

nth_front : {X : Type 0} (xs ys : List X) (j : ℕ) → j < length xs → slice_get (xs ++ ys) j ≡ slice_get xs j
nth_front [] ys j h = absurd (not-suc-le-zero h)
nth_front (x ∷ xs) ys zero h = refl
nth_front (x ∷ xs) ys (suc j) h = nth_front xs ys j (le_of_suc-le-suc h)

nth_last : {X : Type 0} (xs : List X) (y : X) → slice_get (xs ++ y ∷ []) (length xs) ≡ Some y
nth_last [] y = refl
nth_last (x ∷ xs) y = nth_last xs y

told : (calls : List (Option Edit)) (answers : List (Option Fault)) (n : ℕ) (rows : Table) → ((p : ℕ) → RowIs (Accepted calls answers) n p (rows p)) → Told (Accepted calls answers) n rows
told calls answers n rows h = λ p f. told_at (Accepted calls answers) (accepted_one calls answers) n p (rows p) (h p) f

module _ (calls : List (Option Edit)) (n : ℕ) (answers : List (Option Fault)) (rows : Table) (x : Option Edit) (a : Option Fault)
    (so : SoFar calls n answers rows) (next : slice_get calls n ≡ Some x) where
  abbrev longer : List (Option Fault)
  longer = answers ++ a ∷ []

  abbrev B : ℕ → Edit → Type 0
  B = Accepted calls longer

  answered_at : slice_get longer n ≡ Some a
  answered_at = subst (λ (k : ℕ). slice_get longer k ≡ Some a) so.sizes (nth_last answers a)

  kept_at : (j : ℕ) → j < n → slice_get longer j ≡ slice_get answers j
  kept_at j l = nth_front answers (a ∷ []) j (omega (arith, so.sizes))

  over : (m : ℕ) → m < n + 1 → (p : ℕ) (o : Option Figures) → RowIs (Accepted calls answers) m p o → RowIs B m p o
  over m lm =
      row_over (Accepted calls answers) B m (λ j e l h. record { call = h.call; granted = kept_at j (omega arith) ∙ h.granted })
      (λ j e l h. record { call = h.call; granted = sym (kept_at j (omega arith)) ∙ h.granted })

  rows_before : (q : ℕ) → RowIs B n q (rows q)
  rows_before q = over n (omega arith) q (rows q) (so.last q)

  -- where the call is no accepted edit, every row stands as it did
  rows_kept : ((e : Edit) → B n e → ⊥) → (q : ℕ) → RowIs B (n + 1) q (rows q)
  rows_kept never q = row_quiet B n q (λ e h k. never e h) (rows q) (rows_before q)

-- the rows after an edit, by its answer
rows_edited : (calls : List (Option Edit)) (n : ℕ) (answers : List (Option Fault)) (rows : Table) (e : Edit) (a : Option Fault) →
    SoFar calls n answers rows → slice_get calls n ≡ Some (Some e) → a ≡ refusal e rows →
    (q : ℕ) → RowIs (Accepted calls (answers ++ a ∷ [])) (n + 1) q (after a (left_by e rows) rows q)
rows_edited calls n answers rows e None so next right q =
    let given = answered_at calls n answers rows (Some e) None so next in
    rows_granted (Accepted calls (answers ++ None ∷ [])) n e (record { call = next; granted = given })
    (λ y h. let k = h.call in cc) rows (sym right) (rows_before calls n answers rows (Some e) None so next) q
rows_edited calls n answers rows e (Some f) so next right q =
    let given = answered_at calls n answers rows (Some e) (Some f) so next in
    rows_kept calls n answers rows (Some e) (Some f) so next
    (λ y h. let k = h.granted in let z : ◌≡◌ {A = ℕ} 0 1 = cc in omega arith) q

rows_made : (calls : List (Option Edit)) (n : ℕ) (answers : List (Option Fault)) (rows : Table) (x : Option Edit) (a : Option Fault) (rows' : Table) →
    SoFar calls n answers rows → slice_get calls n ≡ Some x → Made x rows a rows' →
    (q : ℕ) → RowIs (Accepted calls (answers ++ a ∷ [])) (n + 1) q (rows' q)
rows_made calls n answers rows None a rows' so next made q =
    subst (λ (o : Option Figures). RowIs (Accepted calls (answers ++ a ∷ [])) (n + 1) q o) (sym (made q))
    (rows_kept calls n answers rows None a so next (λ y h. let k = h.call in let z : ◌≡◌ {A = ℕ} 0 1 = cc in omega arith) q)
rows_made calls n answers rows (Some e) a rows' so next made q =
    subst (λ (o : Option Figures). RowIs (Accepted calls (answers ++ a ∷ [])) (n + 1) q o) (sym (made.leaves q))
    (rows_edited calls n answers rows e a so next made.answered q)

-- an edit at the place of the call is that call
right_made : (x : Option Edit) (rows : Table) (a : Option Fault) (rows' : Table) → Made x rows a rows' → (e : Edit) → x ≡ Some e → a ≡ refusal e rows
right_made None rows a rows' made e h = let z : ◌≡◌ {A = ℕ} 0 1 = cc in let never : ⊥ = omega arith in absurd never
right_made (Some d) rows a rows' made e h = let same : d ≡ e = cc in made.answered ∙ ap (λ (y : Edit). refusal y rows) same

each_more : (calls : List (Option Edit)) (n : ℕ) (answers : List (Option Fault)) (rows : Table) (x : Option Edit) (a : Option Fault) (rows' : Table) →
    SoFar calls n answers rows → slice_get calls n ≡ Some x → Made x rows a rows' → (m : ℕ) → m < n + 1 → Answered calls (answers ++ a ∷ []) m
each_more calls n answers rows x a rows' so next made m l =
    ⊎_elim
    (λ eq.
    subst (λ (k : ℕ). Answered calls (answers ++ a ∷ []) k) (sym eq)
    (record {
      rows = rows;
      before = told calls (answers ++ a ∷ []) n rows (rows_before calls n answers rows x a so next);
      right =
          λ e h. answered_at calls n answers rows x a so next ∙ ap Some (right_made x rows a rows' made e (cc));
    }))
    (λ lt.
    let h = so.each m lt in
    record {
      rows = h.rows;
      before =
          told calls (answers ++ a ∷ []) m h.rows
          (λ p. over calls n answers rows x a so next m l p (h.rows p) (row_told (Accepted calls answers) m p (h.rows p) (h.before p)));
      right = λ e g. kept_at calls n answers rows x a so next m lt ∙ h.right e g;
    })
    (split m n l)

-- One call more.
pub turn : (calls : List (Option Edit)) (n : ℕ) (answers answers' : List (Option Fault)) (rows rows' : Table) (x : Option Edit) (a : Option Fault) →
    SoFar calls n answers rows → slice_get calls n ≡ Some x → Made x rows a rows' → answers' ≡ answers ++ a ∷ [] → SoFar calls (n + 1) answers' rows'
turn calls n answers answers' rows rows' x a so next made more =
    subst (λ (l : List (Option Fault)). SoFar calls (n + 1) l rows') (sym more)
    (record {
      sizes = length_push answers a ∙ ap (λ (k : ℕ). k + 1) so.sizes;
      each = each_more calls n answers rows x a rows' so next made;
      last = rows_made calls n answers rows x a rows' so next made;
    })

-- After the last call.
pub done : (calls : List (Option Edit)) (n : ℕ) (answers : List (Option Fault)) (rows : Table) → n ≡ length calls → SoFar calls n answers rows → History calls answers rows
done calls n answers rows e so =
    record {
      sizes = so.sizes ∙ e;
      each = λ m l. so.each m (omega arith);
      last = subst (λ (k : ℕ). Told (Accepted calls answers) k rows) e (told calls answers n rows so.last);
    }
