-- The numbers that pass a test, in order: which is the first, and what a fold makes of them.
use Rattle.std.proofs.Common.{◌≡◌, ℕ, zero, suc, ◌+◌, ◌≤◌, ◌<◌, max, Bool, true, false, cond, not, ◌&&◌, ◌||◌, eqb, [], ◌∷◌, ◌++◌, sym, refl, ap, ap₂, ◌∙◌, ⊎_elim, fold, add-one, arith}
use mathlib.Core.Bool.{and-true, or_comm}
use Rattle.std.proofs.lemmas.Bool.{and_left, and_right, cases_eq, cases_lt, eq-eqb, ne_eqb}
use Rattle.std.proofs.lemmas.List.Sums.{fold_push}
use Rattle.theory.specs.Delays.{some_to}
use Rattle.theory.specs.Sets.{Sets, counted, in_one, largest_to}
use Rattle.delay.specs.RowSets.{passing_to}

pub passing_none : (test : ℕ → Bool) (n : ℕ) → ((k : ℕ) → k ≤ n → test k ≡ false) → passing_to test n ≡ []
unfolding passing_to
passing_none test zero none = refl
passing_none test (suc n) none = rw (none (suc n) (omega arith)) (passing_none test n (λ k l. none k (omega arith)))

-- k is the first that passes, and passes the other test no more
module _ (test other : ℕ → Bool) (k : ℕ) (some : 1 ≤ k) (below : (u : ℕ) → u < k → test u ≡ false) (here : test k ≡ true) (rest : (u : ℕ) → other u ≡ (test u && not (eqb u k))) where
  other_below : (u : ℕ) → u ≤ k → other u ≡ false
  other_below u l =
      ⊎_elim
      (λ same. rest u ∙ and_right (test u) _ (ap not (eq-eqb u k same)))
      (λ early. rest u ∙ and_left (test u) _ (below u (omega arith)))
      (cases_eq u k)

  other_past : (u : ℕ) → k < u → other u ≡ test u
  other_past u l = rest u ∙ ap (λ (v : Bool). test u && not v) (ne_eqb u k (λ e. let never : ⊥ = omega arith in never)) ∙ and-true (test u)

  pub popped : (n : ℕ) → k ≤ n → passing_to test n ≡ k ∷ passing_to other n
  unfolding passing_to
  popped zero l = let never : ⊥ = omega arith in absurd never
  popped (suc n) l =
      ⊎_elim
      (λ same.
      let yes : test (suc n) ≡ true = ap test same ∙ here in
      let no = other_below (suc n) (omega arith) in
      let none = passing_none test n (λ u l. below u (omega arith)) in
      let none-left = passing_none other n (λ u l. other_below u (omega arith)) in
      rw (yes, no, none, none-left) (ap (λ (m : ℕ). m ∷ []) same))
      (λ past.
      let next = other_past (suc n) (omega arith) in
      let before = popped n (omega arith) in
      rw (next, before) (elim (test (suc n)) as (λ v. cond v (k ∷ (passing_to other n ++ suc n ∷ [])) (k ∷ passing_to other n) ≡ k ∷ cond v (passing_to other n ++ suc n ∷ []) (passing_to other n)) [ true ↦ refl | false ↦ refl ]))
      (cases_eq (suc n) k)

-- one more number in a fold over those that pass
fold_passing : {A : Type 0} (g : A → ℕ → A) (a : A) (test : ℕ → Bool) (n : ℕ) → fold g a (passing_to test (suc n)) ≡ cond (test (suc n)) (g (fold g a (passing_to test n)) (suc n)) (fold g a (passing_to test n))
unfolding passing_to
fold_passing g a test n =
    elim (test (suc n)) as (λ v. fold g a (cond v (passing_to test n ++ suc n ∷ []) (passing_to test n)) ≡ cond v (g (fold g a (passing_to test n)) (suc n)) (fold g a (passing_to test n)))
    [ true ↦ fold_push g a (passing_to test n) (suc n) | false ↦ refl ]

union_turn : (p v w : Bool) → cond p (w || v) w ≡ ((p && v) || w)
union_turn true v w = or_comm w v
union_turn false v w = refl

largest_turn : (p : Bool) (m n : ℕ) → cond p (max m n) m ≡ max m (cond p n 0)
largest_turn true m n = refl
largest_turn false m n = omega arith

pub union_passing : (test : ℕ → Bool) (x : ℕ → Sets) (s n : ℕ) → fold (λ v k. v || x k s) false (passing_to test n) ≡ some_to (in_one test x s) n
unfolding passing_to some_to in_one
union_passing test x s zero = refl
union_passing test x s (suc n) =
    let before = union_passing test x s n in
    fold_passing (λ v k. v || x k s) false test n ∙ rw before (union_turn (test (suc n)) (x (suc n) s) (some_to (in_one test x s) n))

pub largest_passing : (test : ℕ → Bool) (f : ℕ → ℕ) (n : ℕ) → fold (λ m k. max m (f k)) 0 (passing_to test n) ≡ largest_to (counted test f) n
unfolding passing_to largest_to counted
largest_passing test f zero = refl
largest_passing test f (suc n) =
    let before = largest_passing test f n in
    fold_passing (λ m k. max m (f k)) 0 test n ∙ rw before (largest_turn (test (suc n)) (largest_to (counted test f) n) (f (suc n)))

-- one number more was tested
pub some_more : (test : ℕ → Bool) (n : ℕ) (some now : Bool) → some ≡ some_to test n → now ≡ test (n + 1) → (some || now) ≡ some_to test (n + 1)
unfolding some_to
some_more test n some now before here =
    let next : test (n + 1) ≡ test (suc n) = ap test (add-one n) in
    or_comm some now ∙ ap₂ ◌||◌ (here ∙ next) before ∙ sym (ap (some_to test) (add-one n))

-- no number past n passes
pub some_past : (test : ℕ → Bool) (n m : ℕ) → n ≤ m → ((k : ℕ) → n < k → k ≤ m → test k ≡ false) → some_to test n ≡ some_to test m
unfolding some_to
some_past test n zero l none = let end : n ≡ zero = omega arith in ap (some_to test) end
some_past test n (suc m) l none =
    ⊎_elim
    (λ more.
    let before = some_past test n m (omega arith) (λ k a b. none k a (omega arith)) in
    let failed = none (suc m) more (omega arith) in
    before ∙ rw failed refl)
    (λ end. let same : n ≡ suc m = omega arith in ap (some_to test) same)
    (cases_lt n (suc m))
