-- Searches, maxima and counts over a run of numbers: one number more, and how they follow their tests.
use Rattle.std.proofs.Common.{◌≡◌, ℕ, zero, suc, ◌+◌, ◌<◌, ◌≤◌, Bool, true, false, cond, ◌||◌, sym, refl, ap, ap₂, ⊎_elim, add-zero, add-suc, arith}
use Rattle.std.proofs.lemmas.Bool.{both_ways, cases_Bool, true≢false, or_cases, or_left, or_right, or_from, cases_lt}
use Rattle.theory.specs.Sets.{Sets, count_below, largest_to}
use Rattle.theory.specs.Delays.{some_to}

-- a figure that counts under a test is no greater under a wider one
pub cond_mono : (s t : Bool) (n : ℕ) → (s ≡ true → t ≡ true) → cond s n 0 ≤ cond t n 0
cond_mono true true n f = omega arith
cond_mono true false n f = absurd (true≢false (sym (f refl)))
cond_mono false true n f = omega arith
cond_mono false false n f = omega arith

module _ (test : ℕ → Bool) where
  pub some_none : (n : ℕ) → ((k : ℕ) → 1 ≤ k → k ≤ n → test k ≡ false) → some_to test n ≡ false
  unfolding some_to
  some_none zero never = refl
  some_none (suc n) never =
      or_from _ _ (never (suc n) (omega arith) (omega arith)) (some_none n (λ k l u. never k l (omega arith)))

  pub some_one : (n k : ℕ) → 1 ≤ k → k ≤ n → test k ≡ true → some_to test n ≡ true
  unfolding some_to
  some_one zero k l u e = let never : ⊥ = omega arith in absurd never
  some_one (suc n) k l u e =
      ⊎_elim
      (λ below. or_right _ _ (some_one n k l (omega arith) e))
      (λ top. or_left (test (suc n)) _ (let same : k ≡ suc n = omega arith in rw same at e))
      (cases_lt k (suc n))

  pub none_some : (n : ℕ) → some_to test n ≡ false → (k : ℕ) → 1 ≤ k → k ≤ n → test k ≡ false
  none_some n none k l u =
      ⊎_elim (λ e. absurd (both_ways _ none (some_one n k l u e))) (λ e. e) (cases_Bool (test k))

pub some_mono : (p q : ℕ → Bool) (n : ℕ) → ((k : ℕ) → 1 ≤ k → k ≤ n → p k ≡ true → q k ≡ true) → some_to p n ≡ true → some_to q n ≡ true
unfolding some_to
some_mono p q zero wider e = e
some_mono p q (suc n) wider e =
    ⊎_elim
    (λ here. or_left _ _ (wider (suc n) (omega arith) (omega arith) here))
    (λ below. or_right _ _ (some_mono p q n (λ k l u. wider k l (omega arith)) below))
    (or_cases (p (suc n)) (some_to p n) e)

pub some_same : (p q : ℕ → Bool) (n : ℕ) → ((k : ℕ) → 1 ≤ k → k ≤ n → p k ≡ q k) → some_to p n ≡ some_to q n
unfolding some_to
some_same p q zero same = refl
some_same p q (suc n) same =
    ap₂ ◌||◌ (same (suc n) (omega arith) (omega arith)) (some_same p q n (λ k l u. same k l (omega arith)))

module _ (f : ℕ → ℕ) where
  pub largest-le : (top n : ℕ) → ((k : ℕ) → 1 ≤ k → k ≤ n → f k ≤ top) → largest_to f n ≤ top
  unfolding largest_to
  largest-le top zero each = omega arith
  largest-le top (suc n) each =
      omega (arith, each (suc n) (omega arith) (omega arith), largest-le top n (λ k l u. each k l (omega arith)))

pub largest_mono : (f g : ℕ → ℕ) (n : ℕ) → ((k : ℕ) → 1 ≤ k → k ≤ n → f k ≤ g k) → largest_to f n ≤ largest_to g n
unfolding largest_to
largest_mono f g zero more = omega arith
largest_mono f g (suc n) more =
    omega (arith, more (suc n) (omega arith) (omega arith), largest_mono f g n (λ k l u. more k l (omega arith)))

module _ (x : Sets) where
  pub count-le : (n : ℕ) → count_below x n ≤ n
  unfolding count_below
  count-le zero = omega arith
  count-le (suc n) =
      elim (x n) as (λ v. count_below x n + cond v 1 0 ≤ suc n)
      [ true ↦ omega (arith, count-le n) | false ↦ omega (arith, count-le n) ]

  pub count_none : (n : ℕ) → ((s : ℕ) → x s ≡ false) → count_below x n ≡ 0
  unfolding count_below
  count_none zero none = refl
  count_none (suc n) none = ap₂ (λ (m : ℕ) (v : Bool). m + cond v 1 0) (count_none n none) (none n)

  -- the first apart
  pub count_first : (n : ℕ) → count_below x (suc n) ≡ cond (x 0) 1 0 + count_below (λ k. x (suc k)) n
  unfolding count_below
  count_first zero = omega arith
  count_first (suc n) = omega (arith, count_first n)

  -- a count to m + w is one to m, and one of the w numbers from m on
  pub count_part : (m w : ℕ) → count_below x (m + w) ≡ count_below x m + count_below (λ t. x (m + t)) w
  unfolding count_below
  count_part m zero = omega (arith, ap (count_below x) (add-zero m))
  count_part m (suc w) = omega (arith, ap (count_below x) (add-suc m w), count_part m w)

pub count_mono : (x y : Sets) (n : ℕ) → ((s : ℕ) → x s ≡ true → y s ≡ true) → count_below x n ≤ count_below y n
unfolding count_below
count_mono x y zero wider = omega arith
count_mono x y (suc n) wider = omega (arith, count_mono x y n wider, cond_mono (x n) (y n) 1 (wider n))

pub count_same : (x y : Sets) (n : ℕ) → ((s : ℕ) → s < n → x s ≡ y s) → count_below x n ≡ count_below y n
unfolding count_below
count_same x y zero same = refl
count_same x y (suc n) same =
    ap₂ (λ (m : ℕ) (t : Bool). m + cond t 1 0) (count_same x y n (λ s l. same s (omega arith))) (same n (omega arith))
