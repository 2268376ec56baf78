-- Rows as the bits of a word.
use Rattle.std.proofs.Common.{◌≡◌, ℕ, zero, suc, ◌+◌, ◌-◌, ◌*◌, ◌/◌, ◌%◌, ◌^◌, ◌<◌, leb, min, Bool, true, false, cond, not, ◌&&◌, ◌||◌, eqb, ltb, List, [], ◌∷◌, length, get_or, take, length-take, Ok, Err, sym, refl, ap, ap₂, ◌∙◌, ⊎_elim, arith}
use mathlib.Core.Bool.{and_assoc, or-false}
use lib.Bits.{bit_and, bit_or}
use lib.Count.{count_trailing_zeros}
use lib.ListN.{get_or-eq_default}
use Rattle.std.proofs.lemmas.Nat.{one_shl}
use Rattle.std.proofs.lemmas.Nat.Bits.{bit_at_ones, bit_at_ones_above}
use Rattle.std.proofs.lemmas.Bool.{and_from, and_left, and_parts, and_right, cases_eq, cases_lt, eq-eqb, le-leb, leb-true, le-ltb, lt-ltb, ne_eqb, or_right}
use Rattle.std.proofs.lemmas.Bool.Decides.{nat_tests}
use Rattle.theory.specs.Delays.{preempts, some_row}
use Rattle.theory.specs.Figures.{priorities, within, Within}
use Rattle.theory.proofs.Entries.{entry_among_first}
use Rattle.theory.proofs.Counting.{some_none, some_one}
use Rattle.blocks.specs.Members.{bit}
use Rattle.blocks.proofs.Bitwise.{bit-and, bit-or, bit_pow, bit_read, bit_zero, lowest, pop}
use Rattle.delay.specs.RowSets.{passing_to}
use Rattle.delay.proofs.Passing.{passing_none, popped}

-- the test of entry t + 1, as the program reads it
pub read_pre_empts : (h : List ℕ) (j n t : ℕ) → t < length (take n h) → preempts h j (t + 1) ≡ ltb j (get_or (take n h) t 0)
read_pre_empts h j n t there =
    ap (ltb j) (sym (entry_among_first h (take n h) n t refl (omega (arith, length-take n h))))

-- no row can pre-empt where the column has no entry
pub past_pre_empts : (h : List ℕ) (j k : ℕ) → length h < k → preempts h j k ≡ false
past_pre_empts h j k past =
    ap (ltb j) (get_or-eq_default (0 ∷ h) 0 {n = k} (omega arith)) ∙ le-ltb j 0 (omega arith)

-- the rows of a word of 32 bits
abbrev rows_of : ℕ → ℕ → Bool
rows_of n k = within priorities k && bit n (k - 1)

pub rows_empty : (n : ℕ) → n < 2 ^ 32 → eqb n 0 ≡ not (some_row (rows_of n))
rows_empty n fits =
    ⊎_elim
    (λ none.
    let all : (k : ℕ) → rows_of n k ≡ false = λ k. and_right _ _ (ap (λ (m : ℕ). bit m (k - 1)) none ∙ bit_zero (k - 1)) in
    eq-eqb n 0 none ∙ sym (ap not (some_none (rows_of n) 32 (λ k l u. all k))))
    (λ some.
    let found = lowest 32 n fits some in
    let near = found.within in
    let t : ℕ = count_trailing_zeros 32 n in
    let back : suc t - 1 ≡ t = omega arith in
    let here : rows_of n (suc t) ≡ true = and_from _ _ (and_from _ _ (le-leb 1 (suc t) (omega arith)) (le-leb (suc t) 32 (omega arith))) (ap (bit n) back ∙ found.here) in
    ne_eqb n 0 some ∙ sym (ap not (some_one (rows_of n) 32 (suc t) (omega arith) (omega arith) here)))
    (cases_eq n 0)

-- what an answer in range says of where a row stands
pub index_ok : {E : Type 0} (v : Bool) (n t : ℕ) (e : E) → cond v (Ok n) (Err e) ≡ Ok t → (v ≡ true) × (t ≡ n)
index_ok true n t e is = (refl, cc)
index_ok false n t e is = let never : ◌≡◌ {A = ℕ} 0 1 = cc in absurd (omega arith)

pub row_read : (n k t : ℕ) → within priorities k ≡ true → t ≡ k - 1 → eqb (bit_and (n / 2 ^ t) 1) 1 ≡ rows_of n k
row_read n k t inside place = bit_read n t ∙ ap (bit n) place ∙ sym (ap (λ (v : Bool). v && bit n (k - 1)) inside)

row_bit : (n k : ℕ) → Within priorities k → rows_of n k ≡ bit n (k - 1)
row_bit n k l = ap (λ (v : Bool). v && bit n (k - 1)) (and_from _ _ (le-leb 1 k l.0) (le-leb k 32 l.1))

-- the word 2 ^ m - 1
bit_ones : (m t : ℕ) → bit (2 ^ m - 1) t ≡ ltb t m
unfolding bit
bit_ones m t =
    ⊎_elim
    (λ inside. ap (λ (n : ℕ). eqb n 1) (bit_at_ones m t inside) ∙ sym (lt-ltb t m inside))
    (λ past. ap (λ (n : ℕ). eqb n 1) (bit_at_ones_above m t past) ∙ sym (le-ltb t m past))
    (cases_lt t m)

pub rows_to : (j m k : ℕ) → m ≡ min j 32 → Within priorities k → rows_of (1 * 2 ^ m % 2 ^ 64 - 1) k ≡ leb k j
rows_to j m k least l =
    let word : 1 * 2 ^ m % 2 ^ 64 - 1 ≡ 2 ^ m - 1 = omega (arith, one_shl m 64 (omega arith)) in
    let turn : ltb (k - 1) m ≡ leb k j = grind (arith, nat_tests) in
    row_bit _ k l ∙ ap (λ (n : ℕ). bit n (k - 1)) word ∙ bit_ones m (k - 1) ∙ turn

pub rows_none : (n : ℕ) → n ≡ 0 → passing_to (rows_of n) 32 ≡ []
rows_none n none = passing_none (rows_of n) 32 (λ k l. and_right _ _ (ap (λ (m : ℕ). bit m (k - 1)) none ∙ bit_zero (k - 1)))

below_first : (n t : ℕ) → ((u : ℕ) → u < t → bit n u ≡ false) → (k : ℕ) → k < t + 1 → rows_of n k ≡ false
below_first n t none zero l = refl
below_first n t none (suc u) l = let back : suc u - 1 ≡ u = omega arith in and_right _ _ (ap (bit n) back ∙ none u (omega arith))

left_rows : (n m t : ℕ) → ((u : ℕ) → bit m u ≡ (bit n u && not (eqb u t))) → (k : ℕ) → rows_of m k ≡ (rows_of n k && not (eqb k (t + 1)))
left_rows n m t each zero = refl
left_rows n m t each (suc u) =
    let back : suc u - 1 ≡ u = omega arith in
    let turn : eqb u t ≡ eqb (suc u) (t + 1) = grind (arith, nat_tests) in
    rw (back, each, turn) (sym (and_assoc (within priorities (suc u)) (bit n u) (not (eqb (suc u) (t + 1)))))

-- the lowest set bit is the first row, and `n & (n - 1)` leaves the others
pub rows_popped : (n : ℕ) → n < 2 ^ 32 → (n ≡ 0 → ⊥) → passing_to (rows_of n) 32 ≡ (count_trailing_zeros 32 n + 1) ∷ passing_to (rows_of (bit_and n (n - 1))) 32
rows_popped n fits some =
    let t : ℕ = count_trailing_zeros 32 n in
    let found = lowest 32 n fits some in
    let near = found.within in
    let inside : within priorities (t + 1) ≡ true = and_from _ _ (le-leb 1 (t + 1) (omega arith)) (le-leb (t + 1) 32 (omega arith)) in
    let back : (t + 1) - 1 ≡ t = omega arith in
    popped (rows_of n) (rows_of (bit_and n (n - 1))) (t + 1) (omega arith)
    (below_first n t found.below)
    (and_from _ _ inside (ap (bit n) back ∙ found.here))
    (left_rows n (bit_and n (n - 1)) t (pop 32 n fits some))
    32 (omega arith)

-- one bit more
set_bit : (word n t : ℕ) → n < 32 → bit (bit_or word (1 * 2 ^ n % 2 ^ 32)) t ≡ (bit word t || eqb t n)
set_bit word n t few =
    ap (λ (m : ℕ). bit (bit_or word m) t) (one_shl n 32 few) ∙ bit-or word (2 ^ n) t ∙ ap (λ (v : Bool). bit word t || v) (bit_pow n t)

pub rows_with : (n k t p : ℕ) → within priorities k ≡ true → t ≡ k - 1 → Within priorities p → rows_of (bit_or n (1 * 2 ^ t % 2 ^ 32)) p ≡ (rows_of n p || eqb p k)
rows_with n k t p inside place l =
    let parts = and_parts (leb 1 k) (leb k 32) inside in
    let low = leb-true 1 k parts.0 in
    let high = leb-true k 32 parts.1 in
    let turn : eqb (p - 1) t ≡ eqb p k = grind (arith, nat_tests) in
    row_bit _ p l ∙ set_bit n t (p - 1) (omega arith) ∙ ap₂ ◌||◌ (sym (row_bit n p l)) turn

and_both : (u v w : Bool) → (u && (v && w)) ≡ ((u && v) && (u && w))
and_both true v w = refl
and_both false v w = refl

pub rows_both : (m n k : ℕ) → rows_of (bit_and m n) k ≡ (rows_of m k && rows_of n k)
rows_both m n k =
    ap (λ (v : Bool). within priorities k && v) (bit-and m n (k - 1)) ∙ and_both (within priorities k) (bit m (k - 1)) (bit n (k - 1))

module _ (test : ℕ → Bool) where
  -- row t + 1 was looked at, and passed the test
  abbrev pub seen : ℕ → ℕ → Bool
  seen n t = ltb t n && test (t + 1)

  pub seen_none : (t : ℕ) → bit 0 t ≡ seen 0 t
  seen_none t = bit_zero t ∙ sym (and_left (ltb t 0) (test (t + 1)) (le-ltb t 0 (omega arith)))

  -- the rows that were not looked at do not pass
  pub seen_all : (word n k : ℕ) → ((t : ℕ) → bit word t ≡ seen n t) → (n < k → test k ≡ false) → Within priorities k → rows_of word k ≡ test k
  seen_all word n k each past l =
      let place : (k - 1) + 1 ≡ k = omega arith in
      let here : seen n (k - 1) ≡ test k =
      ⊎_elim
      (λ near. ap (λ (v : Bool). v && test ((k - 1) + 1)) (lt-ltb (k - 1) n near) ∙ ap test place)
      (λ far. ap (λ (v : Bool). v && test ((k - 1) + 1)) (le-ltb (k - 1) n far) ∙ sym (past (omega arith)))
      (cases_lt (k - 1) n) in
      row_bit word k l ∙ each (k - 1) ∙ here

  looked : (n t : ℕ) → (t ≡ n → ⊥) → ltb t n ≡ ltb t (n + 1)
  looked n t other = grind (arith, nat_tests)

  seen_other : (n t : ℕ) → (t ≡ n → ⊥) → seen n t ≡ seen (n + 1) t
  seen_other n t other = ap (λ (v : Bool). v && test (t + 1)) (looked n t other)

  pub seen_yes : (word n t : ℕ) → n < 32 → bit word t ≡ seen n t → test (n + 1) ≡ true → bit (bit_or word (1 * 2 ^ n % 2 ^ 32)) t ≡ seen (n + 1) t
  seen_yes word n t l before passed =
      ⊎_elim
      (λ same. set_bit word n t l ∙ or_right _ _ (eq-eqb t n same) ∙ sym (and_from (ltb t (n + 1)) (test (t + 1)) (lt-ltb t (n + 1) (omega arith)) (rw same passed)))
      (λ other.
      set_bit word n t l ∙ ap (λ (v : Bool). bit word t || v) (ne_eqb t n other) ∙ or-false (bit word t) ∙ before ∙ seen_other n t other)
      (cases_eq t n)

  pub seen_no : (word n t : ℕ) → bit word t ≡ seen n t → test (n + 1) ≡ false → bit word t ≡ seen (n + 1) t
  seen_no word n t before failed =
      ⊎_elim
      (λ same. before ∙ and_right (ltb t n) (test (t + 1)) (rw same failed) ∙ sym (and_right (ltb t (n + 1)) (test (t + 1)) (rw same failed)))
      (λ other. before ∙ seen_other n t other)
      (cases_eq t n)
