-- Sets of cache sets in four words.
use Rattle.std.proofs.Common.{◌≡◌, ℕ, zero, suc, ◌+◌, ◌-◌, ◌*◌, ◌/◌, ◌%◌, ◌^◌, ◌<◌, ◌≤◌, Bool, true, false, not, ◌&&◌, ◌||◌, eqb, List, [], ◌∷◌, ◌++◌, length, get_or, take, set, Some, None, Option, sym, refl, ap, ◌∙◌, ap₂, ⊎_elim, arith, add-one, take_all, get_or-set_other, get_or-set_same}
use mathlib.Core.Bool.{or_comm}
use lib.Bits.{bit_and, bit_or}
use lib.Count.{count_trailing_zeros}
use Rattle.std.proofs.lemmas.Nat.{div-mul-add, mod-mul-add, one_shl}
use Rattle.std.proofs.lemmas.List.Sums.{sum_by_more}
use Rattle.std.specs.Array.{AllOfLen}
use Rattle.std.specs.List.{sum_by}
use Rattle.std.proofs.lemmas.Bool.{and_parts, cases_lt, cases_eq, ne_eqb, not-true}
use Rattle.std.proofs.lemmas.Bool.Decides.{nat_tests}
use Rattle.theory.specs.Sets.{Sets, SameSets, Inside, FirstOutside, cache_sets, count_below, size, union, intersection}
use Rattle.theory.proofs.Counting.{count-le, count_part, count_same}
use Rattle.blocks.specs.Members.{all_sets, bit, in_words, listed, no_sets, plus}
use Rattle.blocks.proofs.Bitwise.{bit-and, bit-or, bit_not, bit_pow, bit_zero, lowest}

-- how many bits of a word are set
abbrev pub set_bits : ℕ → ℕ
set_bits n = count_below (bit n) 64

-- the word of a set is one of four
pub four : (P : ℕ → Type 0) → P 0 → P 1 → P 2 → P 3 → (q : ℕ) → q < 4 → P q
four P a b c d zero l = a
four P a b c d (suc zero) l = b
four P a b c d (suc (suc zero)) l = c
four P a b c d (suc (suc (suc zero))) l = d
four P a b c d (suc (suc (suc (suc q)))) l = let never : ⊥ = omega arith in absurd never

module _ (words xs ys : List ℕ) where
  -- intersection and union, word by word
  pub intersection_words : ((q : ℕ) → q < 4 → get_or words q 0 ≡ bit_and (get_or xs q 0) (get_or ys q 0)) → SameSets (in_words words) (intersection (in_words xs) (in_words ys))
  unfolding in_words intersection
  intersection_words each s l = ap (λ (n : ℕ). bit n (s % 64)) (each (s / 64) (omega arith)) ∙ bit-and _ _ (s % 64)

  pub union_words : ((q : ℕ) → q < 4 → get_or words q 0 ≡ bit_or (get_or xs q 0) (get_or ys q 0)) → SameSets (in_words words) (union (in_words xs) (in_words ys))
  unfolding in_words union
  union_words each s l = ap (λ (n : ℕ). bit n (s % 64)) (each (s / 64) (omega arith)) ∙ bit-or _ _ (s % 64)

in_word : (words : List ℕ) (q t : ℕ) → t < 64 → in_words words (q * 64 + t) ≡ bit (get_or words q 0) t
unfolding in_words
in_word words q t l = ap₂ (λ (k u : ℕ). bit (get_or words k 0) u) (div-mul-add q 64 t l) (mod-mul-add q 64 t l)

count_none : (x : Sets) → count_below x 0 ≡ 0
unfolding count_below
count_none x = refl

module _ (words : List ℕ) where
  -- the sets of word q, counted
  count_word : (q : ℕ) → count_below (in_words words) (q * 64 + 64) ≡ count_below (in_words words) (q * 64) + set_bits (get_or words q 0)
  count_word q =
      let counted = count_same (bit (get_or words q 0)) (λ t. in_words words (q * 64 + t)) 64 (λ t l. sym (in_word words q t l)) in
      count_part (in_words words) (q * 64) 64 ∙ ap (λ (n : ℕ). count_below (in_words words) (q * 64) + n) (sym counted)

  -- those of the first n words
  count_words : (n : ℕ) → n ≤ length words → count_below (in_words words) (n * 64) ≡ sum_by set_bits (take n words)
  count_words zero l = count_none (in_words words)
  count_words (suc n) l =
      let place : suc n * 64 ≡ n * 64 + 64 = omega arith in
      let before = count_words n (omega arith) in
      ap (count_below (in_words words)) place ∙ count_word n ∙ ap (λ (m : ℕ). m + set_bits (get_or words n 0)) before
      ∙ sym (sum_by_more set_bits words n 0 l) ∙ ap (λ (m : ℕ). sum_by set_bits (take m words)) (add-one n)

  pub size_words : length words ≡ 4 → size (in_words words) ≡ sum_by set_bits words
  size_words all = count_words 4 (omega arith) ∙ ap (sum_by set_bits) (take_all 4 words (omega arith))

pub bits_fit : (words : List ℕ) → length words ≡ 4 → sum_by set_bits words < 2 ^ 32
bits_fit words all = omega (arith, size_words words all, count-le (in_words words) cache_sets)

-- a word four times
same_words : (words : List ℕ) (n : ℕ) → ((q : ℕ) → q < 4 → get_or words q 0 ≡ n) → (s : ℕ) → s < cache_sets → in_words words s ≡ bit n (s % 64)
unfolding in_words
same_words words n each s l = ap (λ (m : ℕ). bit m (s % 64)) (each (s / 64) (omega arith))

pub zero_words : (words : List ℕ) → AllOfLen (λ n. n ≡ 0) words 4 → SameSets (in_words words) no_sets
zero_words words zeros s l = same_words words 0 (λ q lq. zeros.at q 0 lq) s l ∙ bit_zero (s % 64)

pub full_words : (words : List ℕ) → ((q : ℕ) → q < 4 → get_or words q 0 ≡ 2 ^ 64 - 1) → SameSets (in_words words) all_sets
full_words words each s l =
    same_words words (2 ^ 64 - 1) each s l ∙ bit_not 64 0 (s % 64) (omega arith) (omega arith) ∙ ap not (bit_zero (s % 64))

-- one bit more
pub with_bit : (words : List ℕ) (s : ℕ) → length words ≡ 4 → s < cache_sets → SameSets (in_words (set words (s / 64) (bit_or (get_or words (s / 64) 0) (1 * 2 ^ (s % 64) % 2 ^ 64)))) (plus (in_words words) s)
unfolding in_words
with_bit words s four-words ls t lt =
    ⊎_elim
    (λ same.
    let there : s / 64 < length words = omega arith in
    let read : get_or (set words (s / 64) (bit_or (get_or words (s / 64) 0) (1 * 2 ^ (s % 64) % 2 ^ 64))) (t / 64) 0 ≡ bit_or (get_or words (t / 64) 0) (2 ^ (s % 64)) =
    rw (same, get_or-set_same, one_shl (s % 64) 64 (omega arith)) refl in
    let bits = ap (λ (n : ℕ). bit n (t % 64)) read ∙ bit-or (get_or words (t / 64) 0) (2 ^ (s % 64)) (t % 64) in
    let own = bit_pow (s % 64) (t % 64) in
    let test : eqb (t % 64) (s % 64) ≡ eqb t s = grind (arith, nat_tests) in
    bits ∙ or_comm (bit (get_or words (t / 64) 0) (t % 64)) (bit (2 ^ (s % 64)) (t % 64)) ∙ ap (λ (v : Bool). v || bit (get_or words (t / 64) 0) (t % 64)) (own ∙ test))
    (λ other.
    let test : eqb t s ≡ false = ne_eqb t s (λ e. other (ap (λ (n : ℕ). n / 64) e)) in
    ap (λ (n : ℕ). bit n (t % 64)) (get_or-set_other words (s / 64) (t / 64) _ 0 other) ∙ sym (ap (λ (v : Bool). v || bit (get_or words (t / 64) 0) (t % 64)) test))
    (cases_eq (t / 64) (s / 64))

or_turn : (u v w : Bool) → (u || (v || w)) ≡ (v || (u || w))
or_turn true true w = refl
or_turn true false w = refl
or_turn false true w = refl
or_turn false false w = refl

listed_push : (xs : List ℕ) (x s : ℕ) → listed (xs ++ (x ∷ [])) s ≡ (eqb s x || listed xs s)
unfolding listed
listed_push [] x s = refl
listed_push (y ∷ ys) x s =
    ap (λ (v : Bool). eqb s y || v) (listed_push ys x s) ∙ or_turn (eqb s y) (eqb s x) (listed ys s)

-- one listed set more
pub listed_more : (x y : Sets) (xs : List ℕ) (k : ℕ) → SameSets y (plus x k) → SameSets x (listed xs) → SameSets y (listed (xs ++ (k ∷ [])))
listed_more x y xs k more before s l = more s l ∙ ap (λ (v : Bool). eqb s k || v) (before s l) ∙ sym (listed_push xs k s)

abbrev pub difference : Sets → Sets → Sets
difference x y s = x s && not (y s)

pub difference_words : (words xs ys : List ℕ) → ((q : ℕ) → q < 4 → (t : ℕ) → t < 64 → bit (get_or words q 0) t ≡ (bit (get_or xs q 0) t && not (bit (get_or ys q 0) t))) → SameSets (in_words words) (difference (in_words xs) (in_words ys))
unfolding in_words
difference_words words xs ys each s l = each (s / 64) (omega arith) (s % 64) (omega arith)

inside_bit : (v w : Bool) → v ≡ true → (v && not w) ≡ false → w ≡ true
inside_bit true true e f = refl
inside_bit true false e f = sym f
inside_bit false true e f = refl
inside_bit false false e f = e

-- no set is in the first n words
none_to : (words : List ℕ) (n : ℕ) → ((q : ℕ) → q < n → get_or words q 0 ≡ 0) → (s : ℕ) → s < n * 64 → in_words words s ≡ false
unfolding in_words
none_to words n each s l = ap (λ (m : ℕ). bit m (s % 64)) (each (s / 64) (omega arith)) ∙ bit_zero (s % 64)

pub none_in : (words : List ℕ) → ((q : ℕ) → q < 4 → get_or words q 0 ≡ 0) → Inside cache_sets (in_words words) no_sets
none_in words each s l here = sym (none_to words 4 each s l) ∙ here

module _ (words : List ℕ) (q : ℕ) (before : (k : ℕ) → k < q → get_or words k 0 ≡ 0) where
  abbrev lowest_set : ℕ
  lowest_set = count_trailing_zeros 64 (get_or words q 0)

  -- the lowest bit of the first word that is not 0
  pub first_set : q < 4 → get_or words q 0 < 2 ^ 64 → (get_or words q 0 ≡ 0 → ⊥) → FirstOutside (in_words words) no_sets (Some (q * 64 + lowest_set))
  first_set lq fits some =
      let found = lowest 64 (get_or words q 0) fits some in
      let near = found.within in
      let none : (s : ℕ) → s < q * 64 + lowest_set → in_words words s ≡ false = λ s l.
      ⊎_elim
      (λ early. none_to words q before s early)
      (λ late. let place : s ≡ q * 64 + (s - q * 64) = omega arith in rw place (in_word words q (s - q * 64) (omega arith) ∙ found.below (s - q * 64) (omega arith)))
      (cases_lt s (q * 64)) in
      (omega arith, in_word words q lowest_set near ∙ found.here, refl, λ s l here. sym (none s l) ∙ here)

not_set : (v : Bool) → (v ≡ true → false ≡ true) → v ≡ false
not_set true none = sym (none refl)
not_set false none = refl

module _ (x y d : Sets) (same : SameSets d (difference x y)) where
  inside_from : (n : ℕ) → n ≤ cache_sets → Inside n d no_sets → Inside n x y
  inside_from n few none s l here = inside_bit (x s) (y s) here (sym (same s (omega arith)) ∙ not_set (d s) (none s l))

  -- what is first in the difference is first outside
  pub outside_from : (r : Option ℕ) → FirstOutside d no_sets r → FirstOutside x y r
  outside_from None none = inside_from cache_sets (omega arith) none
  outside_from (Some s) found =
      let parts = and_parts _ _ (sym (same s found.0) ∙ found.1) in
      (found.0, parts.0, not-true _ parts.1, inside_from s (omega arith) found.3)
