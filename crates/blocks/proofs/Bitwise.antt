-- The bits of words: of `&`, `|`, `!` and `<<`, how many are set, and which is the lowest.
use Rattle.std.proofs.Common.{◌≡◌, ℕ, zero, suc, ◌-◌, ◌/◌, ◌%◌, ◌^◌, ◌<◌, min, max, Bool, true, false, cond, not, ◌&&◌, ◌||◌, eqb, refl, sym, ap, ap₂, ◌∙◌, ⊎_elim, pow-suc, div-one, add-one, one-add, arith}
use mathlib.Core.Bool.{and-true}
use lib.Bits.{bit_and, bit_or, and_step, or_step, and_shr, or_shr, and_mask}
use lib.Count.{ones, ones_step, ones-le, count_trailing_zeros}
use Rattle.std.proofs.lemmas.Nat.{shr_le, shr-shr, shr_below}
use Rattle.std.proofs.lemmas.Bool.{and_left, cases_lt}
use Rattle.std.proofs.lemmas.Bool.Decides.{nat_tests}
use Rattle.theory.specs.Sets.{count_below}
use Rattle.theory.proofs.Counting.{count_first, count_same}
use Rattle.blocks.specs.Members.{bit}

and_low : (a b : ℕ) → bit_and a b % 2 ≡ min (a % 2) (b % 2)
and_low a b = omega (arith, and_step a b)

or_low : (a b : ℕ) → bit_or a b % 2 ≡ max (a % 2) (b % 2)
or_low a b = omega (arith, or_step a b)

pub bit-and : (a b t : ℕ) → bit (bit_and a b) t ≡ (bit a t && bit b t)
unfolding bit
bit-and a b t =
    let e : (bit_and a b / 2 ^ t) % 2 ≡ min (a / 2 ^ t % 2) (b / 2 ^ t % 2) = ap (λ (n : ℕ). n % 2) (and_shr a b t) ∙ and_low (a / 2 ^ t) (b / 2 ^ t) in
    grind (arith, nat_tests)

pub bit-or : (a b t : ℕ) → bit (bit_or a b) t ≡ (bit a t || bit b t)
unfolding bit
bit-or a b t =
    let e : (bit_or a b / 2 ^ t) % 2 ≡ max (a / 2 ^ t % 2) (b / 2 ^ t % 2) = ap (λ (n : ℕ). n % 2) (or_shr a b t) ∙ or_low (a / 2 ^ t) (b / 2 ^ t) in
    grind (arith, nat_tests)

pub bit_zero : (t : ℕ) → bit 0 t ≡ false
unfolding bit
bit_zero t = let e : 0 / 2 ^ t ≡ 0 = omega (arith, shr_le 0 t) in ap (λ (n : ℕ). eqb (n % 2) 1) e

bit_half : (n t : ℕ) → bit (n / 2) t ≡ bit n (suc t)
unfolding bit
bit_half n t = ap (λ (m : ℕ). eqb (m % 2) 1) (shr-shr n 1 t ∙ ap (λ (k : ℕ). n / 2 ^ k) (one-add t))

bit_low : (n : ℕ) → bit n 0 ≡ eqb (n % 2) 1
unfolding bit
bit_low n = ap (λ (m : ℕ). eqb (m % 2) 1) (div-one n)

-- as the program reads a bit
pub bit_read : (n t : ℕ) → eqb (bit_and (n / 2 ^ t) 1) 1 ≡ bit n t
unfolding bit
bit_read n t = ap (λ (m : ℕ). eqb m 1) (and_mask (n / 2 ^ t) 1)

pub bit_pow : (k t : ℕ) → bit (2 ^ k) t ≡ eqb t k
bit_pow zero zero = bit_low 1
bit_pow zero (suc t) = sym (bit_half 1 t) ∙ bit_zero t ∙ grind (arith, nat_tests)
bit_pow (suc k) zero =
    let even : 2 ^ suc k % 2 ≡ 0 = omega (arith, pow-suc 2 k) in
    bit_low (2 ^ suc k) ∙ ap (λ (m : ℕ). eqb m 1) even ∙ grind (arith, nat_tests)
bit_pow (suc k) (suc t) =
    let half : 2 ^ suc k / 2 ≡ 2 ^ k = omega (arith, pow-suc 2 k) in
    sym (bit_half (2 ^ suc k) t) ∙ ap (λ (m : ℕ). bit m t) half ∙ bit_pow k t ∙ grind (arith, nat_tests)

and_self : (v : Bool) → (v && v) ≡ v
and_self true = refl
and_self false = refl

-- the bits of `!n` in a word of w bits
pub bit_not : (w n t : ℕ) → n < 2 ^ w → t < w → bit ((2 ^ w - 1) - n) t ≡ not (bit n t)
bit_not zero n t fits l = let never : ⊥ = omega arith in absurd never
bit_not (suc w) n zero fits l =
    let odd : ((2 ^ suc w - 1) - n) % 2 ≡ 1 - n % 2 = omega (arith, pow-suc 2 w) in
    let flip : eqb (((2 ^ suc w - 1) - n) % 2) 1 ≡ not (eqb (n % 2) 1) = grind (arith, nat_tests) in
    bit_low _ ∙ flip ∙ ap not (sym (bit_low n))
bit_not (suc w) n (suc t) fits l =
    let half : ((2 ^ suc w - 1) - n) / 2 ≡ (2 ^ w - 1) - n / 2 = omega (arith, pow-suc 2 w) in
    let small : n / 2 < 2 ^ w = omega (arith, pow-suc 2 w) in
    sym (bit_half _ t) ∙ ap (λ (m : ℕ). bit m t) half ∙ bit_not w (n / 2) t small (omega arith) ∙ ap not (bit_half n t)

bit_digit : (n : ℕ) → cond (bit n 0) 1 0 ≡ n % 2
bit_digit n =
    let e = bit_low n in
    let l : n % 2 < 2 = omega arith in
    let read : cond (eqb (n % 2) 1) 1 0 ≡ n % 2 = grind (arith, nat_tests) in
    ap (λ (v : Bool). cond v 1 0) e ∙ read

-- the set bits of a word of w bits
pub ones_count : (w n : ℕ) → n < 2 ^ w → ones n ≡ count_below (bit n) w
unfolding count_below
ones_count zero n fits = omega (arith, ones-le 0 n fits)
ones_count (suc w) n fits =
    let half : n / 2 < 2 ^ w = shr_below n w 1 (rw add-one fits) in
    let rest = ones_count w (n / 2) half ∙ count_same (bit (n / 2)) (λ k. bit n (suc k)) w (λ k l. bit_half n k) in
    omega (arith, ones_step n, rest, count_first (bit n) w, bit_digit n)

-- bit t of a word of w bits is set, and none below it
pub record Lowest (w n t : ℕ) : Type 0 where
  pub within : t < w
  pub here : bit n t ≡ true
  pub below : (u : ℕ) → u < t → bit n u ≡ false

lowest_odd : (w n : ℕ) → n % 2 ≡ 1 → Lowest (suc w) n 0
lowest_odd w n odd =
    record {
      within = omega arith;
      here = bit_low n ∙ ap (λ (m : ℕ). eqb m 1) odd;
      below = λ u l. let never : ⊥ = omega arith in absurd never;
    }

below_even : (n t : ℕ) → n % 2 ≡ 0 → ((u : ℕ) → u < t → bit (n / 2) u ≡ false) → (u : ℕ) → u < suc t → bit n u ≡ false
below_even n t even rest zero l = bit_low n ∙ ap (λ (m : ℕ). eqb m 1) even
below_even n t even rest (suc u) l = sym (bit_half n u) ∙ rest u (omega arith)

lowest_even : (w n t : ℕ) → n % 2 ≡ 0 → Lowest w (n / 2) t → Lowest (suc w) n (suc t)
lowest_even w n t even rest =
    record {
      within = let l = rest.within in omega arith;
      here = sym (bit_half n t) ∙ rest.here;
      below = below_even n t even rest.below;
    }

-- the lowest set bit of a word that is not 0
pub lowest : (w n : ℕ) → n < 2 ^ w → (n ≡ 0 → ⊥) → Lowest w n (count_trailing_zeros w n)
unfolding count_trailing_zeros
lowest zero n fits some = absurd (some (omega arith))
lowest (suc w) n fits some =
    ⊎_elim
    (λ even.
    let zero-digit : n % 2 ≡ 0 = omega arith in
    let small : n / 2 < 2 ^ w = omega (arith, pow-suc 2 w) in
    let rest = lowest w (n / 2) small (λ none. some (omega arith)) in
    rw zero-digit (lowest_even w n (count_trailing_zeros w (n / 2)) zero-digit rest))
    (λ odd. let one-digit : n % 2 ≡ 1 = omega arith in rw one-digit (lowest_odd w n one-digit))
    (cases_lt (n % 2) 1)

pop_odd : (n u : ℕ) → n % 2 ≡ 1 → bit (bit_and n (n - 1)) u ≡ (bit n u && not (eqb u 0))
pop_odd n zero odd =
    let even : (n - 1) % 2 ≡ 0 = omega arith in
    bit-and n (n - 1) 0 ∙ ap (λ (v : Bool). bit n 0 && v) (bit_low (n - 1) ∙ ap (λ (m : ℕ). eqb m 1) even)
pop_odd n (suc u) odd =
    let half : (n - 1) / 2 ≡ n / 2 = omega arith in
    let far : eqb (suc u) 0 ≡ false = grind (arith, nat_tests) in
    bit-and n (n - 1) (suc u) ∙ ap (λ (v : Bool). bit n (suc u) && v) (sym (bit_half (n - 1) u) ∙ ap (λ (m : ℕ). bit m u) half ∙ bit_half n u) ∙ and_self (bit n (suc u))
    ∙ sym (rw far (and-true (bit n (suc u))))

pop_even : (n t u : ℕ) → n % 2 ≡ 0 → 0 < n → ((u : ℕ) → bit (bit_and (n / 2) (n / 2 - 1)) u ≡ (bit (n / 2) u && not (eqb u t))) → bit (bit_and n (n - 1)) u ≡ (bit n u && not (eqb u (suc t)))
pop_even n t zero even some rest =
    let none : bit n 0 ≡ false = bit_low n ∙ ap (λ (m : ℕ). eqb m 1) even in
    bit-and n (n - 1) 0 ∙ and_left _ _ none ∙ sym (and_left _ _ none)
pop_even n t (suc u) even some rest =
    let half : (n - 1) / 2 ≡ n / 2 - 1 = omega arith in
    let turn : eqb u t ≡ eqb (suc u) (suc t) = grind (arith, nat_tests) in
    bit-and n (n - 1) (suc u) ∙ ap₂ ◌&&◌ (sym (bit_half n u)) (sym (bit_half (n - 1) u) ∙ ap (λ (m : ℕ). bit m u) half)
    ∙ sym (bit-and (n / 2) (n / 2 - 1) u) ∙ rest u ∙ ap₂ (λ (v w : Bool). v && not w) (bit_half n u) turn

-- `n & (n - 1)` leaves out the lowest set bit
pub pop : (w n : ℕ) → n < 2 ^ w → (n ≡ 0 → ⊥) → (u : ℕ) → bit (bit_and n (n - 1)) u ≡ (bit n u && not (eqb u (count_trailing_zeros w n)))
unfolding count_trailing_zeros
pop zero n fits some u = absurd (some (omega arith))
pop (suc w) n fits some u =
    ⊎_elim
    (λ even.
    let zero-digit : n % 2 ≡ 0 = omega arith in
    let small : n / 2 < 2 ^ w = omega (arith, pow-suc 2 w) in
    rw zero-digit (pop_even n (count_trailing_zeros w (n / 2)) u zero-digit (omega arith) (pop w (n / 2) small (λ none. some (omega arith)))))
    (λ odd. let one-digit : n % 2 ≡ 1 = omega arith in rw one-digit (pop_odd n u one-digit))
    (cases_lt (n % 2) 1)
