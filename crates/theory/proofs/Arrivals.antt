-- The laws of releases. Every other proof about periods rests on these, and none opens the two counts.
use Rattle.std.proofs.Common.{◌≡◌, ℕ, zero, suc, ◌+◌, ◌-◌, ◌*◌, ◌/◌, ◌%◌, ◌<◌, ◌≤◌, min, sym, ap, ◌∙◌, le_trans, le_of_eq, div-lt_iff_lt-mul, add-mul, mul-le-mul_left, le-div_iff_mul-le, mul-one, div-mul-le_self, arith}
use Rattle.std.proofs.Math.Nat.{div-eq_of_lt-le}
use Rattle.std.proofs.lemmas.Grind.{div_ceil_times}
use native.Mathlib.Nat.{div-zero, add-div_right}
use Rattle.theory.specs.Arrivals.{before, through}
use Rattle.theory.specs.Figures.{Timing}

div_up : (t : ℕ) {a b : ℕ} → a ≤ b → a / t ≤ b / t
div_up zero {a} {b} h = le_of_eq (div-zero a ∙ sym (div-zero b))
div_up (suc t) {a} {b} h = (le-div_iff_mul-le (omega arith)).1 (le_trans (div-mul-le_self a (suc t)) h)

-- neither falls as time goes on
pub before_up : (w : Timing) {a b : ℕ} → a ≤ b → before w a ≤ before w b
unfolding before
before_up w h = div_up w.t (omega arith)

pub through_up : (w : Timing) {a b : ℕ} → a ≤ b → through w a ≤ through w b
unfolding through
through_up w h = omega (arith, div_up w.t h)

module _ (w : Timing) (apart : 1 ≤ w.t) where
  -- what is released before s + 1 is released up to s
  pub before_next : (s : ℕ) → before w (s + 1) ≡ through w s
  unfolding before through
  before_next s =
      let e : s + 1 + (w.t - 1) ≡ s + w.t = omega arith in
      ap (λ (n : ℕ). n / w.t) e ∙ add-div_right s apart ∙ omega arith

  pub through_before : {s l : ℕ} → s < l → through w s ≤ before w l
  through_before {s} {l} h = omega (arith, before_next s, before_up w {a = s + 1} {b = l} (omega arith))

  pub before-through : (x : ℕ) → before w x ≤ through w x
  before-through x = omega (arith, before_next x, before_up w {a = x} {b = x + 1} (omega arith))

  pub before_some : (x : ℕ) → 1 ≤ x → 1 ≤ before w x
  unfolding through
  before_some x p = omega (arith, through_before {s = 0} {l = x} p)

  -- n separations hold n releases
  pub before_under : (s n : ℕ) → s ≤ n * w.t → before w s ≤ n
  unfolding before
  before_under s n h = omega (arith, (div-lt_iff_lt-mul {k = w.t} {x = s + (w.t - 1)} {y = n + 1} apart).1 (omega (arith, add-mul n 1 w.t)))

  pub before-le : (x : ℕ) → before w x ≤ x
  before-le x = before_under x x (omega (arith, mul-le-mul_left x apart, mul-one x))

  -- it is the time over the separation, rounded up
  pub before_ceil : (x : ℕ) → x / w.t + min 1 (x % w.t) ≡ before w x
  unfolding before
  before_ceil x =
      let k : ℕ = x / w.t + min 1 (x % w.t) in
      let near = div_ceil_times x w.t apart in
      sym (div-eq_of_lt-le {k = k} w.t (omega (arith, near.1)) (omega (arith, near.0, add-mul k 1 w.t)))
