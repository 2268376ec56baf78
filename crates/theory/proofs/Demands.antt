-- The right sides of the three equations: none falls as its argument rises, and each is bounded where the proofs about
-- jobs need it.
use Rattle.std.proofs.Common.{◌≡◌, ℕ, zero, suc, ◌+◌, ◌-◌, ◌*◌, ◌<◌, ◌≤◌, Bool, true, false, cond, ltb, Some, None, Option, refl, ap, ap₂, inl, inr, mul-le-mul_right, add-mul, mul-le-mul, mul-pos, add-one, arith}
use Rattle.std.proofs.lemmas.Bool.{cases_lt, cond-true, cond-false, lt-ltb, le-ltb}
use Rattle.theory.specs.Arrivals.{before, through}
use Rattle.theory.specs.Delays.{too_much}
use Rattle.theory.specs.Equations.{Question, Equations, equations, price, load, sum_below, above, Period}
use Rattle.theory.specs.Figures.{Timing, Figures}
use Rattle.theory.proofs.Arrivals.{before_up, through_up, through_before, before-through, before_some}
use Rattle.theory.specs.Regular.{Mono, Regular}

pub sum_mono : (f g : ℕ → ℕ) (n : ℕ) → ((j : ℕ) → j < n → f j ≤ g j) → sum_below f n ≤ sum_below g n
unfolding sum_below
sum_mono f g zero h = omega arith
sum_mono f g (suc n) h = omega (arith, sum_mono f g n (λ j p. h j (omega arith)), h n (omega arith))

pub sum_same : (f g : ℕ → ℕ) (n : ℕ) → ((j : ℕ) → j < n → f j ≡ g j) → sum_below f n ≡ sum_below g n
unfolding sum_below
sum_same f g zero h = refl
sum_same f g (suc n) h = ap₂ (λ (x y : ℕ). x + y) (sum_same f g n (λ j p. h j (omega arith))) (h n (omega arith))

pub sum_next : (f : ℕ → ℕ) (n : ℕ) → sum_below f (n + 1) ≡ sum_below f n + f n
unfolding sum_below
sum_next f n = rw add-one refl

-- a sum of a below t, and of b from t on
pub sum_split : (a b : ℕ → ℕ) (t n : ℕ) → t ≤ n → sum_below (λ j. cond (ltb j t) (a j) (b j)) n + sum_below b t ≡ sum_below a t + sum_below b n
unfolding sum_below
sum_split a b t zero h = let z : t ≡ 0 = omega arith in rw z refl
sum_split a b t (suc n) h =
    elim (cases_lt n t) [
      | inl last ↦
          let z : t ≡ suc n = omega arith in
          let same : sum_below (λ j. cond (ltb j t) (a j) (b j)) (suc n) ≡ sum_below a (suc n) =
          sum_same _ a (suc n) (λ j l. cond-true (ltb j t) (a j) (b j) (lt-ltb j t (omega arith))) in
          omega (arith, same, ap (sum_below a) z, ap (sum_below b) z)
      | inr more ↦ omega (arith, sum_split a b t n more, cond-false (ltb n t) (a n) (b n) (le-ltb n t more))
    ]

-- the releases of a row, if there is one, are apart
abbrev pub Apart : Option Figures → Type 0
Apart None = Unit {0}
Apart (Some f) = 1 ≤ f.timing.t

-- the figures that the equations rest on
pub record Proper (q : Question) : Type 0 where
  pub runs : 1 ≤ q.own.c
  pub apart : 1 ≤ q.own.t
  pub others : (j : ℕ) → Apart (q.rows j)
  pub charged : (j : ℕ) → q.charge j ≤ too_much

load_up : (o : Option Figures) → Apart o → {n m : Timing → ℕ} {c d : ℕ} → ((w : Timing) → 1 ≤ w.t → n w ≤ m w) → c ≤ d → load n o c ≤ load m o d
unfolding price
load_up None s h e = omega arith
load_up (Some f) s {n} {m} {c} {d} h e = mul-le-mul {n₂ = m f.timing} {m₂ = f.timing.c + d} (h f.timing s) (omega arith)

-- the question with other charges and another threshold
abbrev pub eased : Question → (ℕ → ℕ) → ℕ → Question
eased q c t = record { place = q.place; own = q.own; rows = q.rows; charge = c; blocking = q.blocking; threshold = t }

cond_up : (b : Bool) {x y z w : ℕ} → x ≤ z → y ≤ w → cond b x y ≤ cond b z w
cond_up true e f = e
cond_up false e f = f

module _ (q : Question) (ok : Proper q) where
  -- lower charges and fewer jobs take no more ticks
  pub above_less : (c : ℕ → ℕ) → ((j : ℕ) → j < q.place → c j ≤ q.charge j) → {n m : ℕ → Timing → ℕ}
      → ((j : ℕ) (w : Timing) → 1 ≤ w.t → n j w ≤ m j w) → (t : ℕ) → above (eased q c t) n ≤ above q m
  unfolding above
  above_less c less h t = sum_mono _ _ q.place (λ j lt. load_up (q.rows j) (ok.others j) (h j) (less j lt))

  pub above_up : {n m : ℕ → Timing → ℕ} → ((j : ℕ) (w : Timing) → 1 ≤ w.t → n j w ≤ m j w) → above q n ≤ above q m
  above_up h = above_less q.charge (λ j _. omega arith) h q.threshold

  abbrev e : Equations
  e = equations q

  period_up : Mono e.period
  period_up a b h =
      omega (arith, mul-le-mul_right q.own.c (before_up q.own h), above_up {n = λ j w. before w a} {m = λ j w. before w b} (λ j w _. before_up w h))

  period_first : 1 ≤ e.period 1
  period_first = omega (arith, mul-pos (before_some q.own ok.apart 1 (omega arith)) ok.runs)

  start_up : (k : ℕ) → Mono (e.start k)
  start_up k a b h = omega (arith, above_up {n = λ j w. through w a} {m = λ j w. through w b} (λ j w _. through_up w h))

  finish_up : (k s : ℕ) → Mono (e.finish k s)
  finish_up k s a b h =
      omega (
        arith,
        above_up {n = λ j w. cond (ltb j q.threshold) (before w a) (through w s)} {m = λ j w. cond (ltb j q.threshold) (before w b) (through w s)}
            (λ j w _. cond_up (ltb j q.threshold) (before_up w h) (omega arith)),
      )

  finish_first : (k s : ℕ) → 1 ≤ e.finish k s 1
  finish_first k s = let r : 1 ≤ q.own.c = ok.runs in omega (arith, add-mul k 1 q.own.c)

  -- the next job asks for one run time more
  start_next : (k s : ℕ) → e.start (k + 1) s ≡ e.start k s + q.own.c
  start_next k s = omega (arith, add-mul k 1 q.own.c)

  start_within : (k l : ℕ) → Period e l → k < before q.own l → e.start k (l - 1) ≤ l - 1
  start_within k l p b =
      let r : 1 ≤ q.own.c = ok.runs in
      let o : 1 ≤ l = p.solves.from in
      let s = p.solves.same in
      let t : (k + 1) * q.own.c ≤ before q.own l * q.own.c = mul-le-mul_right q.own.c (omega arith) in
      omega (arith, add-mul k 1 q.own.c, above_up {n = λ j w. through w (l - 1)} {m = λ j w. before w l} (λ j w a. through_before w a (omega arith)))

  finish_within : (k s l : ℕ) → Period e l → k < before q.own l → s < l → e.finish k s l ≤ l
  finish_within k s l p b lt =
      let s' = p.solves.same in
      let t : (k + 1) * q.own.c ≤ before q.own l * q.own.c = mul-le-mul_right q.own.c (omega arith) in
      omega (
        arith,
        above_up {n = λ j w. cond (ltb j q.threshold) (before w l) (through w s)} {m = λ j w. before w l}
            (λ j w a. cond_under (ltb j q.threshold) (through_before w a lt)),
      )
    where
      cond_under : (b : Bool) {x y : ℕ} → y ≤ x → cond b x y ≤ x
      cond_under true h = omega arith
      cond_under false h = h

  -- a finish asks for a run time more than a start does at any time that is not after the start and before the finish
  finish_after : (k s y x : ℕ) → y ≤ s → y < x → e.start k y + q.own.c ≤ e.finish k s x
  finish_after k s y x le lt =
      omega (
        arith,
        add-mul k 1 q.own.c,
        above_up {n = λ j w. through w y} {m = λ j w. cond (ltb j q.threshold) (before w x) (through w s)}
            (λ j w a. cond_over (ltb j q.threshold) (through_before w a lt) (through_up w le)),
      )
    where
      cond_over : (b : Bool) {x y z : ℕ} → z ≤ x → z ≤ y → z ≤ cond b x y
      cond_over true h i = h
      cond_over false h i = i

  -- where no more than k jobs are released, the active period asks for no more than the start of job k
  period_start : (k s : ℕ) → before q.own s ≤ k → e.period s ≤ e.start k s
  period_start k s h =
      omega (arith, mul-le-mul_right q.own.c h, above_up {n = λ j w. before w s} {m = λ j w. through w s} (λ j w a. before-through w a s))

  pub regular : Regular e q.own
  regular =
      record {
        runs = ok.runs;
        apart = ok.apart;
        period_up = period_up;
        period_first = period_first;
        start_up = start_up;
        start_next = start_next;
        start_within = start_within;
        finish_up = finish_up;
        finish_first = finish_first;
        finish_within = finish_within;
        finish_after = finish_after;
        period_start = period_start;
      }
