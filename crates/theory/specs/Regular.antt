-- What the program's iterations rest on. No public contract cites anything here: these are facts that functions inside a
-- crate hand to one another.
use Rattle.std.specs.Prelude.{◌≡◌, ℕ, ◌+◌, ◌-◌, ◌<◌, ◌≤◌}
use Rattle.theory.specs.Arrivals.{before}
use Rattle.theory.specs.Equations.{Equations, Period}
use Rattle.theory.specs.Figures.{Timing}

-- F never falls
abbrev pub Mono : (ℕ → ℕ) → Type 0
Mono F = (a b : ℕ) → a ≤ b → F a ≤ F b

-- Where an iteration x := F x may stand: at low or more, not past its next value, and not past any number
-- that F does not raise. It may start at any such number.
pub record Climbs (low : ℕ) (F : ℕ → ℕ) (x : ℕ) : Type 0 where
  pub from : low ≤ x
  pub up : x ≤ F x
  pub under : (m : ℕ) → low ≤ m → F m ≤ m → x ≤ m

-- what the three equations of a row with the timing w have in common with those of any other
pub record Regular (e : Equations) (w : Timing) : Type 0 where
  pub runs : 1 ≤ w.c
  pub apart : 1 ≤ w.t
  pub period_up : Mono e.period
  pub period_first : 1 ≤ e.period 1
  pub start_up : (k : ℕ) → Mono (e.start k)
  pub start_next : (k s : ℕ) → e.start (k + 1) s ≡ e.start k s + w.c
  pub start_within : (k l : ℕ) → Period e l → k < before w l → e.start k (l - 1) ≤ l - 1
  pub finish_up : (k s : ℕ) → Mono (e.finish k s)
  pub finish_first : (k s : ℕ) → 1 ≤ e.finish k s 1
  pub finish_within : (k s l : ℕ) → Period e l → k < before w l → s < l → e.finish k s l ≤ l
  pub finish_after : (k s y x : ℕ) → y ≤ s → y < x → e.start k y + w.c ≤ e.finish k s x
  pub period_start : (k s : ℕ) → before w s ≤ k → e.period s ≤ e.start k s
