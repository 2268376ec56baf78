-- Rows, sheets and refusals in plain figures. Every other definition speaks of these.
use Rattle.std.specs.Prelude.{◌≡◌, ℕ, ◌≤◌, Bool, true, false, cond, ◌&&◌, Some, None, Option, ◌==◌, nat_le}

-- what a task asks of the processor, in ticks
pub record Timing : Type 0 where
  pub c : ℕ  -- run time
  pub t : ℕ  -- least distance between two releases
  pub d : ℕ  -- deadline, counted from the release

-- a row of a sheet: its timing, and its cap, the smallest threshold number that it may get
pub record Figures : Type 0 where
  pub timing : Timing
  pub limit : ℕ

-- a sheet: the row at each priority, or None
abbrev pub Table : Type 0
Table = ℕ → Option Figures

abbrev pub is_row : Option Figures → Bool
is_row None = false
is_row (Some f) = true

-- the sheet with o at priority p, and otherwise as it was
abbrev pub with_row : ℕ → Option Figures → Table → Table
with_row p o rows q = cond (q == p) o (rows q)

-- the least urgent priority, and the greatest run time, distance and deadline in ticks
abbrev pub priorities : ℕ
priorities = 32

abbrev pub run_time_top : ℕ
run_time_top = 16777215

abbrev pub ticks_top : ℕ
ticks_top = 100000000

-- n is from 1 to top, as a test and as a fact
abbrev pub within : ℕ → ℕ → Bool
within top n = nat_le 1 n && nat_le n top

abbrev pub Within : ℕ → ℕ → Type 0
Within top n = (1 ≤ n) × (n ≤ top)

-- the ranges of a timing, and of the row f at priority p
pub record Timed (w : Timing) : Type 0 where
  pub runs : Within run_time_top w.c
  pub apart : Within ticks_top w.t
  pub due : Within ticks_top w.d

pub record InRange (p : ℕ) (f : Figures) : Type 0 where
  pub priority : Within priorities p
  pub timed : Timed f.timing
  pub capped : Within p f.limit

-- no row of the sheet is out of range
abbrev pub Sound : Table → Type 0
Sound rows = (p : ℕ) (f : Figures) → rows p ≡ Some f → InRange p f

-- a refusal: which rule was broken, and where
pub record Fault : Type 0 where
  pub number : ℕ
  pub place : ℕ

abbrev pub fault : ℕ → ℕ → Fault
fault n p = record { number = n; place = p }

-- what stands after a call that is answered so: new where it was accepted, and old where it was refused
abbrev pub after : {X : Type 0} → Option Fault → X → X → X
after None new old = new
after (Some e) new old = old
