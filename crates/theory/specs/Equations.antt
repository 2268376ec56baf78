-- One row with one blocker: active period, start, finish and response, each the least solution of its equation.
use Rattle.std.specs.Prelude.{◌≡◌, ℕ, zero, suc, ◌+◌, ◌-◌, ◌*◌, ◌<◌, ◌≤◌, cond, List, Some, None, Option, nat_lt}
use Rattle.theory.specs.Arrivals.{before, through}
use Rattle.theory.specs.Columns.{entry}
use Rattle.theory.specs.Delays.{Charge}
use Rattle.theory.specs.Figures.{Timing, Figures, Table}
use Rattle.theory.specs.Least.{Least}

-- what is asked of a row test
pub record Question : Type 0 where
  pub place : ℕ  -- the priority of the row that is judged
  pub own : Timing  -- its timing
  pub rows : Table  -- the sheet, of which the rows above that place count
  pub charge : ℕ → ℕ  -- the charge for each job of a row above
  pub blocking : ℕ  -- the ticks that the blocker contributes
  pub threshold : ℕ  -- the threshold of the row that is judged

-- what blocker b contributes: its run time, and nothing where there is none
abbrev pub run_time_of : Option Figures → ℕ
run_time_of None = 0
run_time_of (Some f) = f.timing.c

unfoldable pub contribution : Table → ℕ → ℕ
contribution rows zero = 0
contribution rows (suc b) = run_time_of (rows (suc b))

-- row i, which has the timing w, with blocker b in the column h
abbrev pub question : Table → Charge → List ℕ → ℕ → ℕ → Timing → Question
question rows c h i b w =
    record { place = i; own = w; rows = rows; charge = λ j. c i b j h; blocking = contribution rows b; threshold = entry h i }

-- the price of a job: its run time and its charge
unfoldable pub price : Timing → ℕ → ℕ
price w charge = w.c + charge

-- the ticks of one row, for as many jobs as n says of its timing; none where there is no row
abbrev pub load : (Timing → ℕ) → Option Figures → ℕ → ℕ
load n None charge = 0
load n (Some f) charge = n f.timing * price f.timing charge

-- f 0 and so on, up to f (n - 1), added up
unfoldable pub sum_below : (ℕ → ℕ) → ℕ → ℕ
sum_below f zero = 0
sum_below f (suc n) = sum_below f n + f n

-- the ticks of all rows above, for as many jobs of row j as n j says of its timing
unfoldable pub above : Question → (ℕ → Timing → ℕ) → ℕ
above q n = sum_below (λ j. load (n j) (q.rows j) (q.charge j)) q.place

-- The right sides of the three equations. Every row above counts in the active period and up to the start.
-- From the start on, only the rows before the threshold pre-empt; of the others no job counts that is
-- released after the start.
pub record Equations : Type 0 where
  pub period : ℕ → ℕ  -- of the active period
  pub start : ℕ → ℕ → ℕ  -- of job k
  pub finish : ℕ → ℕ → ℕ → ℕ  -- of job k, which starts at s

abbrev pub equations : Question → Equations
equations q =
    record {
      period = λ x. q.blocking + before q.own x * q.own.c + above q (λ j w. before w x);
      start = λ k s. q.blocking + k * q.own.c + above q (λ j w. through w s);
      finish = λ k s x. q.blocking + (k + 1) * q.own.c + above q (λ j w. cond (nat_lt j q.threshold) (before w x) (through w s));
    }

-- l is the active period, s the start of job k, and f the finish of job k, which starts at s
abbrev pub Period : Equations → ℕ → Type 0
Period e l = Least 1 e.period l

abbrev pub Start : Equations → ℕ → ℕ → Type 0
Start e k s = Least 0 (e.start k) s

abbrev pub Finish : Equations → ℕ → ℕ → ℕ → Type 0
Finish e k s f = Least 1 (e.finish k s) f

-- an active period longer than this counts as none
abbrev pub period_top : ℕ
period_top = 100000000

-- k, counted from 0, is a job of the active period of a row with the timing w
pub record Job (e : Equations) (w : Timing) (k : ℕ) : Type 0 where
  pub length : ℕ
  pub active : Period e length
  pub short : length ≤ period_top
  pub among : k < before w length

-- r is the response of job k: from its release, at k separations, to its finish
pub record Response (e : Equations) (w : Timing) (k r : ℕ) : Type 0 where
  pub start : ℕ
  pub finish : ℕ
  pub starts : Start e k start
  pub finishes : Finish e k start finish
  pub is : r ≡ finish - k * w.t
