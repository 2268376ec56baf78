-- The calls that edit a sheet: what each is answered, and what it leaves.
use Rattle.std.specs.Prelude.{◌≡◌, ℕ, Bool, cond, Some, None, Option}
use Rattle.theory.specs.Figures.{Timing, Figures, Table, Fault, after, fault, is_row, with_row, priorities, run_time_top, ticks_top, within}

pub data Edit : Type 0 where
  enter : ℕ → Timing → Edit  -- a row with this timing at this priority
  strike : ℕ → Edit  -- no row at this priority
  limit : ℕ → ℕ → Edit  -- this cap for the row at this priority

-- the refusal n at p unless the rule holds, and then what is left to ask
abbrev pub unless : Bool → ℕ → ℕ → Option Fault → Option Fault
unless rule n p rest = cond rule rest (Some (fault n p))

-- why a timing is refused at priority p, if it is
abbrev pub timing_refusal : ℕ → Timing → Option Fault
timing_refusal p w =
    unless (within run_time_top w.c) 3 p
    (unless (within ticks_top w.t) 4 p
    (unless (within ticks_top w.d) 5 p None))

-- Why an edit is refused in a sheet: the rule with the smallest number that it breaks, if any.
abbrev pub refusal : Edit → Table → Option Fault
refusal (enter p w) rows =
    unless (within priorities p) 2 p
    (timing_refusal p w)
refusal (strike p) rows =
    unless (within priorities p) 2 p
    (unless (is_row (rows p)) 6 p None)
refusal (limit p k) rows =
    unless (within priorities p) 2 p
    (unless (is_row (rows p)) 6 p
    (unless (within p k) 7 p None))

-- the row with another cap
abbrev pub capped : ℕ → Option Figures → Option Figures
capped k None = None
capped k (Some f) = Some (record { timing = f.timing; limit = k })

-- the sheet that an accepted edit leaves: one row is another, and every other row is as it was
abbrev pub left_by : Edit → Table → Table
left_by (enter p w) rows = with_row p (Some (record { timing = w; limit = 1 })) rows
left_by (strike p) rows = with_row p None rows
left_by (limit p k) rows = with_row p (capped k (rows p)) rows

-- One edit made in a sheet: its answer, which is None where it was accepted, and the sheet afterwards.
pub record Edited (e : Edit) (rows : Table) (answer : Option Fault) (rows' : Table) : Type 0 where
  pub answered : answer ≡ refusal e rows
  pub leaves : (q : ℕ) → rows' q ≡ after answer (left_by e rows) rows q
