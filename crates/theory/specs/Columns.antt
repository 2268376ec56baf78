-- Columns of thresholds, and which of them fit a sheet.
use Rattle.std.specs.Prelude.{◌≡◌, ℕ, ◌-◌, ◌<◌, ◌≤◌, Bool, true, false, cond, ◌&&◌, ◌||◌, ◌⊎◌, List, ◌∷◌, length, Some, None, Option, ◌==◌, nat_le, nat_lt, slice_index, slice_set}
use Rattle.theory.specs.Figures.{Figures, Table, Fault, fault, is_row, priorities, within, Within}

-- entry p of a column, counted from 1; a missing entry counts as 0
abbrev pub entry : List ℕ → ℕ → ℕ
entry h p = slice_index (0 ∷ h) p

-- the column with q as entry p
abbrev pub put : List ℕ → ℕ → ℕ → List ℕ
put h p q = slice_set h (p - 1) q

-- row b blocks row i: it is less urgent, and its threshold is from 1 to i
abbrev pub blocks : List ℕ → ℕ → ℕ → Bool
blocks h b i = nat_lt i b && (nat_le b priorities && within i (entry h b))

-- b is 0, which stands for no blocker, or a row that blocks row i
abbrev pub may_block : List ℕ → ℕ → ℕ → Bool
may_block h b i = b == 0 || blocks h b i

-- q fits at priority p: 0 where there is no row, and otherwise a priority that has a row, from the row's
-- cap to p
abbrev pub fits_row : Table → ℕ → ℕ → Option Figures → Bool
fits_row rows p q None = q == 0
fits_row rows p q (Some f) = is_row (rows q) && (nat_le f.limit q && nat_le q p)

abbrev pub fits_at : Table → ℕ → ℕ → Bool
fits_at rows p q = fits_row rows p q (rows p)

-- the column fits the sheet
abbrev pub Fits : Table → List ℕ → Type 0
Fits rows h = (p : ℕ) → Within priorities p → fits_at rows p (entry h p) ≡ true

-- the column of own priorities: each row's threshold is its own priority
abbrev pub OwnColumn : Table → List ℕ → Type 0
OwnColumn rows h = (p : ℕ) → Within priorities p → entry h p ≡ cond (is_row (rows p)) p 0

-- p is the first priority at which the column does not fit
pub record Misfit (rows : Table) (h : List ℕ) (p : ℕ) : Type 0 where
  pub among : Within priorities p
  pub fails : fits_at rows p (entry h p) ≡ false
  pub first : (q : ℕ) → Within priorities q → q < p → fits_at rows q (entry h q) ≡ true

-- None where the column fits, and otherwise the first priority at which it does not
abbrev pub FirstMisfit : Table → List ℕ → Option ℕ → Type 0
FirstMisfit rows h None = Fits rows h
FirstMisfit rows h (Some p) = Misfit rows h p

-- What a column is answered: accepted where it fits, 1 where it has under 32 entries, and otherwise 8 at the
-- first priority where it does not fit.
abbrev pub ColumnAnswer : Table → List ℕ → Option Fault → Type 0
ColumnAnswer rows h None = (priorities ≤ length h) × Fits rows h
ColumnAnswer rows h (Some e) =
    ((length h < priorities) × (e ≡ fault 1 0)) ⊎ ((priorities ≤ length h) × Misfit rows h e.place × (e.number ≡ 8))
