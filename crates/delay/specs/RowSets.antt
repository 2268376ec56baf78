-- Sets of rows as the bits of a word.
use Rattle.std.specs.Prelude.{ℕ, zero, suc, ◌-◌, Bool, cond, ◌&&◌, List, [], ◌∷◌, ◌++◌}
use Rattle.theory.specs.Figures.{priorities, within}
use Rattle.blocks.specs.Members.{bit}
use Rattle.delay.specs.declared.rows.RowSet.{RowSet}

-- row k, which is from 1 to 32, is bit k - 1
abbrev pub in_rows : RowSet → ℕ → Bool
in_rows r k = within priorities k && bit r.0 (k - 1)

-- the numbers from 1 to n that pass the test, in order
unfoldable pub passing_to : (ℕ → Bool) → ℕ → List ℕ
passing_to test zero = []
passing_to test (suc n) = cond (test (suc n)) (passing_to test n ++ suc n ∷ []) (passing_to test n)

-- the rows of a set, the most urgent first
abbrev pub rows_left : RowSet → List ℕ
rows_left r = passing_to (in_rows r) priorities
