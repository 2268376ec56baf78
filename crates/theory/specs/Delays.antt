-- Delay models in plain figures: charges, affected rows, and the two laws of every model.
use Rattle.std.specs.Prelude.{◌≡◌, ℕ, zero, suc, ◌+◌, ◌≤◌, min, Bool, false, cond, ◌&&◌, ◌||◌, List, ◌==◌, nat_le, nat_lt}
use Rattle.theory.specs.Columns.{entry}
use Rattle.theory.specs.Figures.{priorities, within, Within}

-- What a delay model is: from the row judged i, its blocker b (0 for none), a pre-empting row j and a column
-- to a charge, the ticks lost to reloads for each job of j.
abbrev pub Charge : Type 0
Charge = ℕ → ℕ → ℕ → List ℕ → ℕ

-- the greatest charge, which means "too much"
abbrev pub too_much : ℕ
too_much = 1048575

-- the question is in range: i and j are priorities, and b is one or 0
abbrev pub asked : ℕ → ℕ → ℕ → Bool
asked i b j = within priorities i && (nat_le b priorities && within priorities j)

-- row j can pre-empt a started job of row k
abbrev pub preempts : List ℕ → ℕ → ℕ → Bool
preempts h j k = nat_lt j (entry h k)

-- row k is affected: j can pre-empt it, and it is i, a more urgent row than i, or the blocker
abbrev pub affected : ℕ → ℕ → ℕ → List ℕ → ℕ → Bool
affected i b j h k = preempts h j k && (nat_le k i || k == b)

-- some number from 1 to n passes the test
unfoldable pub some_to : (ℕ → Bool) → ℕ → Bool
some_to test zero = false
some_to test (suc n) = test (suc n) || some_to test n

-- some priority passes the test
abbrev pub some_row : (ℕ → Bool) → Bool
some_row test = some_to test priorities

-- the two columns are 0 at the same priorities
abbrev pub SameZeros : List ℕ → List ℕ → Type 0
SameZeros g h = (p : ℕ) → Within priorities p → (entry g p ≡ 0 → entry h p ≡ 0) × (entry h p ≡ 0 → entry g p ≡ 0)

-- two columns with the same zeros, of which the first has no greater number at 1 to i and at b
pub record NoGreater (i b : ℕ) (g h : List ℕ) : Type 0 where
  pub zeros : SameZeros g h
  pub above : (p : ℕ) → Within i p → entry g p ≤ entry h p
  pub blocker : entry g b ≤ entry h b

-- two columns with the same zeros, and with equal numbers at 1 to i and at b
pub record Alike (i b : ℕ) (g h : List ℕ) : Type 0 where
  pub zeros : SameZeros g h
  pub above : (p : ℕ) → Within i p → entry g p ≡ entry h p
  pub blocker : entry g b ≡ entry h b

-- the two laws of a delay model
pub record Lawful (c : Charge) : Type 0 where
  pub monotone : (i b j : ℕ) (g h : List ℕ) → NoGreater i b g h → c i b j g ≤ c i b j h
  pub bounded : (i b j : ℕ) (h : List ℕ) → c i b j h ≤ too_much

-- the most ticks that a switch costs
abbrev pub switch_top : ℕ
switch_top = 4095

-- the charge of the model below and the cost w of a switch when some row is affected, and at most too much
abbrev pub switched : ℕ → Charge → Charge
switched w c i b j h =
    cond (asked i b j) (min (c i b j h + cond (some_row (affected i b j h)) w 0) too_much) 0
