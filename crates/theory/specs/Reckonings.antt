-- Charges that are reckoned from a block map.
use Rattle.std.specs.Prelude.{ℕ, ◌*◌, ◌≤◌, Bool, cond, List, nat_le}
use Rattle.theory.specs.Blocks.{Blocks}
use Rattle.theory.specs.Delays.{Charge, affected, asked, some_row}
use Rattle.theory.specs.Sets.{largest, intersection, size, union_over}

-- How many blocks one job of row j makes the affected rows load again, by four reckonings.
abbrev pub Reckoned : Type 0
Reckoned = Blocks → ℕ → (ℕ → Bool) → ℕ

-- E: the blocks of j, when some row is affected
abbrev pub lost_e : Reckoned
lost_e m j rows = cond (some_row rows) (size (m.evicting j)) 0

-- U: the most blocks that one affected row uses again
unfoldable pub useful_size : Blocks → ℕ → ℕ
useful_size m k = size (m.useful k)

abbrev pub lost_u : Reckoned
lost_u m j rows = largest rows (useful_size m)

-- V: the blocks that some affected row uses again, of those that j evicts
abbrev pub lost_v : Reckoned
lost_v m j rows = size (intersection (union_over rows m.useful) (m.evicting j))

-- p is j, or more urgent
abbrev pub up_to : ℕ → ℕ → Bool
up_to j p = nat_le p j

-- X: the most blocks that one affected row uses again, of those that j and the rows above it evict
unfoldable pub met_size : Blocks → ℕ → ℕ → ℕ
met_size m j k = size (intersection (m.useful k) (union_over (up_to j) m.evicting))

abbrev pub lost_x : Reckoned
lost_x m j rows = largest rows (met_size m j)

-- the charge of a reckoning: the reload time for each lost block
abbrev pub reloads : Reckoned → Blocks → Charge
reloads lost m i b j h = cond (asked i b j) (m.reload * lost m j (affected i b j h)) 0

-- V never charges more than E, and X never more than U
abbrev pub Sharper : Blocks → Type 0
Sharper m =
    (i b j : ℕ) (h : List ℕ) → (reloads lost_v m i b j h ≤ reloads lost_e m i b j h) × (reloads lost_x m i b j h ≤ reloads lost_u m i b j h)
