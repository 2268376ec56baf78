-- Sets of the cache's sets, by membership: size, union and what lies outside.
use Rattle.std.specs.Prelude.{◌≡◌, ℕ, zero, suc, ◌+◌, ◌<◌, max, Bool, true, false, cond, ◌&&◌, ◌||◌, Some, None, Option}
use Rattle.theory.specs.Delays.{some_row}
use Rattle.theory.specs.Figures.{priorities}

-- the cache has the sets 0 to 255
abbrev pub cache_sets : ℕ
cache_sets = 256

-- some of the cache's sets, by membership
abbrev pub Sets : Type 0
Sets = ℕ → Bool

-- the same of the cache's sets are in x and in y
abbrev pub SameSets : Sets → Sets → Type 0
SameSets x y = (s : ℕ) → s < cache_sets → x s ≡ y s

-- every set below n that is in x is in y
abbrev pub Inside : ℕ → Sets → Sets → Type 0
Inside n x y = (s : ℕ) → s < n → x s ≡ true → y s ≡ true

-- None where all of x is in y, and otherwise the first set of x that is not
abbrev pub FirstOutside : Sets → Sets → Option ℕ → Type 0
FirstOutside x y None = Inside cache_sets x y
FirstOutside x y (Some s) = (s < cache_sets) × (x s ≡ true) × (y s ≡ false) × Inside s x y

-- how many numbers below n are in x
unfoldable pub count_below : Sets → ℕ → ℕ
count_below x zero = 0
count_below x (suc n) = count_below x n + cond (x n) 1 0

abbrev pub size : Sets → ℕ
size x = count_below x cache_sets

-- the sets that are in both, and those that are in one or both
unfoldable pub intersection : Sets → Sets → Sets
intersection x y s = x s && y s

unfoldable pub union : Sets → Sets → Sets
union x y s = x s || y s

-- s is in x k, and k passes the test
unfoldable pub in_one : (ℕ → Bool) → (ℕ → Sets) → ℕ → ℕ → Bool
in_one test x s k = test k && x k s

-- the union of x k over the priorities k that pass the test
unfoldable pub union_over : (ℕ → Bool) → (ℕ → Sets) → Sets
union_over test x s = some_row (in_one test x s)

-- f k where k passes the test, and 0 elsewhere
unfoldable pub counted : (ℕ → Bool) → (ℕ → ℕ) → ℕ → ℕ
counted test f k = cond (test k) (f k) 0

-- the largest of f 1 to f n, 0 where n is 0
unfoldable pub largest_to : (ℕ → ℕ) → ℕ → ℕ
largest_to f zero = 0
largest_to f (suc n) = max (largest_to f n) (f (suc n))

-- the largest f k over the priorities k that pass the test, 0 where none does
abbrev pub largest : (ℕ → Bool) → (ℕ → ℕ) → ℕ
largest test f = largest_to (counted test f) priorities
