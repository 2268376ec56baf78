-- Sets of the cache's sets as the bits of four words.
use Rattle.std.specs.Prelude.{ℕ, ◌/◌, ◌%◌, ◌^◌, Bool, true, false, ◌||◌, List, [], ◌∷◌, ◌==◌, slice_index}
use Rattle.theory.specs.Sets.{Sets}
use Rattle.blocks.specs.declared.sets.CacheSets.{CacheSets}

-- bit t of n
unfoldable pub bit : ℕ → ℕ → Bool
bit n t = n / 2 ^ t % 2 == 1

-- set s is bit s mod 64 of word s div 64
unfoldable pub in_words : List ℕ → Sets
in_words words s = bit (slice_index words (s / 64)) (s % 64)

abbrev pub has : CacheSets → Sets
has x = in_words x.words

abbrev pub no_sets : Sets
no_sets s = false

abbrev pub all_sets : Sets
all_sets s = true

-- x and the set s
abbrev pub plus : Sets → ℕ → Sets
plus x s t = t == s || x t

-- s is in the list
unfoldable pub listed : List ℕ → Sets
listed [] s = false
listed (x ∷ xs) s = s == x || listed xs s
