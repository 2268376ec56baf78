-- Lines, words and numbers in a text, which is a list of bytes.
use Rattle.std.specs.List.{list_all, fold}
use Rattle.std.specs.Prelude.{ℕ, ◌+◌, ◌-◌, ◌*◌, Bool, false, cond, not, ◌&&◌, ◌||◌, List, [], ◌∷◌, ◌==◌, nat_le}

abbrev pub line_end : ℕ → Bool
line_end b = b == 10

-- the lines of a text, each up to its line end; what follows the last of them is a line if it is not empty
unfoldable pub in_front : ℕ → List (List ℕ) → List (List ℕ)
in_front b [] = (b ∷ []) ∷ []
in_front b (l ∷ ls) = (b ∷ l) ∷ ls

unfoldable pub lines : List ℕ → List (List ℕ)
lines [] = []
lines (b ∷ bs) = cond (line_end b) ([] ∷ lines bs) (in_front b (lines bs))

-- a space, a tab or a carriage return
abbrev pub blank : ℕ → Bool
blank b = b == 32 || (b == 9 || b == 13)

-- '#' begins a comment, which ends with the line
abbrev pub hash : ℕ → Bool
hash b = b == 35

-- a byte of a word
abbrev pub wordy : ℕ → Bool
wordy b = not (blank b || hash b)

-- the text goes on with a byte of a word
abbrev pub goes_on : List ℕ → Bool
goes_on [] = false
goes_on (b ∷ bs) = wordy b

-- the words of a line: its longest runs of bytes that are neither blanks nor in a comment
unfoldable pub words : List ℕ → List (List ℕ)
words [] = []
words (b ∷ bs) = cond (hash b) [] (cond (blank b) (words bs) (cond (goes_on bs) (in_front b (words bs)) ((b ∷ []) ∷ words bs)))

-- a decimal digit, and whether a word has only those
abbrev pub digit : ℕ → Bool
digit b = nat_le 48 b && nat_le b 57

abbrev pub all_digits : List ℕ → Bool
all_digits w = list_all digit w

-- the number that digits spell after those that spell n
unfoldable pub spelled : ℕ → List ℕ → ℕ
spelled n ds = fold (λ m b. m * 10 + (b - 48)) n ds
