-- What a line of text says: nothing, a call, or a mistake.
use Rattle.std.specs.Prelude.{ℕ, cond, List, [], ◌∷◌, map, drop, Some, None, Ok, Err, codes, Option, Result}
use Rattle.std.specs.List.{filter_map}
use Rattle.std.specs.Str.{bytes_eq}
use Rattle.history.specs.declared.call.Call.{Call}
use Rattle.history.specs.declared.call.Call.TheVariants.{Enter, Strike, Cap}
use Rattle.script.specs.declared.line.Mistake.{Mistake}
use Rattle.script.specs.declared.line.Mistake.TheVariants.{UnknownCall, TooFewArguments, TooManyArguments, Argument}
use Rattle.text.specs.declared.NumberFault.{NumberFault}
use Rattle.text.specs.Numbers.{number_in}
use Rattle.text.specs.Text.{lines, words}

-- the greatest numbers that an argument may be
abbrev pub byte_top : ℕ
byte_top = 255

abbrev pub word_top : ℕ
word_top = 4294967295

-- argument k as it was read
abbrev pub numbered : ℕ → Result ℕ NumberFault → Result ℕ Mistake
numbered k (Ok n) = Ok n
numbered k (Err e) = Err (Argument k e)

-- argument k, which is the first of these words, as a number up to top
abbrev pub argument : ℕ → ℕ → List (List ℕ) → Result ℕ Mistake
argument k top [] = Err TooFewArguments
argument k top (w ∷ ws) = numbered k (number_in top w)

-- no word is left
abbrev pub ended : {X : Type 0} → X → List (List ℕ) → Result X Mistake
ended x [] = Ok x
ended x (w ∷ ws) = Err TooManyArguments

-- what is said of a value that was read; a mistake stays
abbrev pub then : {X Y : Type 0} → Result X Mistake → (X → Result Y Mistake) → Result Y Mistake
then (Ok x) f = f x
then (Err e) f = Err e

-- enter PRIORITY RUN-TIME SEPARATION DEADLINE
abbrev pub enter_in : List (List ℕ) → Result Call Mistake
enter_in ws =
    then (argument 1 byte_top ws) λ p.
    then (argument 2 word_top (drop 1 ws)) λ c.
    then (argument 3 word_top (drop 2 ws)) λ t.
    then (argument 4 word_top (drop 3 ws)) λ d.
    ended (Enter (record { 0 = p }) (record { run_time = c; separation = t; deadline = d })) (drop 4 ws)

-- strike PRIORITY
abbrev pub strike_in : List (List ℕ) → Result Call Mistake
strike_in ws =
    then (argument 1 byte_top ws) λ p.
    ended (Strike (record { 0 = p })) (drop 1 ws)

-- cap PRIORITY THRESHOLD
abbrev pub cap_in : List (List ℕ) → Result Call Mistake
cap_in ws =
    then (argument 1 byte_top ws) λ p.
    then (argument 2 byte_top (drop 1 ws)) λ k.
    ended (Cap (record { 0 = p }) (record { 0 = k })) (drop 2 ws)

-- the call that the word v names, with the words that follow it
abbrev pub call_in : List ℕ → List (List ℕ) → Result Call Mistake
call_in v ws =
    cond (bytes_eq v (codes "enter")) (enter_in ws)
    (cond (bytes_eq v (codes "strike")) (strike_in ws)
    (cond (bytes_eq v (codes "cap")) (cap_in ws) (Err UnknownCall)))

-- what a line may say: a call, None where it is blank, or a mistake
abbrev pub Line : Type 0
Line = Result (Option Call) Mistake

abbrev pub said : Result Call Mistake → Line
said (Ok x) = Ok (Some x)
said (Err e) = Err e

abbrev pub line_in : List (List ℕ) → Line
line_in [] = Ok None
line_in (v ∷ ws) = said (call_in v ws)

-- what a line says
abbrev pub line_of : List ℕ → Line
line_of text = line_in (words text)

-- what each line of a text says
abbrev pub script_of : List ℕ → List Line
script_of text = map line_of (lines text)

-- the call that a line says, if it says one
abbrev pub asked : Line → Option Call
asked (Ok x) = x
asked (Err e) = None

-- the calls among lines, in their order
abbrev pub calls_in : List Line → List Call
calls_in ls = filter_map asked ls
