-- A word as a number.
use Rattle.std.specs.Prelude.{ℕ, cond, List, Ok, Err, Result, codes, nat_le}
use Rattle.text.specs.declared.NumberFault.{NumberFault}
use Rattle.text.specs.declared.NumberFault.TheVariants.{NotDigits, AboveTop}
use Rattle.text.specs.Text.{all_digits, spelled}

-- the number that the digits of a word spell, if it has only digits and the number is not above top
abbrev pub number_in : ℕ → List ℕ → Result ℕ NumberFault
number_in top w = cond (all_digits w) (cond (nat_le (spelled 0 w) top) (Ok (spelled 0 w)) (Err AboveTop)) (Err NotDigits)

-- what is wrong with a word that is not read
abbrev pub fault_text : NumberFault → List ℕ
fault_text NotDigits = codes "not a whole number"
fault_text AboveTop = codes "too large"
