-- The lines that calls and mistakes are answered with.
use Rattle.std.specs.Prelude.{ℕ, List, ◌++◌, Ok, Err, codes, decimal}
use Rattle.history.specs.declared.call.Call.{Call}
use Rattle.history.specs.declared.call.Call.TheVariants.{Enter, Strike, Cap}
use Rattle.history.specs.Calls.{Answer}
use Rattle.names.specs.Refusals.{fault_of}
use Rattle.script.specs.declared.line.Mistake.{Mistake}
use Rattle.script.specs.declared.line.Mistake.TheVariants.{UnknownCall, TooFewArguments, TooManyArguments, Argument}
use Rattle.text.specs.Numbers.{fault_text}

abbrev pub accepted_text : Call → List ℕ
accepted_text (Enter p w) = codes "entered " ++ decimal p.0
accepted_text (Strike p) = codes "struck " ++ decimal p.0
accepted_text (Cap p k) = codes "capped " ++ (decimal p.0 ++ (codes " at " ++ decimal k.0))

abbrev pub answer_text : Call → Answer → List ℕ
answer_text x (Ok y) = accepted_text x
answer_text x (Err e) = codes "refused " ++ (decimal (fault_of e).number ++ (codes " at " ++ decimal (fault_of e).place))

-- what is wrong with a line
abbrev pub wrong_text : Mistake → List ℕ
wrong_text UnknownCall = codes "not a call; calls begin with enter, strike or cap"
wrong_text TooFewArguments = codes "too few arguments"
wrong_text TooManyArguments = codes "too many arguments"
wrong_text (Argument k e) = codes "argument " ++ (decimal k ++ (codes " is " ++ fault_text e))

-- the message about line n, counted from 1
abbrev pub mistake_text : ℕ → Mistake → List ℕ
mistake_text n e = codes "line " ++ (decimal n ++ (codes ": " ++ wrong_text e))
