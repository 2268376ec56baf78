-- What each line of a script comes to.
use Rattle.std.specs.Prelude.{◌≡◌, ℕ, List, [], ◌∷◌, drop, Some, None, Ok, Err, Option, Result}
use Rattle.std.specs.List.{slice_get}
use Rattle.theory.specs.Figures.{Table}
use Rattle.theory.specs.History.{Replayed}
use Rattle.history.specs.Calls.{Answer, edits_of, faults_in}
use Rattle.script.specs.declared.answer.Answered.{Answered}
use Rattle.script.specs.declared.line.Mistake.{Mistake}
use Rattle.script.specs.Lines.{Line, script_of, calls_in}

-- what a line comes to: a call with its answer, None where it is blank, or a mistake
abbrev pub Reply : Type 0
Reply = Result (Option Answered) Mistake

-- a line's reply, where a is the next answer
abbrev pub reply_for : Line → Option Answer → Reply
reply_for (Ok None) a = Ok None
reply_for (Ok (Some x)) None = Ok None
reply_for (Ok (Some x)) (Some a) = Ok (Some (record { call = x; answer = a }))
reply_for (Err e) a = Err e

-- the answers that are left for the lines after it
abbrev pub left_after : Line → List Answer → List Answer
left_after (Ok None) answers = answers
left_after (Ok (Some x)) answers = drop 1 answers
left_after (Err e) answers = answers

-- the replies to lines, of which those that ask a call have the answers in their order
unfoldable pub replies_for : List Line → List Answer → List Reply
replies_for [] answers = []
replies_for (l ∷ ls) answers = reply_for l (slice_get answers 0) ∷ replies_for ls (left_after l answers)

-- What a run of a script promises: the answers and rows are those of a replay of its calls, and each line has its reply.
pub record Reported (text : List ℕ) (replies : List Reply) (rows : Table) : Type 0 where
  pub answers : List Answer
  pub replayed : Replayed (edits_of (calls_in (script_of text))) (faults_in answers) rows
  pub told : replies ≡ replies_for (script_of text) answers
