use Rattle.std.proofs.Common.{◌≡◌, ◌≤◌, List, length, drop, sym, ◌∙◌, subst, arith}
use Rattle.std.proofs.lemmas.List.{take_all, take_at}
use Rattle.theory.specs.History.{Replayed}
use Rattle.sheet.specs.Views.{table_of}
use Rattle.history.specs.Calls.{Answer, edits_of, faults_in}
use Rattle.history.proofs.replay.Goals as goal

-- the list is as long as the calls, so its front is the whole
pub returns : goal.returns
returns c =
    let calls = c.args.calls.now in
    let last = c.make_calls-sheet.new.answers in
    let len = c.in_ok-answers.answers.len in
    let same : length last ≡ len = omega arith in
    let few : length last ≤ length calls = omega (arith, c.in_ok-answers.ensures.len) in
    let rest = drop (length last) c.in_ok-answers.answers.items in
    subst (λ (l : List Answer). Replayed (edits_of calls) (faults_in l) (table_of c.make_calls-sheet.result))
    (take_all (length calls) last few ∙ sym (take_at last rest len same)) c.make_calls-sheet.ensures.replays
