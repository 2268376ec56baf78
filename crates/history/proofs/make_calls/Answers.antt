use Rattle.std.proofs.Common.{◌≡◌, ℕ, ◌+◌, ◌<◌, length, take, set, ◌∙◌, subst, arith}
use Rattle.std.proofs.lemmas.List.{take_more_set, drop-set-lt}
use Rattle.theory.specs.History.{Replayed}
use Rattle.sheet.specs.Views.{table_of}
use Rattle.history.specs.Calls.{edits_of, faults_in}
use Rattle.history.proofs.Replaying.{one_more, all_made}
use Rattle.history.proofs.make_calls.Goals as goal

pub loop-i-preserved : goal.loop-i-preserved
loop-i-preserved c =
    let calls = c.args.calls.now in
    let i = c.loop-i.i in
    let answers = c.loop-i.answers in
    let a = c.apply.result in
    let here : i < length calls = omega arith in
    let fits : i < length answers = omega arith in (
      one_more calls i _ (take i answers) (take (i + 1) (set answers i a)) a (table_of c.loop-i.sheet) (table_of c.apply.new.sheet)
          here c.loop-i.invariant.0 c.apply.ensures (take_more_set answers i a fits),
      drop-set-lt (length calls) answers i a here ∙ c.loop-i.invariant.1,
    )

pub returns : goal.returns
returns c =
    let calls = c.args.calls.now in
    let all : c.loop-i.i ≡ length calls = omega arith in
    record {
      replays =
          subst (λ (k : ℕ). Replayed (edits_of calls) (faults_in (take k c.loop-i.answers)) (table_of c.loop-i.sheet)) all
          (all_made calls c.loop-i.i (take c.loop-i.i c.loop-i.answers) (table_of c.loop-i.sheet) all c.loop-i.invariant.0);
      rest = c.loop-i.invariant.1;
    }
