use Rattle.std.proofs.Common.{◌≡◌, ℕ, ◌+◌, min, length, length-take, take, get_or, leb, ltb, eqb, ◌&&◌, ◌||◌, sym, refl, ap, ap₂, ◌∙◌, arith, rules}
use mathlib.Core.Bool.{and_comm}
use Rattle.std.proofs.lemmas.Bool.{and_left}
use Rattle.theory.specs.Delays.{affected, some_to}
use Rattle.delay.specs.Blockers.{blocker_of}
use Rattle.delay.proofs.Passing.{some_more, some_past}
use Rattle.delay.proofs.RowBits.{past_pre_empts, read_pre_empts}
use Rattle.delay.proofs.question.Question.any_affected.Goals as goal

pub loop-t-init : goal.loop-t-init
unfolding some_to
loop-t-init c = refl

pub loop-t-preserved : goal.loop-t-preserved
loop-t-preserved c =
    let q = c.args.self.now in
    let i = q.pair.row.0 in
    let j = q.preempting.0 in
    let b = blocker_of q.pair.blocker in
    let n = c.loop-t.t in
    let few = length-take c.min-known.result q.column.now in
    let blocker : c.map_or-b.result ≡ b = search rules in
    let read = read_pre_empts q.column.now j c.min-known.result n c.loop-t-test.true in
    let judged = leb (n + 1) i || eqb (n + 1) c.map_or-b.result in
    let passed = ltb j (get_or (take c.min-known.result q.column.now) n 0) in
    let same = ap (λ (m : ℕ). leb (n + 1) i || eqb (n + 1) m) blocker in
    some_more (affected i b j q.column.now) n c.loop-t.some (judged && passed) c.loop-t.invariant (and_comm judged passed ∙ ap₂ ◌&&◌ (sym read) same)

pub returns : goal.returns
returns c =
    let q = c.args.self.now in
    let h = q.column.now in
    let end : c.loop-t.t ≡ min (length h) 32 = omega (arith, length-take c.min-known.result h) in
    c.loop-t.invariant
    ∙ some_past (affected q.pair.row.0 (blocker_of q.pair.blocker) q.preempting.0 h) c.loop-t.t 32 (omega arith) (λ k past few. and_left _ _ (past_pre_empts h q.preempting.0 k (omega arith)))
