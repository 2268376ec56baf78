use Rattle.std.proofs.Common.{◌≡◌, ℕ, min, length, length-take, ap, ◌∙◌, arith}
use Rattle.std.proofs.lemmas.Bool.{le-ltb, lt-ltb}
use Rattle.theory.specs.Delays.{preempts}
use Rattle.blocks.specs.Members.{bit}
use Rattle.delay.proofs.RowBits.{past_pre_empts, read_pre_empts, seen_all, seen_no, seen_none, seen_yes}
use Rattle.delay.proofs.rows.RowSet.pre_empted_by.Goals as goal
use Rattle.delay.proofs.rows.RowSet.pre_empted_by.Goals.{then-j-entry, else-j-entry}

pub loop-t-init : goal.loop-t-init
loop-t-init c = seen_none (preempts c.args.column.now c.args.j.0)

pub loop-t-preserved : goal.loop-t-preserved
loop-t-preserved c t =
    let h = c.args.column.now in
    let j = c.args.j.0 in
    let n = c.loop-t.t in
    let few = length-take c.min-known.result h in
    let read = read_pre_empts h j c.min-known.result n c.loop-t-test.true in
    let before = c.loop-t.invariant t in
    elim c.if-j-entry.branch [
      | then-j-entry w ↦
          ap (λ (m : ℕ). bit m t) w.rows-is ∙ seen_yes (preempts h j) c.loop-t.rows n t (omega arith) before (read ∙ lt-ltb j _ w.if-j-entry.true)
      | else-j-entry w ↦
          ap (λ (m : ℕ). bit m t) w.rows-is ∙ seen_no (preempts h j) c.loop-t.rows n t before (read ∙ le-ltb j _ w.if-j-entry.false)
    ]

pub returns : goal.returns
returns c k l =
    let h = c.args.column.now in
    let j = c.args.j.0 in
    let end : c.loop-t.t ≡ min (length h) 32 = omega (arith, length-take c.min-known.result h) in
    seen_all (preempts h j) c.loop-t.rows c.loop-t.t k c.loop-t.invariant (λ past. past_pre_empts h j k (omega arith)) l
