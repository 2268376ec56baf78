use Rattle.std.proofs.Common.{◌*◌, ◌≤◌, sym, ◌∙◌, ap₂, arith}
use Rattle.std.proofs.lemmas.Nat.{mul-le}
use Rattle.std.proofs.lemmas.Bool.{cond-true}
use Rattle.theory.specs.Sets.{cache_sets}
use Rattle.theory.specs.Blocks.{reload_top}
use Rattle.theory.specs.Delays.{affected, asked}
use Rattle.theory.proofs.Charging.{lost_same}
use Rattle.blocks.specs.Views.{blocks_of}
use Rattle.delay.specs.Blockers.{blocker_of}
use Rattle.delay.specs.Reckonings.{lost_by}
use Rattle.delay.specs.RowSets.{in_rows}
use Rattle.delay.specs.Keeping.{keeps}
use Rattle.delay.proofs.map_model.MapModelDelayModel.charge_of.Goals as goal

pub overflow_mul-result : goal.overflow_mul-result
overflow_mul-result c =
    let m = c.args.self.now in
    let few = (keeps m.reckoning).few (blocks_of m.map) c.args.question.now.preempting.0 (in_rows c.affected_rows-rows.result) in
    let lost-few : c.lost.result ≤ cache_sets = omega (arith, few, c.lost.ensures) in
    omega (arith, mul-le c.from.result c.lost.result reload_top cache_sets (omega arith) lost-few)

pub returns : goal.returns
returns c =
    let m = c.args.self.now in
    let q = c.args.question.now in
    let i = q.pair.row.0 in
    let b = blocker_of q.pair.blocker in
    let j = q.preempting.0 in
    let same = lost_same (lost_by m.reckoning) (keeps m.reckoning) (blocks_of m.map) j (in_rows c.affected_rows-rows.result) (affected i b j q.column.now) c.affected_rows-rows.ensures in
    ap₂ ◌*◌ (c.from.ensures ∙ c.reload.ensures.value) (c.lost.ensures ∙ same) ∙ sym (cond-true (asked i b j) _ _ (sym c.if-not-in_range.ensures))
