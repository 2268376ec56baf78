use Rattle.std.proofs.Common.{sum_by, sym, ap, ◌∙◌, arith, take_all}
use Rattle.std.proofs.lemmas.List.Sums.{sum_by_more}
use Rattle.response.specs.Ticks.{source_ticks, ticks_of}
use Rattle.response.proofs.ticks.ticks.Goals as goal

pub loop-source-preserved : goal.loop-source-preserved
unfolding source_ticks
loop-source-preserved c =
    let item = c.source-item in
    let step = sum_by_more (source_ticks c.args.x) c.args.sources.now c.loop-source.source-index item.result (omega arith) in
    let one = ap (source_ticks c.args.x) (sym item.is) in
    let done = c.ticks-sum.ensures in
    omega (arith, step, one, done.value, done.bound, c.loop-source.invariant.0, c.loop-source.invariant.1)

pub returns-clause-value : goal.returns-clause-value
unfolding ticks_of
returns-clause-value c = c.loop-source.invariant.0 ∙ ap (sum_by (source_ticks c.args.x)) (take_all c.loop-source.source-index c.args.sources.now (omega arith))
