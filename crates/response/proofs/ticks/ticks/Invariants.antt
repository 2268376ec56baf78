use Rattle.std.proofs.Common.{◌≡◌, ◌*◌, ◌≤◌, take, sum_by}
use Rattle.response.specs.Ticks.{source_ticks}
use Rattle.response.proofs.ticks.ticks.Given as goal

abbrev pub invariant-loop-source : goal.invariant-loop-source
invariant-loop-source l = (l.sum ≡ sum_by (source_ticks l.x) (take l.source-index l.sources)) × (l.sum ≤ l.source-index * 76561185057538050)
