use Rattle.std.proofs.Common.{◌∙◌, arith}
use Rattle.names.specs.Timings.{timing_of}
use Rattle.theory.proofs.Arrivals.{before_ceil, before-le}
use Rattle.response.proofs.ticks.releases_before.Goals as goal

pub returns : goal.returns
returns c =
    let row = c.args.row.now in
    let value = c.div_ceil.ensures ∙ before_ceil (timing_of row.timing) row.apart c.args.x in
    let least = before-le (timing_of row.timing) row.apart c.args.x in
    record { value = omega (arith, value, least); bound = omega (arith, value, least) }
