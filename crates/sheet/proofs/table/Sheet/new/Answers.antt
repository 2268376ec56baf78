use Rattle.std.proofs.Common.{None, Option, ap}
use Rattle.sheet.specs.declared.row.Row.{Row}
use Rattle.sheet.specs.Caps.{cap_fits}
use Rattle.sheet.proofs.Fresh.{get_or_same, no_row}
use Rattle.sheet.proofs.table.Sheet.new.Goals as goal

pub invariant_of-result : goal.invariant_of-result
invariant_of-result c = record { caps = λ k. ap (λ (o : Option Row). cap_fits k o) (get_or_same None 32 k) }

pub returns : goal.returns
returns c p = no_row p
