use Rattle.theory.proofs.Decided.{decided}
use Rattle.theory.proofs.calls_decide.Goals as goal

pub returns : goal.returns
returns c = decided
