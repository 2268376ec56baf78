use Rattle.std.proofs.Common.{◌≡◌, codes, arith, rules}
use Rattle.std.proofs.lemmas.Slice.Eq.{text_from_reads}
use Rattle.script.proofs.parse.read_call.Goals as goal

pub returns-in-strike : goal.returns-in-strike
returns-in-strike c =
    let name = c.args.name.now in
    let is : name ≡ codes "strike" = text_from_reads name (codes "strike") (omega arith) (search rules) in
    rw is c.read_strike.ensures
