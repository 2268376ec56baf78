use Rattle.std.proofs.Common.{Bool, ◌&&◌, ap, ◌∙◌, arith}
use Rattle.blocks.specs.Members.{bit}
use Rattle.blocks.proofs.Bitwise.{bit-and, bit_not}
use Rattle.blocks.proofs.sets.left_of.Goals as goal

pub returns : goal.returns
returns c t l =
    bit-and c.args.word _ t ∙ ap (λ (v : Bool). bit c.args.word t && v) (bit_not 64 c.args.other t (omega arith) l)
