use Rattle.std.proofs.Common.{◌-◌, refl, arith}
use Rattle.std.proofs.lemmas.Bool.{and_right}
use Rattle.blocks.proofs.Maps.{default_bare, fresh_bare, fresh_nested}
use Rattle.blocks.proofs.map.BlockMap.new.Goals as goal

pub invariant_of-result : goal.invariant_of-result
invariant_of-result c = record { small = omega arith; nested = fresh_nested _ (default_bare _ c.default-none.ensures) }

pub returns : goal.returns
returns c =
    let bare = fresh_bare _ (default_bare _ c.default-none.ensures) in (
      omega arith,
      record {
        reload = refl;
        evicting = λ p s l. and_right _ _ ((bare (p - 1)).evicting s l);
        useful = λ p s l. and_right _ _ ((bare (p - 1)).useful s l);
      },
    )
