use Rattle.blocks.specs.declared.footprint.Footprint.{Footprint}
use Rattle.blocks.specs.Footprints.{Nested, no_footprint}
use Rattle.blocks.proofs.Maps.{each_put}
use Rattle.blocks.proofs.map.BlockMap.footprint.Goals as goal

pub invariant_of-self : goal.invariant_of-self
invariant_of-self c =
    let f : Footprint = record { evicting = c.args.evicting; useful = c.args.useful } in
    record {
      small = c.args.self.now.small;
      nested = λ k. each_put Nested c.args.self.now.footprints f no_footprint c.in_ok-k.k k c.in_default.ensures (c.args.self.now.nested k);
    }
