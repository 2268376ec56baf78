use Rattle.std.proofs.Common.{refl, ◌∙◌}
use Rattle.delay.specs.Reckonings.{among_size}
use Rattle.delay.proofs.Unions.{intersection_same, size_same}
use Rattle.delay.proofs.map_model.MapModel.useful_among.Goals as goal

pub returns : goal.returns
unfolding among_size
returns c =
    c.size.ensures ∙ size_same _ _ c.intersection.ensures ∙ size_same _ _ (intersection_same _ _ _ _ c.useful.ensures.value (λ s l. refl))
