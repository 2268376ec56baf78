use Rattle.std.proofs.Common.{List, ℕ, Bor, refl, rules}
use Rattle.std.proofs.lemmas.Iterator.{YieldsList-from_map, items_from_collect}
use Rattle.std.proofs.lemmas.Iterator.Consumers.{YieldsList-from_first, YieldsList-at}
use Rattle.text.specs.Text.{lines}
use Rattle.text.specs.declared.Lines.{Lines}
use Rattle.script.specs.Lines.{line_of}
use Rattle.script.proofs.run.read_lines.Goals as goal

pub returns : goal.returns
returns c =
    items_from_collect _ c.collect.ensures.ran
    (YieldsList-from_map _ line_of
    (YieldsList-at c.map.ensures.source (YieldsList-from_first (λ (x : Bor (List ℕ)). x.now) (λ (s : Lines). lines s.0.now) (lines c.args.text.now) refl))
    c.map.ensures.closure (λ x r q k. search rules))
