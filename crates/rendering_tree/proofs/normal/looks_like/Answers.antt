use Rattle.std.proofs.Common.{◌∙◌}
use Rattle.std.proofs.lemmas.Bool.Decides.{same_from_decides}
use Rattle.rendering_taxonomy.specs.Formats.{looks_like}
use Rattle.rendering_taxonomy.specs.contracts.formatting.FormattingPartialEq.TheImpl as formatting
use Rattle.rendering_taxonomy.proofs.Indices.{Decides-formattings, Decides-looks_like}
use Rattle.rendering_tree.proofs.normal.looks_like.Goals as goal

pub returns : goal.returns
returns c =
    let one = c.args.one in
    let other = c.args.other in
    c.eq.ensures ∙ same_from_decides (formatting.ghosts.eq one other) (looks_like one other) (Decides-formattings one other) (Decides-looks_like one other)
