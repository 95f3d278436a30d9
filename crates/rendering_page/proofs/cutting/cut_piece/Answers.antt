use Rattle.std.proofs.Common.{ap, ◌∙◌}
use Rattle.rendering_tree.specs.Tokens.{without_letters}
use Rattle.rendering_page.specs.Views.{with_piece}
use Rattle.rendering_page.proofs.CutsEnds.{cut_letters}
use Rattle.rendering_page.proofs.cutting.cut_piece.Goals as goal

pub returns-in-Text : goal.returns-in-Text
returns-in-Text c ts = ap (λ p. without_letters c.args.count (with_piece ts p)) c.in-Text.is ∙ cut_letters _ _ _ c.cut.ensures.0 _ _ ts c.cut.ensures.1
