use Rattle.std.proofs.Common.{◌∙◌}
use Rattle.rendering_tree.specs.Views.{tree_view}
use Rattle.driver_citations.proofs.ContentsTokens.{content_is}
use Rattle.driver_citations.proofs.contents.has_content.Goals as goal

pub returns : goal.returns
returns c = c.children_have_content.ensures ∙ content_is (tree_view c.args.parts.now)
