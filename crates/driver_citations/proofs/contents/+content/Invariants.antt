use Rattle.std.proofs.Common.{◌≡◌, drop}
use Rattle.rendering_tree.specs.Views.{children_view}
use Rattle.driver_citations.specs.Contents.{children_have_content}
use Rattle.driver_citations.proofs.contents.+content.Given as goal

abbrev pub invariant-children_have_content-loop-part : goal.invariant-children_have_content-loop-part
invariant-children_have_content-loop-part l = children_have_content (children_view (drop l.part-index l.parts.0.items)) ≡ children_have_content (children_view l.parts.0.items)
