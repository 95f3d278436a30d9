use Rattle.std.proofs.Common.{◌∷◌, [], map, ap, ◌∙◌}
use Rattle.std.proofs.lemmas.List.{map-append}
use Rattle.rendering_tree.specs.Views.{tree_view}
use Rattle.driver_citations.proofs.StandaloneSteps.{no_content, some_content}
use Rattle.driver_citations.proofs.standalone.push_content.Goals as goal

pub returns-then-not-has_content : goal.returns-then-not-has_content
returns-then-not-has_content c = no_content (tree_view c.args.printed) c.has_content.result (map tree_view c.args.trees.now.items) c.has_content.ensures c.if-not-has_content.true

pub returns : goal.returns
returns c =
    some_content (tree_view c.args.printed) c.has_content.result (map tree_view c.args.trees.now.items) (map tree_view c.push.new.self.items) c.has_content.ensures c.if-not-has_content.false
    (ap (map tree_view) c.in_ok-push.ensures.items ∙ map-append tree_view c.args.trees.now.items (c.args.printed ∷ []))
