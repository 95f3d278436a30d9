use Rattle.std.proofs.Common.{false, sym, ap, ◌∙◌}
use Rattle.std.specs.Option.{option_map, option_map_or}
use Rattle.rendering_tree.specs.Metas.{is_meta}
use Rattle.rendering_tree.specs.Views.{meta_view}
use Rattle.rendering_tree.specs.contracts.element.ElemMetaPartialEq.TheImpl as meta
use Rattle.rendering_tree.proofs.ViewsEquality.{agreed, Shows-ElemMeta}
use Rattle.rendering_tree.proofs.SameDecided.{Decides-is_meta}
use Rattle.rendering_tree.proofs.find.stands_for.Goals as goal

pub returns-in-Some : goal.returns-in-Some
returns-in-Some c =
    let asked = c.args.meta.now in
    let own = c.in-Some.own in
    c.eq.ensures
    ∙ agreed (meta.ghosts.eq asked own) (is_meta (meta_view asked) (meta_view own)) (Shows-ElemMeta asked own) (Decides-is_meta (meta_view asked) (meta_view own))
    ∙ ap (λ o. option_map_or (is_meta (meta_view asked)) (option_map meta_view o) false) (sym c.in-Some.is)
