use Rattle.std.proofs.Common.{◌≡◌, [], ◌∷◌, map, sym, ap, ◌∙◌, Vec}
use Rattle.std.proofs.lemmas.Result.{IfOk-weaker}
use Rattle.std.specs.Global.{Global}
use Rattle.rendering_style.specs.Views.{citation_layout_view}
use Rattle.driver_blocks.specs.Collapsing.{arranged}
use Rattle.driver_blocks.specs.Views.{arranged_view, gathered_view}
use Rattle.driver_blocks.specs.declared.cite.Arranged.{Arranged}
use Rattle.driver_blocks.proofs.arranging.arrange.Goals as goal

pub returns-in-Some : goal.returns-in-Some
returns-in-Some c =
    let k = citation_layout_view c.args.style.now in
    IfOk-weaker c.whole.result (λ (v : Vec Arranged Global). map (arranged_view k) v.items ≡ arranged k c.args.has_purpose (gathered_view c.in-Some.cite ∷ [])) (λ (v : Vec Arranged Global). map (arranged_view k) v.items ≡ arranged k c.args.has_purpose (map gathered_view c.args.cites.now))
    (λ v is. is ∙ ap (arranged k c.args.has_purpose) (sym c.in-Some.ensures)) (c.whole.ensures k c.args.has_purpose)
