use Rattle.std.proofs.Common.{rules, ◌≡◌, ◌∙◌, IfOk, Vec, map}
use Rattle.std.proofs.lemmas.Result.{IfOk-weaker}
use Rattle.std.specs.Global.{Global}
use Rattle.rendering_style.specs.Styles.{Citation}
use Rattle.rendering_style.specs.Views.{citation_layout_view}
use Rattle.driver_blocks.specs.Collapsing.{collapsed, years_collapsed}
use Rattle.driver_blocks.specs.Views.{arranged_view, blocks_view}
use Rattle.driver_blocks.specs.declared.cite.Arranged.{Arranged}
use Rattle.driver_blocks.proofs.arranging.collapse.Goals as goal

-- src/arranging.rt:43:1
pub returns-in-Some : goal.returns-in-Some
returns-in-Some c =
    let k = citation_layout_view c.args.style.now in
    let bs = blocks_view c.args.blocks.now in
    let years : years_collapsed k k.repeats_no_years c.in-Some.mode bs ≡ collapsed k c.args.mode bs = search rules in
    IfOk-weaker c.collapse_years.result
    (λ (v : Vec Arranged Global). (s : Citation) → map (arranged_view s) v.items ≡ years_collapsed s k.repeats_no_years c.in-Some.mode bs)
    (λ (v : Vec Arranged Global). map (arranged_view k) v.items ≡ collapsed k c.args.mode bs)
    (λ v is. is k ∙ years) c.collapse_years.ensures
