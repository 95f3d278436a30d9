use Rattle.std.proofs.Common.{◌≡◌, map, ap, ◌∙◌}
use Rattle.std.proofs.lemmas.Result.{IfOk-weaker}
use Rattle.rendering_style.specs.Views.{citation_layout_view}
use Rattle.driver_blocks.specs.Collapsing.{arranged}
use Rattle.driver_blocks.specs.Views.{arranged_view, gathered_view}
use Rattle.driver.specs.FinalPrints.{nameless}
use Rattle.driver.proofs.final_prints.arranged_cites.Goals as goal

pub returns : goal.returns
returns g c =
    let style = citation_layout_view c.args.printing.style.now in
    IfOk-weaker c.without_names.result (λ v. map (arranged_view style) v.items ≡ map nameless (map (arranged_view style) c.deref-2.result.now)) _
    (λ v h. h
    ∙ ap (map nameless) (ap (map (arranged_view style)) c.deref-2.ensures.value ∙ c.in_ok-arranged.ensures ∙ ap (λ gs. arranged style c.args.some_purpose (map gathered_view gs)) c.deref.ensures.value ∙ ap (arranged style c.args.some_purpose) c.in_ok-gathered.ensures))
    (c.without_names.ensures style)
