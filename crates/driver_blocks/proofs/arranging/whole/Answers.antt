use Rattle.std.proofs.Common.{◌≡◌, [], ◌∷◌, map, sym, ap, ◌∙◌, Vec}
use Rattle.std.proofs.lemmas.Result.{IfOk-weaker}
use Rattle.std.specs.Global.{Global}
use Rattle.driver_blocks.specs.Collapsing.{arranged}
use Rattle.driver_blocks.specs.Views.{arranged_view, gathered_view}
use Rattle.driver_blocks.specs.declared.cite.Arranged.{Arranged}
use Rattle.driver_blocks.proofs.Alone.{arranged_alone}
use Rattle.driver_blocks.proofs.arranging.whole.Goals as goal

pub returns : goal.returns
returns c = λ k has_purpose.
    IfOk-weaker c.one.result (λ (v : Vec Arranged Global). v.items ≡ c.uncollapsed.result ∷ []) (λ (v : Vec Arranged Global). map (arranged_view k) v.items ≡ arranged k has_purpose (gathered_view c.args.cite ∷ []))
    (λ v is. ap (map (arranged_view k)) (is ∙ ap (λ (a : Arranged). a ∷ []) c.uncollapsed.ensures) ∙ sym (arranged_alone k (gathered_view c.args.cite) has_purpose)) c.one.ensures
