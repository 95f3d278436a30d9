use Rattle.std.proofs.Common.{◌≡◌, List, get_or, length, sym, ap, subst, ◌∙◌}
use Rattle.std.proofs.lemmas.List.{length-map}
use Rattle.biblatex_text.specs.Views.{field_view}
use Rattle.biblatex_fields.specs.declared.openings.Opening.{Opening}
use Rattle.biblatex_fields.specs.Abbreviations.{Glossary}
use Rattle.biblatex_fields.specs.Openings.{AreOpenings}
use Rattle.biblatex_fields.proofs.OpeningsReplacements.{openings_set, openings_whole}
use Rattle.biblatex_fields.proofs.glossary.Glossary.openings.Goals as goal

pub loop-index-init : goal.loop-index-init
loop-index-init c =
    let g = c.args.self.now in
    let ps = c.self.inside.definitions.now in
    let long : length ps ≡ length g.definitions = sym (length-map ps field_view) ∙ ap (λ (x : Glossary). length x.definitions) c.self.view_is in
    subst (λ (x : List Opening). AreOpenings g c.args.is_verbatim c.args.resolved.now x) (sym c.in_ok-openings.ensures) (openings_whole g c.args.is_verbatim c.args.resolved.now (length ps) c.requires.resolved long)

pub loop-index-preserved : goal.loop-index-preserved
loop-index-preserved c = openings_set c.args.self.now c.args.is_verbatim c.args.resolved.now c.loop-index.openings.items (get_or c.args.order.now c.loop-index.index-index 0) c.in_ok-openings-2.field-0 c.loop-index.invariant c.in_ok-openings-2.ensures
