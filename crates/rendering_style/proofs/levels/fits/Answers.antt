use Rattle.std.proofs.Common.{leb, string_bytes, sym, ap, ◌∙◌}
use Rattle.std.specs.List.{list_all}
use Rattle.rendering_style.specs.Tables.{height_of}
use Rattle.rendering_style.specs.declared.parts.Macro.{Macro}
use Rattle.rendering_style.proofs.TablesParts.{parts_fit, all_fit, second_does_not, first_does_not}
use Rattle.rendering_style.proofs.levels.fits.Goals.{then-layout_fits, else-layout_fits}
use Rattle.rendering_style.proofs.levels.fits.Goals as goal

pub returns-then-bibliography_fits : goal.returns-then-bibliography_fits
returns-then-bibliography_fits c =
    let p = c.args.parts.now in
    let whole = parts_fit c.args.table.now p c.args.heights.now c.requires.table c.requires.heights in
    elim c.if-layout_fits.branch [
      | then-layout_fits w ↦ all_fit _ _ _ _ _ whole (sym c.layout_fits.ensures ∙ w.if-layout_fits.true) (sym w.bibliography_fits.ensures ∙ (sym w.value-is ∙ c.if-bibliography_fits.true))
          (c.macros_fit.ensures ∙ ap (λ ms. list_all (λ (m : Macro). leb (height_of c.args.table.now c.args.heights.now (string_bytes m.name)) 200) ms) c.deref.ensures.value)
      | else-layout_fits w ↦ cc
    ]

pub returns-else-bibliography_fits : goal.returns-else-bibliography_fits
returns-else-bibliography_fits c =
    let p = c.args.parts.now in
    let whole = parts_fit c.args.table.now p c.args.heights.now c.requires.table c.requires.heights in
    elim c.if-layout_fits.branch [
      | then-layout_fits w ↦ c.if-bibliography_fits.false ∙ second_does_not _ _ _ _ whole (sym c.layout_fits.ensures ∙ w.if-layout_fits.true) (sym w.bibliography_fits.ensures ∙ (sym w.value-is ∙ c.if-bibliography_fits.false))
      | else-layout_fits w ↦ c.if-bibliography_fits.false ∙ first_does_not _ _ _ _ whole (sym c.layout_fits.ensures ∙ w.if-layout_fits.false)
    ]
