use Rattle.std.proofs.Common.{ℕ, List, ap, ◌∙◌, string_bytes}
use Rattle.xml_tree.specs.Views.{element_view}
use Rattle.rendering_style.specs.Errors as styles
use Rattle.rendering_style.specs.Opening.{macro_ring}
use Rattle.csl_styles.specs.Reading.{OfStyle, blamed}
use Rattle.csl_styles.proofs.reading.refused.Goals as goal

pub returns-in-MacroRing : goal.returns-in-MacroRing
returns-in-MacroRing c =
    let x = macro_ring (string_bytes c.in-MacroRing.name) in
    let left = c.macro_left-left.ensures ∙ ap (λ (name : List ℕ). blamed (macro_ring name) (element_view c.args.root.now)) c.as_str.ensures.value in
    (x, ap styles.refusal_of c.in-MacroRing.is, ap (λ (n : ℕ). OfStyle x n) left)
