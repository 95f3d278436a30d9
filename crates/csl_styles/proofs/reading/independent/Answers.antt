use Rattle.std.proofs.Common.{ℕ, List, ap, ◌∙◌}
use Rattle.xml_tree.specs.Views.{element_view}
use Rattle.rendering_style.specs.Views.{style_parts_view}
use Rattle.rendering_style.specs.StyleViews.{style_view}
use Rattle.csl_nodes.specs.Views.{words_view}
use Rattle.csl_locales.specs.Words.{unlisted_words}
use Rattle.csl_styles.specs.Styles.{style}
use Rattle.csl_styles.specs.Views.{refusal_of}
use Rattle.csl_styles.proofs.Outcomes.{read_style, refused_with}
use Rattle.csl_styles.proofs.reading.independent.Goals as goal

pub returns-in-Ok : goal.returns-in-Ok
returns-in-Ok c =
    let x = element_view c.args.root.now in
    read_style x (words_view c.in_ok-words.words) (unlisted_words x) (style_parts_view c.in_ok-parts.parts) (style_view c.in-Ok.style) c.in_ok-words.ensures c.in_ok-parts.ensures c.in-Ok.ensures.0 c.in-Ok.ensures.1

pub returns : goal.returns
returns c =
    let x = element_view c.args.root.now in
    refused_with x (unlisted_words x) (style_parts_view c.in_ok-parts.parts) (style (unlisted_words x) x) (refusal_of c.in-Err.error) (c.in_ok-parts.ensures ∙ ap (λ (w : List (List ℕ)). style w x) c.in_ok-words.ensures)
    c.in-Err.ensures
