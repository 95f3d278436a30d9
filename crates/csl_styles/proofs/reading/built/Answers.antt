use Rattle.xml_tree.specs.Views.{element_view}
use Rattle.rendering_style.specs.Errors as styles
use Rattle.rendering_style.specs.Views.{style_parts_view}
use Rattle.csl_styles.specs.Views.{refusal_of}
use Rattle.csl_styles.proofs.Outcomes.{placed_refused}
use Rattle.csl_styles.proofs.reading.built.Goals as goal

pub returns-in-Err : goal.returns-in-Err
returns-in-Err c =
    placed_refused (element_view c.args.root.now) (style_parts_view c.args.parts) (styles.refusal_of c.in-Err.error) (refusal_of c.refused.result) c.refused.ensures c.in-Err.ensures.answer
