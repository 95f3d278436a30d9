use Rattle.std.proofs.Common.{ℕ, List, true, sym, ap, ◌∙◌}
use Rattle.unicode_segmentation.specs.Grapheme.{graphemes}
use Rattle.laws.proofs.Text.{text_of_chars}
use Rattle.literature_values.specs.GivenNames.{is_single}
use Rattle.literature_values.proofs.given_name.is_single.Goals as goal

pub returns-in-Some : goal.returns-in-Some
returns-in-Some c =
    c.has_none.ensures
    ∙ sym (ap (λ (t : List ℕ). is_single (graphemes true t)) (text_of_chars c.args.text.now c.utf8.text)
    ∙ ap is_single (sym c.graphemes-clusters.ensures.left ∙ c.in-Some.ensures.steps))

pub returns-in-None : goal.returns-in-None
returns-in-None c =
    sym (ap (λ (t : List ℕ). is_single (graphemes true t)) (text_of_chars c.args.text.now c.utf8.text)
    ∙ ap is_single (sym c.graphemes-clusters.ensures.left ∙ c.in-None.ensures.steps.0))
