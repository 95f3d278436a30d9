use Rattle.std.proofs.Common.{ℕ, List, sym, ap, ◌∙◌, true}
use Rattle.std.specs.Str.{chars}
use Rattle.unicode_segmentation.specs.Grapheme.{graphemes}
use Rattle.laws.proofs.Text.{text_of_chars}
use Rattle.literature_values.specs.Initials.{first_piece}
use Rattle.literature_values.proofs.person.first_cluster.Goals as goal

pub returns-in-Some : goal.returns-in-Some
returns-in-Some c =
    sym (ap (λ (t : List ℕ). chars (first_piece (graphemes true t))) (text_of_chars c.args.text.now c.utf8.text)
    ∙ ap (λ (ps : List (List ℕ)). chars (first_piece ps)) (sym c.graphemes.ensures.left ∙ c.in-Some.ensures.steps))

pub returns-in-None : goal.returns-in-None
returns-in-None c =
    sym (ap (λ (t : List ℕ). chars (first_piece (graphemes true t))) (text_of_chars c.args.text.now c.utf8.text)
    ∙ ap (λ (ps : List (List ℕ)). chars (first_piece ps)) (sym c.graphemes.ensures.left ∙ c.in-None.ensures.steps.0))
