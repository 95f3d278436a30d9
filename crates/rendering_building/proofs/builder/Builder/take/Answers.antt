use Rattle.std.proofs.Common.{sym, ap, ◌∙◌}
use Rattle.std.specs.List.{fold}
use Rattle.std.proofs.lemmas.Result.{on_ok_weaker}
use Rattle.rendering_tree.specs.Trees.{take_token}
use Rattle.rendering_building.specs.Building.{nest_of}
use Rattle.rendering_page.specs.Views.{words_view, with_piece}
use Rattle.rendering_building.proofs.BuildingReading.{read_text}
use Rattle.rendering_building.proofs.builder.Builder.take.Goals as goal

pub returns-in-Text-clause-read : goal.returns-in-Text-clause-read
returns-in-Text-clause-read c =
    let old = nest_of c.args.self.now in
    on_ok_weaker c.take_words.result
    (λ e ts.
    ap (λ p. fold take_token old (with_piece ts p)) c.in-Text.is
    ∙ read_text c.in-Text.formatting (words_view c.in-Text.words) ts old
    ∙ ap (λ n. fold take_token n ts) (sym e))
    c.take_words.ensures.read
