use Rattle.std.proofs.Common.{ap, ◌∙◌}
use Rattle.std.proofs.lemmas.Result.{on_ok_weaker}
use Rattle.rendering_page.specs.JoiningPieces.{with_text}
use Rattle.rendering_page.specs.Views.{words_view}
use Rattle.rendering_page.proofs.joining.Joining.put_in_place.Goals as goal

pub returns : goal.returns
returns c =
    on_ok_weaker c.put_text.result
    (λ e. e ∙ ap (with_text c.args.formatting (words_view c.args.words)) c.cut_last.ensures)
    c.put_text.ensures
