use Rattle.std.proofs.Common.{[], ◌++◌, List, ap, ◌∙◌}
use Rattle.std.specs.Option.{option_map}
use Rattle.std.proofs.lemmas.Result.{IfOk-weaker}
use Rattle.biblatex_content.specs.Styled.{Member}
use Rattle.biblatex_content.specs.Views.{styled}
use Rattle.interop_values.specs.Pieces.{pieces_of}
use Rattle.interop_values.specs.Readings.{with_subtitle}
use Rattle.interop_values.proofs.PiecesGrowing.{after_title}
use Rattle.interop_values.proofs.readings.with_subtitle.Goals as goal

pub returns : goal.returns
returns c =
    let title = styled c.args.title.now in
    let subtitle = option_map (λ v. styled v.now) c.args.subtitle in
    IfOk-weaker c.finish.result _ _
    (λ s e.
    e ∙ (c.in_ok-push_subtitle.ensures []
    ∙ (c.in_ok-push_chunks.ensures (with_subtitle [] subtitle ++ [])
    ∙ (c.in_ok-pieces.ensures (title ++ (with_subtitle [] subtitle ++ []))
    ∙ ap (λ (ms : List Member). pieces_of ms) (after_title title subtitle)))))
    c.finish.ensures
