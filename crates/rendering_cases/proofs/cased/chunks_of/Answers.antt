use Rattle.std.proofs.Common.{◌≡◌, [], map, ◌∙◌}
use Rattle.std.proofs.lemmas.Result.{IfOk-weaker}
use Rattle.literature_values.specs.TextViews.{chunk_view, chunks_view}
use Rattle.rendering_cases.specs.Cases.{changed_chunks, plain}
use Rattle.rendering_cases.specs.Words.{is_in_capitals}
use Rattle.rendering_cases.proofs.Going.{pieces}
use Rattle.rendering_cases.proofs.cased.chunks_of.Goals as goal

pub returns : goal.returns
returns c is =
    let ks = map chunk_view c.args.chunks.now in
    IfOk-weaker c.chunks_along.result _ (λ s. chunks_view s ≡ changed_chunks c.args.case (is_in_capitals (plain ks)) [] ks)
    (λ s e. e ∙ rw (c.new-place.ensures, c.is_in_capitals.ensures, is) (pieces c.args.case (is_in_capitals (plain ks)) [] ks))
    c.chunks_along.ensures
