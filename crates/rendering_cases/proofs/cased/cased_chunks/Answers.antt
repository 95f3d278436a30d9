use Rattle.std.proofs.Common.{◌≡◌, Some, map, ap, ◌∙◌}
use Rattle.std.proofs.lemmas.Result.{IfOk-weaker}
use Rattle.literature_values.specs.TextViews.{chunk_view, chunks_view}
use Rattle.rendering_cases.specs.Laws.{kept}
use Rattle.rendering_cases.proofs.Kept.{cased_kept}
use Rattle.rendering_cases.proofs.cased.cased_chunks.Goals as goal

pub returns-in-Some-clause-kept : goal.returns-in-Some-clause-kept
returns-in-Some-clause-kept c =
    let ks = map chunk_view c.args.chunks.now in
    IfOk-weaker c.chunks_in_case.result _ (λ s. map kept (chunks_view s) ≡ map kept ks)
    (λ s e. ap (map kept) e ∙ cased_kept (Some c.in-Some.wanted) c.args.is_english ks)
    c.chunks_in_case.ensures
