use Rattle.std.proofs.Common.{[], ◌∷◌, ◌++◌}
use Rattle.std.specs.Str.{chars}
use Rattle.rendering_output.specs.Writing.{anchor, end_anchor, spanned}
use Rattle.rendering_output.proofs.WritingTags.{writes_more_tags}
use Rattle.rendering_output.proofs.writing.BufWriteFormat.push_link.Goals as goal

pub returns : goal.returns
returns g c =
    let took = g.T.TextTarget.takes in
    let inside = spanned c.args.formatting (chars c.args.text.now) in
    let last = writes_more_tags took c.args.self _ inside _ (end_anchor ∷ []) _ c.push_text.ensures c.push_anchor_end.ensures in
    writes_more_tags took c.args.self _ (anchor (chars c.args.url.now) ∷ []) _ (inside ++ end_anchor ∷ []) _ c.push_anchor.ensures last
