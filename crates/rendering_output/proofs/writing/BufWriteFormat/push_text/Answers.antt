use Rattle.std.proofs.Common.{◌≡◌, false, List, [], ◌∷◌, sym, subst, ◌∙◌}
use Rattle.std.specs.Str.{chars}
use Rattle.rendering_taxonomy.specs.Formats.{plain, looks_like}
use Rattle.rendering_output.specs.Writing.{Tag, words, span, end_span, WritesTags}
use Rattle.rendering_output.proofs.WritingTags.{writes_more_tags, spanned-looks}
use Rattle.rendering_output.proofs.writing.BufWriteFormat.push_text.Goals as goal

pub returns : goal.returns
returns g c =
    let took = g.T.TextTarget.takes in
    let looks = c.args.formatting in
    let inside = words (chars c.args.text.now) in
    let stands_out : looks_like looks plain ≡ false = sym c.is_plain.ensures ∙ c.if-is_plain.false in
    let last = writes_more_tags took c.args.self _ (inside ∷ []) _ (end_span ∷ []) _ c.push_markup-2.ensures c.push_span_end.ensures in
    let whole = writes_more_tags took c.args.self _ (span looks ∷ []) _ (inside ∷ end_span ∷ []) _ c.push_span.ensures last in
    subst (λ (ts : List Tag). WritesTags took c.args.self c.args.target.now ts c.push_span_end.new.target) (sym (spanned-looks looks (chars c.args.text.now) stands_out)) whole
