use Rattle.std.proofs.Common.{List, ◌++◌, ap, ◌∙◌}
use Rattle.std.specs.Str.{chars}
use Rattle.biblatex_text.specs.Raw.{At}
use Rattle.biblatex_content.specs.declared.tidy.Gap.TheVariants.{Nothing}
use Rattle.biblatex_content.specs.Styled.{Member, letters}
use Rattle.biblatex_content.specs.Spans.{all_at, tidied_after_at, spans_with}
use Rattle.biblatex_content.specs.Tidy.{owed, tidied_after}
use Rattle.biblatex_content.specs.Views.{joined}
use Rattle.biblatex_content.proofs.TidyRests.{prefix_comes, prefix_comes_at, text_put}
use Rattle.biblatex_content.proofs.tidy.Tidying.push_tidy.Goals as goal

pub returns-clause-to_come : goal.returns-clause-to_come
returns-clause-to_come c = λ ms.
    let old = c.args.self.now in
    let cs = chars c.args.text.now in
    rw (c.in_ok-push_str_at.ensures.joined, c.in_ok-close_gap.ensures.written, c.in_ok-close_gap.ensures.gap)
    (text_put (joined old.contents) (owed old.gap) (letters c.args.kind cs) (tidied_after Nothing ms)
    ∙ ap (λ (x : List Member). joined old.contents ++ x) (prefix_comes old.gap c.args.kind cs ms c.requires))

pub returns-clause-spans : goal.returns-clause-spans
returns-clause-spans c = λ ms.
    let old = c.args.self.now in
    let cs = chars c.args.text.now in
    let start = c.args.span.now.start in
    let end = c.args.span.now.end in
    let closed = c.close_gap.new.self in
    let rest : List (At Member) = tidied_after_at old.space.start old.space.end Nothing ms in
    rw c.in_ok-close_gap.ensures.gap
    (c.in_ok-push_str_at.ensures.spans rest
    ∙ (c.in_ok-close_gap.ensures.spans (all_at start end (letters c.args.kind cs) ++ rest)
    ∙ ap (spans_with old.contents) (prefix_comes_at old.gap old.space.start old.space.end c.args.kind start end cs ms c.requires)))
