use Rattle.std.proofs.Common.{sym, subst, ◌∙◌}
use Rattle.std.specs.Prelude.{All, IfOk}
use Rattle.biblatex_text.specs.Span.{IsPairOf}
use Rattle.biblatex_text.proofs.SpanSlices.{All-one}
use Rattle.biblatex_text.proofs.cursor.Reader.definitions.Goals as goal

pub returns-in_ok-push-in-Some-clause-slice : goal.returns-in_ok-push-in-Some-clause-slice
returns-in_ok-push-in-Some-clause-slice c =
    let same = c.field_or_end.ensures.on.0 ∙ c.skip_blanks.ensures.on.0 in
    let here = rw c.in-Some.is at c.in_ok-field_or_end.ensures.slice in
    let there = subst (λ s. IsPairOf s c.in-Some.first) (sym c.field_or_end.ensures.on.0) here in
    subst (λ s. IfOk c.more_fields.result (λ v. All (IsPairOf s) v.items)) same
    (c.more_fields.ensures.slice (rw (c.in_ok-push-in-Some.ensures.items, c.in_ok-pairs-in-Some.ensures.items) (All-one (IsPairOf c.field_or_end.new.self.source.now) c.in-Some.first there)))
