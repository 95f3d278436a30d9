use Rattle.std.proofs.Common.{ℕ, List, ◌++◌, sym, ap, ◌∙◌}
use Rattle.std.specs.Str.{chars}
use Rattle.biblatex_content.specs.Styled.{letters}
use Rattle.biblatex_content.specs.Spans.{all_at, spans_to_come}
use Rattle.biblatex_content.specs.Tidy.{to_come}
use Rattle.biblatex_content.proofs.TidyRests.{letters_parted, letters_parted_at, shorter}
use Rattle.biblatex_content.proofs.tidy.Tidying.push_prefix.Goals as goal

pub returns-then-has_text-clause-to_come : goal.returns-then-has_text-clause-to_come
returns-then-has_text-clause-to_come c = λ ms.
    let kind = c.args.kind in
    let prefix = chars c.split_tidy.result.0.now in
    let rest = chars c.split_tidy.result.1.now in
    c.in_ok-push_tidy.ensures.to_come (letters kind rest ++ ms)
    ∙ (ap (to_come c.args.self.now) (sym (letters_parted kind prefix rest ms))
    ∙ ap (λ (x : List ℕ). to_come c.args.self.now (letters kind x ++ ms)) (sym c.split_tidy.ensures.parts))

pub returns-then-has_text-clause-spans : goal.returns-then-has_text-clause-spans
returns-then-has_text-clause-spans c = λ ms.
    let kind = c.args.kind in
    let start = c.args.span.now.start in
    let end = c.args.span.now.end in
    let prefix = chars c.split_tidy.result.0.now in
    let rest = chars c.split_tidy.result.1.now in
    c.in_ok-push_tidy.ensures.spans (all_at start end (letters kind rest) ++ ms)
    ∙ (ap (spans_to_come c.args.self.now) (sym (letters_parted_at kind start end prefix rest ms))
    ∙ ap (λ (x : List ℕ). spans_to_come c.args.self.now (all_at start end (letters kind x) ++ ms)) (sym c.split_tidy.ensures.parts))

pub returns-then-has_text-clause-shorter : goal.returns-then-has_text-clause-shorter
returns-then-has_text-clause-shorter c = λ filled.
    shorter _ _ _ (sym c.has_text.ensures ∙ c.if-has_text.true) c.split_tidy.ensures.parts
