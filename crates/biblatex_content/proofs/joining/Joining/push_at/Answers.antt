use Rattle.std.proofs.Common.{ℕ, List, ◌∷◌, ◌++◌, refl, ap, ◌∙◌}
use Rattle.biblatex_text.specs.Raw.{At}
use Rattle.biblatex_content.specs.declared.chunk.Kind.{Kind}
use Rattle.biblatex_content.specs.Styled.{Member, Letter}
use Rattle.biblatex_content.specs.Spans.{chunk_spans, spans_with}
use Rattle.laws.specs.Text.{characters}
use Rattle.biblatex_content.proofs.SpansReached.{pushed}
use Rattle.biblatex_content.proofs.joining.Joining.push_at.Goals as goal

pub returns-clause-spans : goal.returns-clause-spans
returns-clause-spans c = λ ms.
    let turned = c.turn.new.self in
    let start = c.args.span.now.start in
    let end = c.args.span.now.end in
    let m : At Member = record { v = Letter c.args.kind c.args.c; start = start; end = end } in
    let put = pushed (characters turned.run) turned.kind turned.span.start turned.span.end c.args.c start end ms in
    rw (c.in_ok-push_to_run.ensures, c.reach.ensures.start, c.reach.ensures.end, c.reach.ensures.chunks, c.reach.ensures.run, c.reach.ensures.kind)
    (ap (λ (ps : List (ℕ × ℕ)). chunk_spans turned.chunks.items ++ ps) put
    ∙ (ap (λ (k : Kind). spans_with turned (record { v = Letter k c.args.c; start = start; end = end } ∷ ms)) c.in_ok-turn.ensures.kind
    ∙ c.in_ok-turn.ensures.spans m ms refl))
