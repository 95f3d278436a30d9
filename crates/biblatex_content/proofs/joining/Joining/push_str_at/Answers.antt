use Rattle.std.proofs.Common.{ℕ, List, ◌++◌, ap, ◌∙◌}
use Rattle.std.specs.Str.{chars}
use Rattle.biblatex_content.specs.Spans.{chunk_spans}
use Rattle.laws.specs.Text.{characters}
use Rattle.biblatex_content.proofs.SpansReached.{pushed_text, reached_text}
use Rattle.biblatex_content.proofs.joining.Joining.push_str_at.Goals as goal

pub returns-clause-spans : goal.returns-clause-spans
returns-clause-spans c = λ ms.
    let turned = c.turn.new.self in
    let start = c.args.span.now.start in
    let end = c.args.span.now.end in
    let cs = chars c.args.text.now in
    let put = pushed_text (characters turned.run) turned.kind turned.span.start turned.span.end start end cs ms c.requires in
    rw (c.in_ok-push_text_to_run.ensures, c.reach.ensures.start, c.reach.ensures.end, c.reach.ensures.chunks, c.reach.ensures.run, c.reach.ensures.kind)
    (ap (λ (ps : List (ℕ × ℕ)). chunk_spans turned.chunks.items ++ ps) put
    ∙ reached_text turned c.args.self.now c.args.kind start end cs ms c.in_ok-turn.ensures.kind c.requires c.in_ok-turn.ensures.spans)
