use Rattle.std.proofs.Common.{◌≡◌, List, [], ◌∷◌, ◌++◌, length, sym, ap, ◌∙◌, append_assoc, arith}
use Rattle.std.specs.Vec.Iter.{into_iter_items}
use Rattle.std.proofs.lemmas.List.{append-nil, nil_from_length}
use Rattle.biblatex_text.specs.Raw.{At}
use Rattle.biblatex_text.specs.declared.spanned.Spanned.{Spanned}
use Rattle.biblatex_content.specs.declared.chunk.Chunk.{Chunk}
use Rattle.biblatex_content.specs.Styled.{Member}
use Rattle.biblatex_content.specs.Spans.{all_at, spanned_so_far}
use Rattle.biblatex_content.specs.Views.{so_far, styled, members}
use Rattle.biblatex_content.proofs.SpansForgotten.{at_append}
use Rattle.biblatex_content.proofs.contents.Contents.append_chunks.Goals as goal

pub loop-chunk-init : goal.loop-chunk-init
loop-chunk-init c =
    let e = c.into_iter-chunk-iterator.ensures.into_iter_gives in
    record {
      text = rw (c.in_ok-make_room.ensures.styled) (ap (λ (x : List (Spanned Chunk)). so_far c.args.self.now ++ styled x) e.0);
      members = rw (c.in_ok-make_room.ensures.spanned) (ap (λ (x : List (Spanned Chunk)). spanned_so_far c.args.self.now ++ all_at c.args.span.now.start c.args.span.now.end (styled x)) e.0);
      long = e.1 ∙ (c.args.chunks.ok.0 ∙ sym (ap length e.0));
    }

pub loop-chunk-preserved : goal.loop-chunk-preserved
loop-chunk-preserved c =
    let start = c.args.span.now.start in
    let end = c.args.span.now.end in
    let old = c.loop-chunk.self in
    let here = members c.in-Some.chunk.v in
    let rest = styled (into_iter_items c.next.new.self) in
    let steps : into_iter_items c.loop-chunk.chunk-iterator ≡ c.in-Some.chunk ∷ into_iter_items c.next.new.self = c.in-Some.ensures.steps.0 in
    record {
      text = rw (c.in_ok-push_chunk.ensures.styled)
          (append_assoc (so_far old) here rest ∙ (ap (λ (x : List (Spanned Chunk)). so_far old ++ styled x) (sym steps) ∙ c.loop-chunk.invariant.text));
      members = rw (c.in_ok-push_chunk.ensures.spanned)
          (append_assoc (spanned_so_far old) (all_at start end here) (all_at start end rest)
          ∙ (ap (λ (x : List (At Member)). spanned_so_far old ++ x) (sym (at_append start end here rest))
          ∙ (ap (λ (x : List (Spanned Chunk)). spanned_so_far old ++ all_at start end (styled x)) (sym steps) ∙ c.loop-chunk.invariant.members)));
      long = omega (arith, c.loop-chunk.invariant.long, ap length steps, c.in-Some.ensures.steps.1);
    }

pub returns-clause-styled : goal.returns-clause-styled
returns-clause-styled c =
    let none : into_iter_items c.loop-chunk.chunk-iterator ≡ [] = nil_from_length _ (sym c.loop-chunk.invariant.long ∙ c.in-None.ensures.steps.0) in
    sym (append-nil (so_far c.loop-chunk.self)) ∙ (ap (λ (x : List (Spanned Chunk)). so_far c.loop-chunk.self ++ styled x) (sym none) ∙ c.loop-chunk.invariant.text)

pub returns-clause-spanned : goal.returns-clause-spanned
returns-clause-spanned c =
    let none : into_iter_items c.loop-chunk.chunk-iterator ≡ [] = nil_from_length _ (sym c.loop-chunk.invariant.long ∙ c.in-None.ensures.steps.0) in
    sym (append-nil (spanned_so_far c.loop-chunk.self))
    ∙ (ap (λ (x : List (Spanned Chunk)). spanned_so_far c.loop-chunk.self ++ all_at c.args.span.now.start c.args.span.now.end (styled x)) (sym none) ∙ c.loop-chunk.invariant.members)
