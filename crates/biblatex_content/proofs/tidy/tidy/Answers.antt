use Rattle.std.proofs.Common.{◌≡◌, List, [], ◌∷◌, ◌++◌, length, sym, ap, ◌∙◌, arith}
use Rattle.std.specs.Vec.Iter.{into_iter_items}
use Rattle.std.proofs.lemmas.List.{append-nil, nil_from_length}
use Rattle.biblatex_content.specs.declared.chunk.Chunk.{Chunk}
use Rattle.biblatex_text.specs.declared.spanned.Spanned.{Spanned}
use Rattle.biblatex_content.specs.Styled.{Member}
use Rattle.biblatex_content.specs.Spans.{spanned, tidied_at, member_spans, spans_with, spans_to_come}
use Rattle.biblatex_content.proofs.TidySpans.{nothing_comes}
use Rattle.biblatex_content.specs.Tidy.{tidied, to_come}
use Rattle.biblatex_content.specs.Views.{joined, styled}
use Rattle.biblatex_content.proofs.StyledMembers.{tidied_after-nil}
use Rattle.biblatex_content.proofs.tidy.tidy.Goals as goal

pub loop-chunk-init : goal.loop-chunk-init
loop-chunk-init c =
    let e = c.into_iter-chunk-iterator.ensures.into_iter_gives in
    record {
      same = c.new-tidying.ensures.to_come _ ∙ ap (λ (x : List (Spanned Chunk)). tidied (styled x)) e.0;
      spans = c.new-tidying.ensures.spans _ ∙ ap (λ (x : List (Spanned Chunk)). member_spans (tidied_at (spanned x))) e.0;
      ready = c.new-tidying.ensures.ready;
      long = e.1 ∙ (c.args.chunks.ok.0 ∙ sym (ap length e.0));
    }

pub loop-chunk-preserved : goal.loop-chunk-preserved
loop-chunk-preserved c =
    let steps : into_iter_items c.loop-chunk.chunk-iterator ≡ c.in-Some.chunk ∷ into_iter_items c.next.new.self = c.in-Some.ensures.steps.0 in
    record {
      same = c.in_ok-push_chunk.ensures.to_come (styled (into_iter_items c.next.new.self)) ∙ (ap (λ (x : List (Spanned Chunk)). to_come c.loop-chunk.tidying (styled x)) (sym steps) ∙ c.loop-chunk.invariant.same);
      spans = c.in_ok-push_chunk.ensures.spans (spanned (into_iter_items c.next.new.self)) ∙ (ap (λ (x : List (Spanned Chunk)). spans_to_come c.loop-chunk.tidying (spanned x)) (sym steps) ∙ c.loop-chunk.invariant.spans);
      ready = c.in_ok-push_chunk.ensures.ready c.loop-chunk.invariant.ready;
      long = omega (arith, c.loop-chunk.invariant.long, ap length steps, c.in-Some.ensures.steps.1);
    }

pub returns-clause-joined : goal.returns-clause-joined
returns-clause-joined c =
    let none : into_iter_items c.loop-chunk.chunk-iterator ≡ [] = nil_from_length _ (sym c.loop-chunk.invariant.long ∙ c.in-None.ensures.steps.0) in
    sym (append-nil (joined c.loop-chunk.tidying.contents)) ∙ (ap (λ (x : List Member). joined c.loop-chunk.tidying.contents ++ x) (sym (tidied_after-nil c.loop-chunk.tidying.gap))
    ∙ (ap (λ (x : List (Spanned Chunk)). to_come c.loop-chunk.tidying (styled x)) (sym none) ∙ c.loop-chunk.invariant.same))

pub returns-clause-spans : goal.returns-clause-spans
returns-clause-spans c =
    let none : into_iter_items c.loop-chunk.chunk-iterator ≡ [] = nil_from_length _ (sym c.loop-chunk.invariant.long ∙ c.in-None.ensures.steps.0) in
    let t = c.loop-chunk.tidying in
    ap (spans_with t.contents) (sym (nothing_comes t.space.start t.space.end t.gap))
    ∙ (ap (λ (x : List (Spanned Chunk)). spans_to_come t (spanned x)) (sym none) ∙ c.loop-chunk.invariant.spans)
