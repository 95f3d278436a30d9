use Rattle.std.proofs.Common.{◌≡◌, ℕ, ◌-◌, List, take, ap, ◌∙◌, arith, inl, inr}
use Rattle.reference_graph.specs.Search.{without_last, last}
use Rattle.reference_graph.proofs.SearchLists.{without_last_has, before_or_last, without_last_rises, last_top}
use Rattle.reference_graph.proofs.search.cut_to.Goals as goal

pub loop-start-preserved : goal.loop-start-preserved
loop-start-preserved c =
    let xs = c.loop-start.starts.items in
    let inv = c.loop-start.invariant in
    let e : c.pop.new.self.items ≡ without_last xs = c.pop.ensures.rest ∙ ap (λ (n : ℕ). take (n - 1) xs) c.loop-start.starts.ok.0 in
    let last_is : c.in-Some.start ≡ last xs = c.in-Some.ensures.1 ∙ ap (λ (ys : List ℕ). last ys) c.deref.ensures.value in
    let over = c.if-start-index.false in
    rw e (record {
      rises = without_last_rises xs inv.rises;
      from = λ b h. inv.from b (without_last_has xs b h);
      all = λ b h le. elim (before_or_last xs b (inv.all b h le)) [ inl f ↦ f | inr f ↦ absurd (omega arith) ];
    })

pub returns-then-start-index : goal.returns-then-start-index
returns-then-start-index c =
    let xs = c.loop-start.starts.items in
    let inv = c.loop-start.invariant in
    let last_is : c.in-Some.start ≡ last xs = c.in-Some.ensures.1 ∙ ap (λ (ys : List ℕ). last ys) c.deref.ensures.value in
    let within = c.if-start-index.true in
    record {
      rises = inv.rises;
      from = inv.from;
      upto = λ b h. let t = last_top xs b inv.rises h in omega arith;
      all = inv.all;
    }
