use Rattle.std.proofs.Common.{true≢false, length, map, sym, ap, ◌∙◌, arith}
use Rattle.std.proofs.lemmas.Result.{IfOk-weaker}
use Rattle.literature.specs.Views.{selector_view}
use Rattle.rendering_style.specs.StyleViews.{style_view}
use Rattle.rendering_alike.specs.Naming.{names_view}
use Rattle.cite_markers.specs.Views.{document_view}
use Rattle.cite_uses.specs.Alike.{now_of, works_view}
use Rattle.cite_uses.proofs.AlikePairs.{by_pairs, in_order, no_order, too_few}
use Rattle.cite_uses.proofs.AlikeVerdicts.{one_verdict_each}
use Rattle.cite_uses.proofs.alike.are_alike.Goals as goal

pub returns-then-len-clause-alike : goal.returns-then-len-clause-alike
returns-then-len-clause-alike c =
    too_few (style_view c.args.style.now) (map selector_view c.args.sections.now) (works_view c.args.first.now) (works_view c.args.second.now) (document_view c.args.document.now)
    c.deref.result.now (ap (map now_of) c.deref.ensures.value ∙ c.in_ok-names.ensures) c.in_ok-indices.indices.items c.in_ok-indices.ensures.same c.in_ok-indices.ensures.sorted
    (omega (arith, c.if-len.true, c.len.ensures, c.len-2.ensures, ap length c.deref.ensures.value))

pub returns-then-len-clause-same : goal.returns-then-len-clause-same
returns-then-len-clause-same c = λ no. absurd (true≢false (sym no))

pub returns-then-not-rise-clause-alike : goal.returns-then-not-rise-clause-alike
returns-then-not-rise-clause-alike c =
    let order =
    in_order (style_view c.args.style.now) (map selector_view c.args.sections.now) (works_view c.args.first.now) (works_view c.args.second.now) (document_view c.args.document.now)
    c.deref.result.now (ap (map now_of) c.deref.ensures.value ∙ c.in_ok-names.ensures) c.in_ok-indices.indices.items c.in_ok-indices.ensures.same c.in_ok-indices.ensures.sorted
    c.deref-2.result.now c.rise.result c.deref-2.ensures.value c.rise.ensures in
    no_order (style_view c.args.style.now) (map selector_view c.args.sections.now) (works_view c.args.first.now) (works_view c.args.second.now) (document_view c.args.document.now)
    c.deref.result.now (ap (map now_of) c.deref.ensures.value ∙ c.in_ok-names.ensures) c.in_ok-indices.indices.items c.in_ok-indices.ensures.same c.in_ok-indices.ensures.sorted
    c.rise.result order c.if-not-rise.true

pub returns-then-not-rise-clause-same : goal.returns-then-not-rise-clause-same
returns-then-not-rise-clause-same c = λ no. absurd (true≢false (sym no))

pub returns-clause-alike : goal.returns-clause-alike
returns-clause-alike c =
    let order =
    in_order (style_view c.args.style.now) (map selector_view c.args.sections.now) (works_view c.args.first.now) (works_view c.args.second.now) (document_view c.args.document.now)
    c.deref.result.now (ap (map now_of) c.deref.ensures.value ∙ c.in_ok-names.ensures) c.in_ok-indices.indices.items c.in_ok-indices.ensures.same c.in_ok-indices.ensures.sorted
    c.deref-2.result.now c.rise.result c.deref-2.ensures.value c.rise.ensures in
    IfOk-weaker c.are_alike_each.result _ _
    (λ b e.
    by_pairs (style_view c.args.style.now) (map selector_view c.args.sections.now) (works_view c.args.first.now) (works_view c.args.second.now) (document_view c.args.document.now)
    c.deref.result.now (ap (map now_of) c.deref.ensures.value ∙ c.in_ok-names.ensures) c.in_ok-indices.indices.items c.in_ok-indices.ensures.same c.in_ok-indices.ensures.sorted
    (names_view c.in_ok-named.named) c.in_ok-named.ensures (omega (arith, c.if-len.false, c.len.ensures, c.len-2.ensures, ap length c.deref.ensures.value)) (order.0 c.if-not-rise.false) c.deref-3.result.now c.deref-3.ensures.value b e)
    c.are_alike_each.ensures

pub returns-clause-same : goal.returns-clause-same
returns-clause-same c =
    let order =
    in_order (style_view c.args.style.now) (map selector_view c.args.sections.now) (works_view c.args.first.now) (works_view c.args.second.now) (document_view c.args.document.now)
    c.deref.result.now (ap (map now_of) c.deref.ensures.value ∙ c.in_ok-names.ensures) c.in_ok-indices.indices.items c.in_ok-indices.ensures.same c.in_ok-indices.ensures.sorted
    c.deref-2.result.now c.rise.result c.deref-2.ensures.value c.rise.ensures in
    IfOk-weaker c.are_alike_each.result _ _
    (λ b e yes.
    let alike =
    by_pairs (style_view c.args.style.now) (map selector_view c.args.sections.now) (works_view c.args.first.now) (works_view c.args.second.now) (document_view c.args.document.now)
    c.deref.result.now (ap (map now_of) c.deref.ensures.value ∙ c.in_ok-names.ensures) c.in_ok-indices.indices.items c.in_ok-indices.ensures.same c.in_ok-indices.ensures.sorted
    (names_view c.in_ok-named.named) c.in_ok-named.ensures (omega (arith, c.if-len.false, c.len.ensures, c.len-2.ensures, ap length c.deref.ensures.value)) (order.0 c.if-not-rise.false) c.deref-3.result.now c.deref-3.ensures.value b e in
    one_verdict_each (style_view c.args.style.now) (map selector_view c.args.sections.now) (works_view c.args.first.now) (works_view c.args.second.now) (document_view c.args.document.now) (alike.0 yes))
    c.are_alike_each.ensures
