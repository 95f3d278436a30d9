use Rattle.std.proofs.Common.{◌≡◌, ◌<◌, length, rules, sym, ap, ◌∙◌, arith}
use Rattle.std.proofs.lemmas.Result.{IfOk-weaker, on_ok_weaker}
use Rattle.std.specs.Option.{option_map}
use Rattle.std.specs.Str.{chars}
use Rattle.rendering_page.specs.Views.{quotes_view}
use Rattle.rendering_tree.specs.Trees.{Child, Elem}
use Rattle.rendering_tree.specs.Views.{meta_view, child_view, tree_view}
use Rattle.rendering_tree.specs.declared.element.Elem.{Elem as Code}
use Rattle.rendering_tree.specs.declared.element.ElemChild.{the_lemmas}
use Rattle.rendering_tree.specs.declared.element.ElemChild.TheVariants as variants
use Rattle.rendering_tree.proofs.ViewsLevels.{child-Elem}
use Rattle.driver_citations.specs.Ends.{end_of, end_of_child}
use Rattle.driver_citations.specs.Meeting.{left_after, met_child, met_list}
use Rattle.driver_citations.proofs.MeetingTexts.{element_meets, left_last, left_none, meets_last, met_none}
use Rattle.driver_citations.proofs.meeting.+meeting.Goals as goal

pub meet_last-returns-then-count-eq0-clause-end : goal.meet_last-returns-then-count-eq0-clause-end
meet_last-returns-then-count-eq0-clause-end t c =
    let none : length c.args.parts.now.items ≡ 0 = omega (arith, c.if-count-eq0.true, c.len-count.ensures, c.args.parts.now.ok.0) in
    met_none (quotes_view c.args.quotes.now) (chars c.args.text.now) c.args.parts.now.items none

pub meet_last-returns-then-count-eq0-clause-rest : goal.meet_last-returns-then-count-eq0-clause-rest
meet_last-returns-then-count-eq0-clause-rest t c =
    let none : length c.args.parts.now.items ≡ 0 = omega (arith, c.if-count-eq0.true, c.len-count.ensures, c.args.parts.now.ok.0) in
    left_none (quotes_view c.args.quotes.now) (chars c.args.text.now) c.args.parts.now.items none

pub meet_last-returns-clause-end : goal.meet_last-returns-clause-end
meet_last-returns-clause-end t c =
    let xs = c.args.parts.now.items in
    let all : c.len-count.result ≡ length xs = omega (arith, c.len-count.ensures, c.args.parts.now.ok.0) in
    let some : 0 < c.len-count.result = omega (arith, c.if-count-eq0.false) in
    on_ok_weaker c.meet_child.result
    (λ e. meets_last (quotes_view c.args.quotes.now) (chars c.args.text.now) xs c.len-count.result c.index_mut.result.now c.meet_child.new.part all some c.index_mut.ensures.value e) c.meet_child.ensures.end

pub meet_last-returns-clause-rest : goal.meet_last-returns-clause-rest
meet_last-returns-clause-rest t c =
    let xs = c.args.parts.now.items in
    let all : c.len-count.result ≡ length xs = omega (arith, c.len-count.ensures, c.args.parts.now.ok.0) in
    let some : 0 < c.len-count.result = omega (arith, c.if-count-eq0.false) in
    IfOk-weaker c.meet_child.result _ _
    (λ r e. left_last (quotes_view c.args.quotes.now) (chars c.args.text.now) xs c.len-count.result c.index_mut.result.now (chars r.now) all some c.index_mut.ensures.value e) c.meet_child.ensures.rest

-- what a child is that is an element
viewed : (t : _) (c : goal.meet_child-After-meet_inside t)
    → child_view c.args.part.now ≡ Elem c.in-Elem.elem.display (option_map meta_view c.in-Elem.elem.meta) (tree_view c.in-Elem.elem.children)
viewed t c = ap child_view c.in-Elem.is ∙ child-Elem c.in-Elem.elem

by_way_of : (y : Child) {x z : Child} → x ≡ y → y ≡ z → x ≡ z
by_way_of y e f = e ∙ f

pub meet_child-returns-in-Elem-clause-end : goal.meet_child-returns-in-Elem-clause-end
meet_child-returns-in-Elem-clause-end t c =
    let quotes = quotes_view c.args.quotes.now in
    let ds = chars c.args.text.now in
    let e = c.in-Elem.elem in
    let new = c.meet_inside.new.elem in
    on_ok_weaker c.meet_inside.result
    (λ known. by_way_of (child_view (variants.Elem new)) (search (rules, the_lemmas, c.in-Elem.is))
    (child-Elem new
    ∙ element_meets quotes ds e.display new.display (option_map meta_view e.meta) (option_map meta_view new.meta) (tree_view e.children) (tree_view new.children)
    (c.meet_inside.ensures.same.0 ∙ ap (λ (f : Code). f.display) c.in-Elem.elem-is)
    (ap (option_map meta_view) (c.meet_inside.ensures.same.1 ∙ ap (λ (f : Code). f.meta) c.in-Elem.elem-is))
    (known ∙ ap (λ (f : Code). met_list quotes ds (tree_view f.children)) c.in-Elem.elem-is)
    ∙ ap (met_child quotes ds) (sym (viewed t c))))
    c.meet_inside.ensures.end

pub meet_child-returns-in-Elem-clause-rest : goal.meet_child-returns-in-Elem-clause-rest
meet_child-returns-in-Elem-clause-rest t c =
    let quotes = quotes_view c.args.quotes.now in
    let ds = chars c.args.text.now in
    IfOk-weaker c.meet_inside.result _ _
    (λ r known. known ∙ ap (λ (f : Code). left_after quotes (end_of (tree_view f.children)) ds) c.in-Elem.elem-is ∙ ap (λ x. left_after quotes (end_of_child x) ds) (sym (viewed t c)))
    c.meet_inside.ensures.rest
