use Rattle.std.proofs.Common.{◌≡◌, ◌<◌, length, rules, sym, ap, ◌∙◌, arith}
use Rattle.std.proofs.lemmas.Result.{on_ok_weaker}
use Rattle.std.specs.Option.{option_map}
use Rattle.laws.specs.Text.{characters}
use Rattle.rendering_tree.specs.Trees.{Child, Elem, Text, before, followed_by, nothing}
use Rattle.rendering_tree.specs.Views.{meta_view, child_view, tree_view}
use Rattle.rendering_tree.specs.declared.element.Elem.{Elem as Code}
use Rattle.rendering_tree.specs.declared.element.ElemChild.{the_lemmas}
use Rattle.rendering_tree.specs.declared.element.ElemChild.TheVariants as variants
use Rattle.rendering_tree.proofs.ViewsLevels.{child-Elem}
use Rattle.rendering.specs.Blocks.{block_ended, blocks_ended, by_display}
use Rattle.rendering.proofs.LastBlocks.{element_ended, ends_last, none_ended}
use Rattle.rendering.proofs.blocks.+ending.Goals as goal

pub end_blocks-returns-then-count-eq0 : goal.end_blocks-returns-then-count-eq0
end_blocks-returns-then-count-eq0 t c =
    let none : length c.args.parts.now.items ≡ 0 = omega (arith, c.if-count-eq0.true, c.len-count.ensures, c.args.parts.now.ok.0) in
    none_ended (Text c.args.text.formatting (characters c.args.text.text)) c.args.parts.now.items none

pub end_blocks-returns : goal.end_blocks-returns
end_blocks-returns t c =
    let xs = c.args.parts.now.items in
    let all : c.len-count.result ≡ length xs = omega (arith, c.len-count.ensures, c.args.parts.now.ok.0) in
    let some : 0 < c.len-count.result = omega (arith, c.if-count-eq0.false) in
    on_ok_weaker c.end_block.result
    (λ e. ends_last (Text c.args.text.formatting (characters c.args.text.text)) xs c.len-count.result c.index_mut.result.now c.end_block.new.part all some c.index_mut.ensures.value e) c.end_block.ensures

-- what a child is that is an element
viewed : (t : _) (c : goal.end_block-After-end_element t)
    → child_view c.args.part.now ≡ Elem c.in-Elem.elem.display (option_map meta_view c.in-Elem.elem.meta) (tree_view c.in-Elem.elem.children)
viewed t c = ap child_view c.in-Elem.is ∙ child-Elem c.in-Elem.elem

by_way_of : (y : Child) {x z : Child} → x ≡ y → y ≡ z → x ≡ z
by_way_of y e f = e ∙ f

pub end_block-returns-in-Elem : goal.end_block-returns-in-Elem
end_block-returns-in-Elem t c =
    let text = Text c.args.text.formatting (characters c.args.text.text) in
    let e = c.in-Elem.elem in
    let new = c.end_element.new.elem in
    on_ok_weaker c.end_element.result
    (λ known. by_way_of (child_view (variants.Elem new)) (search (rules, the_lemmas, c.in-Elem.is))
    (child-Elem new
    ∙ element_ended text e.display new.display (option_map meta_view e.meta) (option_map meta_view new.meta) (tree_view e.children) (tree_view new.children)
    (c.end_element.ensures.same.0 ∙ ap (λ (f : Code). f.display) c.in-Elem.elem-is)
    (ap (option_map meta_view) (c.end_element.ensures.same.1 ∙ ap (λ (f : Code). f.meta) c.in-Elem.elem-is))
    (known ∙ ap (λ (f : Code). by_display f.display (followed_by (tree_view f.children) (before text nothing)) (blocks_ended text (tree_view f.children))) c.in-Elem.elem-is)
    ∙ ap (block_ended text) (sym (viewed t c))))
    c.end_element.ensures.children
