use Rattle.std.proofs.Common.{◌+◌, List, [], ◌∷◌, drop, map, refl, sym, ap, ◌∙◌, arith}
use Rattle.std.specs.List.{flat_map}
use Rattle.std.proofs.lemmas.List.{at_drop_more, drop_all}
use Rattle.laws.specs.Characters.{line_feed}
use Rattle.rendering_output.proofs.WritingCalls.{writes_ascii, writes_more}
use Rattle.driver.specs.RenderedViews.{item_fields_view}
use Rattle.driver.specs.declared.rendered.BibliographyItem.{BibliographyItem}
use Rattle.cite_output.specs.Output.{item_text}
use Rattle.cite_output.proofs.OutputPieces.{item_first, no_item, writes_same}
use Rattle.cite_output.proofs.output.push_items.Goals as goal

pub loop-item-init : goal.loop-item-init
loop-item-init g c = λ u written.
    let took = g.T.TextTarget.takes in
    writes_more took c.args.target.now (line_feed ∷ []) c.push_str.new.self (flat_map (item_text c.args.format) (map item_fields_view c.args.items.now)) u
    (writes_ascii took c.args.target.now (line_feed ∷ []) c.push_str.new.self refl c.push_str.ensures) written

pub loop-item-preserved : goal.loop-item-preserved
loop-item-preserved g c = λ u written.
    let took = g.T.TextTarget.takes in
    let format = c.args.format in
    let i = c.loop-item.item-index in
    let xs = c.args.items.now in
    let items = λ (ys : List BibliographyItem). flat_map (item_text format) (map item_fields_view ys) in
    let cut = at_drop_more items xs i c.item-item.result c.loop-item-test.true ∙ ap (λ (y : BibliographyItem). items (y ∷ drop (i + 1) xs)) (sym c.item-item.is) in
    c.loop-item.invariant u
    (writes_same took c.loop-item.target _ (flat_map (item_text format) (map item_fields_view (drop i xs))) u (sym cut)
    (item_first took format (item_fields_view c.item-item.result) (map item_fields_view (drop (i + 1) xs)) c.loop-item.target c.push_item.new.target u c.push_item.ensures written))

pub returns : goal.returns
returns g c =
    let xs = c.args.items.now in
    let i = c.loop-item.item-index in
    c.loop-item.invariant c.loop-item.target
    (no_item g.T.TextTarget.takes c.args.format (map item_fields_view (drop i xs)) c.loop-item.target (ap (map item_fields_view) (drop_all i xs (omega (arith, c.loop-item-test.false)))))
