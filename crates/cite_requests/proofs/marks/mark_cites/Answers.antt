use Rattle.std.proofs.Common.{◌≡◌, ◌+◌, Bool, List, [], drop, map, sym, ap, ◌∙◌, arith}
use Rattle.std.proofs.lemmas.List.{at_drop_more, drop_all}
use Rattle.biblatex.specs.Bibliographies.{listed_view}
use Rattle.cite_markers.specs.Marker as specs
use Rattle.cite_markers.specs.Views.{cite_view}
use Rattle.cite_markers.specs.declared.marker.Cite.{Cite}
use Rattle.cite_requests.specs.Cited.{marked_cites}
use Rattle.cite_requests.proofs.marks.mark_cites.Goals as goal

pub loop-cite-preserved : goal.loop-cite-preserved
loop-cite-preserved c =
    let file = listed_view c.args.file.now in
    let i = c.loop-cite.cite-index in
    let xs = c.args.cites.now in
    let before = c.loop-cite.marks in
    let cut = at_drop_more (λ (ys : List Cite). marked_cites file before (map cite_view ys)) xs i _ c.loop-cite-test.true in
    ap (λ (ms : List Bool). marked_cites file ms (map cite_view (drop (i + 1) xs))) c.mark_named.ensures ∙ sym cut ∙ c.loop-cite.invariant

pub returns : goal.returns
returns c =
    let file = listed_view c.args.file.now in
    let xs = c.args.cites.now in
    let none : map cite_view (drop c.loop-cite.cite-index xs) ≡ [] = ap (map cite_view) (drop_all c.loop-cite.cite-index xs (omega (arith, c.loop-cite-test.false))) in
    ap (λ (cs : List specs.Cite). marked_cites file c.loop-cite.marks cs) (sym none) ∙ c.loop-cite.invariant
