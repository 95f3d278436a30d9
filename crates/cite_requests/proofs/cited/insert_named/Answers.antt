use Rattle.std.proofs.Common.{◌≡◌, ◌||◌, ◌+◌, List, [], drop, map, sym, ap, ◌∙◌, arith}
use Rattle.std.proofs.lemmas.List.{at_drop_more, drop_all}
use Rattle.biblatex.specs.Bibliographies.{listed_view}
use Rattle.cite_markers.specs.Views.{cite_view}
use Rattle.cite_markers.specs.declared.marker.Cite.{Cite}
use Rattle.cite_requests.specs.Cited.{is_among, key_meant, keys_named}
use Rattle.cite_requests.specs.Views.{has}
use Rattle.cite_requests.proofs.CitedKeys.{among_more, or_false}
use Rattle.cite_requests.proofs.cited.insert_named.Goals as goal

pub loop-cite-preserved : goal.loop-cite-preserved
loop-cite-preserved c k =
    let file = listed_view c.args.file.now in
    let i = c.loop-cite.cite-index in
    let xs = c.args.cites.now in
    let before = has c.loop-cite.keys k in
    let rest = keys_named file (map cite_view (drop (i + 1) xs)) in
    let cut = at_drop_more (λ (ys : List Cite). before || is_among (keys_named file (map cite_view ys)) k.now) xs i _ c.loop-cite-test.true in
    (λ j. c.in_ok-insert_meant.ensures k j || is_among rest k.now) ∙ among_more before (key_meant file _) rest k.now ∙ sym cut ∙ c.loop-cite.invariant k

pub returns : goal.returns
returns c k =
    let file = listed_view c.args.file.now in
    let xs = c.args.cites.now in
    let known = has c.loop-cite.keys k in
    let none : map cite_view (drop c.loop-cite.cite-index xs) ≡ [] = ap (map cite_view) (drop_all c.loop-cite.cite-index xs (omega (arith, c.loop-cite-test.false))) in
    sym (or_false known) ∙ ap (λ ps. known || is_among (keys_named file ps) k.now) (sym none) ∙ c.loop-cite.invariant k
