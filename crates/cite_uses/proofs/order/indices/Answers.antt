use Rattle.std.proofs.Common.{◌+◌, ◌++◌, ℕ, List, drop, map, sym, ap, ◌∙◌, append_assoc}
use Rattle.std.specs.Borrow.{Bor}
use Rattle.std.proofs.lemmas.List.{at_drop_more}
use Rattle.biblatex.specs.Bibliographies.{listed_view}
use Rattle.cite_uses.specs.Alike.{indices_of, now_of}
use Rattle.cite_uses.proofs.IndicesSorted.{one_name}
use Rattle.cite_uses.proofs.order.indices.Goals as goal

pub loop-name-preserved : goal.loop-name-preserved
loop-name-preserved c =
    let f = listed_view c.args.file.now in
    let g = listed_view c.args.other.now in
    let i = c.loop-name.name-index in
    let before = c.loop-name.found.items in
    let rest = map now_of (drop (i + 1) c.args.names.now) in
    ap (λ ps. ps ++ indices_of f g rest) c.in_ok-push_indices.ensures
    ∙ append_assoc before _ (indices_of f g rest)
    ∙ ap (λ ps. before ++ ps) (sym (one_name f g _ rest))
    ∙ ap (λ ps. before ++ ps) (sym (at_drop_more (λ (ns : List (Bor (List ℕ))). indices_of f g (map now_of ns)) c.args.names.now i _ c.loop-name-test.true))
    ∙ c.loop-name.invariant
