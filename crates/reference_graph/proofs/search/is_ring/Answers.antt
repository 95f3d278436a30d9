use Rattle.std.proofs.Common.{length, arith, ◌∙◌, sym, subst, ◌<◌, ℕ}
use Rattle.std.proofs.lemmas.List.{get_or_default}
use Rattle.reference_graph.specs.References.{lists}
use Rattle.reference_graph.specs.Search.{search_view}
use Rattle.reference_graph.proofs.SearchVectors.{list_of, ring_decided}
use Rattle.reference_graph.proofs.search.is_ring.Goals as goal

pub returns : goal.returns
returns c =
    let path = c.args.search.now.path.items in
    let number = c.index-number.result.now in
    let is = get_or_default path c.args.start 0 number c.requires.start ∙ sym c.index-number.ensures in
    let there = subst (λ (x : ℕ). x < length c.args.references.now) is c.requires.there in
    let list = list_of c.args.references.now number c.index-references-number.result there c.index-references-number.is ∙ sym c.deref.ensures.value in
    ring_decided (lists c.args.references.now) (search_view c.args.search.now) c.args.start number c.deref.result.now c.refers_to.result is list (omega (arith, c.args.search.now.path.ok.0)) c.refers_to.ensures
