use Rattle.std.proofs.Common.{sym, ◌∙◌}
use Rattle.biblatex.proofs.IndicesPlaces.{found, there, at_place, before_apart, meant_nowhere}
use Rattle.biblatex.proofs.indices.first_index_in.Goals as goal

pub returns-then-stands_at : goal.returns-then-stands_at
returns-then-stands_at c =
    let names = c.args.names.now in
    let name = c.args.name.now in
    let place = c.place_of-place.result in
    let here = sym c.stands_at.ensures ∙ c.if-stands_at.true in
    let low = there names place name here in
    sym (found names name place c.index-names-place.result low (before_apart names name place c.place_of-place.ensures.place) (sym (at_place names place name c.index-names-place.result low) ∙ here))

pub returns-else-stands_at : goal.returns-else-stands_at
returns-else-stands_at c =
    meant_nowhere c.args.names.now c.args.name.now c.place_of-place.result c.requires c.place_of-place.ensures.place (sym c.stands_at.ensures ∙ c.if-stands_at.false)
