use Rattle.std.proofs.Common.{◌≡◌, length, refl, ap, ◌+◌, ◌∙◌, arith}
use Rattle.std.specs.Prelude.{option_map}
use Rattle.std.proofs.lemmas.List.{length-map}
use Rattle.std.proofs.lemmas.Option.{slice_get-map, slice_get_read}
use Rattle.biblatex_entries.specs.Entries.{source_view, sources_view}
use Rattle.biblatex.proofs.IndicesWithin.{out_within, sources-remove}
use Rattle.biblatex.proofs.indexed.take.Goals as goal

pub remove-requires : goal.remove-requires
remove-requires c = omega (arith, c.requires.index, c.args.entries.now.ok.0, length-map c.args.entries.now.items source_view)

pub returns-clause-rest : goal.returns-clause-rest
returns-clause-rest c =
    let items = ap sources_view c.remove.ensures.items ∙ sources-remove c.args.entries.now.items c.args.index in
    λ i. record { entries = items i; index = c.take_out.ensures.meaning i }

pub returns-clause-within : goal.returns-clause-within
returns-clause-within c = λ within.
    let count : length (sources_view c.remove.new.self.items) + 1 ≡ length (sources_view c.args.entries.now.items) = omega (arith, c.remove.ensures.len, c.args.entries.now.ok.0, c.remove.new.self.ok.0, length-map c.args.entries.now.items source_view, length-map c.remove.new.self.items source_view) in
    out_within c.args.index (length (sources_view c.args.entries.now.items)) (length (sources_view c.remove.new.self.items)) _ _ c.take_out.ensures.meaning c.requires.index count within

pub returns-clause-value : goal.returns-clause-value
returns-clause-value c =
    let items = c.args.entries.now.items in
    slice_get-map source_view items c.args.index
    ∙ ap (option_map source_view) (slice_get_read items _ c.args.index c.remove.result refl (omega (arith, c.requires.index, length-map items source_view)) c.remove.ensures.value)
