use Rattle.std.proofs.Common.{refl, sym, ap, ◌∙◌, arith}
use Rattle.std.specs.Prelude.{option_map, Some, slice_set}
use Rattle.std.proofs.lemmas.List.{map-set, length-map}
use Rattle.std.proofs.lemmas.Option.{slice_get-map, slice_get_read}
use Rattle.biblatex_entries.specs.declared.entry.Entry.{Entry}
use Rattle.biblatex_entries.specs.Entries.{source_view, sources_view}
use Rattle.biblatex.proofs.indexed.replace.Goals as goal

pub index_mut-requires : goal.index_mut-requires
index_mut-requires c = omega (arith, c.requires, c.args.entries.now.ok.0, length-map c.args.entries.now.items source_view)

pub returns-clause-items : goal.returns-clause-items
returns-clause-items c = ap (λ (e : Entry). sources_view (slice_set c.args.entries.now.items c.args.index e)) c.replace.ensures.after ∙ map-set source_view c.args.entries.now.items c.args.index c.args.entry

pub returns-clause-value : goal.returns-clause-value
returns-clause-value c =
    let items = c.args.entries.now.items in
    slice_get-map source_view items c.args.index
    ∙ ap (option_map source_view) (slice_get_read items _ c.args.index c.index_mut.result.now refl (omega (arith, c.requires, length-map items source_view)) c.index_mut.ensures.value)
    ∙ ap (λ (e : Entry). Some (source_view e)) (sym c.replace.ensures.value)
