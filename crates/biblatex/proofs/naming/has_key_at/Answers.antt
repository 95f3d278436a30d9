use Rattle.std.proofs.Common.{Option, bytes_eq, option_map, refl, sym, ap, ◌∙◌}
use Rattle.std.proofs.lemmas.Option.{slice_get-map, slice_get_read, slice_get_past}
use Rattle.biblatex_entries.specs.declared.entry.Entry.{Entry}
use Rattle.biblatex_entries.specs.Entries.{source_view}
use Rattle.biblatex.specs.Naming.{is_key_of}
use Rattle.biblatex.proofs.naming.has_key_at.Goals as goal

pub returns-in-Some : goal.returns-in-Some
returns-in-Some c =
    let es = c.args.entries.now in
    let key = c.args.key.now in
    let found = c.in-Some.ensures.lookup in
    let at = slice_get_read es _ c.args.index c.in-Some.entry.now refl found.3.0 found.1 in
    c.eq.ensures
    ∙ (ap (bytes_eq key) c.as_str.ensures.value ∙ sym (ap (is_key_of key) (slice_get-map source_view es c.args.index ∙ ap (λ (o : Option Entry). option_map source_view o) at)))

pub returns-in-None : goal.returns-in-None
returns-in-None c =
    let es = c.args.entries.now in
    sym (ap (is_key_of c.args.key.now) (slice_get-map source_view es c.args.index ∙ ap (λ (o : Option Entry). option_map source_view o) (slice_get_past es c.args.index c.in-None.ensures.lookup.3)))
