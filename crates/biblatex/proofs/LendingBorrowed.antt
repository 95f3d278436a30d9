-- An entry that is borrowed, and what the bibliography is after it was changed.
use Rattle.std.proofs.Common.{◌≡◌, ℕ, List, ◌++◌, Option, Some, None, MutBor, length, take, drop, refl, sym, ap, ◌∙◌}
use Rattle.std.specs.Prelude.{slice_set, slice_get, option_map}
use Rattle.std.specs.List.{IsItemAtMut, refill}
use Rattle.std.proofs.lemmas.List.{map-set, map-append, take-map, drop-map, length-map}
use Rattle.std.proofs.lemmas.Option.{slice_get_past, slice_get_read}
use Rattle.biblatex_entries.specs.declared.entry.Entry.{Entry}
use Rattle.biblatex_entries.specs.Entries.{Source, source_view, sources_view}
use Rattle.biblatex.specs.declared.indices.NamedIndex.{NamedIndex}
use Rattle.biblatex.specs.Indices.{meaning_in, names_in}
use Rattle.biblatex.specs.Bibliographies.{Indexed, indexed}
use Rattle.biblatex.specs.Lending.{with_entry_at, with_entries}

-- what is written at the index that a name means
pub written : (items : List Entry) (indices : List NamedIndex) (name : List ℕ) (index : ℕ) (b : Indexed) → Some index ≡ meaning_in (names_in indices) name → indexed items indices ≡ b → (w : Entry) → indexed (slice_set items index w) indices ≡ with_entry_at (meaning_in b.names name) (source_view w) b
written items indices name index b is view w =
    (λ i. record { entries = map-set source_view items index w i; names = names_in indices })
    ∙ (ap (λ (o : Option ℕ). with_entry_at o (source_view w) (indexed items indices)) is
    ∙ ap (λ (h : Indexed). with_entry_at (meaning_in h.names name) (source_view w) h) view)

-- what is written at an index
pub written_at : (items : List Entry) (indices : List NamedIndex) (index : ℕ) (b : Indexed) → indexed items indices ≡ b → (w : Entry) → indexed (slice_set items index w) indices ≡ with_entry_at (Some index) (source_view w) b
written_at items indices index b view w =
    (λ i. record { entries = map-set source_view items index w i; names = names_in indices })
    ∙ ap (λ (h : Indexed). with_entry_at (Some index) (source_view w) h) view

-- what is borrowed is the entry at the index
pub item : (items : List Entry) (index : ℕ) (r : Option (MutBor Entry)) → IsItemAtMut items index r → option_map (λ e. source_view e.now) r ≡ option_map source_view (slice_get items index)
item items index None h = sym (ap (option_map source_view) (slice_get_past items index h.3))
item items index (Some x) h = sym (ap (option_map source_view) (slice_get_read items (length items) index x.now refl h.3.0 h.1))

-- entries that are written over others, as plain data
pub sources-refill : (n : ℕ) (items ws : List Entry) → n ≡ length items → sources_view (refill n items ws) ≡ refill (length (sources_view items)) (sources_view items) (sources_view ws)
sources-refill n items ws long =
    sym (take-map source_view n (ws ++ drop (length ws) items))
    ∙ (ap (take n) (map-append source_view ws (drop (length ws) items) ∙ ap (λ (es : List Source). sources_view ws ++ es) (sym (drop-map source_view (length ws) items)))
    ∙ ((λ i. take n (sources_view ws ++ drop (sym (length-map ws source_view) i) (sources_view items)))
    ∙ (λ i. take ((long ∙ sym (length-map items source_view)) i) (sources_view ws ++ drop (length (sources_view ws)) (sources_view items)))))

-- what is written over the entries of a bibliography
pub rewritten : (n : ℕ) (items : List Entry) (indices : List NamedIndex) (b : Indexed) → n ≡ length items → indexed items indices ≡ b → (ws : List Entry) → indexed (refill n items ws) indices ≡ with_entries (sources_view ws) b
rewritten n items indices b long view ws =
    (λ i. record { entries = sources-refill n items ws long i; names = names_in indices })
    ∙ ap (λ (h : Indexed). with_entries (sources_view ws) h) view
