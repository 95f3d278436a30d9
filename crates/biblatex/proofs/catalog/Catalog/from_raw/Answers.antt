use Rattle.std.proofs.Common.{◌≡◌, ◌<◌, ℕ, ◌∙◌, List, Bor, length, map, Ok, subst, ap, arith}
use Rattle.std.specs.Prelude.{IfSome}
use Rattle.std.proofs.lemmas.List.{length-map}
use Rattle.biblatex_text.specs.declared.spanned.Spanned.{Spanned}
use Rattle.biblatex_text.specs.Views.{entry_view, spanned_text_view, field_view, raw_view as written}
use Rattle.biblatex_meaning.specs.Listed.{references}
use Rattle.biblatex_meaning.specs.Reading.{nothing_loaded}
use Rattle.biblatex_meaning.specs.Resolved.{number_of, unresolved_at}
use Rattle.biblatex_meaning.proofs.ReadingLoaded.{loaded_more, number_within, meaning, meaning_refused}
use Rattle.biblatex.specs.Bibliographies.{listed_view}
use Rattle.biblatex.specs.Errors.{refusal_of}
use Rattle.biblatex.specs.Loading.{whole, loaded_apart_view}
use Rattle.biblatex.proofs.catalog.Catalog.from_raw.Goals as goal

pub cataloged-requires : goal.cataloged-requires
cataloged-requires c = c.in_ok-loaded.ensures.apart

pub unresolved-requires : goal.unresolved-requires
unresolved-requires c =
    let b = whole c.in_ok-loaded.loaded.bibliography c.in_ok-loaded.loaded.shared.items in
    let more = loaded_more c.in_ok-abbreviations.abbreviations nothing_loaded (loaded_apart_view c.in_ok-loaded.loaded) (map entry_view c.args.raw.entries.items) c.in_ok-loaded.ensures.read in
    let keys = length-map c.in_ok-loaded.loaded.keys.items spanned_text_view in
    let same : length b.entries ≡ length c.as_slice-in-Err.result.now = omega (arith, more.entries, more.keys, keys, ap length c.as_slice-in-Err.ensures.value) in
    subst (λ (n : ℕ). IfSome (number_of c.in-Err.error) (λ k. k < n)) same
    (number_within b.entries (references (listed_view b)) c.in-Err.error c.in-Err.ensures.err)

pub returns-in-Ok : goal.returns-in-Ok
returns-in-Ok c =
    meaning (written c.args.raw) c.in_ok-abbreviations.abbreviations (loaded_apart_view c.in_ok-loaded.loaded) (Ok (listed_view c.in-Ok.catalog)) (c.in_ok-abbreviations.ensures.definitions ∙ ap (map field_view) c.as_slice.ensures.value) c.in_ok-abbreviations.ensures.flags
    c.in_ok-loaded.ensures.read c.in-Ok.ensures.ok

pub returns : goal.returns
returns c =
    meaning_refused (written c.args.raw) c.in_ok-abbreviations.abbreviations (loaded_apart_view c.in_ok-loaded.loaded) c.in-Err.error (refusal_of c.in_ok-unresolved-in-Err.field-0) (c.in_ok-abbreviations.ensures.definitions ∙ ap (map field_view) c.as_slice.ensures.value)
    c.in_ok-abbreviations.ensures.flags c.in_ok-loaded.ensures.read c.in-Err.ensures.err (c.in_ok-unresolved-in-Err.ensures ∙ ap (λ (ks : List (Spanned (Bor (List ℕ)))). unresolved_at (map spanned_text_view ks) c.in-Err.error) c.as_slice-in-Err.ensures.value)
