use Rattle.std.proofs.Common.{◌≡◌, ◌<◌, ℕ, ◌∙◌, List, Bor, length, map, Ok, subst, ap, arith}
use Rattle.std.specs.Prelude.{IfSome}
use Rattle.std.proofs.lemmas.List.{length-map}
use Rattle.biblatex_text.specs.declared.spanned.Spanned.{Spanned}
use Rattle.biblatex_text.specs.Views.{entry_view, spanned_text_view, field_view, raw_view as written}
use Rattle.biblatex_meaning.specs.Listed.{references}
use Rattle.biblatex.specs.Bibliographies.{listed_view}
use Rattle.biblatex_meaning.specs.Reading.{nothing_loaded}
use Rattle.biblatex_meaning.specs.Resolved.{number_of, unresolved_at}
use Rattle.biblatex.specs.Errors.{loaded_view, refusal_of}
use Rattle.biblatex_meaning.proofs.ReadingLoaded.{loaded_more, number_within, meaning, meaning_refused}
use Rattle.biblatex.proofs.ReadingJoined.{loaded_joined}
use Rattle.biblatex.proofs.bibliography.Bibliography.from_raw_counted.Goals as goal

pub returns-in-Ok-clause-count : goal.returns-in-Ok-clause-count
returns-in-Ok-clause-count c =
    let more = loaded_more c.in_ok-abbreviations.abbreviations nothing_loaded (loaded_view c.in_ok-loaded.loaded) (map entry_view c.args.raw.entries.items) c.in_ok-loaded.ensures in
    let long = length-map c.args.raw.entries.items entry_view in
    let count = c.in-Ok.ensures.count in
    omega (arith, more.entries, long, count)

pub unresolved-requires : goal.unresolved-requires
unresolved-requires c =
    let more = loaded_more c.in_ok-abbreviations.abbreviations nothing_loaded (loaded_view c.in_ok-loaded.loaded) (map entry_view c.args.raw.entries.items) c.in_ok-loaded.ensures in
    let keys = length-map c.in_ok-loaded.loaded.keys.items spanned_text_view in
    let same : length c.in_ok-loaded.loaded.bibliography.entries ≡ length c.as_slice-in-Err.result.now = omega (arith, more.entries, more.keys, keys, ap length c.as_slice-in-Err.ensures.value) in
    subst (λ (n : ℕ). IfSome (number_of c.in-Err.error) (λ k. k < n)) same
    (number_within c.in_ok-loaded.loaded.bibliography.entries (references (listed_view c.in_ok-loaded.loaded.bibliography)) c.in-Err.error c.in-Err.ensures.err)

pub returns-in-Ok-clause-meaning : goal.returns-in-Ok-clause-meaning
returns-in-Ok-clause-meaning c =
    meaning (written c.args.raw) c.in_ok-abbreviations.abbreviations (loaded_view c.in_ok-loaded.loaded) (Ok (listed_view c.in-Ok.bibliography)) (c.in_ok-abbreviations.ensures.definitions ∙ ap (map field_view) c.as_slice.ensures.value) c.in_ok-abbreviations.ensures.flags
    c.in_ok-loaded.ensures c.in-Ok.ensures.ok

pub returns-clause-meaning : goal.returns-clause-meaning
returns-clause-meaning c =
    meaning_refused (written c.args.raw) c.in_ok-abbreviations.abbreviations (loaded_view c.in_ok-loaded.loaded) c.in-Err.error (refusal_of c.in_ok-unresolved-in-Err.field-0) (c.in_ok-abbreviations.ensures.definitions ∙ ap (map field_view) c.as_slice.ensures.value)
    c.in_ok-abbreviations.ensures.flags c.in_ok-loaded.ensures c.in-Err.ensures.err (c.in_ok-unresolved-in-Err.ensures ∙ ap (λ (ks : List (Spanned (Bor (List ℕ)))). unresolved_at (map spanned_text_view ks) c.in-Err.error) c.as_slice-in-Err.ensures.value)

pub returns-in-Ok-clause-joined : goal.returns-in-Ok-clause-joined
returns-in-Ok-clause-joined c = c.in-Ok.ensures.joined (loaded_joined c.in_ok-abbreviations.abbreviations (loaded_view c.in_ok-loaded.loaded) (map entry_view c.args.raw.entries.items) c.in_ok-loaded.ensures)
