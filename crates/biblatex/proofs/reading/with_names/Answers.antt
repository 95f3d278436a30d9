use Rattle.std.proofs.Common.{◌≡◌, ◌<◌, List, ℕ, Option, Some, None, Ok, length, refl, sym, ap, subst, ◌∙◌, arith}
use Rattle.std.specs.Prelude.{option_and_then, option_map}
use Rattle.std.proofs.lemmas.List.{length-map}
use Rattle.std.proofs.lemmas.Option.{slice_get-map, slice_get_read}
use Rattle.biblatex_text.specs.Views.{spanned_text_view}
use Rattle.biblatex_fields.specs.declared.error.ParseError.{ParseError}
use Rattle.biblatex_entries.specs.declared.entry.Entry.{Entry}
use Rattle.biblatex_entries.specs.Entries.{source_view, sources_view}
use Rattle.biblatex.specs.Naming.{names_from}
use Rattle.biblatex.specs.Naming as specs
use Rattle.biblatex.specs.Errors.{refusal_of, read_view}
use Rattle.biblatex.proofs.NamingSources.{repeated_within}
use Rattle.biblatex.proofs.NamingOnce.{AreNamesOf, bound_all, named_within}
use Rattle.biblatex.proofs.ReadingOnce.{key_refused, fault_refused, all_read, read_there}
use Rattle.biblatex.proofs.reading.with_names.Goals as goal

-- what was found of a slice is so of the vector
moved : (es fs : List Entry) (o : Option ℕ) → es ≡ fs → o ≡ specs.first_repeated (names_from 0 (sources_view es)) 0 (sources_view es) → o ≡ specs.first_repeated (names_from 0 (sources_view fs)) 0 (sources_view fs)
moved es fs o same is = subst (λ (xs : List Entry). o ≡ specs.first_repeated (names_from 0 (sources_view xs)) 0 (sources_view xs)) same is

-- the entry of that number is there
there : (es : List Entry) (n : ℕ) → Some n ≡ specs.first_repeated (names_from 0 (sources_view es)) 0 (sources_view es) → n < length es
there es n is = let low = repeated_within (names_from 0 (sources_view es)) 0 n (sources_view es) (sym is) in omega (arith, low, length-map es source_view)

pub index-requires : goal.index-requires
index-requires c =
    let entries = c.args.read.entries in
    let low = there entries.items c.in-Some.number (moved c.as_slice-2.result.now entries.items (Some c.in-Some.number) c.as_slice-2.ensures.value c.in-Some.ensures) in
    omega (arith, low, entries.ok.0)

pub index-requires-in-Some : goal.index-requires-in-Some
index-requires-in-Some c =
    let r = c.args.read in
    let low = there r.entries.items c.in-Some.number (moved c.as_slice-2.result.now r.entries.items (Some c.in-Some.number) c.as_slice-2.ensures.value c.in-Some.ensures) in
    let long = c.requires in
    omega (arith, low, long, length-map r.entries.items source_view, length-map r.keys.items spanned_text_view, r.keys.ok.0)

pub returns-in-Some : goal.returns-in-Some
returns-in-Some c =
    let r = c.args.read in
    let n = c.in-Some.number in
    let e = c.index.result.now in
    let k = c.index-in-Some.result.now in
    let found = moved c.as_slice-2.result.now r.entries.items (Some n) c.as_slice-2.ensures.value c.in-Some.ensures in
    let low = there r.entries.items n found in
    let long = c.requires in
    let key_low : n < length r.keys.items = omega (arith, low, long, length-map r.entries.items source_view, length-map r.keys.items spanned_text_view) in
    let entry = slice_get-map source_view r.entries.items n ∙ ap (option_map source_view) (slice_get_read r.entries.items _ n e refl low c.index.ensures) in
    let key = slice_get-map spanned_text_view r.keys.items n ∙ ap (option_map spanned_text_view) (slice_get_read r.keys.items _ n k refl key_low c.index-in-Some.ensures) in
    key_refused (read_view r) n (source_view e) (spanned_text_view k) (refusal_of c.in_ok-repeated.field-0) found entry key c.in_ok-repeated.ensures

pub returns-in-Some-fault : goal.returns-in-Some-fault
returns-in-Some-fault c =
    let r = c.args.read in
    let none = moved c.as_slice-2.result.now r.entries.items None c.as_slice-2.ensures.value c.in_default.ensures in
    fault_refused (read_view r) (refusal_of c.in-Some-fault.fault) none (ap (λ (o : Option ParseError). option_and_then refusal_of o) (sym c.in-Some-fault.is))

pub of-bibliography-requires-clause-within : goal.of-bibliography-requires-clause-within
of-bibliography-requires-clause-within c =
    let es = c.args.read.entries.items in
    let ns = c.in_ok-names.names.items in
    let equal = subst (λ (xs : List Entry). AreNamesOf ns (sources_view xs)) c.as_slice.ensures.value c.in_ok-names.ensures.equal in
    named_within c.in_ok-last_of_each.field-0.items es (c.in_ok-last_of_each.ensures.meaning ∙ bound_all ns (sources_view es) equal)

pub returns : goal.returns
returns c =
    let r = c.args.read in
    let es = r.entries.items in
    let ns = c.in_ok-names.names.items in
    let equal = subst (λ (xs : List Entry). AreNamesOf ns (sources_view xs)) c.as_slice.ensures.value c.in_ok-names.ensures.equal in
    let meant = c.in_ok-last_of_each.ensures.meaning ∙ bound_all ns (sources_view es) equal in
    let none = moved c.as_slice-2.result.now es None c.as_slice-2.ensures.value c.in_default.ensures in
    all_read (read_view r) none (ap (λ (o : Option ParseError). option_and_then refusal_of o) c.in_default-fault.is)
    ∙ ap Ok (read_there es c.in_ok-last_of_each.field-0.items c.of-bibliography.result r.keys.items c.of-bibliography.ensures meant)
