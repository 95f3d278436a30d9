-- Entries that were read back mean the works that they meant.
use Rattle.std.proofs.Common.{◌≡◌, ℕ, zero, suc, true, not, ◌&&◌, List, [], ◌∷◌, slice_get, Option, Some, None, Result, Ok, Err, codes, refl, sym, ap, ◌∙◌}
use Rattle.std.specs.Prelude.{option_and_then, if◌then◌else◌}
use Rattle.std.specs.List.{AllByRecursion, list_all, list_any}
use Rattle.std.specs.Str.{bytes_eq}
use Rattle.biblatex_content.proofs.Tests.{first_of_two, second_of_two, not_true}
use Rattle.biblatex_content.specs.Verbatim.{is_verbatim_name}
use Rattle.biblatex_writing.specs.SettledContent.{is_settled_content}
use Rattle.std.specs.Str.{chars}
use Rattle.laws.specs.Results.{◌>>=◌}
use Rattle.laws.specs.Text.{text}
use Rattle.biblatex.specs.Listed.{Listed, after_first}
use Rattle.biblatex.specs.Entries.{Source}
use Rattle.biblatex.specs.Fields.{Named}
use Rattle.biblatex.specs.TypeNames.{written_type}
use Rattle.biblatex_writing.specs.Flat.{flat, flat_entry}
use Rattle.biblatex_writing.specs.Settled.{have_distinct_keys, is_lowered_identifier, is_settled, is_settled_entry, is_settled_field, is_settled_key, is_settled_type, naming_fields}
use Rattle.biblatex_reading_back.specs.ReadingBack.{AreReadBack, IsReadBack}
use Rattle.biblatex_reading_back.proofs.EntriesBack.{NamesNone, no_ids, not_named}
use Rattle.literature_entries.specs.EntriesData.{EntryData}
use Rattle.literature.specs.Keys.{with_key}
use Rattle.interop.specs.Bridge.{Fault}
use Rattle.interop.specs.Library.{is_xdata, key_of}
use Rattle.interop_roads.specs.Roads.{AreWrittenApart}
use Rattle.interop_roads.proofs.FlatAlike.{others_stay}
use Rattle.interop_roads.proofs.ReadBackAlike.{written_once}
use Rattle.interop_roads.proofs.WrittenLookUps.{nothing_back}
use Rattle.cite_markers.specs.Document.{Piece}
use Rattle.cite_requests.specs.Markers.{names_cited}
use Rattle.cite_output.specs.Output.{output_text}
use Rattle.cite_requests.specs.Sections.{chosen}
use Rattle.cite_requests.specs.Stages.{document_stage, section_stage, works_from}
use Rattle.cite.specs.Verdict.{Task, driver_stage, rendered_stage, verdict}
use Rattle.cite_requests.specs.Works.{Works, MeansOneWork, work_of}
use Rattle.cite.proofs.SameMarkers.{names_same}
use Rattle.cite.proofs.NamesAreKeys.{HasNoAliases, NamesAreKeys, last_with}

-- settled fields name no entries
names_none : (f : Named) → is_settled_field f ≡ true → NamesNone f.0
names_none f is =
    not_true (list_any (bytes_eq f.0) naming_fields)
    (first_of_two (not (list_any (bytes_eq f.0) naming_fields)) (is_lowered_identifier (chars f.0))
    (first_of_two (not (list_any (bytes_eq f.0) naming_fields) && is_lowered_identifier (chars f.0)) (is_settled_content (is_verbatim_name f.0) f.1.text) is))

all_none : (fs : List Named) → list_all is_settled_field fs ≡ true → AllByRecursion (λ f. NamesNone f.0) fs
all_none [] is = tt
all_none (f ∷ fs) is = (names_none f (first_of_two (is_settled_field f) (list_all is_settled_field fs) is), all_none fs (second_of_two (is_settled_field f) (list_all is_settled_field fs) is))

settled_no_aliases : (e : Source) → is_settled_entry e ≡ true → HasNoAliases e
settled_no_aliases e is =
    not_named (codes "ids") e.fields no_ids
    (all_none e.fields (second_of_two (is_settled_key (chars e.key) && is_settled_type e.entry_type) (list_all is_settled_field e.fields) is))

flat_no_aliases : (es : List Source) → list_all is_settled_entry (flat es) ≡ true → AllByRecursion HasNoAliases es
flat_no_aliases [] is = tt
flat_no_aliases (e ∷ es) is = (
  sym (others_stay (codes "ids") refl e.fields) ∙ settled_no_aliases (flat_entry e) (first_of_two (is_settled_entry (flat_entry e)) (list_all is_settled_entry (flat es)) is),
  flat_no_aliases es (second_of_two (is_settled_entry (flat_entry e)) (list_all is_settled_entry (flat es)) is),
)

-- a file that is settled without `crossref` has no aliases
pub no_aliases : (es : List Source) → is_settled (flat es) ≡ true → AllByRecursion HasNoAliases es
no_aliases es is = flat_no_aliases es (second_of_two (have_distinct_keys (flat es)) (list_all is_settled_entry (flat es)) is)

back_no_aliases : (es gs : List Source) → list_all is_settled_entry es ≡ true → AreWrittenApart es → AreReadBack es gs → AllByRecursion HasNoAliases gs
back_no_aliases [] [] is apart h = tt
back_no_aliases [] (g ∷ gs) is apart h = absurd h
back_no_aliases (e ∷ es) [] is apart h = absurd h
back_no_aliases (e ∷ es) (g ∷ gs) is apart h = (
  nothing_back (codes "ids") e.fields g.fields (h.0.fields apart.0) refl (settled_no_aliases e (first_of_two (is_settled_entry e) (list_all is_settled_entry es) is)),
  back_no_aliases es gs (second_of_two (is_settled_entry e) (list_all is_settled_entry es) is) apart.1 h.1,
)

-- and neither has what was read back of it
pub none_back : (es gs : List Source) → is_settled es ≡ true → AreWrittenApart es → AreReadBack es gs → AllByRecursion HasNoAliases gs
none_back es gs is = back_no_aliases es gs (second_of_two (have_distinct_keys es) (list_all is_settled_entry es) is)

last_back : (name : List ℕ) (es gs : List Source) → AreReadBack (flat es) gs → last_with name es ≡ last_with name gs
last_back name [] [] h = refl
last_back name [] (g ∷ gs) h = absurd h
last_back name (e ∷ es) [] h = absurd h
last_back name (e ∷ es) (g ∷ gs) h = λ i. after_first (last_back name es gs h.1 i) (bytes_eq name (sym h.0.key i))

work_back : (library : List EntryData) (e g : Source) → IsReadBack (flat_entry e) g → work_of library e ≡ work_of library g
work_back library e g h =
    let types : written_type e.entry_type ≡ written_type g.entry_type = sym ((λ i. written_type (h.entry_type i)) ∙ written_once e.entry_type) in
    λ i. if is_xdata (types i) then None else with_key key_of (sym h.key i) library

works_back : (library : List EntryData) (es gs : List Source) → AreReadBack (flat es) gs → (i : ℕ)
    → option_and_then (work_of library) (slice_get es i) ≡ option_and_then (work_of library) (slice_get gs i)
works_back library [] [] h i = refl
works_back library [] (g ∷ gs) h i = absurd h
works_back library (e ∷ es) [] h i = absurd h
works_back library (e ∷ es) (g ∷ gs) h zero = work_back library e g h.0
works_back library (e ∷ es) (g ∷ gs) h (suc i) = works_back library es gs h.1 i

module _ (file back : Listed) (read : AreReadBack (flat file.entries) back.entries) (keys : NamesAreKeys file) (keys_too : NamesAreKeys back) where
  abbrev with_library : List EntryData → Listed → Works
  with_library library f = record { file = f; library = library }

  one_work : (library : List EntryData) (name : List ℕ) → MeansOneWork (with_library library file) (with_library library back) name
  one_work library name = by (file.index name) ∙ ap (λ (o : Option ℕ). option_and_then (work_of library) (option_and_then (slice_get back.entries) o)) same
    where
      same : file.index name ≡ back.index name
      same = keys name ∙ (last_back name file.entries back.entries read ∙ sym (keys_too name))

      by : (o : Option ℕ) → option_and_then (work_of library) (option_and_then (slice_get file.entries) o) ≡ option_and_then (work_of library) (option_and_then (slice_get back.entries) o)
      by None = refl
      by (Some i) = works_back library file.entries back.entries read i

  each_name : (library : List EntryData) (names : List (List ℕ)) → AllByRecursion (MeansOneWork (with_library library file) (with_library library back)) names
  each_name library [] = tt
  each_name library (name ∷ names) = (one_work library name, each_name library names)

  rendered_same : (library : List EntryData) (task : Task) (pieces : List Piece)
      → rendered_stage (with_library library file) task.context task.sections pieces ≡ rendered_stage (with_library library back) task.context task.sections pieces
  unfolding rendered_stage
  rendered_same library task pieces =
      λ i. names_same (with_library library file) (with_library library back) pieces (each_name library (names_cited pieces)) i
      >>= λ markers. section_stage task.sections >>= λ selectors. driver_stage task.context (chosen selectors library) markers

  verdict_same : (library : List EntryData) (task : Task) → verdict (Ok (with_library library file)) task ≡ verdict (Ok (with_library library back)) task
  unfolding verdict
  verdict_same library task = λ i. document_stage task.document >>= λ pieces. rendered_same library task pieces i >>= λ rendered. Ok (text (output_text task.format pieces rendered))

  -- whatever the library is
  pub verdicts_same : (found : Result (List EntryData) (List Fault)) (task : Task) → verdict (works_from file found) task ≡ verdict (works_from back found) task
  verdicts_same (Ok library) task = verdict_same library task
  verdicts_same (Err faults) task = refl
