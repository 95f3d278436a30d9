-- Bib texts whose entries have the same contents without `crossref` have one verdict.
use Rattle.std.proofs.Common.{◌≡◌, ℕ, zero, suc, List, [], ◌∷◌, slice_get, Option, Some, None, Result, Ok, Err, codes, refl, sym, ap, subst, ◌∙◌}
use Rattle.std.specs.Prelude.{option_and_then, if◌then◌else◌}
use Rattle.std.specs.List.{AllByRecursion, list_any}
use Rattle.std.specs.Option.{option_map, option_or}
use Rattle.std.specs.Str.{bytes_eq, chars}
use Rattle.laws.specs.Results.{◌>>=◌}
use Rattle.laws.specs.Text.{text}
use Rattle.biblatex_content.specs.Styled.{Member}
use Rattle.biblatex.specs.Listed.{Listed, IsAsRead, after_first, last_named}
use Rattle.biblatex.specs.Entries.{Source, field_text, names_of, text_in}
use Rattle.biblatex.specs.Fields.{Named, text_named, without_field}
use Rattle.biblatex.specs.Names.{listed}
use Rattle.biblatex.specs.Value.{Value}
use Rattle.biblatex_writing.specs.Flat.{flat, flat_entry}
use Rattle.literature_entries.specs.EntriesData.{EntryData}
use Rattle.literature.specs.Keys.{with_key}
use Rattle.interop_values.specs.Values.{filled, values}
use Rattle.interop.specs.Bridge.{Fault}
use Rattle.interop.specs.Library.{AreAlike, IsAlike, is_xdata, key_of, library_of}
use Rattle.interop.proofs.LibraryWorks.{alike_library}
use Rattle.interop.proofs.SameFilesAlike.{files_alike}
use Rattle.interop_roads.proofs.FlatAlike.{flat_library, others_stay}
use Rattle.cite_markers.specs.Document.{Piece}
use Rattle.cite_requests.specs.Markers.{names_cited}
use Rattle.cite_requests.specs.Sections.{chosen}
use Rattle.cite_requests.specs.Stages.{document_stage, library_stage, section_stage, works_from}
use Rattle.cite_requests.specs.Works.{Works, MeansOneWork, work_of}
use Rattle.cite_output.specs.Output.{output_text}
use Rattle.cite.specs.Verdict.{Task, IsVerdict, driver_stage, rendered_stage, verdict}
use Rattle.cite.proofs.SameMarkers.{names_same}
use Rattle.cite.proofs.VerdictsUnique.{one_verdict}
use Rattle.cite_laws.specs.WrittenOut.{AuthorsMayWriteReferencesOut, ContentsMayBeWrittenOut, ReferencesMayBeWrittenOut}
use Rattle.cite_laws.proofs.FilesRead.{read_file}
use Rattle.cite_laws.proofs.NamesStay.{names_stay}
use Rattle.cite_laws.proofs.NoReferences.{alike_through, entries_stand, fields_stand}

-- the text of an empty field is that of none
text_filled : (o : Option (List Member)) → text_in (filled o) ≡ text_in o
text_filled None = refl
text_filled (Some []) = refl
text_filled (Some (m ∷ ms)) = refl

-- no field is written under `ids` but `ids`
ids_alone : (fs : List Named) → values fs (codes "ids") ≡ filled (text_named (codes "ids") fs)
ids_alone fs = by (filled (text_named (codes "ids") fs))
  where
    by : (o : Option (List Member)) → option_or o None ≡ o
    by None = refl
    by (Some ms) = refl

-- the aliases of an entry are among its contents without `crossref`
ids_in : (e : Source) → text_in (values (without_field (codes "crossref") e.fields) (codes "ids")) ≡ field_text (codes "ids") e.fields
ids_in e =
    ap text_in (ids_alone (without_field (codes "crossref") e.fields))
    ∙ text_filled (text_named (codes "ids") (without_field (codes "crossref") e.fields))
    ∙ ap (λ (v : Option Value). text_in (option_map (λ x. x.text) v)) (others_stay (codes "ids") refl e.fields)

-- entries of the same contents have the same names
same_names : (e f : Source) → IsAlike (flat_entry e) (flat_entry f) → names_of e ≡ names_of f
same_names e f h =
    let ids : field_text (codes "ids") e.fields ≡ field_text (codes "ids") f.fields = sym (ids_in e) ∙ ap text_in (h.values (codes "ids")) ∙ ids_in f in
    λ i. h.key i ∷ listed (ids i)

last_same : (name : List ℕ) (es fs : List Source) → AreAlike (flat es) (flat fs) → last_named name es ≡ last_named name fs
last_same name [] [] h = refl
last_same name [] (f ∷ fs) h = absurd h
last_same name (e ∷ es) [] h = absurd h
last_same name (e ∷ es) (f ∷ fs) h = λ i. after_first (last_same name es fs h.1 i) (list_any (bytes_eq name) (same_names e f h.0 i))

-- and are the same works of a library
work_same : (library : List EntryData) (e f : Source) → IsAlike (flat_entry e) (flat_entry f) → work_of library e ≡ work_of library f
work_same library e f h = λ i. if is_xdata (h.entry_type i) then None else with_key key_of (h.key i) library

works_same : (library : List EntryData) (es fs : List Source) → AreAlike (flat es) (flat fs) → (i : ℕ)
    → option_and_then (work_of library) (slice_get es i) ≡ option_and_then (work_of library) (slice_get fs i)
works_same library [] [] h i = refl
works_same library [] (f ∷ fs) h i = absurd h
works_same library (e ∷ es) [] h i = absurd h
works_same library (e ∷ es) (f ∷ fs) h zero = work_same library e f h.0
works_same library (e ∷ es) (f ∷ fs) h (suc i) = works_same library es fs h.1 i

-- files whose entries have the same contents, by one library
module _ (file written : Listed) (alike : AreAlike (flat file.entries) (flat written.entries)) (names : IsAsRead file) (names_too : IsAsRead written) where
  abbrev with_library : List EntryData → Listed → Works
  with_library library f = record { file = f; library = library }

  one_work : (library : List EntryData) (name : List ℕ) → MeansOneWork (with_library library file) (with_library library written) name
  one_work library name = by (file.index name) ∙ ap (λ (o : Option ℕ). option_and_then (work_of library) (option_and_then (slice_get written.entries) o)) same
    where
      same : file.index name ≡ written.index name
      same = names name ∙ (last_same name file.entries written.entries alike ∙ sym (names_too name))

      by : (o : Option ℕ) → option_and_then (work_of library) (option_and_then (slice_get file.entries) o) ≡ option_and_then (work_of library) (option_and_then (slice_get written.entries) o)
      by None = refl
      by (Some i) = works_same library file.entries written.entries alike i

  each_name : (library : List EntryData) (ns : List (List ℕ)) → AllByRecursion (MeansOneWork (with_library library file) (with_library library written)) ns
  each_name library [] = tt
  each_name library (n ∷ ns) = (one_work library n, each_name library ns)

  rendered_same : (library : List EntryData) (task : Task) (pieces : List Piece)
      → rendered_stage (with_library library file) task.context task.sections pieces ≡ rendered_stage (with_library library written) task.context task.sections pieces
  unfolding rendered_stage
  rendered_same library task pieces =
      λ i. names_same (with_library library file) (with_library library written) pieces (each_name library (names_cited pieces)) i
      >>= λ markers. section_stage task.sections >>= λ selectors. driver_stage task.context (chosen selectors library) markers

  verdict_same : (library : List EntryData) (task : Task) → verdict (Ok (with_library library file)) task ≡ verdict (Ok (with_library library written)) task
  unfolding verdict
  verdict_same library task = λ i. document_stage task.document >>= λ pieces. rendered_same library task pieces i >>= λ rendered. Ok (text (output_text task.format pieces rendered))

  verdicts_same : (found : Result (List EntryData) (List Fault)) (task : Task) → verdict (works_from file found) task ≡ verdict (works_from written found) task
  verdicts_same (Ok library) task = verdict_same library task
  verdicts_same (Err faults) task = refl

pub contents_written : ContentsMayBeWrittenOut
contents_written bib other file written read read_too alike task answer =
    let one = read_file bib file read in
    let two = read_file other written read_too in
    let libraries : library_of file.entries ≡ library_of written.entries =
    sym (flat_library file.entries) ∙ alike_library (flat file.entries) (flat written.entries) alike ∙ flat_library written.entries in
    let same : verdict (library_stage file) task ≡ verdict (library_stage written) task =
    verdicts_same file written alike (names_stay (chars bib) one.0 file one.1) (names_stay (chars other) two.0 written two.1) (library_of file.entries) task
    ∙ ap (λ (found : Result (List EntryData) (List Fault)). verdict (works_from written found) task) libraries in
    let own : IsVerdict bib task (verdict (library_stage file) task) = (library_stage file, (Ok file, read, refl), refl) in
    let too : IsVerdict other task (verdict (library_stage file) task) = (library_stage written, (Ok written, read_too, refl), same) in (
      λ is. subst (IsVerdict other task) (one_verdict bib task (verdict (library_stage file) task) answer own is) too,
      λ is. subst (IsVerdict bib task) (one_verdict other task (verdict (library_stage file) task) answer too is) own,
    )

pub references_written : ReferencesMayBeWrittenOut
references_written bib other file written read read_too says = contents_written bib other file written read read_too (files_alike (flat file.entries) (flat written.entries) says)

pub authors_written : AuthorsMayWriteReferencesOut
authors_written bib other file standing written read read_too stands none says =
    contents_written bib other file written read read_too
    (alike_through (flat file.entries) standing.entries (flat written.entries)
    (files_alike (flat file.entries) standing.entries says)
    (entries_stand standing.entries written.entries stands.resolves.heads (fields_stand standing written stands.resolves none) none))
