-- Where the library of those works is there alone that are needed, the same names of a document mean nothing.
use Rattle.std.proofs.Common.{◌≡◌, ◌||◌, ℕ, Bool, true, false, List, [], ◌∷◌, ◌++◌, cond, flat_map, is_none, length, Option, Some, None, Result, Ok, Err, refl, sym, ap, ◌∙◌}
use Rattle.std.specs.Prelude.{option_and_then, option_to_list}
use Rattle.std.specs.List.{list_any}
use Rattle.std.specs.Option.{option_map}
use Rattle.std.specs.Str.{bytes_eq, chars}
use lib.Chars.{codes}
use Rattle.std.proofs.lemmas.List.Concat.{flat_map-append}
use Rattle.std.proofs.lemmas.List.Folds.{list_any-append}
use Rattle.std.proofs.lemmas.Slice.Eq.{bytes_eq-Decides}
use Rattle.laws.specs.Text.{text}
use Rattle.laws.specs.Characters.{at_sign, semicolon, close_bracket}
use Rattle.biblatex.specs.Listed.{Listed, entry_named}
use Rattle.biblatex.specs.Entries.{Source}
use Rattle.biblatex.specs.TypeNames.{written_type}
use Rattle.literature.specs.Keys.{with_key}
use Rattle.literature_entries.specs.EntriesData.{EntryData}
use Rattle.interop.specs.Library.{key_of, is_xdata}
use Rattle.interop.proofs.LibraryKeys.{found_under}
use Rattle.cite_markers.specs.Document.{Piece, Text, Marker}
use Rattle.cite_markers.specs.Marker.{Cite}
use Rattle.cite_requests.specs.Cited.{entries_with, is_among, key_meant, keys_cited, keys_named, library_from, library_needed, works_of}
use Rattle.cite_requests.specs.Stages.{Refusal, bib_not_utf8, bib_refused, fields_refused, document_not_utf8, no_marker, unknown_name, section_refused, overflow}
use Rattle.cite_requests.specs.Works.{Works, work_of}
use Rattle.cite_csl_styles.specs.Sources.{SourceFile, lines_left}
use Rattle.cite_csl_styles.specs.Stages.{Lines}
use Rattle.cite_csl.specs.Names.{Named, from_first, name_lines, names_in, names_of, past_first, past_text, rendered_lines, unknown_lines}
use Rattle.cite_csl.specs.Works.{said_by}

or_true : (b : Bool) → (b || true) ≡ true
or_true true = refl
or_true false = refl

module _ (file : Listed) (some all : List EntryData) (d : SourceFile) where
  -- both libraries have the same under each of the keys
  abbrev AreSameUnder : List (List ℕ) → Type 0
  AreSameUnder keys = (k : List ℕ) → is_among keys k ≡ true → with_key key_of k some ≡ with_key key_of k all

  under_first : (ks ls : List (List ℕ)) → AreSameUnder (ks ++ ls) → AreSameUnder ks
  under_first ks ls h k is = h k (list_any-append (bytes_eq k) ks ls ∙ ap (λ (b : Bool). b || list_any (bytes_eq k) ls) is)

  under_others : (ks ls : List (List ℕ)) → AreSameUnder (ks ++ ls) → AreSameUnder ls
  under_others ks ls h k is = h k (list_any-append (bytes_eq k) ks ls ∙ ap (λ (b : Bool). list_any (bytes_eq k) ks || b) is ∙ or_true (list_any (bytes_eq k) ks))

  abbrev with_some : Works
  with_some = record { file = file; library = some }

  abbrev with_all : Works
  with_all = record { file = file; library = all }

  meant_same : (o : Option Source) → AreSameUnder (option_to_list (option_map (λ e. e.key) o)) → option_and_then (work_of some) o ≡ option_and_then (work_of all) o
  meant_same None h = refl
  meant_same (Some e) h =
      ap (λ (o : Option EntryData). cond (is_xdata (written_type e.entry_type)) None o) (h e.key (ap (λ (b : Bool). b || false) ((bytes_eq-Decides e.key e.key).1 refl)))

  abbrev lines_if : Named → Option EntryData → Lines
  lines_if n o = cond (is_none o) (lines_left d n.left (codes "unknown name " ++ n.name)) []

  name_same : (name : List ℕ) (left : ℕ) → AreSameUnder (key_meant file name)
      → name_lines d with_some (record { name = name; left = left }) ≡ name_lines d with_all (record { name = name; left = left })
  name_same name left h = ap (lines_if (record { name = name; left = left })) (meant_same (entry_named name file) h)

  cites_same : (cites : List Cite) (cs : List ℕ) → AreSameUnder (keys_named file cites) → flat_map (name_lines d with_some) (names_in cites cs) ≡ flat_map (name_lines d with_all) (names_in cites cs)
  cites_same [] cs h = refl
  cites_same (c ∷ cites) cs h =
      let ks = key_meant file (text c.name) in
      let ls = keys_named file cites in
      (λ i. name_same (text c.name) (length (text (from_first at_sign cs))) (under_first ks ls h) i ++ cites_same cites (past_first semicolon cs) (under_others ks ls h) i)

  abbrev lines_some : Named → Lines
  lines_some n = name_lines d with_some n

  abbrev lines_all : Named → Lines
  lines_all n = name_lines d with_all n

  pieces_same : (ps : List Piece) (cs : List ℕ) → AreSameUnder (keys_cited file ps) → flat_map lines_some (names_of ps cs) ≡ flat_map lines_all (names_of ps cs)
  pieces_same [] cs h = refl
  pieces_same (Text t ∷ ps) cs h = pieces_same ps (past_text t cs) h
  pieces_same (Marker cites ∷ ps) cs h =
      let ks = keys_named file cites in
      let ls = keys_cited file ps in
      let rest = past_first close_bracket cs in
      flat_map-append lines_some (names_in cites cs) (names_of ps rest)
      ∙ (λ i. cites_same cites cs (under_first ks ls h) i ++ pieces_same ps rest (under_others ks ls h) i)
      ∙ sym (flat_map-append lines_all (names_in cites cs) (names_of ps rest))

-- the lines for the names of a document that mean nothing
lines_needed : (d : SourceFile) (file : Listed) (sections : List (List ℕ)) (ps : List Piece)
    → unknown_lines d (record { file = file; library = library_needed file sections ps }) ps ≡ unknown_lines d (works_of file) ps
lines_needed d file [] ps =
    let keys = keys_cited file ps in
    pieces_same file (library_from (entries_with keys file.entries)) (library_from file.entries) d ps (chars d.bytes) (λ k is. found_under (is_among keys) k is file.entries)
lines_needed d file (s ∷ ss) ps = refl

lines_alike : (d : SourceFile) (v w : Works) (ps : List Piece) (r : Refusal) → unknown_lines d v ps ≡ unknown_lines d w ps → rendered_lines d v ps r ≡ rendered_lines d w ps r
lines_alike d v w ps bib_not_utf8 same = refl
lines_alike d v w ps (bib_refused r) same = refl
lines_alike d v w ps (fields_refused faults) same = refl
lines_alike d v w ps document_not_utf8 same = refl
lines_alike d v w ps (no_marker offset) same = refl
lines_alike d v w ps (unknown_name name) same = same
lines_alike d v w ps (section_refused s) same = refl
lines_alike d v w ps overflow same = refl

said_alike : {X : Type 0} (d : SourceFile) (v w : Works) (ps : List Piece) (stage : Result X Refusal) → unknown_lines d v ps ≡ unknown_lines d w ps
    → said_by (rendered_lines d v ps) stage ≡ said_by (rendered_lines d w ps) stage
said_alike d v w ps (Ok x) same = refl
said_alike d v w ps (Err r) same = ap (λ (lines : Lines). Err lines) (lines_alike d v w ps r same)

-- what is said of a stage, where the library is that of the works that are needed
pub said_needed : {X : Type 0} (d : SourceFile) (file : Listed) (library : List EntryData) (sections : List (List ℕ)) (ps : List Piece) (stage : Result X Refusal) → library_needed file sections ps ≡ library
    → said_by (rendered_lines d (record { file = file; library = library }) ps) stage ≡ said_by (rendered_lines d (works_of file) ps) stage
said_needed d file library sections ps stage is =
    said_alike d (record { file = file; library = library }) (works_of file) ps stage
    (ap (λ (ws : List EntryData). unknown_lines d (record { file = file; library = ws }) ps) (sym is) ∙ lines_needed d file sections ps)
