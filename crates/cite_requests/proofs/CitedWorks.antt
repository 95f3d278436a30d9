-- What the names of a document mean depends on those works alone that are needed.
use Rattle.std.proofs.Common.{◌≡◌, ◌||◌, ◌==◌, ℕ, Bool, true, false, List, [], ◌∷◌, ◌++◌, length, map, cond, Option, Some, None, Ok, refl, rules, sym, ap, ◌∙◌, true≢false}
use Rattle.std.specs.Borrow.{Bor}
use Rattle.std.specs.Prelude.{option_and_then, option_to_list}
use Rattle.std.specs.List.{list_any}
use Rattle.std.specs.Option.{option_map}
use Rattle.std.specs.Str.{bytes_eq}
use Rattle.std.proofs.lemmas.List.Folds.{list_any-append}
use Rattle.std.proofs.lemmas.Slice.Eq.{bytes_eq-Decides}
use Rattle.laws.specs.Results.{◌>>=◌}
use Rattle.laws.specs.Text.{text, spelled}
use Rattle.biblatex.specs.Listed.{Listed, entry_named}
use Rattle.biblatex.specs.Entries.{Source}
use Rattle.biblatex.specs.TypeNames.{written_type}
use Rattle.literature.specs.Keys.{with_key}
use Rattle.literature_entries.specs.EntriesData.{EntryData}
use Rattle.interop.specs.Bridge.{unless_faulty}
use Rattle.interop.specs.Library.{key_of, is_xdata, all_faults, library_of}
use Rattle.interop.proofs.LibraryKeys.{found_under}
use Rattle.cite_markers.specs.Document.{Piece, Text, Marker}
use Rattle.cite_markers.specs.Marker.{Cite}
use Rattle.cite_requests.specs.Cited.{entries_with, is_among, key_meant, keys_cited, keys_named, library_from, library_needed, works_of}
use Rattle.cite_requests.specs.Markers.{cited_work, cited_works, with_work}
use Rattle.cite_requests.specs.Stages.{fields_refused, name_stage, refused_as, unknown_name}
use Rattle.cite_requests.specs.Steps.{all_ok}
use Rattle.cite_requests.specs.Works.{Works, work_of}

or_true : (b : Bool) → (b || true) ≡ true
or_true true = refl
or_true false = refl

module _ (file : Listed) (some all : List EntryData) where
  -- both libraries have the same under each of the keys
  abbrev AreSameUnder : List (List ℕ) → Type 0
  AreSameUnder keys = (k : List ℕ) → is_among keys k ≡ true → with_key key_of k some ≡ with_key key_of k all

  under_first : (ks ls : List (List ℕ)) → AreSameUnder (ks ++ ls) → AreSameUnder ks
  under_first ks ls h k is = h k (list_any-append (bytes_eq k) ks ls ∙ ap (λ (b : Bool). b || list_any (bytes_eq k) ls) is)

  under_others : (ks ls : List (List ℕ)) → AreSameUnder (ks ++ ls) → AreSameUnder ls
  under_others ks ls h k is = h k (list_any-append (bytes_eq k) ks ls ∙ ap (λ (b : Bool). list_any (bytes_eq k) ks || b) is ∙ or_true (list_any (bytes_eq k) ks))

  work_same : (e : Source) → AreSameUnder (e.key ∷ []) → work_of some e ≡ work_of all e
  work_same e h =
      ap (λ (o : Option EntryData). cond (is_xdata (written_type e.entry_type)) None o) (h e.key (ap (λ (b : Bool). b || false) ((bytes_eq-Decides e.key e.key).1 refl)))

  meant_same : (o : Option Source) → AreSameUnder (option_to_list (option_map (λ e. e.key) o)) → option_and_then (work_of some) o ≡ option_and_then (work_of all) o
  meant_same None h = refl
  meant_same (Some e) h = work_same e h

  abbrev with_some : Works
  with_some = record { file = file; library = some }

  abbrev with_all : Works
  with_all = record { file = file; library = all }

  cite_same : (c : Cite) → AreSameUnder (key_meant file (text c.name)) → cited_work with_some c ≡ cited_work with_all c
  cite_same c h = ap (with_work c) (meant_same (entry_named (text c.name) file) h)

  cites_same : (cs : List Cite) → AreSameUnder (keys_named file cs) → all_ok (cited_work with_some) cs ≡ all_ok (cited_work with_all) cs
  unfolding all_ok
  cites_same [] h = refl
  cites_same (c ∷ cs) h =
      let ks = key_meant file (text c.name) in
      let ls = keys_named file cs in
      (λ i. cite_same c (under_first ks ls h) i >>= λ y. cites_same cs (under_others ks ls h) i >>= λ ys. Ok (y ∷ ys))

  pieces_same : (ps : List Piece) → AreSameUnder (keys_cited file ps) → cited_works with_some ps ≡ cited_works with_all ps
  unfolding all_ok
  pieces_same [] h = refl
  pieces_same (Text t ∷ ps) h = pieces_same ps h
  pieces_same (Marker cs ∷ ps) h =
      let ks = keys_named file cs in
      let ls = keys_cited file ps in
      (λ i. cites_same cs (under_first ks ls h) i >>= λ y. pieces_same ps (under_others ks ls h) i >>= λ ys. Ok (y ∷ ys))

-- The works that are needed without a section give each name the meaning that all works give it.
pub names_needed : (file : Listed) (ps : List Piece)
    → name_stage (record { file = file; library = library_from (entries_with (keys_cited file ps) file.entries) }) ps ≡ name_stage (works_of file) ps
names_needed file ps =
    let keys = keys_cited file ps in
    let some = library_from (entries_with keys file.entries) in
    let all = library_from file.entries in
    ap (refused_as unknown_name) (pieces_same file some all ps (λ k is. found_under (is_among keys) k is file.entries))

not_none : (s : Bor (List ℕ)) (ss : List (Bor (List ℕ))) → (length (s ∷ ss) == 0) ≡ false
not_none s ss = search rules

-- which works are needed, by whether there are sections
pub needs_cited : (file : Listed) (sections : List (Bor (List ℕ))) (ps : List Piece) → (length sections == 0) ≡ true
    → library_from (entries_with (keys_cited file ps) file.entries) ≡ library_needed file (map spelled sections) ps
needs_cited file [] ps none = refl
needs_cited file (s ∷ ss) ps none = absurd (true≢false (sym none ∙ not_none s ss))

pub needs_all : (file : Listed) (sections : List (Bor (List ℕ))) (ps : List Piece) → (length sections == 0) ≡ false → library_from file.entries ≡ library_needed file (map spelled sections) ps
needs_all file [] ps some = absurd (true≢false some)
needs_all file (s ∷ ss) ps some = refl

-- the library of entries without a faulty date, in the terms of a stage
pub needed_is : (es : List Source) (ws : List EntryData) → all_faults es ≡ [] → library_from es ≡ ws → refused_as fields_refused (library_of es) ≡ Ok ws
needed_is es ws none is = λ i. refused_as fields_refused (unless_faulty (none i) (is i))
