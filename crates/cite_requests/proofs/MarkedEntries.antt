-- The entries that a document marks are those whose keys it cites.
use Rattle.std.proofs.Common.{◌≡◌, ◌||◌, ℕ, zero, suc, Bool, true, false, cond, List, [], ◌∷◌, ◌++◌, length, map, drop, replicate, slice_get, Option, Some, None, refl, sym, ap, subst, ◌∙◌, append_assoc, append-nil}
use Rattle.std.specs.Prelude.{option_and_then, option_to_list, slice_set}
use Rattle.std.specs.List.{AllByRecursion}
use Rattle.std.specs.Option.{option_map}
use Rattle.std.specs.Str.{bytes_eq}
use Rattle.std.proofs.lemmas.List.{length-set}
use Rattle.std.proofs.lemmas.List.Folds.{list_any-append}
use Rattle.std.proofs.lemmas.Option.{same_Some}
use Rattle.std.proofs.lemmas.Slice.Eq.{bytes_eq-Decides}
use Rattle.laws.specs.Text.{text}
use Rattle.biblatex.specs.Listed.{Listed}
use Rattle.biblatex.specs.Entries.{Source}
use Rattle.biblatex_laws.proofs.LoadedKeys.{AreApart}
use Rattle.biblatex_writing.specs.Settled.{have_distinct_keys}
use Rattle.cite_markers.specs.Document.{Piece, Text, Marker}
use Rattle.cite_markers.specs.Marker.{Cite}
use Rattle.cite_requests.specs.Cited.{entries_with, is_among, key_meant, keys_cited, keys_named, marked_at, marked_cites, marked_entries, marked_here, marked_in, marked_pieces}
use Rattle.cite_requests.proofs.CitedKeys.{or_false, turned}
use Rattle.cite_requests.proofs.KeysDistinct.{distinct_apart}

-- for each entry whether it has one of the keys
abbrev marks_of : List (List ℕ) → List Source → List Bool
marks_of keys es = map (λ e. is_among keys e.key) es

or_true : (b : Bool) → (b || true) ≡ true
or_true true = refl
or_true false = refl

-- one key more, last
among_last : (keys : List (List ℕ)) (key k : List ℕ) → is_among (keys ++ key ∷ []) k ≡ (is_among keys k || bytes_eq k key)
among_last keys key k = list_any-append (bytes_eq k) keys (key ∷ []) ∙ ap (λ (b : Bool). is_among keys k || b) (or_false (bytes_eq k key))

not_among : (keys : List (List ℕ)) (key k : List ℕ) → bytes_eq k key ≡ false → is_among (keys ++ key ∷ []) k ≡ is_among keys k
not_among keys key k differs = among_last keys key k ∙ (ap (λ (b : Bool). is_among keys k || b) differs ∙ or_false (is_among keys k))

others_same : (keys : List (List ℕ)) (key : List ℕ) (es : List Source) → AllByRecursion (λ d. bytes_eq key d.key ≡ false) es → marks_of (keys ++ key ∷ []) es ≡ marks_of keys es
others_same keys key [] apart = refl
others_same keys key (e ∷ es) apart = λ i. not_among keys key e.key (turned e.key key ∙ apart.0) i ∷ others_same keys key es apart.1 i

first_marked : (keys : List (List ℕ)) (e : Source) (es : List Source) → AllByRecursion (λ d. bytes_eq e.key d.key ≡ false) es → true ∷ marks_of keys es ≡ marks_of (keys ++ e.key ∷ []) (e ∷ es)
first_marked keys e es apart = λ i. sym is i ∷ sym (others_same keys e.key es apart) i
  where
    is : is_among (keys ++ e.key ∷ []) e.key ≡ true
    is = among_last keys e.key e.key ∙ (ap (λ (b : Bool). is_among keys e.key || b) ((bytes_eq-Decides e.key e.key).1 refl) ∙ or_true (is_among keys e.key))

-- what holds of all entries holds of the one at an index
at_index : (P : Source → Type 0) (es : List Source) (index : ℕ) (d : Source) → AllByRecursion P es → slice_get es index ≡ Some d → P d
at_index P [] index d all is = absurd cc
at_index P (e ∷ es) zero d all is = subst P (same_Some e d is) all.0
at_index P (e ∷ es) (suc index) d all is = at_index P es index d all.1 is

-- the entry at an index is marked, where no other has its key
marked : (keys : List (List ℕ)) (es : List Source) (index : ℕ) (d : Source) → AreApart es → slice_get es index ≡ Some d → slice_set (marks_of keys es) index true ≡ marks_of (keys ++ d.key ∷ []) es
marked keys [] index d apart is = absurd cc
marked keys (e ∷ es) zero d apart is = subst (λ (x : Source). true ∷ marks_of keys es ≡ marks_of (keys ++ x.key ∷ []) (e ∷ es)) (same_Some e d is) (first_marked keys e es apart.0)
marked keys (e ∷ es) (suc index) d apart is =
    let other : is_among (keys ++ d.key ∷ []) e.key ≡ is_among keys e.key = not_among keys d.key e.key (at_index (λ (x : Source). bytes_eq e.key x.key ≡ false) es index d apart.0 is) in
    λ i. sym other i ∷ marked keys es index d apart.1 is i

-- where there is no entry nothing is marked
none_marked : (keys : List (List ℕ)) (es : List Source) (index : ℕ) → slice_get es index ≡ None → slice_set (marks_of keys es) index true ≡ marks_of keys es
none_marked keys [] index is = refl
none_marked keys (e ∷ es) zero is = absurd cc
none_marked keys (e ∷ es) (suc index) is = ap (λ (ms : List Bool). is_among keys e.key ∷ ms) (none_marked keys es index is)

module _ (file : Listed) (apart : AreApart file.entries) where
  no_more : (keys : List (List ℕ)) → marks_of keys file.entries ≡ marks_of (keys ++ []) file.entries
  no_more keys = ap (λ (ks : List (List ℕ)). marks_of ks file.entries) (sym (append-nil keys))

  both_more : (keys ks ls : List (List ℕ)) → marks_of ((keys ++ ks) ++ ls) file.entries ≡ marks_of (keys ++ (ks ++ ls)) file.entries
  both_more keys ks ls = ap (λ (all : List (List ℕ)). marks_of all file.entries) (append_assoc keys ks ls)

  marked_index : (keys : List (List ℕ)) (index : ℕ) (o : Option Source) → slice_get file.entries index ≡ o
      → slice_set (marks_of keys file.entries) index true ≡ marks_of (keys ++ option_to_list (option_map (λ e. e.key) o)) file.entries
  marked_index keys index None is = none_marked keys file.entries index is ∙ no_more keys
  marked_index keys index (Some d) is = marked keys file.entries index d apart is

  marked_meant : (keys : List (List ℕ)) (o : Option ℕ)
      → marked_at o (marks_of keys file.entries) ≡ marks_of (keys ++ option_to_list (option_map (λ e. e.key) (option_and_then (slice_get file.entries) o))) file.entries
  marked_meant keys None = no_more keys
  marked_meant keys (Some index) = marked_index keys index (slice_get file.entries index) refl

  cites_marked : (keys : List (List ℕ)) (cs : List Cite) → marked_cites file (marks_of keys file.entries) cs ≡ marks_of (keys ++ keys_named file cs) file.entries
  cites_marked keys [] = no_more keys
  cites_marked keys (c ∷ cs) =
      let ks = key_meant file (text c.name) in
      ap (λ (ms : List Bool). marked_cites file ms cs) (marked_meant keys (file.index (text c.name)))
      ∙ (cites_marked (keys ++ ks) cs ∙ both_more keys ks (keys_named file cs))

  pieces_marked : (keys : List (List ℕ)) (ps : List Piece) → marked_pieces file (marks_of keys file.entries) ps ≡ marks_of (keys ++ keys_cited file ps) file.entries
  pieces_marked keys [] = no_more keys
  pieces_marked keys (Text t ∷ ps) = pieces_marked keys ps
  pieces_marked keys (Marker cs ∷ ps) =
      let ks = keys_named file cs in
      ap (λ (ms : List Bool). marked_pieces file ms ps) (cites_marked keys cs)
      ∙ (pieces_marked (keys ++ ks) ps ∙ both_more keys ks (keys_cited file ps))

no_mark : (es : List Source) → replicate (length es) false ≡ marks_of [] es
no_mark [] = refl
no_mark (e ∷ es) = ap (λ (ms : List Bool). false ∷ ms) (no_mark es)

one_kept : (m : Bool) (ms : List Bool) (e : Source) (es kept : List Source) → marked_entries ms es ≡ kept → marked_entries (m ∷ ms) (e ∷ es) ≡ cond m (e ∷ kept) kept
one_kept true ms e es kept same = ap (λ (xs : List Source). e ∷ xs) same
one_kept false ms e es kept same = same

kept_with : (keys : List (List ℕ)) (es : List Source) → marked_entries (marks_of keys es) es ≡ entries_with keys es
kept_with keys [] = refl
kept_with keys (e ∷ es) = one_kept (is_among keys e.key) (marks_of keys es) e es (entries_with keys es) (kept_with keys es)

-- the entries that pieces mark are those whose keys they cite
pub marked_cited : (file : Listed) (ps : List Piece) → have_distinct_keys file.entries ≡ true
    → marked_entries (marked_pieces file (replicate (length file.entries) false) ps) file.entries ≡ entries_with (keys_cited file ps) file.entries
marked_cited file ps distinct =
    ap (λ (ms : List Bool). marked_entries ms file.entries)
    (ap (λ (ms : List Bool). marked_pieces file ms ps) (no_mark file.entries) ∙ pieces_marked file (distinct_apart file.entries distinct) [] ps)
    ∙ kept_with (keys_cited file ps) file.entries

-- each entry keeps a mark
at_length : (o : Option ℕ) (ms : List Bool) → length (marked_at o ms) ≡ length ms
at_length None ms = refl
at_length (Some index) ms = length-set ms index true

cites_length : (file : Listed) (ms : List Bool) (cs : List Cite) → length (marked_cites file ms cs) ≡ length ms
cites_length file ms [] = refl
cites_length file ms (c ∷ cs) = cites_length file (marked_at (file.index (text c.name)) ms) cs ∙ at_length (file.index (text c.name)) ms

pub in_length : (file : Listed) (ms : List Bool) (p : Piece) → length (marked_in file ms p) ≡ length ms
in_length file ms (Text t) = refl
in_length file ms (Marker cs) = cites_length file ms cs

pub no_entry : (ms : List Bool) → marked_entries ms [] ≡ []
no_entry [] = refl
no_entry (m ∷ ms) = refl

-- where there is no entry, a mark gives none
none_here : (mark : Option Bool) → marked_here mark None ≡ []
none_here None = refl
none_here (Some true) = refl
none_here (Some false) = refl

-- the entry at an index, where it has a mark, and those after it
pub marked_from : (ms : List Bool) (es : List Source) (i : ℕ) → marked_entries (drop i ms) (drop i es) ≡ marked_here (slice_get ms i) (slice_get es i) ++ marked_entries (drop (suc i) ms) (drop (suc i) es)
marked_from [] [] zero = refl
marked_from [] [] (suc i) = refl
marked_from [] (e ∷ es) zero = refl
marked_from [] (e ∷ es) (suc i) = refl
marked_from (true ∷ ms) [] zero = sym (no_entry ms)
marked_from (false ∷ ms) [] zero = sym (no_entry ms)
marked_from (m ∷ ms) [] (suc i) = no_entry (drop i ms) ∙ sym (ap (λ (xs : List Source). xs ++ marked_entries (drop (suc i) ms) []) (none_here (slice_get ms i)) ∙ no_entry (drop (suc i) ms))
marked_from (true ∷ ms) (e ∷ es) zero = refl
marked_from (false ∷ ms) (e ∷ es) zero = refl
marked_from (m ∷ ms) (e ∷ es) (suc i) = marked_from ms es i

-- where each entry has a mark
pub all_marked : (es : List Source) → marked_entries (replicate (length es) true) es ≡ es
all_marked [] = refl
all_marked (e ∷ es) = ap (λ (xs : List Source). e ∷ xs) (all_marked es)
