-- The entries that characters mean are made of characters.
use Rattle.std.proofs.Common.{◌≡◌, ℕ, zero, suc, ◌<◌, ◌||◌, Bool, true, false, cond, List, [], ◌∷◌, drop, get_or, length, map, slice_get, Option, Some, None, Result, Ok, Err, codes, refl, sym, ap, subst, ◌∙◌, arith, Less, nat_cmp}
use Rattle.std.specs.Prelude.{Contains, IfSome, filter_map, if◌then◌else◌}
use Rattle.std.specs.Cmp.Lexicographic.{slice_cmp}
use Rattle.std.specs.List.{AllByRecursion, AllZip}
use Rattle.std.specs.List.Sorted.{IsStrictlySortedBy}
use Rattle.std.specs.Map.{keys_of}
use Rattle.std.specs.Option.{option_map}
use Rattle.std.specs.Str.{bytes_eq, all_scalars, IsUtf8}
use Rattle.std.proofs.lemmas.Cmp.{nat_list_cmp_total, tied_itself}
use Rattle.std.proofs.lemmas.List.{length-map}
use Rattle.std.proofs.lemmas.Option.{none-some, same_Some, slice_get-map, slice_get_within}
use Rattle.std.proofs.lemmas.Slice.Eq.{bytes_eq-Decides}
use Rattle.laws.specs.Text.{lowered, text}
use Rattle.laws.proofs.Results.{if_ok_at}
use Rattle.reference_graph.specs.References.{references_of}
use Rattle.biblatex_text.specs.Items.{raw_of}
use Rattle.biblatex_text.specs.Raw.{At, Entry, Raw}
use Rattle.biblatex_text.specs.declared.token.Fault.{Fault}
use Rattle.biblatex_content.specs.Styled.{plain}
use Rattle.biblatex_fields.specs.Abbreviations.{Glossary}
use Rattle.biblatex_fields.specs.Fields.{Named, AreInOrder, fields_of, value_named}
use Rattle.biblatex_fields.specs.Refusals.{Refusal}
use Rattle.biblatex_entries.specs.Entries.{Source, parents_of}
use Rattle.biblatex_entries.specs.TypeNames.{TypeName, is_one_of, known, read_name, written_type}
use Rattle.biblatex_inheritance.specs.Resolved.{Table, offers, resolved}
use Rattle.biblatex_meaning.specs.Listed.{Listed, references}
use Rattle.biblatex_meaning.specs.Reading.{Loaded, loaded}
use Rattle.biblatex_meaning.specs.Resolved.{IsResolved, IsTextMeaningOf, Means, head, table_of, tables}
use Rattle.biblatex_meaning.proofs.Depth.{depth, less_deep}
use Rattle.biblatex_writing.specs.Texts.{IsText}
use Rattle.biblatex_laws.specs.Raw.{AreCharacters, AreFieldsText, IsEntryText, IsRawText}
use Rattle.biblatex_laws.specs.Read.{EntriesReadAreText}
use Rattle.biblatex_laws.specs.Values.{IsTableText}
use Rattle.biblatex_laws.proofs.FieldsAlike.{IsReadOf, read_each}
use Rattle.biblatex_laws.proofs.FieldsCharacters.{fields_are_text}
use Rattle.biblatex_laws.proofs.OffersCharacters.{all_offers, resolved_text}
use Rattle.biblatex_laws.proofs.RawCharacters.{raw_is_text}
use Rattle.biblatex_laws.proofs.TextsOfCharacters.{ascii_is_utf8, lowered_is_utf8, text_is_utf8}

-- an entry but for its fields
record IsHeadText (e : Source) : Type 0 where
  pub key : IsUtf8 e.key
  pub entry_type : IsUtf8 e.entry_type.name

abbrev FieldsText : Source → Type 0
FieldsText e = IsTableText (λ name. value_named name e.fields)

-- the name that a name of a type is read as
read_utf8 : (name : List ℕ) → IsUtf8 name → IsUtf8 (read_name name)
read_utf8 name utf8 = by (bytes_eq name (codes "conference")) (bytes_eq name (codes "electronic") || bytes_eq name (codes "www"))
  where
    by : (a b : Bool) → IsUtf8 (if a then codes "inproceedings" else (if b then codes "online" else name))
    by true b = ascii_is_utf8 (codes "inproceedings") refl
    by false true = ascii_is_utf8 (codes "online") refl
    by false false = utf8

-- entries that were read, before references are resolved
module _ (g : Glossary) (definitions : AreFieldsText g.definitions) where
  head_read : (e : At Entry) (s : Source) → IsEntryText e.v → IsReadOf g e s → IsHeadText s
  head_read e s is h =
      subst IsHeadText (sym h.source) (record { key = text_is_utf8 e.v.key.v is.key; entry_type = read_utf8 (lowered e.v.kind.v) (lowered_is_utf8 e.v.kind.v is.kind) })

  fields_read : (e : At Entry) (s : Source) → IsEntryText e.v → IsReadOf g e s → FieldsText s
  fields_read e s is h =
      subst FieldsText (sym h.source) (if_ok_at (λ (xs : List Named). IsTableText (λ n. value_named n xs)) (fields_of g e.v.fields) h.fields h.read (fields_are_text g definitions e.v.fields is.fields))

  heads_read : (es : List (At Entry)) (ss : List Source) → AllByRecursion (λ e. IsEntryText e.v) es → AllZip (IsReadOf g) es ss → AllByRecursion IsHeadText ss
  heads_read [] [] is h = tt
  heads_read [] (s ∷ ss) is h = absurd h
  heads_read (e ∷ es) [] is h = absurd h
  heads_read (e ∷ es) (s ∷ ss) is h = (head_read e s is.0 h.0, heads_read es ss is.1 h.1)

  all_read : (es : List (At Entry)) (ss : List Source) → AllByRecursion (λ e. IsEntryText e.v) es → AllZip (IsReadOf g) es ss → AllByRecursion FieldsText ss
  all_read [] [] is h = tt
  all_read [] (s ∷ ss) is h = absurd h
  all_read (e ∷ es) [] is h = absurd h
  all_read (e ∷ es) (s ∷ ss) is h = (fields_read e s is.0 h.0, all_read es ss is.1 h.1)

-- heads stay
heads_kept : (es ds : List Source) → map head ds ≡ map head es → AllByRecursion IsHeadText es → AllByRecursion IsHeadText ds
heads_kept es [] heads all = tt
heads_kept [] (d ∷ ds) heads all = absurd (let e : suc (length (map head ds)) ≡ 0 = ap length heads in omega (arith, e))
heads_kept (e ∷ es) (d ∷ ds) heads all =
    let one : head d ≡ head e = λ i. get_or (heads i) 0 (head d) in (
      record { key = subst IsUtf8 (sym (λ i. (one i).0)) all.0.key; entry_type = subst IsUtf8 (sym (λ i. (one i).1.name)) all.0.entry_type },
      heads_kept es ds (ap (drop 1) heads) all.1,
    )

none_kept : (es ds : List Source) → map head ds ≡ map head es → (i : ℕ) → slice_get es i ≡ None → slice_get ds i ≡ None
none_kept es ds heads i none = by (slice_get ds i) (sym (slice_get-map head ds i) ∙ (ap (λ hs. slice_get hs i) heads ∙ (slice_get-map head es i ∙ ap (option_map head) none)))
  where
    by : (o : Option Source) → option_map head o ≡ None → o ≡ None
    by None is = refl
    by (Some d) is = absurd (none-some (head d) (sym is))

all_at : (P : Source → Type 0) (es : List Source) → AllByRecursion P es → (i : ℕ) (e : Source) → slice_get es i ≡ Some e → P e
all_at P [] all i e is = absurd (none-some e is)
all_at P (d ∷ es) all zero e is = subst P (same_Some d e is) all.0
all_at P (d ∷ es) all (suc i) e is = all_at P es all.1 i e is

-- entries with their references resolved, by how deep each is
module _ (read file : Listed) (h : IsResolved read file) (all : AllByRecursion FieldsText read.entries) where
  abbrev R : List (List ℕ)
  R = references read

  abbrev Solved : ℕ → Option Source → Type 0
  Solved i o = IfSome o (λ e. (name : List ℕ) → tables file.entries i name ≡ resolved e (offers read.entries (tables file.entries) (references_of R i)) name)

  at_index : (i : ℕ) → ((r : ℕ) → Contains (references_of R i) r → (e : Source) → slice_get read.entries r ≡ Some e → IsTableText (tables file.entries r))
      → (o : Option Source) → slice_get read.entries i ≡ o → Solved i o → IsTableText (tables file.entries i)
  at_index i others None is solved name v there = absurd (none-some v (sym (ap (λ (o : Option Source). table_of o name) (none_kept read.entries file.entries h.heads i is)) ∙ there))
  at_index i others (Some e) is solved name v there =
      resolved_text e (offers read.entries (tables file.entries) (references_of R i)) (all_at FieldsText read.entries all i e is)
      (all_offers read.entries (tables file.entries) (references_of R i) others) name v (sym (solved name) ∙ there)

  less : (n i : ℕ) → depth R i < suc n → (r : ℕ) → Contains (references_of R i) r → (e : Source) → slice_get read.entries r ≡ Some e → depth R r < n
  less n i low r has e is =
      let within : r < length read.entries = slice_get_within read.entries r e is in
      let long : length R ≡ length read.entries = length-map read.entries (λ (d : Source). filter_map read.index (parents_of d.fields)) in
      let there : r < length R = omega (arith, within, long) in
      let step : depth R r < depth R i = less_deep R i r (h.acyclic r) has there in
      omega (arith, step, low)

  by_depth : (n i : ℕ) → depth R i < n → IsTableText (tables file.entries i)
  by_depth zero i low = absurd (omega (arith, low))
  by_depth (suc n) i low = at_index i (λ r has e is. by_depth n r (less n i low r has e is)) (slice_get read.entries i) refl (h.equation i)

  table_text : (i : ℕ) → IsTableText (tables file.entries i)
  table_text i = by_depth (suc (depth R i)) i (omega arith)

-- fields in the order of their names, one by one
other_names : (f : Named) (fs : List Named) → AllByRecursion (λ name. slice_cmp nat_cmp f.0 name ≡ Less) (keys_of fs) → AllByRecursion (λ g. bytes_eq g.0 f.0 ≡ false) fs
other_names f [] less = tt
other_names f (g ∷ gs) less = (by (bytes_eq g.0 f.0) refl, other_names f gs less.1)
  where
    by : (b : Bool) → bytes_eq g.0 f.0 ≡ b → b ≡ false
    by true same = absurd (let e = sym (tied_itself nat_list_cmp_total f.0) ∙ (ap (slice_cmp nat_cmp f.0) (sym ((bytes_eq-Decides g.0 f.0).0 same)) ∙ less.0) in cc)
    by false other = refl

later : (f : Named) (fs gs : List Named) → AllByRecursion (λ g. bytes_eq g.0 f.0 ≡ false) gs → AllByRecursion (λ g. value_named g.0 fs ≡ Some g.1) gs → AllByRecursion (λ g. value_named g.0 (f ∷ fs) ≡ Some g.1) gs
later f fs [] other are = tt
later f fs (g ∷ gs) other are = (ap (λ (b : Bool). cond b (Some f.1) (value_named g.0 fs)) other.0 ∙ are.0, later f fs gs other.1 are.1)

each_named : (fs : List Named) → AreInOrder fs → AllByRecursion (λ g. value_named g.0 fs ≡ Some g.1) fs
unfolding IsStrictlySortedBy
each_named [] sorted = tt
each_named (f ∷ fs) sorted = (
  ap (λ (b : Bool). cond b (Some f.1) (value_named f.0 fs)) ((bytes_eq-Decides f.0 f.0).1 refl),
  later f fs fs (other_names f fs sorted.0) (each_named fs sorted.1),
)

names_text : (t : Table) (fs : List Named) → IsTableText t → AllByRecursion (λ g. t g.0 ≡ Some g.1) fs → AllByRecursion (λ f. IsUtf8 f.0) fs
names_text t [] text are = tt
names_text t (f ∷ fs) text are = ((text f.0 f.1 are.0).utf8, names_text t fs text are.1)

contents_text : (t : Table) (fs : List Named) → IsTableText t → AllByRecursion (λ g. t g.0 ≡ Some g.1) fs → AllByRecursion (λ f. all_scalars (plain f.1.text) ≡ true) fs
contents_text t [] text are = tt
contents_text t (f ∷ fs) text are = ((text f.0 f.1 are.0).text, contents_text t fs text are.1)

written_type_text : (t : TypeName) → IsUtf8 t.name → IsUtf8 (written_type t).name
written_type_text t utf8 = by_tests (is_one_of (codes "mastersthesis" ∷ codes "phdthesis" ∷ []) t) (is_one_of (codes "techreport" ∷ []) t)
  where
    by_tests : (a b : Bool) → IsUtf8 (if a then known (codes "thesis") else (if b then known (codes "report") else t)).name
    by_tests true b = ascii_is_utf8 (codes "thesis") refl
    by_tests false true = ascii_is_utf8 (codes "report") refl
    by_tests false false = utf8

entry_text : (e : Source) → IsHeadText e → FieldsText e → AreInOrder e.fields → IsText e
entry_text e is fields sorted =
    let named = each_named e.fields sorted in
    record {
      key = is.key;
      entry_type = written_type_text e.entry_type is.entry_type;
      fields = (names_text (λ name. value_named name e.fields) e.fields fields named, contents_text (λ name. value_named name e.fields) e.fields fields named);
    }

all_text : (es : List Source) → AllByRecursion IsHeadText es → ((i : ℕ) → IsTableText (tables es i)) → ((i : ℕ) → IfSome (slice_get es i) (λ e. AreInOrder e.fields)) → AllByRecursion IsText es
all_text [] heads fields sorted = tt
all_text (e ∷ es) heads fields sorted = (entry_text e heads.0 (fields 0) (sorted 0), all_text es heads.1 (λ i. fields (suc i)) (λ i. sorted (suc i)))

module _ (file : Listed) where
  by_loaded : (g : Glossary) (es : List (At Entry)) → AreFieldsText g.definitions → AllByRecursion (λ e. IsEntryText e.v) es → (answer : Result Loaded Refusal) → loaded g es ≡ answer → Means answer (Ok file)
      → AllByRecursion IsText file.entries
  by_loaded g es definitions text (Ok read) is means =
      let zip = read_each g read es is in
      all_text file.entries (heads_kept read.listed.entries file.entries means.1.heads (heads_read g definitions es read.listed.entries text zip))
      (table_text read.listed file means.1 (all_read g definitions es read.listed.entries text zip)) means.1.ordered
  by_loaded g es definitions text (Err r) is means = absurd cc

  by_raw : (cs : List ℕ) → AreCharacters cs → (answer : Result Raw (Fault × ℕ)) → raw_of cs ≡ answer → IsTextMeaningOf answer (Ok file) → AllByRecursion IsText file.entries
  by_raw cs p (Ok raw) is means =
      let text : IsRawText raw = raw_is_text cs raw p is in
      by_loaded means.glossary raw.entries (subst AreFieldsText (sym means.definitions) text.abbreviations) text.entries (loaded means.glossary raw.entries) refl means.means
  by_raw cs p (Err f) is means = absurd cc

pub file_is_text : EntriesReadAreText
file_is_text cs file p means = by_raw file cs p (raw_of cs) refl means
