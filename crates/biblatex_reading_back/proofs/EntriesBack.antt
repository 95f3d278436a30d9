-- Entries of a file that were written are read back, before their references are resolved.
use Rattle.std.proofs.Common.{◌≡◌, ℕ, Bool, true, false, true≢false, not, ◌||◌, List, [], ◌∷◌, ◌++◌, map, length, Option, Some, None, option_map, Result, Ok, codes, bytes_eq, cond, refl, sym, ap, ◌∙◌, append_assoc}
use Rattle.std.specs.Prelude.{is_some, if◌then◌else◌}
use Rattle.std.specs.List.{AllByRecursion, list_any}
use Rattle.std.specs.List.Sorted.{IsStrictlySortedBy}
use Rattle.std.specs.Str.{IsUtf8}
use Rattle.std.proofs.lemmas.List.{append-nil}
use Rattle.laws.specs.Results.{◌>>=◌}
use Rattle.laws.specs.Text.{text, lowered}
use Rattle.laws.proofs.Text.{text_of_chars}
use Rattle.biblatex_text.specs.Raw.{At}
use Rattle.biblatex_text.specs.Raw.{Entry as RawEntry}
use Rattle.biblatex_content.proofs.Tests.{first_of_two, second_of_two, not_true}
use Rattle.biblatex_fields.specs.Abbreviations.{Glossary}
use Rattle.biblatex_fields.specs.Fields.{Named, value_named, fields_of, AreInOrder}
use Rattle.biblatex_fields.specs.Refusals.{Refusal}
use Rattle.biblatex_fields.specs.Value.{Value}
use Rattle.biblatex_entries.specs.Entries.{Source, names_of, text_in}
use Rattle.biblatex_entries.specs.Names.{listed}
use Rattle.biblatex_entries.specs.TypeNames.{type_of, written_type}
pub use Rattle.biblatex_entries.proofs.NamesNothing.{nothing_trimmed, nothing_listed}
use Rattle.biblatex_writing.specs.FieldNames.{written_name}
use Rattle.biblatex_writing.specs.Settled.{have_distinct_keys, naming_fields}
use Rattle.biblatex_writing.specs.Written.{in_written_order}
use Rattle.biblatex_writing.proofs.OrderNames.{other_way}
use Rattle.biblatex_meaning.specs.Listed.{Listed, pushed}
use Rattle.biblatex_meaning.specs.Reading.{Loaded, source_of, unless_known, entries_after}
use Rattle.biblatex_reading_back.specs.ReadingBack.{named_texts, IsReadBack, AreReadBack}
use Rattle.biblatex_reading_back.specs.Spelled.{SaysEntry, SayEntries}
use Rattle.biblatex_reading_back.proofs.FieldsBack.{IsWrittenField, fields_read, fields_back}
use Rattle.biblatex_reading_back.proofs.FilesSpelled.{plain_entry}
use Rattle.biblatex_reading_back.proofs.OrderBack.{order_rising}
use Rattle.biblatex_reading_back.proofs.TypesBack.{IsReadType}

-- a name under which no entries are named
abbrev pub NamesNone : List ℕ → Type 0
NamesNone name = list_any (bytes_eq name) naming_fields ≡ false

-- An entry whose key, type and fields are read as they are written, and that names no entries.
pub record IsWrittenEntry (e : Source) : Type 0 where
  pub key : IsUtf8 e.key
  pub entry_type : IsReadType (written_type e.entry_type)
  pub fields : AllByRecursion IsWrittenField (in_written_order e.fields)
  pub alone : AllByRecursion (λ f. NamesNone (written_name f.0)) (in_written_order e.fields)

-- no field names entries
abbrev pub IsAlone : Source → Type 0
IsAlone e = AllByRecursion (λ f. NamesNone f.0) e.fields

first_no : (a b : Bool) → a || b ≡ false → a ≡ false
first_no true b e = e
first_no false b e = refl

second_no : (a b : Bool) → a || b ≡ false → b ≡ false
second_no true b e = absurd (true≢false e)
second_no false b e = e

-- none of the fields has one of the three names
pub not_named : (name : List ℕ) (fs : List Named) → ((n : List ℕ) → NamesNone n → bytes_eq n name ≡ false) → AllByRecursion (λ f. NamesNone f.0) fs → value_named name fs ≡ None
not_named name [] other all = refl
not_named name (f ∷ fs) other all = ap (λ (b : Bool). cond b (Some f.1) (value_named name fs)) (other_way f.0 name (other f.0 all.0)) ∙ not_named name fs other all.1

pub no_ids : (n : List ℕ) → NamesNone n → bytes_eq n (codes "ids") ≡ false
no_ids n none = first_no (bytes_eq n (codes "ids")) (bytes_eq n (codes "crossref") || (bytes_eq n (codes "xdata") || false)) none

pub no_crossref : (n : List ℕ) → NamesNone n → bytes_eq n (codes "crossref") ≡ false
no_crossref n none =
    first_no (bytes_eq n (codes "crossref")) (bytes_eq n (codes "xdata") || false) (second_no (bytes_eq n (codes "ids")) (bytes_eq n (codes "crossref") || (bytes_eq n (codes "xdata") || false)) none)

pub no_xdata : (n : List ℕ) → NamesNone n → bytes_eq n (codes "xdata") ≡ false
no_xdata n none =
    first_no (bytes_eq n (codes "xdata")) false
    (second_no (bytes_eq n (codes "crossref")) (bytes_eq n (codes "xdata") || false) (second_no (bytes_eq n (codes "ids")) (bytes_eq n (codes "crossref") || (bytes_eq n (codes "xdata") || false)) none))

-- an entry that names no others has its key as its only name
key_alone : (e : Source) → IsAlone e → names_of e ≡ e.key ∷ []
key_alone e alone = ap (λ (v : Option Value). e.key ∷ listed (text_in (option_map (λ x. x.text) v))) (not_named (codes "ids") e.fields no_ids alone)
    ∙ ap (λ (names : List (List ℕ)). e.key ∷ names) nothing_listed

-- what is read of an entry
record OneEntry (g : Glossary) (e : Source) (raw : RawEntry) : Type 0 where
  pub source : Source
  pub fields : fields_of g raw.fields ≡ Ok source.fields
  pub is : source_of raw source.fields ≡ source
  pub back : IsReadBack e source
  pub alone : IsAlone source
  pub sorted : AreInOrder source.fields

-- no fields are in order
nothing_sorted : AreInOrder []
unfolding IsStrictlySortedBy
nothing_sorted = tt

one_entry : (g : Glossary) (e : Source) (raw : RawEntry) → IsWrittenEntry e → SaysEntry (plain_entry e) raw → OneEntry g e raw
one_entry g e raw is says =
    let fs = in_written_order e.fields in
    let any = fields_read NamesNone g [] fs raw.fields is.fields says.fields is.alone tt nothing_sorted in
    let key = ap text says.key ∙ text_of_chars e.key is.key in
    let kind = ap type_of (ap lowered says.kind ∙ is.entry_type.name.lower) ∙ is.entry_type.itself in
    record {
      source = source_of raw any.0;
      fields = any.1;
      is = refl;
      back = record {
        key = key;
        entry_type = kind;
        fields = λ distinct.
            let there = fields_back g [] fs raw.fields is.fields says.fields (order_rising e.fields distinct) in
            ap named_texts (same_ok any.0 there.0 (sym any.1 ∙ there.1)) ∙ there.2;
      };
      alone = any.2;
      sorted = any.3;
    }
  where
    same_ok : (xs ys : List Named) → ◌≡◌ {A = Result (List Named) Refusal} (Ok xs) (Ok ys) → xs ≡ ys
    same_ok xs ys e = cc

-- keys that have no meaning yet
abbrev AreFresh : Listed → List Source → Type 0
AreFresh l es = AllByRecursion (λ e. l.index e.key ≡ None) es

-- and still have none after one more entry with another key
fresh_after : (l : Listed) (s : Source) (es : List Source) → names_of s ≡ s.key ∷ [] → list_any (bytes_eq s.key) (map (λ (e : Source). e.key) es) ≡ false → AreFresh l es → AreFresh (pushed s l) es
fresh_after l s [] alone other fresh = tt
fresh_after l s (e ∷ es) alone other fresh =
    let apart = other_way s.key e.key (first_no (bytes_eq s.key e.key) (list_any (bytes_eq s.key) (map (λ (x : Source). x.key) es)) other) in (
      ap (λ (names : List (List ℕ)). if list_any (bytes_eq e.key) names then Some (length l.entries) else l.index e.key) alone
          ∙ (ap (λ (b : Bool). if b || false then Some (length l.entries) else l.index e.key) apart ∙ fresh.0),
      fresh_after l s es alone (second_no (bytes_eq s.key e.key) (list_any (bytes_eq s.key) (map (λ (x : Source). x.key) es)) other) fresh.1,
    )

-- entries that were read after others
pub record ReadEntries (g : Glossary) (l : Loaded) (es : List Source) (raws : List (At RawEntry)) : Type 0 where
  pub loaded : Loaded
  pub read : entries_after g l raws ≡ Ok loaded
  pub sources : List Source
  pub whole : loaded.listed.entries ≡ l.listed.entries ++ sources
  pub back : AreReadBack es sources
  pub alone : AllByRecursion IsAlone sources
  pub sorted : AllByRecursion (λ s. AreInOrder s.fields) sources

pub entries_read : (g : Glossary) (l : Loaded) (es : List Source) (raws : List (At RawEntry)) → AllByRecursion IsWrittenEntry es → SayEntries (map plain_entry es) raws → have_distinct_keys es ≡ true
    → AreFresh l.listed es → ReadEntries g l es raws
entries_read g l [] [] all say distinct fresh = record { loaded = l; read = refl; sources = []; whole = sym (append-nil l.listed.entries); back = tt; alone = tt; sorted = tt }
entries_read g l [] (r ∷ raws) all say distinct fresh = absurd say
entries_read g l (e ∷ es) [] all say distinct fresh = absurd say
entries_read g l (e ∷ es) (r ∷ raws) all say distinct fresh =
    let raw = r.v in
    let one = one_entry g e raw all.0 say.0 in
    let s = one.source in
    let next : Loaded = record { listed = pushed s l.listed; keys = l.keys ++ raw.key ∷ [] } in
    let keys = map (λ (x : Source). x.key) es in
    let other : list_any (bytes_eq s.key) keys ≡ false =
    ap (λ (key : List ℕ). list_any (bytes_eq key) keys) one.back.key ∙ not_true (list_any (bytes_eq e.key) keys) (first_of_two (not (list_any (bytes_eq e.key) keys)) (have_distinct_keys es) distinct) in
    let more = entries_read g next es raws all.1 say.1 (second_of_two (not (list_any (bytes_eq e.key) keys)) (have_distinct_keys es) distinct) (fresh_after l.listed s es (key_alone s one.alone) other fresh.1) in
    record {
      loaded = more.loaded;
      read =
          ap (λ (q : Result (List Named) Refusal). (q >>= λ fs. unless_known (is_some (l.listed.index (text raw.key.v))) l raw.key (source_of raw fs)) >>= λ m. entries_after g m raws) one.fields
          ∙ (ap (λ (x : Source). unless_known (is_some (l.listed.index (text raw.key.v))) l raw.key x >>= λ m. entries_after g m raws) one.is
          ∙ (ap (λ (o : Option ℕ). unless_known (is_some o) l raw.key s >>= λ m. entries_after g m raws) (ap (λ (key : List ℕ). l.listed.index key) (ap (λ (x : Source). x.key) one.is ∙ one.back.key) ∙ fresh.0) ∙ more.read));
      sources = s ∷ more.sources;
      whole = more.whole ∙ append_assoc l.listed.entries (s ∷ []) more.sources;
      back = (one.back, more.back);
      alone = (one.alone, more.alone);
      sorted = (one.sorted, more.sorted);
    }
