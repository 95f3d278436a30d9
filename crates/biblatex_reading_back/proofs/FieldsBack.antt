-- Fields of an entry that were written are read back.
use Rattle.std.proofs.Common.{◌≡◌, ℕ, true, List, [], ◌∷◌, ◌++◌, map, Ordering, Less, Equal, Greater, nat_cmp, Result, Ok, refl, sym, ap, ◌∙◌, append_assoc}
use Rattle.std.specs.Cmp.Lexicographic.{slice_cmp}
use Rattle.std.specs.List.{AllByRecursion}
use Rattle.std.specs.Ordering.{match_ordering}
use Rattle.std.specs.Str.{chars, IsUtf8}
use Rattle.std.proofs.lemmas.List.{append-nil}
use Rattle.laws.specs.Results.{◌>>=◌}
use Rattle.laws.specs.Text.{lowered}
use Rattle.biblatex_text.specs.Raw.{Field}
use Rattle.biblatex_content.specs.Styled.{Member}
use Rattle.biblatex_content.specs.Verbatim.{is_verbatim_name}
use Rattle.biblatex_content.specs.Writing.{written_content}
use Rattle.biblatex_fields.specs.Abbreviations.{Glossary}
use Rattle.biblatex_fields.specs.Fields.{Named, with_field, fields_after, AreInOrder}
use Rattle.biblatex_fields.specs.Refusals.{Refusal}
use Rattle.biblatex_fields.specs.Value.{Value}
use Rattle.biblatex_meaning.proofs.Sorted.{put_sorted}
use Rattle.biblatex_writing.specs.FieldNames.{written_name}
use Rattle.biblatex_writing.specs.Settled.{is_lowered_identifier}
use Rattle.biblatex_writing.specs.SettledContent.{is_settled_content}
use Rattle.biblatex_reading_back.specs.Spelled.{Pair, SaysField, SayFields}
use Rattle.biblatex_reading_back.proofs.NamesBack.{written_read, same_kind}
use Rattle.biblatex_reading_back.proofs.ValuesBack.{HasText, value_back}

-- a field as characters
abbrev pub plain_field : Named → Pair
plain_field f = (chars (written_name f.0), written_content (is_verbatim_name f.0) f.1.text)

-- a name that is read as it is written, and a content that reads back
pub record IsWrittenField (f : Named) : Type 0 where
  pub utf8 : IsUtf8 f.0
  pub name : is_lowered_identifier (chars f.0) ≡ true
  pub content : is_settled_content (is_verbatim_name f.0) f.1.text ≡ true

-- what is read of a field
record OneRead (g : Glossary) (f : Named) (raw : Field) : Type 0 where
  pub value : HasText g raw f.1.text
  pub name : lowered raw.name.v ≡ written_name f.0

one_read : (g : Glossary) (f : Named) (raw : Field) → IsWrittenField f → SaysField (plain_field f) raw → OneRead g f raw
one_read g f raw is says =
    let name = ap lowered says.name ∙ (written_read f.0 is.utf8 is.name).lower in
    record {
      value = value_back g raw says.piece (is_verbatim_name f.0) f.1.text says.alone says.content (ap is_verbatim_name name ∙ same_kind f.0) is.content;
      name = name;
    }

-- a field is put among others
one_after : (g : Glossary) (done : List Named) (f : Named) (raw : Field) (raws : List Field) → (one : OneRead g f raw)
    → fields_after g done (raw ∷ raws) ≡ fields_after g (with_field done (written_name f.0) one.value.value) raws
one_after g done f raw raws one =
    ap (λ (r : Result Value Refusal). r >>= λ value. fields_after g (with_field done (lowered raw.name.v) value) raws) one.value.read
    ∙ ap (λ (name : List ℕ). fields_after g (with_field done name one.value.value) raws) one.name

-- what holds of a name and of those of fields holds of them once the name is put among them
all_put : (P : List ℕ → Type 0) (done : List Named) (name : List ℕ) (value : Value) → P name → AllByRecursion (λ d. P d.0) done → AllByRecursion (λ d. P d.0) (with_field done name value)
all_put P [] name value p all = (p, tt)
all_put P (d ∷ done) name value p all = by_order (slice_cmp nat_cmp name d.0) (all_put P done name value p all.1)
  where
    by_order : (o : Ordering) → AllByRecursion (λ x. P x.0) (with_field done name value) → AllByRecursion (λ x. P x.0) (match_ordering o ((name, value) ∷ d ∷ done) ((d.0, value) ∷ done) (d ∷ with_field done name value))
    by_order Less more = (p, all)
    by_order Equal more = all
    by_order Greater more = (all.0, more)

-- Fields are read, in whatever order they are, and stand in that of their names; what holds of the written names holds of theirs.
pub fields_read : (P : List ℕ → Type 0) (g : Glossary) (done : List Named) (fs : List Named) (raws : List Field) → AllByRecursion IsWrittenField fs → SayFields (map plain_field fs) raws
    → AllByRecursion (λ f. P (written_name f.0)) fs → AllByRecursion (λ d. P d.0) done → AreInOrder done → (ns : List Named) × (fields_after g done raws ≡ Ok ns) × AllByRecursion (λ n. P n.0) ns × AreInOrder ns
fields_read P g done [] [] all say each was sorted = (done, refl, was, sorted)
fields_read P g done [] (raw ∷ raws) all say each was sorted = absurd say
fields_read P g done (f ∷ fs) [] all say each was sorted = absurd say
fields_read P g done (f ∷ fs) (raw ∷ raws) all say each was sorted =
    let one = one_read g f raw all.0 say.0 in
    let value = one.value.value in
    let more = fields_read P g (with_field done (written_name f.0) value) fs raws all.1 say.1 each.1 (all_put P done (written_name f.0) value each.0 was) (put_sorted done (written_name f.0) value sorted) in
    (more.0, one_after g done f raw raws one ∙ more.1, more.2, more.3)

-- a name is greater than those of fields
abbrev IsAbove : List ℕ → List Named → Type 0
IsAbove name done = AllByRecursion (λ d. slice_cmp nat_cmp name d.0 ≡ Greater) done

put_last : (done : List Named) (name : List ℕ) (value : Value) → IsAbove name done → with_field done name value ≡ done ++ (name, value) ∷ []
put_last [] name value above = refl
put_last (d ∷ done) name value above =
    ap (λ o. match_ordering o ((name, value) ∷ d ∷ done) ((d.0, value) ∷ done) (d ∷ with_field done name value)) above.0
    ∙ ap (λ (x : List Named). d ∷ x) (put_last done name value above.1)

-- the written names are greater than those of fields before them, one after the other
abbrev pub AreRising : List Named → List Named → Type 0
AreRising done [] = Unit {0}
AreRising done (f ∷ fs) = IsAbove (written_name f.0) done × ((value : Value) → AreRising (done ++ (written_name f.0, value) ∷ []) fs)

abbrev pub texts : List Named → List (List ℕ × List Member)
texts fs = map (λ f. (f.0, f.1.text)) fs

abbrev pub written_texts : List Named → List (List ℕ × List Member)
written_texts fs = map (λ f. (written_name f.0, f.1.text)) fs

-- fields in the order of written names are read as they are
pub fields_back : (g : Glossary) (done : List Named) (fs : List Named) (raws : List Field) → AllByRecursion IsWrittenField fs → SayFields (map plain_field fs) raws → AreRising done fs
    → (ns : List Named) × (fields_after g done raws ≡ Ok (done ++ ns)) × (texts ns ≡ written_texts fs)
fields_back g done [] [] all say rising = ([], ap (λ (x : List Named). Ok x) (sym (append-nil done)), refl)
fields_back g done [] (raw ∷ raws) all say rising = absurd say
fields_back g done (f ∷ fs) [] all say rising = absurd say
fields_back g done (f ∷ fs) (raw ∷ raws) all say rising =
    let one = one_read g f raw all.0 say.0 in
    let value = one.value.value in
    let named : Named = (written_name f.0, value) in
    let more = fields_back g (done ++ named ∷ []) fs raws all.1 say.1 (rising.1 value) in (
      named ∷ more.0,
      one_after g done f raw raws one
          ∙ (ap (λ (x : List Named). fields_after g x raws) (put_last done (written_name f.0) value rising.0) ∙ (more.1 ∙ ap (λ (x : List Named). Ok x) (append_assoc done (named ∷ []) more.0))),
      λ i. (written_name f.0, one.value.text i) ∷ more.2 i,
    )
