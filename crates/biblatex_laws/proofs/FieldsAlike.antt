-- Raw entries that are the same but for where they stand are read to entries that say the same.
use Rattle.std.proofs.Common.{◌≡◌, ℕ, suc, arith, Bool, true, false, cond, List, [], ◌∷◌, ◌++◌, drop, get_or, length, map, Option, Some, Ok, refl, sym, ap, subst, ◌∙◌, append_assoc, append-nil}
use Rattle.std.specs.Prelude.{is_some}
use Rattle.std.specs.List.{AllByRecursion, AllZip}
use Rattle.std.specs.Str.{bytes_eq}
use Rattle.laws.specs.Text.{lowered, text}
use Rattle.laws.proofs.Results.{bind_ok, ok_is}
use Rattle.biblatex_text.specs.Raw.{At, Entry, Field}
use Rattle.biblatex_fields.specs.Abbreviations.{Glossary, AreFlags}
use Rattle.biblatex_fields.specs.Fields.{Named, fields_after, fields_of, text_named, value_named, with_field}
use Rattle.biblatex_fields.specs.Refusals.{Refusal}
use Rattle.biblatex_fields.specs.Value.{Value, value_in, value_of}
use Rattle.biblatex_fields.proofs.FieldsLookUps.{put_found}
use Rattle.biblatex_entries.specs.Entries.{Source}
use Rattle.biblatex_entries.specs.TypeNames.{type_of}
use Rattle.biblatex_meaning.specs.Listed.{pushed}
use Rattle.biblatex_meaning.specs.Reading.{Loaded, entries_after, entry_after, loaded, nothing_loaded, source_of, unless_known}
use Rattle.biblatex_laws.specs.Differing.{bare_entry, bare_field}
use Rattle.biblatex_laws.specs.Opened.{DefineAlike, bare}
use Rattle.biblatex_laws.specs.Reached.{SaysTheSame}
use Rattle.biblatex_laws.proofs.TextsResolved.{SameTexts, text_of}
use Rattle.biblatex_laws.proofs.ValuesAlike.{value_same}

-- one more field of one name and one text
put_text : (b : Bool) (x : Value) (o : Option Value) → text_of (cond b (Some x) o) ≡ cond b (Some x.text) (text_of o)
put_text true x o = refl
put_text false x o = refl

put_same : (done other : List Named) (k l : List ℕ) (x y : Value) → k ≡ l → x.text ≡ y.text → SameTexts (λ n. value_named n done) (λ n. value_named n other)
    → SameTexts (λ n. value_named n (with_field done k x)) (λ n. value_named n (with_field other l y))
put_same done other k l x y names texts same n =
    ap text_of (put_found done k x n) ∙ put_text (bytes_eq n k) x (value_named n done)
    ∙ (λ i. cond (bytes_eq n (names i)) (Some (texts i)) (same n i))
    ∙ sym (ap text_of (put_found other l y n) ∙ put_text (bytes_eq n l) y (value_named n other))

module _ (g h : Glossary) (flags : AreFlags g.flags g.definitions) (flags_too : AreFlags h.flags h.definitions) where
  fields_same : (fs gs : List Field) → map bare_field fs ≡ map bare_field gs → AllByRecursion (λ f. DefineAlike (bare f.value.v) g.definitions h.definitions) fs
      → (done other xs ys : List Named) → SameTexts (λ n. value_named n done) (λ n. value_named n other) → fields_after g done fs ≡ Ok xs → fields_after h other gs ≡ Ok ys
      → (n : List ℕ) → text_named n xs ≡ text_named n ys
  fields_same [] [] same define done other xs ys so_far is too n =
      ap (text_named n) (sym (ok_is {F = Refusal} done xs is)) ∙ so_far n ∙ ap (text_named n) (ok_is {F = Refusal} other ys too)
  fields_same [] (q ∷ qs) same define done other xs ys so_far is too n = absurd (let e : 0 ≡ suc (length (map bare_field qs)) = ap length same in omega (arith, e))
  fields_same (f ∷ fs) [] same define done other xs ys so_far is too n = absurd (let e : suc (length (map bare_field fs)) ≡ 0 = ap length same in omega (arith, e))
  fields_same (f ∷ fs) (q ∷ qs) same define done other xs ys so_far is too n =
      let one = bind_ok (value_of g f) (λ v. fields_after g (with_field done (lowered f.name.v) v) fs) xs is in
      let two = bind_ok (value_of h q) (λ v. fields_after h (with_field other (lowered q.name.v) v) qs) ys too in
      let first : bare_field f ≡ bare_field q = ap (λ ps. get_or ps 0 (bare_field f)) same in
      let names : f.name.v ≡ q.name.v = λ i. (first i).0 in
      let pieces : bare f.value.v ≡ bare q.value.v = λ i. (first i).1 in
      let texts : one.0.text ≡ two.0.text = value_same g h flags flags_too f.name.v f.value.v q.value.v pieces define.0 one.0 two.0 one.1 ((λ i. value_in h (names i) q.value.v) ∙ two.1) in
      fields_same fs qs (ap (drop 1) same) define.1 (with_field done (lowered f.name.v) one.0) (with_field other (lowered q.name.v) two.0) xs ys
      (put_same done other (lowered f.name.v) (lowered q.name.v) one.0 two.0 (ap lowered names) texts so_far) one.2 two.2 n

  -- an entry that was read of a raw one
  pub entry_same : (e d : At Entry) (fs gs : List Named) → bare_entry e ≡ bare_entry d → AllByRecursion (λ f. DefineAlike (bare f.value.v) g.definitions h.definitions) e.v.fields
      → fields_of g e.v.fields ≡ Ok fs → fields_of h d.v.fields ≡ Ok gs → SaysTheSame (source_of e.v fs) (source_of d.v gs)
  entry_same e d fs gs same define is too = record {
    key = λ i. text (same i).key;
    entry_type = λ i. type_of (lowered (same i).kind);
    texts = fields_same e.v.fields d.v.fields (λ i. (same i).fields) define [] [] fs gs (λ n. refl) is too;
  }

-- a raw entry and what was read of it
pub record IsReadOf (g : Glossary) (e : At Entry) (s : Source) : Type 0 where
  pub fields : List Named
  pub read : fields_of g e.v.fields ≡ Ok fields
  pub source : s ≡ source_of e.v fields

one_read : (g : Glossary) (l m : Loaded) (e : At Entry) → entry_after g l e.v ≡ Ok m → (s : Source) × IsReadOf g e s × (m.listed.entries ≡ l.listed.entries ++ s ∷ [])
one_read g l m e is =
    let read = bind_ok (fields_of g e.v.fields) (λ fs. unless_known (is_some (l.listed.index (text e.v.key.v))) l e.v.key (source_of e.v fs)) m is in
    by read.0 read.1 (is_some (l.listed.index (text e.v.key.v))) read.2
  where
    by : (fs : List Named) → fields_of g e.v.fields ≡ Ok fs → (b : Bool) → unless_known b l e.v.key (source_of e.v fs) ≡ Ok m → (s : Source) × IsReadOf g e s × (m.listed.entries ≡ l.listed.entries ++ s ∷ [])
    by fs read true gives = absurd cc
    by fs read false gives = (
      source_of e.v fs,
      record { fields = fs; read = read; source = refl },
      ap (λ (x : Loaded). x.listed.entries) (sym (ok_is {F = Refusal} (record { listed = pushed (source_of e.v fs) l.listed; keys = l.keys ++ e.v.key ∷ [] }) m gives)),
    )

all_read : (g : Glossary) (l m : Loaded) (es : List (At Entry)) → entries_after g l es ≡ Ok m → (ss : List Source) × AllZip (IsReadOf g) es ss × (m.listed.entries ≡ l.listed.entries ++ ss)
all_read g l m [] is = ([], tt, ap (λ (x : Loaded). x.listed.entries) (sym (ok_is {F = Refusal} l m is)) ∙ sym (append-nil l.listed.entries))
all_read g l m (e ∷ es) is =
    let more = bind_ok (entry_after g l e.v) (λ k. entries_after g k es) m is in
    let one = one_read g l more.0 e more.1 in
    let others = all_read g more.0 m es more.2 in
    (one.0 ∷ others.0, (one.1, others.1), others.2 ∙ ap (λ (xs : List Source). xs ++ others.0) one.2 ∙ append_assoc l.listed.entries (one.0 ∷ []) others.0)

-- what was read of all raw entries, one by one
pub read_each : (g : Glossary) (m : Loaded) (es : List (At Entry)) → loaded g es ≡ Ok m → AllZip (IsReadOf g) es m.listed.entries
read_each g m es is =
    let all = all_read g nothing_loaded m es is in
    subst (λ (ss : List Source). AllZip (IsReadOf g) es ss) (sym all.2) all.1
