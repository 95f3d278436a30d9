-- Entries between two texts that names do not reach leave what they mean as it was.
use Rattle.std.proofs.Common.{◌≡◌, ℕ, zero, suc, arith, List, [], ◌∷◌, ◌++◌, drop, get_or, length, map, slice_get, Option, Some, None, Ok, refl, sym, ap, subst, ◌∙◌}
use Rattle.std.specs.Prelude.{Contains, option_and_then}
use Rattle.std.specs.List.{AllByRecursion, AllZip}
use Rattle.std.specs.Option.{option_map}
use Rattle.std.specs.Str.{bytes_eq}
use Rattle.std.proofs.lemmas.Option.{slice_get-map}
use Rattle.laws.specs.Text.{lowered, text}
use Rattle.laws.proofs.Results.{ok_is}
use Rattle.biblatex_text.specs.Raw.{At, Entry, Field, Piece, Raw}
use Rattle.biblatex_text.specs.Items.{raw_of}
use Rattle.biblatex_text.specs.declared.token.Fault.{Fault}
use Rattle.biblatex_fields.specs.Abbreviations.{Glossary, AreFlags, index_of, later}
use Rattle.biblatex_entries.specs.Entries.{Source}
use Rattle.biblatex_meaning.specs.Listed.{Listed, entry_named}
use Rattle.biblatex_meaning.specs.Reading.{source_of}
use Rattle.biblatex_meaning.proofs.ReadingLoaded.{as_read}
use Rattle.biblatex_laws.specs.Differing.{BareEntry, bare_entry, bare_field}
use Rattle.biblatex_laws.specs.Files.{IsFileOf}
use Rattle.biblatex_laws.specs.Opened.{DefineAlike, bare, definition_of}
use Rattle.biblatex_laws.specs.Reached.{IsReachedIn, SaysTheSame, SayTheSame, SayTheSameOf}
use Rattle.biblatex_laws.specs.Joined.{BeginsItem, HoldsBoth}
use Rattle.biblatex_laws.specs.Between.{ArePutBetween, AreUnreached, UnreachedEntriesBetweenChangeNothing}
use Rattle.biblatex_laws.proofs.FieldsAlike.{IsReadOf, entry_same, read_each}
use Rattle.biblatex_laws.proofs.OneMore.{mapped, zip_first}
use Rattle.biblatex_laws.proofs.ReachedAlike.{parents_same}
use Rattle.biblatex_laws.proofs.JoinedTexts.{follows, joined_hold}
use Rattle.biblatex_laws.proofs.Found.{IsNone, found, found_with, named_found}

-- ---- definitions of abbreviations that say the same

names_index : (name : List ℕ) (ds es : List Field) → map bare_field ds ≡ map bare_field es → index_of name ds ≡ index_of name es
names_index name [] [] same = refl
names_index name [] (e ∷ es) same = absurd (let n : 0 ≡ suc (length (map bare_field es)) = ap length same in omega (arith, n))
names_index name (d ∷ ds) [] same = absurd (let n : suc (length (map bare_field ds)) ≡ 0 = ap length same in omega (arith, n))
names_index name (d ∷ ds) (e ∷ es) same = λ i. later (names_index name ds es (ap (drop 1) same) i) (bytes_eq name (lowered (get_or (same i) 0 (bare_field d)).0))

value_of_bare : (o : Option Field) → option_map (λ (f : List ℕ × List Piece). f.1) (option_map bare_field o) ≡ option_map (λ (f : Field). bare f.value.v) o
value_of_bare None = refl
value_of_bare (Some d) = refl

pub define_same : (ds es : List Field) → map bare_field ds ≡ map bare_field es → (name : List ℕ) → definition_of name ds ≡ definition_of name es
define_same ds es same name = ap (λ (o : Option ℕ). option_map (λ (f : Field). bare f.value.v) (option_and_then (slice_get ds) o)) (names_index name ds es same) ∙ at (index_of name es)
  where
    at : (o : Option ℕ) → option_map (λ (f : Field). bare f.value.v) (option_and_then (slice_get ds) o) ≡ option_map (λ (f : Field). bare f.value.v) (option_and_then (slice_get es) o)
    at None = refl
    at (Some i) =
        sym (value_of_bare (slice_get ds i))
        ∙ ap (option_map (λ (f : List ℕ × List Piece). f.1)) (sym (slice_get-map bare_field ds i) ∙ ap (λ fs. slice_get fs i) same ∙ slice_get-map bare_field es i)
        ∙ value_of_bare (slice_get es i)

-- ---- entries that are read of the same bare ones

abbrev IsReadOfBare : Glossary → BareEntry → Source → Type 0
IsReadOfBare g b s = (e : At Entry) × (bare_entry e ≡ b) × IsReadOf g e s

of_bares : (g : Glossary) (es : List (At Entry)) (ss : List Source) → AllZip (IsReadOf g) es ss → AllZip (IsReadOfBare g) (map bare_entry es) ss
of_bares g [] [] h = tt
of_bares g [] (s ∷ ss) h = absurd h
of_bares g (e ∷ es) [] h = absurd h
of_bares g (e ∷ es) (s ∷ ss) h = ((e, refl, h.0), of_bares g es ss h.1)

zip_parts : {A B : Type 0} (R : A → B → Type 0) (xs ys : List A) (ss : List B) → AllZip R (xs ++ ys) ss → (us : List B) × (vs : List B) × (ss ≡ us ++ vs) × AllZip R xs us × AllZip R ys vs
zip_parts R [] ys ss h = ([], ss, refl, tt, h)
zip_parts R (x ∷ xs) ys [] h = absurd h
zip_parts {A} {B} R (x ∷ xs) ys (s ∷ ss) h =
    let more = zip_parts R xs ys ss h.1 in
    (s ∷ more.0, more.1, ap (λ (zs : List B). s ∷ zs) more.2, (h.0, more.3), more.4)

all_alike : (ds es : List Field) → ((name : List ℕ) → definition_of name ds ≡ definition_of name es) → (fs : List Field) → AllByRecursion (λ f. DefineAlike (bare f.value.v) ds es) fs
all_alike ds es alike [] = tt
all_alike ds es alike (f ∷ fs) = ((λ name opened. alike name), all_alike ds es alike fs)

module _ (g h : Glossary) (flags : AreFlags g.flags g.definitions) (flags_too : AreFlags h.flags h.definitions)
    (alike : (name : List ℕ) → definition_of name g.definitions ≡ definition_of name h.definitions) where
  one_same : (b : BareEntry) (s t : Source) → IsReadOfBare g b s → IsReadOfBare h b t → SaysTheSame s t
  one_same b s t (e, is, read) (d, too, read_too) =
      let says : SaysTheSame (source_of e.v read.fields) (source_of d.v read_too.fields) =
      entry_same g h flags flags_too e d read.fields read_too.fields (is ∙ sym too) (all_alike g.definitions h.definitions alike e.v.fields) read.read read_too.read in
      subst (λ (x : Source). SaysTheSame s x) (sym read_too.source) (subst (λ (x : Source). SaysTheSame x (source_of d.v read_too.fields)) (sym read.source) says)

  all_same : (bs : List BareEntry) (ss ts : List Source) → AllZip (IsReadOfBare g) bs ss → AllZip (IsReadOfBare h) bs ts → AllZip SaysTheSame ss ts
  all_same [] [] [] a c = tt
  all_same [] [] (t ∷ ts) a c = absurd c
  all_same [] (s ∷ ss) ts a c = absurd a
  all_same (b ∷ bs) [] ts a c = absurd a
  all_same (b ∷ bs) (s ∷ ss) [] a c = absurd c
  all_same (b ∷ bs) (s ∷ ss) (t ∷ ts) a c = (one_same b s t a.0 c.0, all_same bs ss ts a.1 c.1)

-- ---- names

the_other : (o p : Option Source) (e : Source) → SayTheSame o p → o ≡ Some e → (f : Source) × (p ≡ Some f) × SaysTheSame e f
the_other o None e h is = absurd (subst (λ (q : Option Source). SayTheSame q None) is h)
the_other o (Some f) e h is = (f, refl, subst (λ (q : Option Source). SayTheSame q (Some f)) is h)

-- texts of which the second has the raw entries of the first and more
module _ (cs ds : List ℕ) (file other resolved other_resolved : Listed) (first : IsFileOf cs file resolved) (second : IsFileOf ds other other_resolved)
    (front back : List BareEntry) (more : List (At Entry)) (shorter : map bare_entry first.raw.entries ≡ front ++ back)
    (longer : map bare_entry second.raw.entries ≡ front ++ (map bare_entry more ++ back)) (alike : map bare_field first.raw.abbreviations ≡ map bare_field second.raw.abbreviations) where
  glossaries : (name : List ℕ) → definition_of name first.glossary.definitions ≡ definition_of name second.glossary.definitions
  glossaries name =
      ap (definition_of name) first.definitions
      ∙ define_same first.raw.abbreviations second.raw.abbreviations alike name
      ∙ sym (ap (definition_of name) second.definitions)

  one_read : AllZip (IsReadOfBare first.glossary) (front ++ back) file.entries
  one_read =
      subst (λ (bs : List BareEntry). AllZip (IsReadOfBare first.glossary) bs file.entries) shorter
      (of_bares first.glossary first.raw.entries file.entries (read_each first.glossary (record { listed = file; keys = first.keys }) first.raw.entries first.entries))

  two_read : AllZip (IsReadOfBare second.glossary) (front ++ (map bare_entry more ++ back)) other.entries
  two_read =
      subst (λ (bs : List BareEntry). AllZip (IsReadOfBare second.glossary) bs other.entries) longer
      (of_bares second.glossary second.raw.entries other.entries (read_each second.glossary (record { listed = other; keys = second.keys }) second.raw.entries second.entries))

  -- the name means none of the entries that are more
  abbrev MeansNone : List ℕ → Type 0
  MeansNone name = (i : ℕ) (e : At Entry) → slice_get more i ≡ Some e → option_map (λ (d : Source). d.key) (entry_named name other) ≡ Some (text e.v.key.v) → ⊥

  none_of : (name : List ℕ) → MeansNone name → (xs : List Source) → AllZip (IsReadOfBare second.glossary) (map bare_entry more) xs → IsNone (entry_named name other) xs
  none_of name none xs zip i x at is =
      let one = zip_first (IsReadOfBare second.glossary) (map bare_entry more) xs zip i x at in
      let e = mapped bare_entry (slice_get more i) one.0 (sym (slice_get-map bare_entry more i) ∙ one.1) in
      let key : x.key ≡ text e.0.v.key.v =
      ap (λ (s : Source). s.key) one.2.2.source ∙ ap (λ (b : BareEntry). text b.key) one.2.1 ∙ ap (λ (b : BareEntry). text b.key) (sym e.2) in
      none i e.0 e.1 (ap (option_map (λ (d : Source). d.key)) is ∙ ap (λ (k : List ℕ). Some k) key)

  same_meaning : (name : List ℕ) → MeansNone name → SayTheSame (entry_named name file) (entry_named name other)
  same_meaning name none =
      let one = zip_parts (IsReadOfBare first.glossary) front back file.entries one_read in
      let two = zip_parts (IsReadOfBare second.glossary) front (map bare_entry more ++ back) other.entries two_read in
      let three = zip_parts (IsReadOfBare second.glossary) (map bare_entry more) back two.1 two.4 in
      let in_file : entry_named name file ≡ found name (one.0 ++ one.1) =
      named_found file (as_read first.glossary (record { listed = file; keys = first.keys }) first.raw.entries first.entries) name ∙ ap (found name) one.2 in
      let in_other : entry_named name other ≡ found name (two.0 ++ (three.0 ++ three.1)) =
      named_found other (as_read second.glossary (record { listed = other; keys = second.keys }) second.raw.entries second.entries) name
      ∙ ap (found name) (two.2 ∙ ap (λ (es : List Source). two.0 ++ es) three.2) in
      let says : SayTheSame (found name (one.0 ++ one.1)) (found name (two.0 ++ (three.0 ++ three.1))) =
      found_with name three.0 one.0 two.0 one.1 three.1
      (all_same first.glossary second.glossary first.flags second.flags glossaries front one.0 two.0 one.3 two.3)
      (all_same first.glossary second.glossary first.flags second.flags glossaries back one.1 three.1 one.4 three.4)
      (subst (λ (o : Option Source). IsNone o three.0) in_other (none_of name none three.0 three.3)) in
      subst (λ (o : Option Source). SayTheSame o (entry_named name other)) (sym in_file)
      (subst (λ (o : Option Source). SayTheSame (found name (one.0 ++ one.1)) o) (sym in_other) says)

  reached_there : (names : List (List ℕ)) → AreUnreached other names more → (n : ℕ) (name : List ℕ) → IsReachedIn file names n name → IsReachedIn other names n name
  reached_there names none zero name has = has
  reached_there names none (suc n) name (before, e, reached, is, has) =
      let there : IsReachedIn other names n before = reached_there names none n before reached in
      let f = the_other (entry_named before file) (entry_named before other) e (same_meaning before (λ i d. none before i d (n, there))) is in
      (before, f.0, there, f.1, subst (λ (ps : List (List ℕ)). Contains ps name) (parents_same e f.0 f.2) has)

  pub reached_say : (names : List (List ℕ)) → AreUnreached other names more → SayTheSameOf names file other
  reached_say names none name (n, reached) = same_meaning name (λ i d. none name i d (n, reached_there names none n name reached))

-- ---- the raw entries of the texts

begins_with : (more back : List ℕ) → BeginsItem more → BeginsItem back → BeginsItem (more ++ back)
begins_with [] back own next = next
begins_with (c ∷ more) back own next = own

module _ (front more back cs ds : List ℕ) (file other resolved other_resolved : Listed) (p : ArePutBetween front more back)
    (cs_is : cs ≡ front ++ back) (ds_is : ds ≡ front ++ (more ++ back)) (first : IsFileOf cs file resolved) (second : IsFileOf ds other other_resolved) where
  pub back_read : (r : Raw) × (raw_of back ≡ Ok r)
  back_read = follows front back p.front_raw first.raw p.front_lines p.back_begins p.front_read (ap raw_of (sym cs_is) ∙ first.read)

  abbrev pub back_raw : Raw
  back_raw = back_read.0

  around : HoldsBoth p.front_raw back_raw first.raw
  around =
      let both = joined_hold front back p.front_raw back_raw p.front_lines p.back_begins p.front_read back_read.1 in
      subst (HoldsBoth p.front_raw back_raw) (ok_is {F = Fault × ℕ} both.0 first.raw (sym both.1 ∙ ap raw_of (sym cs_is) ∙ first.read)) both.2

  from_more : (both : Raw) × (raw_of (more ++ back) ≡ Ok both) × HoldsBoth p.more_raw back_raw both
  from_more = joined_hold more back p.more_raw back_raw p.more_lines p.back_begins p.more_read back_read.1

  whole : HoldsBoth p.front_raw from_more.0 second.raw
  whole =
      let both = joined_hold front (more ++ back) p.front_raw from_more.0 p.front_lines (begins_with more back p.more_begins p.back_begins) p.front_read from_more.1 in
      subst (HoldsBoth p.front_raw from_more.0) (ok_is {F = Fault × ℕ} both.0 second.raw (sym both.1 ∙ ap raw_of (sym ds_is) ∙ second.read)) both.2

  -- the bare entries before and after
  abbrev pub ahead : List BareEntry
  ahead = map bare_entry p.front_raw.entries

  abbrev pub behind : List BareEntry
  behind = map bare_entry back_raw.entries

  pub shorter_is : map bare_entry first.raw.entries ≡ ahead ++ behind
  shorter_is = around.entries

  pub longer_is : map bare_entry second.raw.entries ≡ ahead ++ (map bare_entry p.more_raw.entries ++ behind)
  longer_is = whole.entries ∙ ap (λ (bs : List BareEntry). ahead ++ bs) from_more.2.entries

  same_abbreviations : map bare_field first.raw.abbreviations ≡ map bare_field second.raw.abbreviations
  same_abbreviations =
      around.abbreviations
      ∙ sym
      (whole.abbreviations
      ∙ ap (λ (fs : List (List ℕ × List Piece)). map bare_field p.front_raw.abbreviations ++ fs)
      (from_more.2.abbreviations ∙ ap (λ (fs : List Field). map bare_field fs ++ map bare_field back_raw.abbreviations) p.plain))

  pub put_says : (names : List (List ℕ)) → AreUnreached other names p.more_raw.entries → SayTheSameOf names file other
  put_says names none = reached_say cs ds file other resolved other_resolved first second ahead behind p.more_raw.entries shorter_is longer_is same_abbreviations names none

pub unreached_between : UnreachedEntriesBetweenChangeNothing
unreached_between names front more back file other resolved other_resolved p first second none =
    put_says front more back (front ++ back) (front ++ (more ++ back)) file other resolved other_resolved p refl refl first second names none
