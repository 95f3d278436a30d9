-- The keys of entries that were read are distinct.
use Rattle.std.proofs.Common.{◌≡◌, ◌||◌, ℕ, suc, arith, codes, drop, get_or, Bool, true, false, true≢false, cond, List, [], ◌∷◌, ◌++◌, length, map, Option, Some, Ok, refl, sym, ap, subst, ◌∙◌}
use Rattle.std.specs.Prelude.{is_some}
use Rattle.std.specs.List.{AllByRecursion, list_any}
use Rattle.std.specs.Str.{bytes_eq}
use Rattle.std.proofs.lemmas.Slice.Eq.{bytes_eq-Decides}
use Rattle.laws.specs.Text.{text}
use Rattle.laws.proofs.Results.{bind_ok, ok_is}
use Rattle.biblatex_text.specs.Raw.{At, Entry}
use Rattle.biblatex_fields.specs.Abbreviations.{Glossary}
use Rattle.biblatex_fields.specs.Fields.{Named, fields_of}
use Rattle.biblatex_entries.specs.Entries.{Source, field_text, names_of}
use Rattle.biblatex_entries.specs.Names.{listed}
use Rattle.biblatex_meaning.specs.Listed.{Meaning, bound, Listed, pushed}
use Rattle.biblatex_meaning.specs.Reading.{Loaded, Refusal, entries_after, entry_after, loaded, nothing_loaded, source_of, unless_known}
use Rattle.biblatex_meaning.specs.Resolved.{head}

-- no entry has the key of one after it
abbrev pub AreApart : List Source → Type 0
AreApart [] = Unit {0}
AreApart (e ∷ es) = AllByRecursion (λ d. bytes_eq e.key d.key ≡ false) es × AreApart es

-- the key of each entry means one
abbrev AreKnown : Meaning → List Source → Type 0
AreKnown index es = AllByRecursion (λ e. is_some (index e.key) ≡ true) es

all_last : (P : Source → Type 0) (es : List Source) (e : Source) → AllByRecursion P es → P e → AllByRecursion P (es ++ e ∷ [])
all_last P [] e h last = (last, tt)
all_last P (d ∷ es) e h last = (h.0, all_last P es e h.1 last)

known_differs : (index : Meaning) (k l : List ℕ) → is_some (index k) ≡ true → is_some (index l) ≡ false → bytes_eq k l ≡ false
known_differs index k l known fresh = by (bytes_eq k l) refl
  where
    by : (b : Bool) → bytes_eq k l ≡ b → b ≡ false
    by true is = absurd (true≢false (sym known ∙ ap (λ (n : List ℕ). is_some (index n)) ((bytes_eq-Decides k l).0 is) ∙ fresh))
    by false is = refl

-- one more entry, whose key means nothing yet
apart_last : (index : Meaning) (es : List Source) (e : Source) → AreKnown index es → is_some (index e.key) ≡ false → AreApart es → AreApart (es ++ e ∷ [])
apart_last index [] e known fresh h = (tt, tt)
apart_last index (d ∷ es) e known fresh h = (all_last (λ c. bytes_eq d.key c.key ≡ false) es e h.0 (known_differs index d.key e.key known.0 fresh), apart_last index es e known.1 fresh h.1)

bound_known : (b : Bool) (n : ℕ) (o : Option ℕ) → is_some o ≡ true → is_some (cond b (Some n) o) ≡ true
bound_known true n o h = refl
bound_known false n o h = h

still_known : (index : Meaning) (names : List (List ℕ)) (n : ℕ) (es : List Source) → AreKnown index es → AreKnown (bound names n index) es
still_known index names n [] h = tt
still_known index names n (e ∷ es) h = (bound_known (list_any (bytes_eq e.key) names) n (index e.key) h.0, still_known index names n es h.1)

itself_known : (index : Meaning) (e : Source) (n : ℕ) → is_some (bound (names_of e) n index e.key) ≡ true
itself_known index e n = at (list_any (bytes_eq e.key) others) (bytes_eq e.key e.key) ((bytes_eq-Decides e.key e.key).1 refl)
  where
    others : List (List ℕ)
    others = listed (field_text (codes "ids") e.fields)

    at : (c b : Bool) → b ≡ true → is_some (cond (b || c) (Some n) (index e.key)) ≡ true
    at c true is = refl
    at c false is = absurd (true≢false (sym is))

-- what holds of all that was read
record IsDistinctly (l : Listed) : Type 0 where
  known : AreKnown l.index l.entries
  apart : AreApart l.entries

pushed_distinctly : (l : Listed) (e : Source) → is_some (l.index e.key) ≡ false → IsDistinctly l → IsDistinctly (pushed e l)
pushed_distinctly l e fresh h = record {
  known = all_last (λ d. is_some (bound (names_of e) (length l.entries) l.index d.key) ≡ true) l.entries e (still_known l.index (names_of e) (length l.entries) l.entries h.known) (itself_known l.index e (length l.entries));
  apart = apart_last l.index l.entries e h.known fresh h.apart;
}

one_distinctly : (g : Glossary) (l m : Loaded) (e : Entry) → entry_after g l e ≡ Ok m → IsDistinctly l.listed → IsDistinctly m.listed
one_distinctly g l m e is h =
    let read = bind_ok (fields_of g e.fields) _ m is in
    by_key read.0 (is_some (l.listed.index (text e.key.v))) refl read.2
  where
    by_key : (fs : List Named) (b : Bool) → is_some (l.listed.index (text e.key.v)) ≡ b → unless_known b l e.key (source_of e fs) ≡ Ok m → IsDistinctly m.listed
    by_key fs true known gives = absurd cc
    by_key fs false fresh gives =
        subst (λ (x : Loaded). IsDistinctly x.listed) (ok_is {F = Refusal} (record { listed = pushed (source_of e fs) l.listed; keys = l.keys ++ e.key ∷ [] }) m gives) (pushed_distinctly l.listed (source_of e fs) fresh h)

all_distinctly : (g : Glossary) (l m : Loaded) (es : List (At Entry)) → entries_after g l es ≡ Ok m → IsDistinctly l.listed → IsDistinctly m.listed
all_distinctly g l m [] is h = subst (λ (x : Loaded). IsDistinctly x.listed) (ok_is {F = Refusal} l m is) h
all_distinctly g l m (e ∷ es) is h =
    let more = bind_ok (entry_after g l e.v) (λ k. entries_after g k es) m is in
    all_distinctly g more.0 m es more.2 (one_distinctly g l more.0 e.v more.1 h)

pub loaded_apart : (g : Glossary) (es : List (At Entry)) (m : Loaded) → loaded g es ≡ Ok m → AreApart m.listed.entries
loaded_apart g es m is = (all_distinctly g nothing_loaded m es is (record { known = tt; apart = tt })).apart

-- entries with the same keys are apart alike
pub heads_other : (k l : List ℕ) (es ds : List Source) → map head es ≡ map head ds → k ≡ l → AllByRecursion (λ d. bytes_eq k d.key ≡ false) es → AllByRecursion (λ d. bytes_eq l d.key ≡ false) ds
heads_other k l es [] heads same h = tt
heads_other k l [] (d ∷ ds) heads same h = absurd (let e : 0 ≡ suc (length (map head ds)) = ap length heads in omega (arith, e))
heads_other k l (e ∷ es) (d ∷ ds) heads same h = (
  sym (λ i. bytes_eq (same i) (get_or (heads i) 0 (head e)).0) ∙ h.0,
  heads_other k l es ds (ap (drop 1) heads) same h.1,
)

pub heads_apart : (es ds : List Source) → map head es ≡ map head ds → AreApart es → AreApart ds
heads_apart es [] heads h = tt
heads_apart [] (d ∷ ds) heads h = absurd (let e : 0 ≡ suc (length (map head ds)) = ap length heads in omega (arith, e))
heads_apart (e ∷ es) (d ∷ ds) heads h = (heads_other e.key d.key es ds (ap (drop 1) heads) (λ i. (get_or (heads i) 0 (head e)).0) h.0, heads_apart es ds (ap (drop 1) heads) h.1)
