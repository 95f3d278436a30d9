-- What the sorted names of entries say of the entries.
use Rattle.std.proofs.Common.{◌≡◌, ℕ, suc, ◌<◌, Bool, true, false, cond, List, [], length, drop, get_or, string_bytes, Option, Some, None, drop-cons, true≢false, sym, ap, subst, ◌∙◌}
use Rattle.std.specs.Prelude.{IfSome}
use Rattle.std.specs.Bool.{OnTrue}
use Rattle.biblatex_entries.specs.declared.entry.Entry.{Entry}
use Rattle.biblatex_entries.specs.Entries.{Source, sources_view}
use Rattle.biblatex.specs.declared.indices.NamedIndex.{NamedIndex}
use Rattle.biblatex_meaning.specs.Listed.{Meaning, last_named}
use Rattle.biblatex.specs.Indices.{Names, names_in, meaning_in, AreInOrder}
use Rattle.biblatex.specs.Naming.{names_from, equal_names, bound_each, is_below, first_repeated}
use Rattle.biblatex.specs.Bibliographies.{indexed, IsWithin}
use Rattle.biblatex.proofs.NamingEqual.{meant_alike, bound_alike, bound_alone}
use Rattle.biblatex.proofs.NamingSources.{all_bound, last_within, none_repeated}

-- the same names as those of entries, but for the order of those that differ
abbrev pub AreNamesOf : List NamedIndex → List Source → Type 0
AreNamesOf ns es = (name : List ℕ) → equal_names name (names_in ns) ≡ equal_names name (names_from 0 es)

-- bound one after the other, each means the last entry that has it
pub bound_all : (ns : List NamedIndex) (es : List Source) → AreNamesOf ns es → bound_each (names_in ns) (λ name. None) ≡ (λ name. last_named name es)
bound_all ns es equal = bound_alike (names_in ns) (names_from 0 es) (λ name. None) equal ∙ all_bound es

-- where each name stands once, no key is that of an entry before
pub none_in_order : (ns : List NamedIndex) (es : List Source) → AreNamesOf ns es → AreInOrder ns → first_repeated (names_from 0 es) 0 es ≡ None
none_in_order ns es equal order = none_repeated (names_from 0 es) [] es once
  where
    meant : meaning_in (names_in ns) ≡ (λ name. last_named name es)
    meant = bound_alone ns order ∙ bound_all ns es equal

    once : (name : List ℕ) → meaning_in (names_from 0 es) name ≡ last_named name es
    once name = sym (meant_alike (names_in ns) (names_from 0 es) equal name) ∙ (λ i. meant i name)

-- names that mean the last entries that have them mean entries that there are
pub named_within : (ns : List NamedIndex) (es : List Entry) → meaning_in (names_in ns) ≡ (λ name. last_named name (sources_view es)) → IsWithin (indexed es ns)
named_within ns es is name = subst (λ (f : Meaning). IfSome (f name) (λ i. i < length (sources_view es))) (sym is) (last_within (sources_view es) name)

-- what holds where a test was passed
pub passed : (b : Bool) (P : Type 0) → b ≡ true → OnTrue b P → P
passed true P is h = h
passed false P is h = absurd (true≢false (sym is))

-- one more key is looked at
pub repeated_step : (names : Names) (es : List Entry) (n : ℕ) (d : Entry) → n < length es
    → first_repeated names n (sources_view (drop n es)) ≡ cond (is_below n (meaning_in names (string_bytes (get_or es n d).key))) (Some n) (first_repeated names (suc n) (sources_view (drop (suc n) es)))
repeated_step names es n d within = ap (λ (xs : List Entry). first_repeated names n (sources_view xs)) (drop-cons es n d within)

-- a key that is looked at is the first that is refused, or is not
pub stopped : (b : Bool) (n : ℕ) (x y : Option ℕ) → b ≡ true → x ≡ cond b (Some n) y → Some n ≡ x
stopped true n x y is e = sym e
stopped false n x y is e = absurd (true≢false (sym is))

pub skipped : (b : Bool) (n : ℕ) (x y : Option ℕ) → b ≡ false → x ≡ cond b (Some n) y → y ≡ x
skipped true n x y is e = absurd (true≢false is)
skipped false n x y is e = sym e
