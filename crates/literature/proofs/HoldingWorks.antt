-- A selector holds at an entry of the code where it holds at the work that the entry is.
use Rattle.std.proofs.Common.{◌≡◌, ◌||◌, ◌&&◌, ℕ, Bool, true, false, not, List, [], ◌∷◌, map, refl, sym, ap, ◌∙◌, cond, rules, Option, Some, None}
use Rattle.std.specs.List.{list_any, list_all}
use Rattle.std.specs.Option.{option_map}
use Rattle.laws.specs.Text.{text, is_filled}
use Rattle.literature_values.specs.declared.entry_type.EntryType.{EntryType}
use Rattle.literature_entries.specs.Names.{has}
use Rattle.literature_entries.specs.Views.{key_view, fields_view, parents}
use Rattle.literature_entries.specs.EntriesData.{EntryData, Holding, wholes, entry_view}
use Rattle.literature_entries.specs.declared.entry.Entry.{Entry, the_lemmas}
use Rattle.literature.specs.Holding.{Meaning, and_others, at_one, each_takes, following, has_each, holds, holds_at, is_of, is_type_of, is_work_of, listed, meaning, meaning_by, meanings, meanings_by, outer_works, fields_of_work, take_first, work_has_each}
use Rattle.literature.specs.Trees.{Tree, Trees, nothing, before}
use Rattle.literature.specs.Trees as trees

whole_is : (e : Entry) → entry_view e ≡ Holding (key_view e) (fields_view e) (wholes (map entry_view (parents e)))
whole_is e = search (rules, the_lemmas)

listed_is : (es : List Entry) → listed (wholes (map entry_view es)) ≡ map entry_view es
listed_is [] = refl
listed_is (e ∷ es) = ap (λ (ws : List EntryData). entry_view e ∷ ws) (listed_is es)

fields_of_work_is : (e : Entry) → fields_of_work (entry_view e) ≡ fields_view e
fields_of_work_is e = ap fields_of_work (whole_is e)

outer_is : (e : Entry) → outer_works (entry_view e) ≡ map entry_view (parents e)
outer_is e = ap outer_works (whole_is e) ∙ listed_is (parents e)

some_is : (es : List Entry) → is_filled (map entry_view es) ≡ is_filled es
some_is [] = refl
some_is (e ∷ es) = refl

type_is : (t : EntryType) (e : Entry) → is_of t e ≡ is_work_of t (entry_view e)
type_is t e = ap (is_type_of t) (sym (fields_of_work_is e))

has_is : (names : List (List ℕ)) (e : Entry) → has_each names e ≡ work_has_each names (entry_view e)
has_is names e = λ i. list_all (λ n. has (text n) (same_fields i) (some i)) names
  where
    same_fields : fields_view e ≡ fields_of_work (entry_view e)
    same_fields = sym (fields_of_work_is e)

    some : is_filled (parents e) ≡ is_filled (outer_works (entry_view e))
    some = sym (ap is_filled (outer_is e) ∙ some_is (parents e))

-- one meaning of entries, and one of works
record IsSame (m : Meaning Entry) (n : Meaning EntryData) : Type 0 where
  at : (e : Entry) → m.at e ≡ n.at (entry_view e)
  above : (es : List Entry) → m.above es ≡ n.above (map entry_view es)

any_is : (f : Entry → Bool) (g : EntryData → Bool) → ((e : Entry) → f e ≡ g (entry_view e)) → (es : List Entry) → list_any f es ≡ list_any g (map entry_view es)
any_is f g h [] = refl
any_is f g h (e ∷ es) = λ i. h e i || any_is f g h es i

at_one_is : (f : Entry → Bool) (g : EntryData → Bool) → ((e : Entry) → f e ≡ g (entry_view e)) → IsSame (at_one f) (at_one g)
at_one_is f g h = record { at = h; above = any_is f g h }

-- the same of each
abbrev AreSame : List (Meaning Entry) → List (Meaning EntryData) → Type 0
AreSame [] [] = Unit {0}
AreSame [] (n ∷ ns) = ⊥
AreSame (m ∷ ms) [] = ⊥
AreSame (m ∷ ms) (n ∷ ns) = IsSame m n × AreSame ms ns

any_at : (ms : List (Meaning Entry)) (ns : List (Meaning EntryData)) → AreSame ms ns → (e : Entry) → list_any (λ m. m.at e) ms ≡ list_any (λ n. n.at (entry_view e)) ns
any_at [] [] h e = refl
any_at [] (n ∷ ns) h e = absurd h
any_at (m ∷ ms) [] h e = absurd h
any_at (m ∷ ms) (n ∷ ns) h e = λ i. h.0.at e i || any_at ms ns h.1 e i

any_above : (ms : List (Meaning Entry)) (ns : List (Meaning EntryData)) → AreSame ms ns → (es : List Entry) → list_any (λ m. m.above es) ms ≡ list_any (λ n. n.above (map entry_view es)) ns
any_above [] [] h es = refl
any_above [] (n ∷ ns) h es = absurd h
any_above (m ∷ ms) [] h es = absurd h
any_above (m ∷ ms) (n ∷ ns) h es = λ i. h.0.above es i || any_above ms ns h.1 es i

-- those that are left, as works
abbrev entries_left : Option (Entry × List Entry) → Option (List EntryData)
entries_left o = option_map (λ p. map entry_view p.1) o

abbrev works_left : Option (EntryData × List EntryData) → Option (List EntryData)
works_left o = option_map (λ p. p.1) o

entries_after : (e : Entry) (o : Option (Entry × List Entry)) → entries_left (option_map (following e) o) ≡ option_map (λ ws. entry_view e ∷ ws) (entries_left o)
entries_after e None = refl
entries_after e (Some p) = refl

works_after : (w : EntryData) (o : Option (EntryData × List EntryData)) → works_left (option_map (following w) o) ≡ option_map (λ ws. w ∷ ws) (works_left o)
works_after w None = refl
works_after w (Some p) = refl

left_by : (f : Entry → Bool) (g : EntryData → Bool) (e : Entry) (es : List Entry) → entries_left (take_first f es) ≡ works_left (take_first g (map entry_view es)) → (b : Bool)
    → entries_left (cond b (Some (e, es)) (option_map (following e) (take_first f es))) ≡ works_left (cond b (Some (entry_view e, map entry_view es)) (option_map (following (entry_view e)) (take_first g (map entry_view es))))
left_by f g e es h true = refl
left_by f g e es h false = entries_after e (take_first f es) ∙ ap (option_map (λ (ws : List EntryData). entry_view e ∷ ws)) h ∙ sym (works_after (entry_view e) (take_first g (map entry_view es)))

left_is : (f : Entry → Bool) (g : EntryData → Bool) → ((e : Entry) → f e ≡ g (entry_view e)) → (es : List Entry) → entries_left (take_first f es) ≡ works_left (take_first g (map entry_view es))
left_is f g h [] = refl
left_is f g h (e ∷ es) =
    left_by f g e es (left_is f g h es) (f e)
    ∙ ap (λ (b : Bool). works_left (cond b (Some (entry_view e, map entry_view es)) (option_map (following (entry_view e)) (take_first g (map entry_view es))))) (h e)

-- whether some are left and pass
abbrev pass_left : (List EntryData → Bool) → Option (List EntryData) → Bool
pass_left pass None = false
pass_left pass (Some ws) = pass ws

works_pass : (pass : List EntryData → Bool) (o : Option (EntryData × List EntryData)) → and_others pass o ≡ pass_left pass (works_left o)
works_pass pass None = refl
works_pass pass (Some p) = refl

entries_pass : (pass : List Entry → Bool) (own : List EntryData → Bool) → ((es : List Entry) → pass es ≡ own (map entry_view es)) → (o : Option (Entry × List Entry)) → and_others pass o ≡ pass_left own (entries_left o)
entries_pass pass own h None = refl
entries_pass pass own h (Some p) = h p.1

takes_is : (ms : List (Meaning Entry)) (ns : List (Meaning EntryData)) → AreSame ms ns → (es : List Entry) → each_takes (map (λ m. m.at) ms) es ≡ each_takes (map (λ n. n.at) ns) (map entry_view es)
takes_is [] [] h es = refl
takes_is [] (n ∷ ns) h es = absurd h
takes_is (m ∷ ms) [] h es = absurd h
takes_is (m ∷ ms) (n ∷ ns) h es =
    entries_pass (each_takes (map (λ m. m.at) ms)) (each_takes (map (λ n. n.at) ns)) (takes_is ms ns h.1) (take_first m.at es)
    ∙ ap (pass_left (each_takes (map (λ n. n.at) ns))) (left_is m.at n.at h.0.at es)
    ∙ sym (works_pass (each_takes (map (λ n. n.at) ns)) (take_first n.at (map entry_view es)))

-- a selector, and selectors, as they are asked of works
abbrev at_works : Tree → Meaning EntryData
at_works x = meaning_by is_work_of work_has_each outer_works x

abbrev all_at_works : Trees → List (Meaning EntryData)
all_at_works xs = meanings_by is_work_of work_has_each outer_works xs

mutual
  says : (x : Tree) → IsSame (meaning x) (at_works x)
  says trees.Any = at_one_is (λ e. true) (λ w. true) (λ e. refl)
  says (trees.Entry t) = at_one_is (is_of t) (is_work_of t) (type_is t)
  says (trees.Not x) = record { at = λ e. ap not ((says x).at e); above = λ es. ap not ((says x).above es) }
  says (trees.Binding n x) = at_one_is (meaning x).at (at_works x).at (says x).at
  says (trees.Attributes x names) =
      at_one_is (λ e. (meaning x).at e && has_each names e) (λ w. (at_works x).at w && work_has_each names w) (λ e i. (says x).at e i && has_is names e i)
  says (trees.Alternatives xs) = record { at = any_at (meanings xs) (all_at_works xs) (all_say xs); above = any_above (meanings xs) (all_at_works xs) (all_say xs) }
  says (trees.Multi xs) = record { at = λ e. refl; above = takes_is (meanings xs) (all_at_works xs) (all_say xs) }
  says (trees.Ancestry x y) =
      at_one_is (λ e. (meaning x).at e && (meaning y).above (parents e)) (λ w. (at_works x).at w && (at_works y).above (outer_works w))
      (λ e i. (says x).at e i && ((says y).above (parents e) ∙ ap (at_works y).above (sym (outer_is e))) i)

  all_say : (xs : Trees) → AreSame (meanings xs) (all_at_works xs)
  all_say nothing = tt
  all_say (before x xs) = (says x, all_say xs)

-- a selector holds at an entry where it holds at its work
pub holds_is : (x : Tree) (e : Entry) → holds x e ≡ holds_at x (entry_view e)
holds_is x e = (says x).at e
