-- The name of a text of the relation is the one that is read.
use Rattle.std.proofs.Common.{◌≡◌, true, false, true≢false, ◌⊎◌, List, [], ◌∷◌, refl, sym, ap, ◌∙◌, inl, inr}
use Rattle.std.specs.List.{AllZip}
use Rattle.laws.specs.Characters.{comma}
use Rattle.biblatex_lists.specs.Reading.{Named, nobody, without_commas, with_commas, by_parts, with_pairs, person_of, person_in}
use Rattle.biblatex_readings_grammar.specs.Words.{Text, is_the, IsCutAt}
use Rattle.biblatex_readings_grammar.specs.Names.{ArePartsOf, IsPair, IsName}
use Rattle.biblatex_readings_grammar.proofs.Cuts.{cut_by, cut_is, cut_of}
use Rattle.biblatex_readings_grammar.proofs.Words.{words_are, words_of_are, words_in, words_in_all}
use Rattle.biblatex_readings_grammar.proofs.Unparted.{named, named_is, named_said, commas_are, unparted_is, led_of, unparted_of}
use Rattle.biblatex_readings_grammar.proofs.Pairs.{Pair, are_pairs, all_pairs, AllPaired, pairs_or, pairs_are, given_by}

-- a name of parts is read
parts_are : (ts : List Text) (n : Named) → ArePartsOf ts n → by_parts ts ≡ n
parts_are [] n are = absurd are
parts_are (p ∷ []) n (ws, are, name) = ap without_commas (words_are ws p are) ∙ unparted_is ws n name
parts_are (p ∷ q ∷ []) n (ws, prefix, name, given, are, led, also, said) =
    (λ i. with_commas (words_are ws p are i) [] (words_are given q also i)) ∙ (commas_are ws prefix name [] given led ∙ named_is given prefix name [] n said)
parts_are (p ∷ q ∷ r ∷ ps) n (ws, prefix, name, suffix, given, are, led, also, others, said) =
    (λ i. with_commas (words_are ws p are i) (words_are suffix q also i) (words_of_are (r ∷ ps) given others i))
    ∙ (commas_are ws prefix name suffix given led ∙ named_is given prefix name suffix n said)

-- texts that are keys and values, and texts that are parts
by_pairs : (ts : List Text) → are_pairs ts ≡ true → person_of ts ≡ with_pairs ts nobody
by_pairs ts e = rw e refl

not_by_pairs : (ts : List Text) → are_pairs ts ≡ false → person_of ts ≡ by_parts ts
not_by_pairs ts e = rw e refl

cut_person : (ss : Text) → person_in ss ≡ person_of (cut_by (is_the comma) ss)
cut_person ss = refl

pub name_is : (ss : Text) (n : Named) → IsName ss n → person_in ss ≡ n
name_is ss n (ts, cut, inl (ps, all, say)) = cut_person ss ∙ ap person_of (cut_is (is_the comma) ts ss cut) ∙ (by_pairs ts (all_pairs ts ps all) ∙ pairs_are ts ps n all say)
name_is ss n (ts, cut, inr (none, are)) = cut_person ss ∙ ap person_of (cut_is (is_the comma) ts ss cut) ∙ by_kind (pairs_or ts)
  where
    by_kind : AllPaired ts ⊎ (are_pairs ts ≡ false) → person_of ts ≡ n
    by_kind (inl found) = absurd (none found.pairs found.are)
    by_kind (inr e) = not_by_pairs ts e ∙ parts_are ts n are

-- The name of parts.
record HasParts (ts : List Text) : Type 0 where
  pub name : Named
  pub are : ArePartsOf ts name

parts_of : (ss : Text) (ts : List Text) → IsCutAt (is_the comma) ss ts → HasParts ts
parts_of ss [] cut = absurd cut
parts_of ss (p ∷ []) cut =
    let ws = words_in p in
    let n = unparted_of ws.list in
    record { name = n.name; are = (ws.list, ws.are, n.is) }
parts_of ss (p ∷ q ∷ []) cut =
    let ws = words_in p in
    let led = led_of ws.list in
    let given = words_in q in
    record { name = named given.list led.lead led.name []; are = (ws.list, led.lead, led.name, given.list, ws.are, led.is, given.are, named_said given.list led.lead led.name []) }
parts_of ss (p ∷ q ∷ r ∷ ps) cut =
    let ws = words_in p in
    let led = led_of ws.list in
    let suffix = words_in q in
    let given = words_in_all (r ∷ ps) in
    record {
      name = named given.list led.lead led.name suffix.list;
      are = (ws.list, led.lead, led.name, suffix.list, given.list, ws.are, led.is, suffix.are, given.are, named_said given.list led.lead led.name suffix.list);
    }

-- The name of a text.
pub record HasName (ss : Text) : Type 0 where
  pub name : Named
  pub is : IsName ss name

pub name_of : (ss : Text) → HasName ss
name_of ss =
    let cut = cut_of (is_the comma) ss in
    by_kind cut.parts cut.is (pairs_or cut.parts)
  where
    by_kind : (ts : List Text) → IsCutAt (is_the comma) ss ts → AllPaired ts ⊎ (are_pairs ts ≡ false) → HasName ss
    by_kind ts cut (inl found) =
        let given = given_by found.pairs in
        record { name = given.name; is = (ts, cut, inl (found.pairs, found.are, given.is)) }
    by_kind ts cut (inr e) =
        let parts = parts_of ss ts cut in
        let none : (ps : List Pair) → AllZip IsPair ts ps → ⊥ = (λ ps all. true≢false (sym (all_pairs ts ps all) ∙ e)) in
        record { name = parts.name; is = (ts, cut, inr (none, parts.are)) }
