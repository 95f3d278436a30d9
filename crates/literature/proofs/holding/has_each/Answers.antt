use Rattle.std.proofs.Common.{◌≡◌, ℕ, Bool, ◌&&◌, List, [], ◌∷◌, map, get_or, refl, sym, ap, ◌∙◌, String, Global, string_bytes}
use Rattle.std.specs.List.{list_all}
use Rattle.std.proofs.lemmas.List.{take_all}
use Rattle.std.proofs.lemmas.List.Folds.{list_all_at, list_all_more}
use Rattle.std.proofs.lemmas.Str.{IsUtf8-string_bytes}
use Rattle.laws.specs.Text.{text, characters, is_filled}
use Rattle.laws.proofs.Text.{text_of_chars}
use Rattle.literature_entries.specs.declared.entry.Entry.{Entry}
use Rattle.literature_entries.specs.Names.{has}
use Rattle.literature_entries.specs.Views.{fields_view, parents}
use Rattle.literature.specs.Holding.{has_each}
use Rattle.literature.proofs.holding.has_each.Goals as goal

-- a field by the bytes of its name
abbrev HasNamed : Entry → String Global → Bool
HasNamed e s = has (string_bytes s) (fields_view e) (is_filled (parents e))

by_bytes : (e : Entry) (s : String Global) → has (text (characters s)) (fields_view e) (is_filled (parents e)) ≡ HasNamed e s
by_bytes e s = ap (λ n. has n (fields_view e) (is_filled (parents e))) (text_of_chars (string_bytes s) (IsUtf8-string_bytes s))

one_by_one : (e : Entry) (ss : List (String Global)) → has_each (map characters ss) e ≡ list_all (HasNamed e) ss
one_by_one e [] = refl
one_by_one e (s ∷ ss) = λ i. by_bytes e s i && one_by_one e ss i

-- what a test of the name at an index answered
asked : (e : Entry) (names : List (String Global)) (i : ℕ) (s : String Global) (name : List ℕ) (r : Bool) → r ≡ has name (fields_view e) (is_filled (parents e)) → name ≡ string_bytes s → s ≡ get_or names i s
    → r ≡ HasNamed e (get_or names i s)
asked e names i s name r h t is = h ∙ ap (λ n. has n (fields_view e) (is_filled (parents e))) t ∙ ap (HasNamed e) is

pub returns-then-not-has : goal.returns-then-not-has
returns-then-not-has c =
    sym (list_all_at (HasNamed c.args.entry.now) c.args.names.now c.loop-name.name-index c.name-item.result c.loop-name-test.true (sym (asked c.args.entry.now c.args.names.now c.loop-name.name-index c.name-item.result c.as_str.result.now c.has.result c.has.ensures c.as_str.ensures.value c.name-item.is) ∙ c.if-not-has.true))
    ∙ sym (one_by_one c.args.entry.now c.args.names.now)

pub loop-name-preserved : goal.loop-name-preserved
loop-name-preserved c =
    list_all_more (HasNamed c.args.entry.now) c.args.names.now c.loop-name.name-index c.name-item.result c.loop-name-test.true
    ∙ (λ i. c.loop-name.invariant i && (sym (asked c.args.entry.now c.args.names.now c.loop-name.name-index c.name-item.result c.as_str.result.now c.has.result c.has.ensures c.as_str.ensures.value c.name-item.is) ∙ c.if-not-has.false) i)

pub returns : goal.returns
returns c =
    sym c.loop-name.invariant ∙ ap (list_all (HasNamed c.args.entry.now)) (take_all c.loop-name.name-index c.args.names.now c.loop-name-test.false)
    ∙ sym (one_by_one c.args.entry.now c.args.names.now)
