use Rattle.std.proofs.Common.{◌≡◌, ℕ, ◌+◌, ◌<◌, Bool, true, false, List, ◌∷◌, Some, length, drop, get_or, refl, sym, ap, ◌∙◌}
use Rattle.std.specs.List.{find}
use Rattle.std.specs.Str.{chars}
use Rattle.std.proofs.lemmas.List.{drop_more, drop_all}
use Rattle.literature_values.specs.EntryTypes.{is_called}
use Rattle.literature_values.specs.declared.entry_type.EntryType.{EntryType}
use Rattle.literature_values.specs.declared.entry_type.EntryType.TheVariants.{Article}
use Rattle.literature_values.proofs.entry_type.first_called.Goals as goal

found : (test : EntryType → Bool) (xs : List EntryType) (i : ℕ) → i < length xs → test (get_or xs i Article) ≡ true → find test (drop i xs) ≡ Some (get_or xs i Article)
found test xs i within is = ap (find test) (drop_more xs i Article within) ∙ (let e : find test (get_or xs i Article ∷ drop (i + 1) xs) ≡ Some (get_or xs i Article) = rw is refl in e)

passed : (test : EntryType → Bool) (xs : List EntryType) (i : ℕ) → i < length xs → test (get_or xs i Article) ≡ false → find test (drop i xs) ≡ find test (drop (i + 1) xs)
passed test xs i within is = ap (find test) (drop_more xs i Article within) ∙ (let e : find test (get_or xs i Article ∷ drop (i + 1) xs) ≡ find test (drop (i + 1) xs) = rw is refl in e)

pub returns-then-is_called : goal.returns-then-is_called
returns-then-is_called c =
    sym (found (is_called (chars c.args.name.now)) c.args.entry_types.now c.loop-entry_type.entry_type-index c.loop-entry_type-test.true (sym c.is_called.ensures ∙ c.if-is_called.true)) ∙ c.loop-entry_type.invariant

pub loop-entry_type-preserved : goal.loop-entry_type-preserved
loop-entry_type-preserved c =
    sym (passed (is_called (chars c.args.name.now)) c.args.entry_types.now c.loop-entry_type.entry_type-index c.loop-entry_type-test.true (sym c.is_called.ensures ∙ c.if-is_called.false)) ∙ c.loop-entry_type.invariant

pub returns : goal.returns
returns c =
    ap (find (is_called (chars c.args.name.now))) (sym (drop_all c.loop-entry_type.entry_type-index c.args.entry_types.now c.loop-entry_type-test.false)) ∙ c.loop-entry_type.invariant
