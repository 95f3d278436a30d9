-- What entries of a library hold.
use Rattle.std.specs.Option.{option_or}
use Rattle.std.proofs.Common.{◌≡◌, ℕ, List, [], ◌∷◌, ◌++◌, map, refl, ap, ◌∙◌, Option, Some, None, rules}
use Rattle.std.proofs.lemmas.List.{map-append}
use Rattle.literature_entries.specs.Fields.{Fields}
use Rattle.literature_entries.specs.Views.{key_view, fields_view, parents}
use Rattle.literature_entries.specs.EntriesData.{EntryData, Holding, wholes, entry_view}
use Rattle.literature_entries.specs.declared.entry.Entry.{Entry, the_lemmas}

-- all that an entry holds
pub whole_is : (e : Entry) → entry_view e ≡ Holding (key_view e) (fields_view e) (wholes (map entry_view (parents e)))
whole_is e = search (rules, the_lemmas)

-- an entry by its key, its fields and its parents
pub holds : (e : Entry) (k : List ℕ) (fs : Fields) (ws : List EntryData) → key_view e ≡ k → fields_view e ≡ fs → map entry_view (parents e) ≡ ws → entry_view e ≡ Holding k fs (wholes ws)
holds e k fs ws same_key same_fields same_parents = whole_is e ∙ (λ i. Holding (same_key i) (same_fields i) (wholes (same_parents i)))

-- a value before nothing is the value
pub before_none : {V : Type 0} (x : Option V) → option_or x None ≡ x
before_none None = refl
before_none (Some v) = refl

-- the work of an entry stands after those of the entries before it
pub last : (es : List Entry) (e : Entry) (w : EntryData) → entry_view e ≡ w → map entry_view (es ++ e ∷ []) ≡ map entry_view es ++ w ∷ []
last es e w same = map-append entry_view es (e ∷ []) ∙ ap (λ (x : EntryData). map entry_view es ++ x ∷ []) same
