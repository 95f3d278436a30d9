-- Labels of entries with people, to which those who come after them add nothing.
use Rattle.std.proofs.Common.{◌≡◌, ℕ, false, true≢false, List, [], ◌∷◌, map, length, Option, ℤ, refl}
use Rattle.std.specs.Prelude.{◌==◌}
use Rattle.literature_values.specs.PersonViews.{Named, person_view}
use Rattle.literature_values.specs.declared.person.Person.{Person}
use Rattle.rendering_numbers.specs.SuffixesAndLabels.{citation_label}

-- authors alone make a label
pub label_of_authors : (n : ℕ) (xs : List Person) (es : List Named) (title : List ℕ) (year : Option ℤ) → (length xs == 0) ≡ false
    → citation_label n (map person_view xs) [] [] year ≡ citation_label n (map person_view xs) es title year
label_of_authors n [] es title year some = absurd (true≢false some)
label_of_authors n (x ∷ xs) es title year some = refl

-- without authors, editors do
pub label_of_editors : (n : ℕ) (ps : List Named) (xs : List Person) (title : List ℕ) (year : Option ℤ) → (length xs == 0) ≡ false
    → citation_label n ps (map person_view xs) [] year ≡ citation_label n ps (map person_view xs) title year
label_of_editors n ps [] title year some = absurd (true≢false some)
label_of_editors n [] (x ∷ xs) title year some = refl
label_of_editors n (p ∷ ps) (x ∷ xs) title year some = refl
