-- What the classes hold.
use Rattle.std.proofs.Common.{ℕ, List, [], ◌∷◌, refl, arith}
use Rattle.std.specs.Str.{chars}
use Rattle.std.specs.declared.ops.Range.{Range}
use Rattle.biblatex_lists.specs.Laws.{IsReadBack}
use Rattle.biblatex_values.specs.EditorType.{IsEditorName, known, known_names}
use Rattle.biblatex_values.specs.Pages.{AllArePages}
use Rattle.biblatex_lists.specs.PeopleLaws.{AreReadBack}
use Rattle.biblatex_lists.specs.Reading.{Named}
use Rattle.biblatex_lists.proofs.PeopleBack.{plain_people_are_back}
use Rattle.biblatex_field_types.specs.Classes.{Each, AreShort, AreFilled, ArePlain}

pub editors_hold : Each (λ (name : List ℕ). IsEditorName (known name)) known_names
unfolding chars lib.Utf8.encode
editors_hold = (
  record { lower = refl; known = refl },
  (
    record { lower = refl; known = refl },
    (
      record { lower = refl; known = refl },
      (
        record { lower = refl; known = refl },
        (
          record { lower = refl; known = refl },
          (
            record { lower = refl; known = refl },
            (
              record { lower = refl; known = refl },
              (
                record { lower = refl; known = refl },
                (record { lower = refl; known = refl }, tt),
              ),
            ),
          ),
        ),
      ),
    ),
  ),
)

pub ranges_hold : (rs : List (Range ℕ)) → AreShort rs → AllArePages rs
ranges_hold [] are = tt
ranges_hold (r ∷ rs) are =
    let short = are.0 in
    ((omega (arith, short.0), omega (arith, short.1)), ranges_hold rs are.1)

pub texts_hold : (ts : List (List ℕ)) → AreFilled ts → IsReadBack ts
texts_hold [] are = refl
texts_hold ([] ∷ ts) are =
    let none = are.0 in
    absurd (omega (arith, none))
texts_hold ((c ∷ cs) ∷ ts) are = texts_hold ts are.1

-- plain people are read back
pub people_hold : (ns : List Named) → ArePlain ns → AreReadBack ns
people_hold ns are = plain_people_are_back ns are
