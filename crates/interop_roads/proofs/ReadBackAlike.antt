-- Entries that were read back are like those that were written.
use Rattle.std.proofs.Common.{◌≡◌, ℕ, Bool, true, false, List, [], ◌∷◌, codes, refl, ◌∙◌}
use Rattle.std.specs.Prelude.{if◌then◌else◌}
use Rattle.biblatex_entries.specs.Entries.{Source}
use Rattle.biblatex_entries.specs.TypeNames.{TypeName, is_one_of, known, written_type}
use Rattle.biblatex_writing.specs.FieldNames.{HaveDistinctWrittenNames}
use Rattle.biblatex_reading_back.specs.ReadingBack.{AreReadBack, IsReadBack}
use Rattle.interop.specs.Library.{AreAlike, IsAlike, library_of}
use Rattle.interop.proofs.LibraryWorks.{alike_library}
use Rattle.interop_roads.specs.Roads.{AreWrittenApart}
use Rattle.interop_roads.proofs.WrittenLookUps.{values_back}

-- a written type is written as itself
pub written_once : (t : TypeName) → written_type (written_type t) ≡ written_type t
written_once t = by (is_one_of (codes "mastersthesis" ∷ codes "phdthesis" ∷ []) t) refl (is_one_of (codes "techreport" ∷ []) t) refl
  where
    by : (a : Bool) → is_one_of (codes "mastersthesis" ∷ codes "phdthesis" ∷ []) t ≡ a → (b : Bool) → is_one_of (codes "techreport" ∷ []) t ≡ b
        → written_type (if a then known (codes "thesis") else (if b then known (codes "report") else t)) ≡ (if a then known (codes "thesis") else (if b then known (codes "report") else t))
    by true p b q = refl
    by false p true q = refl
    by false p false q = λ i. if p i then known (codes "thesis") else (if q i then known (codes "report") else t)

back_alike : (e f : Source) → IsReadBack e f → HaveDistinctWrittenNames e.fields → IsAlike f e
back_alike e f h distinct = record {
  key = h.key;
  entry_type = (λ i. written_type (h.entry_type i)) ∙ written_once e.entry_type;
  values = values_back e.fields f.fields (h.fields distinct) distinct;
}

all_alike : (es fs : List Source) → AreReadBack es fs → AreWrittenApart es → AreAlike fs es
all_alike [] [] h apart = tt
all_alike [] (f ∷ fs) h apart = absurd h
all_alike (e ∷ es) [] h apart = absurd h
all_alike (e ∷ es) (f ∷ fs) h apart = (back_alike e f h.0 apart.0, all_alike es fs h.1 apart.1)

pub back_library : (es fs : List Source) → AreReadBack es fs → AreWrittenApart es → library_of fs ≡ library_of es
back_library es fs h apart = alike_library fs es (all_alike es fs h apart)
