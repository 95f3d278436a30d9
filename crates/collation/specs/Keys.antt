-- By what texts are sorted: their letters without marks, folded, one after the other. Words are parted, and punctuation is left out.
use Rattle.std.specs.Prelude.{ℕ, Bool, true, false, ◌==◌, ◌&&◌, ◌||◌, List, [], ◌∷◌, ◌++◌, flat_map, if◌then◌else◌}
use Rattle.std.specs.Char.{is_whitespace}
use Rattle.std.specs.Ordering.{nat_cmp}
use Rattle.std.specs.declared.cmp.Ordering.{Ordering}
use Rattle.std.specs.Cmp.Lexicographic.{slice_cmp}
use Rattle.laws.specs.Characters.{apostrophe, right_single_quotation_mark, space}
use Rattle.laws.specs.Text.{is_filled}
use Rattle.ucd_case.specs.CaseFolding.{full_fold, or_itself}
use Rattle.ucd_category.specs.GeneralCategory.{general_category}
use Rattle.ucd_category.specs.GeneralCategoryGroup.{in_group}
use Rattle.ucd_category.specs.declared.GeneralCategoryGroup.TheVariants.{Mark, Punctuation}
use Rattle.unicode_normalization.specs.Forms.{nfd}
use Rattle.collation.specs.Letters.{letters_for}

-- whether a character parts words: white space, or an apostrophe
abbrev pub is_gap : ℕ → Bool
is_gap c = is_whitespace c || (c == apostrophe || c == right_single_quotation_mark)

-- whether a character is left out: a mark, or punctuation
unfoldable pub is_left_out : ℕ → Bool
is_left_out c = in_group Mark (general_category c) || in_group Punctuation (general_category c)

-- the letters by which a folded one is sorted
abbrev pub letter : ℕ → List ℕ
letter c = or_itself c (letters_for c)

-- A key so far: its letters, and whether a gap was met behind the last of them.
pub record Begun : Type 0 where
  pub letters : List ℕ
  pub gap : Bool

-- the letters with a space behind them, where a gap was met; none stands before the first
abbrev pub parted : Begun → List ℕ
parted k = if k.gap && is_filled k.letters then k.letters ++ space ∷ [] else k.letters

-- with one more character: a gap, nothing, or its letters, folded
abbrev pub with_character : Begun → ℕ → Begun
with_character k c =
    if is_gap c then record k { gap = true }
    else (if is_left_out c then k else record {
      letters =
          parted k ++ flat_map letter (full_fold c);
      gap = false;
    })

-- with more characters
abbrev pub with_characters : Begun → List ℕ → Begun
with_characters k [] = k
with_characters k (c ∷ cs) = with_characters (with_character k c) cs

-- the key of a text: many gaps are one, and none stands at the beginning or at the end
unfoldable pub collation_key : List ℕ → List ℕ
collation_key cs = (with_characters (record { letters = []; gap = false }) (nfd cs)).letters

-- how keys are ordered: by the first letters that differ; a key that the other one goes on from is less
abbrev pub order_of : List ℕ → List ℕ → Ordering
order_of = slice_cmp nat_cmp
