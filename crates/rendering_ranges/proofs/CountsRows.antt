-- The second numbers of some ranges in each format.
use Rattle.std.proofs.Common.{◌≡◌, ℕ, List, [], ◌∷◌, map, codes, refl}
use Rattle.std.specs.Fmt.{digits}
use Rattle.rendering_ranges.specs.Counts.{second_count}
use Rattle.rendering_taxonomy.specs.declared.page.PageRangeFormat.{PageRangeFormat}
use Rattle.rendering_taxonomy.specs.declared.page.PageRangeFormat.TheVariants as formats

-- the texts of the second numbers of ranges
abbrev pub seconds : PageRangeFormat → List (ℕ × ℕ) → List (List ℕ)
seconds format ranges = map (λ r. second_count format r.0 r.1) ranges

-- the four ranges by which CSL shows the formats
abbrev pub four : List (ℕ × ℕ)
four = (321, 328) ∷ (42, 45) ∷ (1496, 1504) ∷ (2787, 2816) ∷ []

pub expanded : seconds formats.Expanded four ≡ codes "328" ∷ codes "45" ∷ codes "1504" ∷ codes "2816" ∷ []
unfolding digits
expanded = refl

pub minimal : seconds formats.Minimal four ≡ codes "8" ∷ codes "5" ∷ codes "504" ∷ codes "816" ∷ []
unfolding digits
minimal = refl

pub minimal_two : seconds formats.MinimalTwo four ≡ codes "28" ∷ codes "45" ∷ codes "504" ∷ codes "816" ∷ []
unfolding digits
minimal_two = refl

pub chicago_15 : seconds formats.Chicago15 four ≡ codes "28" ∷ codes "45" ∷ codes "1504" ∷ codes "2816" ∷ []
unfolding digits
chicago_15 = refl

pub chicago_16 : seconds formats.Chicago16 four ≡ codes "28" ∷ codes "45" ∷ codes "504" ∷ codes "816" ∷ []
unfolding digits
chicago_16 = refl

-- the ranges by which CSL shows the rules of the Chicago Manual: below a hundred, from a hundred, from one to nine more than
-- hundreds, and from ten more
abbrev pub below_hundred : List (ℕ × ℕ)
below_hundred = (3, 10) ∷ (71, 72) ∷ (92, 113) ∷ []

abbrev pub from_hundreds : List (ℕ × ℕ)
from_hundreds = (100, 104) ∷ (600, 613) ∷ (1100, 1123) ∷ []

abbrev pub past_hundreds : List (ℕ × ℕ)
past_hundreds = (107, 108) ∷ (505, 517) ∷ (1002, 1006) ∷ []

abbrev pub far_past_hundreds : List (ℕ × ℕ)
far_past_hundreds = (321, 325) ∷ (415, 532) ∷ (1087, 1089) ∷ (11564, 11568) ∷ (11564, 11615) ∷ (12991, 13001) ∷ (13792, 13803) ∷ []

pub chicago_below_hundred : seconds formats.Chicago16 below_hundred ≡ codes "10" ∷ codes "72" ∷ codes "113" ∷ []
unfolding digits
chicago_below_hundred = refl

pub chicago_from_hundreds : seconds formats.Chicago16 from_hundreds ≡ codes "104" ∷ codes "613" ∷ codes "1123" ∷ []
unfolding digits
chicago_from_hundreds = refl

pub chicago_past_hundreds : seconds formats.Chicago16 past_hundreds ≡ codes "8" ∷ codes "17" ∷ codes "6" ∷ []
unfolding digits
chicago_past_hundreds = refl

pub chicago_far_past_hundreds : seconds formats.Chicago16 far_past_hundreds
    ≡ codes "25" ∷ codes "532" ∷ codes "89" ∷ codes "68" ∷ codes "615" ∷ codes "3001" ∷ codes "803" ∷ []
unfolding digits
chicago_far_past_hundreds = refl

-- the fifteenth edition differs in these by nothing
pub chicago_15_below_hundred : seconds formats.Chicago15 below_hundred ≡ seconds formats.Chicago16 below_hundred
unfolding digits
chicago_15_below_hundred = refl

pub chicago_15_from_hundreds : seconds formats.Chicago15 from_hundreds ≡ seconds formats.Chicago16 from_hundreds
unfolding digits
chicago_15_from_hundreds = refl

pub chicago_15_past_hundreds : seconds formats.Chicago15 past_hundreds ≡ seconds formats.Chicago16 past_hundreds
unfolding digits
chicago_15_past_hundreds = refl

pub chicago_15_far_past_hundreds : seconds formats.Chicago15 far_past_hundreds ≡ seconds formats.Chicago16 far_past_hundreds
unfolding digits
chicago_15_far_past_hundreds = refl

-- the fifteenth edition wants three of four digits to differ
abbrev pub near_four : List (ℕ × ℕ)
near_four = (1486, 1586) ∷ (1496, 1594) ∷ (1599, 1601) ∷ (1005, 1123) ∷ (12496, 12504) ∷ []

pub chicago_15_near_four : seconds formats.Chicago15 near_four ≡ codes "586" ∷ codes "594" ∷ codes "1601" ∷ codes "123" ∷ codes "504" ∷ []
unfolding digits
chicago_15_near_four = refl

-- second numbers that are written short already
abbrev pub short : List (ℕ × ℕ)
short = (321, 28) ∷ (42, 5) ∷ (100, 4) ∷ (2787, 816) ∷ []

pub expanded_short : seconds formats.Expanded short ≡ codes "328" ∷ codes "45" ∷ codes "104" ∷ codes "2816" ∷ []
unfolding digits
expanded_short = refl

pub minimal_short : seconds formats.Minimal short ≡ codes "8" ∷ codes "5" ∷ codes "4" ∷ codes "816" ∷ []
unfolding digits
minimal_short = refl

-- equal numbers, second ones that come before the first, and longer ones
abbrev pub odd : List (ℕ × ℕ)
odd = (42, 42) ∷ (42, 1) ∷ (1504, 1496) ∷ (998, 1002) ∷ (0, 0) ∷ []

pub minimal_odd : seconds formats.Minimal odd ≡ codes "2" ∷ codes "1" ∷ codes "1496" ∷ codes "1002" ∷ codes "0" ∷ []
unfolding digits
minimal_odd = refl
