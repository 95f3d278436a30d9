-- Years, short and with their eras.
use Rattle.std.proofs.Common.{◌≡◌, codes, true, false, pos, negsuc, refl}
use Rattle.std.specs.Fmt.{digits}
use Rattle.rendering_numbers.specs.Years.{year_text}

pub short_2005 : year_text (pos 2005) true (codes "AD") (codes "BC") ≡ codes "05"
unfolding digits
short_2005 = refl

pub whole_2005 : year_text (pos 2005) false (codes "AD") (codes "BC") ≡ codes "2005"
unfolding digits
whole_2005 = refl

pub short_999 : year_text (pos 999) true (codes "AD") (codes "BC") ≡ codes "999AD"
unfolding digits
short_999 = refl

pub year_0 : year_text (pos 0) false (codes "AD") (codes "BC") ≡ codes "1BC"
unfolding digits
year_0 = refl

-- the year -1
pub year_before : year_text (negsuc 0) false (codes "AD") (codes "BC") ≡ codes "2BC"
unfolding digits
year_before = refl
