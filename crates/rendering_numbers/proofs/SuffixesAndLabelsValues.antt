-- Year suffixes of some indices, and the years of labels.
use Rattle.std.proofs.Common.{◌≡◌, codes, Some, pos, negsuc, refl}
use Rattle.std.specs.Fmt.{digits}
use Rattle.rendering_numbers.specs.SuffixesAndLabels.{year_suffix_text, year_label}

pub letters_0 : year_suffix_text 0 ≡ codes "a"
letters_0 = refl

pub letters_25 : year_suffix_text 25 ≡ codes "z"
letters_25 = refl

pub letters_26 : year_suffix_text 26 ≡ codes "aa"
letters_26 = refl

pub letters_701 : year_suffix_text 701 ≡ codes "zz"
letters_701 = refl

pub label_2005 : year_label (Some (pos 2005)) ≡ codes "05"
unfolding digits
label_2005 = refl

-- the year -1
pub label_before : year_label (Some (negsuc 0)) ≡ codes "99"
unfolding digits
label_before = refl
