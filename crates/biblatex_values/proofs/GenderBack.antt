-- Genders that were written are read back.
use Rattle.std.proofs.Common.{◌≡◌, ℕ, List, Ok, refl, ap, ◌∙◌}
use Rattle.std.specs.Str.{chars}
use Rattle.laws.specs.Text.{lowered}
use Rattle.biblatex_content.specs.declared.chunk.Kind.TheVariants.{Normal}
use Rattle.biblatex_values.specs.Gender.{gender_name, gender_of, or_unreadable, reads_gender, writes_gender}
use Rattle.biblatex_values.specs.declared.gender.Gender.{Gender}
use Rattle.biblatex_values.specs.declared.gender.Gender.TheVariants.{SingularFemale, SingularMale, SingularNeuter, PluralFemale, PluralMale, PluralNeuter}
use Rattle.biblatex_values.proofs.TextsPlain.{plain-letters}

named_again : (g : Gender) → or_unreadable (gender_of (lowered (chars (gender_name g)))) ≡ Ok g
unfolding chars lib.Utf8.encode
named_again SingularFemale = refl
named_again SingularMale = refl
named_again SingularNeuter = refl
named_again PluralFemale = refl
named_again PluralMale = refl
named_again PluralNeuter = refl

pub gender_again : (g : Gender) → Unit {0} → reads_gender (writes_gender g) ≡ Ok g
gender_again g any = ap (λ (cs : List ℕ). or_unreadable (gender_of (lowered cs))) (plain-letters Normal (chars (gender_name g))) ∙ named_again g
