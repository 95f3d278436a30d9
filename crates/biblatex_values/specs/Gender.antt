-- Genders: their names, and what becomes of them. Names are bytes.
use Rattle.std.specs.Prelude.{ℕ, Bool, true, false, List, [], ◌∷◌, if◌then◌else◌, Option, Some, None, Result, Ok, Err, codes}
use Rattle.std.specs.List.{list_all}
use Rattle.std.specs.Str.{chars, bytes_eq}
use Rattle.laws.specs.Text.{lowered}
use Rattle.biblatex_content.specs.declared.chunk.Kind.TheVariants.{Normal}
use Rattle.biblatex_content.specs.Styled.{Member, letters, plain}
use Rattle.biblatex_dates.specs.declared.error.TypeErrorKind.{TypeErrorKind}
use Rattle.biblatex_dates.specs.declared.error.TypeErrorKind.TheVariants.{Unreadable}
use Rattle.biblatex_values.specs.declared.gender.Gender.{Gender}
use Rattle.biblatex_values.specs.declared.gender.Gender.TheVariants.{SingularFemale, SingularMale, SingularNeuter, PluralFemale, PluralMale, PluralNeuter}

abbrev pub gender_name : Gender → List ℕ
gender_name SingularFemale = codes "sf"
gender_name SingularMale = codes "sm"
gender_name SingularNeuter = codes "sn"
gender_name PluralFemale = codes "pf"
gender_name PluralMale = codes "pm"
gender_name PluralNeuter = codes "pn"

-- the first of genders that has the name
abbrev pub gender_among : List Gender → List ℕ → Option Gender
gender_among [] name = None
gender_among (g ∷ gs) name = if bytes_eq name (gender_name g) then Some g else gender_among gs name

-- the gender of a name in lower case, if it is one
abbrev pub gender_of : List ℕ → Option Gender
gender_of name = gender_among (SingularFemale ∷ SingularMale ∷ SingularNeuter ∷ PluralFemale ∷ PluralMale ∷ PluralNeuter ∷ []) name

-- the value, or the fault that there is none
abbrev pub or_unreadable : {X : Type 0} → Option X → Result X TypeErrorKind
or_unreadable (Some x) = Ok x
or_unreadable None = Err Unreadable

-- the gender whose name the text is, in any ASCII case
abbrev pub reads_gender : List Member → Result Gender TypeErrorKind
reads_gender ms = or_unreadable (gender_of (lowered (plain ms)))

abbrev pub writes_gender : Gender → List Member
writes_gender g = letters Normal (chars (gender_name g))

abbrev pub plural : Gender → Gender
plural SingularFemale = PluralFemale
plural SingularMale = PluralMale
plural SingularNeuter = PluralNeuter
plural PluralFemale = PluralFemale
plural PluralMale = PluralMale
plural PluralNeuter = PluralNeuter

abbrev pub singular : Gender → Gender
singular SingularFemale = SingularFemale
singular SingularMale = SingularMale
singular SingularNeuter = SingularNeuter
singular PluralFemale = SingularFemale
singular PluralMale = SingularMale
singular PluralNeuter = SingularNeuter

abbrev pub is_female : Gender → Bool
is_female SingularFemale = true
is_female PluralFemale = true
is_female _ = false

abbrev pub is_male : Gender → Bool
is_male SingularMale = true
is_male PluralMale = true
is_male _ = false

-- several together: neuter unless all are female or all are male
abbrev pub coalesced_many : List Gender → Gender
coalesced_many gs = if list_all is_female gs then PluralFemale else (if list_all is_male gs then PluralMale else PluralNeuter)

-- the gender of a list together: of one its own, of two or more plural, of none nothing
abbrev pub coalesced : List Gender → Option Gender
coalesced [] = None
coalesced (g ∷ []) = Some g
coalesced (g ∷ h ∷ gs) = Some (coalesced_many (g ∷ h ∷ gs))
