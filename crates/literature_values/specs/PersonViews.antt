-- People of the code as callers see them.
use Rattle.std.specs.Prelude.{ℕ, List, [], Option}
use Rattle.std.specs.Cow.{cow_value}
use Rattle.std.specs.Option.{option_map, unwrap_or}
use Rattle.std.specs.Str.{chars}
use Rattle.std.specs.declared.borrow.Cow.{Cow}
use Rattle.literature_values.specs.Initials.{Run, Style}
use Rattle.literature_values.specs.GivenNames.{Piece, Shown}
use Rattle.laws.specs.Text.{characters}
use Rattle.literature_values.specs.declared.person.InitialsStyle.{InitialsStyle}
use Rattle.literature_values.specs.declared.person.Person.{Person}
use Rattle.literature_values.specs.declared.person.NameRun.{NameRun}
use Rattle.literature_values.specs.declared.given_name.NamePiece.{NamePiece}
use Rattle.literature_values.specs.declared.given_name.ShownPiece.{ShownPiece}

-- a person by the characters of the four parts
pub record Named : Type 0 where
  pub name : List ℕ
  pub given_name : Option (List ℕ)
  pub prefix : Option (List ℕ)
  pub suffix : Option (List ℕ)

-- the characters of the four parts
abbrev pub person_view : Person → Named
person_view p = record {
  name = characters p.name;
  given_name = option_map characters p.given_name;
  prefix = option_map characters p.prefix;
  suffix = option_map characters p.suffix;
}

-- a person, borrowed or not
abbrev pub lent_person_view : Cow Person → Named
lent_person_view p = person_view (cow_value p)

-- a run by its characters
abbrev pub run_view : NameRun → Run
run_view r = record { is_hyphenated = r.is_hyphenated; name = chars r.name.now }

-- a piece by its characters
abbrev pub piece_view : NamePiece → Piece
piece_view p = record { is_hyphenated = p.is_hyphenated; name = chars p.name.now; is_stopped = p.is_stopped }

-- what is printed of a piece by its characters
abbrev pub shown_view : ShownPiece → Shown
shown_view s = record { is_hyphenated = s.is_hyphenated; text = chars s.text.now; is_initial = s.is_initial }

-- a style by its characters
abbrev pub initials_style_view : InitialsStyle → Style
initials_style_view s = record { trimmed = chars s.trimmed.now; dropped = chars s.dropped.now; with_hyphen = s.with_hyphen }

-- the characters of the given name, where there is one
abbrev pub given_name_view : Person → List ℕ
given_name_view p = unwrap_or (option_map characters p.given_name) []
