-- What references stand for. Characters are numbers.
use Rattle.std.specs.Prelude.{ℕ, List, if◌then◌else◌, Result, Ok, Err, codes}
use Rattle.std.specs.Str.{bytes_eq}
use Rattle.std.specs.Str.Parse.{digits_value}
use Rattle.laws.specs.Text.{text}
use Rattle.xml_text.specs.Character.{passes}
use Rattle.xml_text.specs.Tokens.{Reference, Entity, Decimal, Hexadecimal}
use Rattle.xml_text.specs.declared.character.Class.TheVariants.{Legal}
use Rattle.xml_text.specs.declared.fault.Fault.{Fault}
use Rattle.xml_text.specs.declared.fault.Fault.TheVariants.{UnknownEntity, NoCharacter}

-- the character of an entity that needs no declaration
abbrev pub entity_character : List ℕ → Result ℕ Fault
entity_character name = if bytes_eq (text name) (codes "lt") then Ok 60
    else (if bytes_eq (text name) (codes "gt") then Ok 62
    else (if bytes_eq (text name) (codes "amp") then Ok 38
    else (if bytes_eq (text name) (codes "apos") then Ok 39
    else (if bytes_eq (text name) (codes "quot") then Ok 34
    else Err UnknownEntity))))

-- a number must be that of a character of XML
abbrev pub legal_character : ℕ → Result ℕ Fault
legal_character c = if passes Legal c then Ok c else Err NoCharacter

abbrev pub character_of : Reference → Result ℕ Fault
character_of (Entity name) = entity_character name
character_of (Decimal digits) = legal_character (digits_value 10 digits)
character_of (Hexadecimal digits) = legal_character (digits_value 16 digits)
