use Rattle.std.proofs.Common.{◌≡◌, sym, ap, ◌∙◌}
use Rattle.std.specs.Str.{chars}
use Rattle.std.specs.Str.Parse.{digits_value}
use Rattle.xml_text.specs.Values.{legal_character, character_of}
use Rattle.xml_text.specs.Views.{reference_view}
use Rattle.xml_text.proofs.Numbers.{legal_cut}
use Rattle.xml_text.proofs.token.Reference.character.Goals as goal

pub returns-in-Decimal : goal.returns-in-Decimal
returns-in-Decimal c =
    let view : legal_character (digits_value 10 (chars c.in-Decimal.digits.now)) ≡ character_of (reference_view c.args.self) = ap (λ r. character_of (reference_view r)) (sym c.in-Decimal.is) in
    c.legal_character.ensures ∙ (ap legal_character c.number_of.ensures ∙ (legal_cut (digits_value 10 (chars c.in-Decimal.digits.now)) ∙ view))

pub returns-in-Hexadecimal : goal.returns-in-Hexadecimal
returns-in-Hexadecimal c =
    let view : legal_character (digits_value 16 (chars c.in-Hexadecimal.digits.now)) ≡ character_of (reference_view c.args.self) = ap (λ r. character_of (reference_view r)) (sym c.in-Hexadecimal.is) in
    c.legal_character-in-Hexadecimal.ensures ∙ (ap legal_character c.number_of-in-Hexadecimal.ensures ∙ (legal_cut (digits_value 16 (chars c.in-Hexadecimal.digits.now)) ∙ view))
