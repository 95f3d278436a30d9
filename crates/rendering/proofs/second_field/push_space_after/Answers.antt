use Rattle.std.proofs.Common.{◌≡◌, true, sym, ap, ◌∙◌}
use Rattle.std.specs.Str.{chars}
use Rattle.laws.specs.Text.{characters, is_filled}
use Rattle.rendering.proofs.Spacing.{text_spaced, text_end}
use Rattle.rendering.proofs.second_field.push_space_after.Goals as goal

pub returns-clause-end : goal.returns-clause-end
returns-clause-end c =
    let text = c.args.text.now in
    let filled : is_filled (characters text.text) ≡ true = ap (λ s. is_filled (chars s)) (sym c.as_str.ensures.value) ∙ sym c.has_text.ensures ∙ c.if-not-has_text.false in
    sym (text_end text.formatting (characters text.text) ∙ filled)

pub returns-clause-spaced : goal.returns-clause-spaced
returns-clause-spaced c =
    let text = c.args.text.now in
    let filled : is_filled (characters text.text) ≡ true = ap (λ s. is_filled (chars s)) (sym c.as_str.ensures.value) ∙ sym c.has_text.ensures ∙ c.if-not-has_text.false in
    text_spaced text.formatting (characters text.text) _ filled c.in_ok-push_character.ensures
