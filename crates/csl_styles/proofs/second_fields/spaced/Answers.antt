use Rattle.std.proofs.Common.{List, ℕ, [], ◌∷◌, ◌++◌, ap, ◌∙◌}
use Rattle.std.specs.Str.{chars, drop_trailing_whitespace, trim_end}
use Rattle.laws.specs.Characters.{space}
use Rattle.laws.proofs.Text.{chars-text}
use Rattle.csl_styles.proofs.second_fields.spaced.Goals as goal

pub returns : goal.returns
unfolding trim_end
returns c =
    c.in_ok-push_character.ensures
    ∙ ap (λ (s : List ℕ). s ++ space ∷ [])
    (c.in_ok-spaced.ensures.characters ∙ chars-text c.trim_end.result.now (drop_trailing_whitespace (chars c.args.suffix.now)) c.trim_end.utf8 c.trim_end.ensures.trim)
