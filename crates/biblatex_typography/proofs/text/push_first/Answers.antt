use Rattle.std.proofs.Common.{ℕ, ◌∷◌, [], ◌++◌, sym, ap, ◌∙◌}
use Rattle.std.specs.Str.{chars}
use Rattle.laws.specs.Text.{characters}
use Rattle.biblatex_typography.proofs.Pairs.{pair_shorter, put_alone, put_pair}
use Rattle.biblatex_typography.proofs.text.push_first.Goals as goal

pub returns-in_ok-push_character-in-Some-clause-printed : goal.returns-in_ok-push_character-in-Some-clause-printed
returns-in_ok-push_character-in-Some-clause-printed c =
    let old = characters c.args.printed.now in
    put_pair old (characters c.push_character.new.text) c.args.c (chars c.args.text.now) (chars c.in-Some.rest.now) (sym c.in-Some.ensures)
    (c.in_ok-push_character-in-Some.ensures ∙ ap (λ (d : ℕ). old ++ d ∷ []) c.double.ensures)

pub returns-in_ok-push_character-in-Some-clause-shorter : goal.returns-in_ok-push_character-in-Some-clause-shorter
returns-in_ok-push_character-in-Some-clause-shorter c = pair_shorter c.args.c (chars c.args.text.now) (chars c.in-Some.rest.now) (sym c.in-Some.ensures)

pub returns-in_ok-push_character-in-None-clause-printed : goal.returns-in_ok-push_character-in-None-clause-printed
returns-in_ok-push_character-in-None-clause-printed c =
    let old = characters c.args.printed.now in
    put_alone old (characters c.push_character-in-None.new.text) c.args.c (chars c.args.text.now) (sym c.in-None.ensures)
    (c.in_ok-push_character-in-None.ensures ∙ ap (λ (d : ℕ). old ++ d ∷ []) c.single.ensures)
