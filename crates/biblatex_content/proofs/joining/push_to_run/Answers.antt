use Rattle.std.proofs.Common.{◌≡◌, ℕ, List, [], ◌∷◌, ◌++◌, subst}
use Rattle.std.specs.Prelude.{string_bytes, OnOk}
use Rattle.std.specs.Str.{chars}
use Rattle.biblatex_content.proofs.joining.push_to_run.Goals as goal

pub returns : goal.returns
returns c =
    subst (λ (x : List ℕ). OnOk c.push_character.result (chars (string_bytes c.push_character.new.text) ≡ chars x ++ c.args.c ∷ [])) c.in_ok-make_room.ensures c.push_character.ensures
