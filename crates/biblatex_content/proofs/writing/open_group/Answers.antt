use Rattle.std.proofs.Common.{◌≡◌, true, [], ◌∷◌, sym, ◌∙◌, rules}
use Rattle.std.specs.Str.{IsAscii}
use Rattle.std.proofs.lemmas.Str.{chars-IsAscii}
use Rattle.laws.specs.Characters.{open_brace, close_brace}
use Rattle.biblatex_tex.specs.Token.{begins_command}
use Rattle.biblatex_content.specs.Writing.{written_character}
use Rattle.biblatex_content.proofs.WritingPieces.{guard_stands}
use Rattle.biblatex_content.proofs.writing.open_group.Goals as goal

pub returns-then-is_command : goal.returns-then-is_command
returns-then-is_command c =
    let e : begins_command (written_character c.args.c) ≡ true = sym c.is_command.ensures ∙ c.if-is_command.true in
    let ascii : IsAscii (open_brace ∷ open_brace ∷ close_brace ∷ []) = search rules in
    rw (guard_stands (written_character c.args.c) e) (rw (chars-IsAscii (open_brace ∷ open_brace ∷ close_brace ∷ []) ascii) at c.push_text.ensures)
