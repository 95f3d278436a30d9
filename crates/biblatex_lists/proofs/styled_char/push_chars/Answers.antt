use Rattle.std.proofs.Common.{◌≡◌, List, ◌++◌, subst}
use Rattle.std.specs.Prelude.{OnOk}
use Rattle.std.specs.Str.{chars}
use Rattle.biblatex_lists.specs.declared.styled_char.StyledChar.{StyledChar}
use Rattle.biblatex_lists.specs.StyledChars.{of_style}
use Rattle.biblatex_lists.proofs.styled_char.push_chars.Goals as goal

pub returns : goal.returns
returns c =
    subst (λ (x : List StyledChar). OnOk c.append_chars.result (c.append_chars.new.list.items ≡ x ++ of_style c.args.is_normal (chars c.args.text.now))) c.in_ok-reserve.ensures.items c.append_chars.ensures
