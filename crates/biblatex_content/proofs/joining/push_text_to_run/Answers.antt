use Rattle.std.proofs.Common.{◌≡◌, ℕ, List, ◌++◌, subst}
use Rattle.std.specs.Prelude.{string_bytes, OnOk}
use Rattle.std.specs.Str.{chars}
use Rattle.biblatex_content.proofs.joining.push_text_to_run.Goals as goal

pub returns : goal.returns
returns c =
    subst (λ (x : List ℕ). OnOk c.push_text.result (chars (string_bytes c.push_text.new.text) ≡ chars x ++ chars c.args.more.now)) c.in_ok-make_room.ensures c.push_text.ensures
