use Rattle.std.proofs.Common.{◌≡◌, sym, ap, ◌∙◌}
use Rattle.std.specs.Prelude.{map}
use Rattle.std.specs.Char.{to_ascii_lowercase}
use Rattle.std.specs.Str.{chars}
use Rattle.std.proofs.lemmas.Str.{encodes-chars}
use Rattle.laws.specs.Text.{lowered}
use Rattle.biblatex_values.specs.Gender.{gender_of}
use Rattle.biblatex_values.proofs.gender.Gender.read.Goals as goal

pub returns : goal.returns
returns c =
    let low : c.as_str.result.now ≡ lowered (chars c.args.name.now) = c.as_str.ensures.value ∙ (c.in_ok-name.ensures.ok ∙ ap (map to_ascii_lowercase) (sym (encodes-chars c.args.name.now c.utf8.name))) in
    c.named.ensures ∙ ap gender_of low
