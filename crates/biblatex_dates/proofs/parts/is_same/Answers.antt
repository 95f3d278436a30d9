use Rattle.std.specs.Str.{chars}
use Rattle.std.proofs.lemmas.Str.{chars-IsAscii}
use Rattle.biblatex_dates.proofs.PartsMonths.{same_test}
use Rattle.biblatex_dates.proofs.parts.is_same.Goals as goal

pub returns : goal.returns
returns c =
    let name = chars-IsAscii c.args.name.now c.requires in
    let match_is = rw name at c.default_caseless_match_str.ensures in
    same_test c.default_caseless_match_str.result (chars c.args.text.now) c.args.name.now match_is
