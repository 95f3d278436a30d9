use Rattle.std.proofs.Common.{rules, w32, FitsSigned}
use Rattle.std.proofs.lemmas.Int.{to_z-of_z}
use Rattle.date_parts.proofs.dates.dated.Goals as goal

pub returns : goal.returns
returns c =
    let f : FitsSigned w32 c.args.year = search rules in
    let same = to_z-of_z w32 c.args.year f in
    search (rules, same)
