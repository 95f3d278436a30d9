use Rattle.std.proofs.Common.{rules, w64, FitsSigned}
use Rattle.std.proofs.lemmas.Int.{to_z-of_z}
use Rattle.biblatex_values.proofs.IntegerPrinted.{shown}
use Rattle.biblatex_values.proofs.integer.integer_text.Goals as goal

pub returns : goal.returns
returns c =
    let fits : FitsSigned w64 c.args.number = search rules in
    shown c.to_string.result c.args.number _ fits (to_z-of_z w64 c.args.number fits) c.to_string.ensures.ok
