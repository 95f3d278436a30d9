use Rattle.std.proofs.Common.{ap, sym}
use Rattle.std.specs.Option.{ok_or}
use Rattle.cite_csl_command.specs.Command.{format_text}
use Rattle.cite_csl_command.proofs.asked.known_format.Goals as goal

pub returns-in-Some : goal.returns-in-Some
returns-in-Some c = ap (λ o. ok_or o (format_text c.args.name.now)) (sym c.in-Some.ensures)
