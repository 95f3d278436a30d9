use Rattle.std.proofs.Common.{arith}
use Rattle.biblatex_values.proofs.TextsJoined.{shown_page}
use Rattle.biblatex_values.proofs.pages.page_text.Goals as goal

pub returns : goal.returns
returns c = shown_page c.to_string.result c.args.page (omega (arith, c.ranges.page)) c.to_string.ensures.ok
