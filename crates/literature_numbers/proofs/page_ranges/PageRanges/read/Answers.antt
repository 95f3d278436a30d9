use Rattle.std.specs.Str.{chars}
use Rattle.literature_numbers.proofs.PagesAgain.{read_back_pages}
use Rattle.literature_numbers.proofs.page_ranges.PageRanges.read.Goals as goal

pub returns-clause-back : goal.returns-clause-back
returns-clause-back c = read_back_pages c.read_pages.result (chars c.args.text.now) c.read_pages.ensures
