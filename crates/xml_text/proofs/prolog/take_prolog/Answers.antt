use Rattle.texts.specs.Views.{left}
use Rattle.xml_text.proofs.GrammarProlog.{prolog_is, only_this_prolog}
use Rattle.xml_text.proofs.prolog.take_prolog.Goals as goal

pub returns-clause-found : goal.returns-clause-found
returns-clause-found c = prolog_is c.read_prolog.result (left c.args.reader.now) (left c.read_prolog.new.reader) c.read_prolog.ensures

pub returns-clause-only : goal.returns-clause-only
returns-clause-only c = λ rest is. only_this_prolog c.read_prolog.result (left c.args.reader.now) (left c.read_prolog.new.reader) rest c.read_prolog.ensures is
