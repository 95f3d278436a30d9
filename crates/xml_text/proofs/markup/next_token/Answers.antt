use Rattle.texts.specs.Views.{left}
use Rattle.xml_text.proofs.GrammarOutcome.{found_is, only_this}
use Rattle.xml_text.proofs.markup.next_token.Goals as goal

pub returns-clause-found : goal.returns-clause-found
returns-clause-found c = found_is c.read_token.result (left c.args.reader.now) (left c.read_token.new.reader) c.read_token.ensures

pub returns-clause-only : goal.returns-clause-only
returns-clause-only c = λ x rest at is. only_this c.read_token.result (left c.args.reader.now) (left c.read_token.new.reader) rest x c.read_token.ensures at is
