use Rattle.laws.specs.Text.{characters}
use Rattle.biblatex_values.proofs.TextsJoined.{after_dash}
use Rattle.biblatex_values.proofs.pages.push_last.Goals as goal

pub returns : goal.returns
returns c = after_dash c.push_page.result (characters c.args.text.now) (characters c.push_text.new.text) (characters c.push_page.new.text) _ c.in_ok-push_text.ensures c.push_page.ensures
