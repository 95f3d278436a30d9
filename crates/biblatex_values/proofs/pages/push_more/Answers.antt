use Rattle.laws.specs.Text.{characters}
use Rattle.biblatex_values.proofs.TextsJoined.{after_comma}
use Rattle.biblatex_values.proofs.pages.push_more.Goals as goal

pub returns : goal.returns
returns c = after_comma c.push_range.result (characters c.args.text.now) (characters c.push_text.new.text) (characters c.push_range.new.text) _ c.in_ok-push_text.ensures c.push_range.ensures
