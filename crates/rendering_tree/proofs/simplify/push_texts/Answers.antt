use Rattle.std.proofs.Common.{◌++◌, sym, ap, ◌∙◌}
use Rattle.std.specs.Str.{chars}
use Rattle.laws.specs.Text.{characters}
use Rattle.rendering_taxonomy.specs.contracts.formatting.FormattingPartialEq.TheImpl as formatting
use Rattle.rendering_tree.proofs.SimplifySteps.{put_joined, looks_equal, not_false}
use Rattle.rendering_tree.proofs.simplify.push_texts.Goals as goal

pub returns : goal.returns
returns c =
    let first = c.args.first in
    let text = c.args.text in
    put_joined c.args.simple.now.items c.push.new.self.items first.formatting c.push_text.new.text (characters first.text) text.formatting (characters text.text)
    c.in_ok-push.ensures.items (looks_equal first.formatting text.formatting
    (not_false (formatting.ghosts.eq first.formatting text.formatting) (sym c.ne.ensures ∙ c.if-ne.false)))
    (c.in_ok-push_text.ensures ∙ ap (λ s. characters first.text ++ chars s) c.as_str.ensures.value)
