use Rattle.std.proofs.Common.{◌∙◌}
use Rattle.std.specs.Str.{chars}
use Rattle.rendering_page.specs.Views.{quotes_view}
use Rattle.rendering_names.specs.Names.{name_manner}
use Rattle.rendering_names.specs.Views.{name_style_view}
use Rattle.rendering_names.proofs.NameWords.{word-more}
use Rattle.rendering_names.proofs.style.NameStyle.push_words.Goals as goal

pub loop-word-preserved : goal.loop-word-preserved
loop-word-preserved c =
    word-more (quotes_view c.args.self.now.setting.quotes.now) (name_manner (name_style_view c.args.self.now)) c.loop-word.is_after c.is_behind-is_after.result c.args.words.now c.loop-word.word-index
    c.word-item.result (chars c.text_before.result.now) c.loop-word.page c.push_word.new.page
    c.loop-word-test.true c.word-item.is c.text_before.ensures c.is_behind-is_after.ensures c.in_ok-push_word.ensures
    ∙ c.loop-word.invariant
