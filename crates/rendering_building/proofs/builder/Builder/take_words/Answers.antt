use Rattle.std.proofs.Common.{take, reverse, sym, ◌∙◌}
use Rattle.rendering_building.specs.Building.{level, levels, nest_of, text_read}
use Rattle.rendering_building.specs.Building.{joined}
use Rattle.std.specs.Prelude.{◌++◌}
use Rattle.rendering_page.specs.Views.{words_view}
use Rattle.rendering_building.proofs.BuildingReading.{part_more, part_none, words_taken}
use Rattle.rendering_building.proofs.builder.Builder.take_words.Goals as goal

pub returns-in_ok-push-clause-read : goal.returns-in_ok-push-clause-read
returns-in_ok-push-clause-read c =
    let now = c.go_on_in.new.self in
    words_taken now.formatting c.args.formatting (text_read now) (words_view c.args.words) (words_view c.replace-after.new.dest ++ joined c.push.new.self.items) (level now.start now.children.items)
    (levels (take now.start now.children.items) (reverse now.around.items)) (nest_of c.args.self.now) c.in_ok-go_on_in.ensures.look
    (part_more c.args.words now.words c.replace-after.result c.replace-after.new.dest now.after.items c.push.new.self.items c.replace-after.ensures.after c.replace-after.ensures.value c.in_ok-push.ensures.items)
    c.in_ok-go_on_in.ensures.read

pub returns-else-has_text-clause-read : goal.returns-else-has_text-clause-read
returns-else-has_text-clause-read c =
    let now = c.go_on_in.new.self in
    words_taken now.formatting c.args.formatting (text_read now) (words_view c.args.words) (words_view c.replace-after.new.dest ++ joined now.after.items) (level now.start now.children.items)
    (levels (take now.start now.children.items) (reverse now.around.items)) (nest_of c.args.self.now) c.in_ok-go_on_in.ensures.look
    (part_none c.args.words now.words c.replace-after.result c.replace-after.new.dest now.after.items c.as_str-2.result c.replace-after.ensures.after c.replace-after.ensures.value c.as_str-2.ensures
    (sym c.has_text-2.ensures ∙ c.if-has_text.false))
    c.in_ok-go_on_in.ensures.read
