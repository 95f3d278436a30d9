use Rattle.std.proofs.Common.{◌≡◌, ◌∷◌, sym, ◌∙◌}
use Rattle.std.proofs.lemmas.Result.{on_ok_weaker}
use Rattle.std.specs.Str.{chars}
use Rattle.rendering_page.specs.Views.{words_view}
use Rattle.rendering_page.proofs.JoiningSteps.{text_of_all, text_of_gap}
use Rattle.rendering_page.proofs.joining.Joining.put_text.Goals as goal

pub returns-then-is_gap : goal.returns-then-is_gap
returns-then-is_gap c =
    let rest = chars c.in-Some.rest.now in
    let is : words_view c.args.words ≡ c.in-Some.first ∷ rest = sym c.as_str.ensures ∙ c.in-Some.ensures.chars in
    on_ok_weaker c.put_gap.result
    (text_of_gap c.args.formatting (words_view c.args.words) rest c.in-Some.first c.args.self.now c.put_gap.new.self is (sym c.is_gap.ensures ∙ c.if-is_gap.true))
    c.put_gap.ensures

pub returns : goal.returns
returns c =
    let rest = chars c.in-Some.rest.now in
    let is : words_view c.args.words ≡ c.in-Some.first ∷ rest = sym c.as_str.ensures ∙ c.in-Some.ensures.chars in
    on_ok_weaker c.put_all.result
    (text_of_all c.args.formatting (words_view c.args.words) rest c.in-Some.first c.args.self.now c.put_all.new.self is (sym c.is_gap.ensures ∙ c.if-is_gap.false))
    c.put_all.ensures
