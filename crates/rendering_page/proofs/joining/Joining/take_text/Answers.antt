use Rattle.std.proofs.Common.{◌≡◌, ◌∷◌, false, sym, ap, ◌∙◌}
use Rattle.std.specs.Str.{chars}
use Rattle.std.proofs.lemmas.Result.{on_ok_weaker}
use Rattle.rendering_page.specs.Joints.{Joining}
use Rattle.rendering_page.specs.Views.{words_view}
use Rattle.rendering_page.proofs.JoiningSteps.{text_begun}
use Rattle.rendering_page.proofs.joining.Joining.take_text.Goals as goal

pub returns : goal.returns
returns c =
    let cs = words_view c.args.words in
    let rest = chars c.in-Some.field-0-1.now in
    let is : cs ≡ c.in-Some.first ∷ rest = sym c.as_str.ensures ∙ c.in-Some.ensures.chars in
    let none : c.args.self.now.is_text ≡ false = ap (λ (j : Joining). j.is_text) (sym c.self.view_is) ∙ c.if-self.false in
    on_ok_weaker c.begin.result (λ e. text_begun c.args.inside c.args.formatting cs rest c.in-Some.first c.args.self.now c.begin.new.self is none e) (c.begin.ensures rest is)
