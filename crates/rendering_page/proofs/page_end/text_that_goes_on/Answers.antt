use Rattle.std.proofs.Common.{◌≡◌, true, sym, ◌∙◌}
use Rattle.std.specs.Str.{chars}
use Rattle.laws.specs.Text.{is_filled}
use Rattle.rendering_page.proofs.ViewsLetters.{backwards_apart, backwards_text}
use Rattle.rendering_page.proofs.page_end.text_that_goes_on.Goals as goal

pub returns-then-parts-clause-backwards : goal.returns-then-parts-clause-backwards
returns-then-parts-clause-backwards c ts =
    let filled : is_filled (chars c.args.text.now) ≡ true = cc in
    backwards_apart c.args.met.now c.args.formatting (chars c.args.text.now) ts filled (sym c.parts.ensures ∙ c.if-parts.true)

pub returns-clause-backwards : goal.returns-clause-backwards
returns-clause-backwards c ts =
    let filled : is_filled (chars c.args.text.now) ≡ true = cc in
    backwards_text c.args.met.now c.args.formatting (chars c.args.text.now) ts filled (sym c.parts.ensures ∙ c.if-parts.false)
