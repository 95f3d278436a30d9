use Rattle.std.proofs.Common.{Bool, ap, ◌∙◌, true≢false}
use Rattle.rendering_page.specs.Pages.{in_case, stripped_if}
use Rattle.rendering_page.specs.Views.{manner_view}
use Rattle.rendering_page.proofs.appending.changes.Goals as goal

pub returns-then-applies : goal.returns-then-applies
returns-then-applies c = λ e cs. absurd (true≢false e)

pub returns : goal.returns
returns c = λ e cs. ap (λ (b : Bool). stripped_if b (in_case (manner_view c.args.manner) cs)) e ∙ c.applies.ensures.text c.if-applies.false cs
