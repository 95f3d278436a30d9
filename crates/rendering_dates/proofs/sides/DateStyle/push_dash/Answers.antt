use Rattle.std.proofs.Common.{◌≡◌, ℕ, List, OnOk, subst}
use Rattle.rendering_page.specs.Pages.{append_normal}
use Rattle.rendering_page.specs.Views.{quotes_view, manner_view}
use Rattle.rendering_dates.proofs.DatesTexts.{dash_characters}
use Rattle.rendering_dates.proofs.sides.DateStyle.push_dash.Goals as goal

pub returns : goal.returns
returns c =
    let style = c.args.self.now in
    subst (λ (t : List ℕ). OnOk c.push_text.result (c.push_text.new.self ≡ append_normal (quotes_view style.quotes.now) (manner_view style.manner) t c.args.page.now)) dash_characters c.push_text.ensures
