use Rattle.std.proofs.Common.{◌≡◌, Bool, IfOk, subst}
use Rattle.rendering_page.specs.Views.{quotes_view}
use Rattle.rendering_style.specs.Views.{bibliography_layout_view}
use Rattle.rendering.specs.Purposes.{append_item, begun_in, rendered_item}
use Rattle.rendering.specs.Views.{context_in, rendering_view, style_of}
use Rattle.rendering.proofs.CallsGiven.{given_appended}
use Rattle.rendering.proofs.call.Call.item.Goals as goal

pub returns : goal.returns
returns g c =
    let s = style_of c.args.self.now in
    let b = bibliography_layout_view c.args.bibliography.now in
    let appended = append_item s (context_in (g.E.EntryLike.answers c.args.entry.now) c.args.self.now) b in
    let quotes = quotes_view c.args.self.now.walk.context.quotes.now in
    let substitutes = c.has_substitute-substitutes.result in
    subst (λ (named : Bool). IfOk c.rendered_item.result (λ r. rendering_view r ≡ rendered_item quotes named (appended (begun_in s)))) c.has_substitute-substitutes.ensures
    (given_appended (rendered_item quotes substitutes) appended (begun_in s)
    c.begun-state.result c.push_item.new.state c.rendered_item.result c.begun-state.ensures c.in_ok-push_item.ensures c.rendered_item.ensures)
