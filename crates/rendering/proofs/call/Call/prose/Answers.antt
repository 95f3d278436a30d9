use Rattle.rendering_page.specs.Views.{quotes_view}
use Rattle.rendering.specs.Purposes.{append_prose, begun_in, rendered}
use Rattle.rendering.specs.Views.{context_in, style_of}
use Rattle.rendering.proofs.CallsGiven.{given_appended}
use Rattle.rendering.proofs.call.Call.prose.Goals as goal

pub returns : goal.returns
returns g c =
    given_appended (rendered (quotes_view c.args.self.now.walk.context.quotes.now)) (append_prose (style_of c.args.self.now) (context_in (g.E.EntryLike.answers c.args.entry.now) c.args.self.now)) (begun_in (style_of c.args.self.now))
    c.begun-state.result c.push_prose.new.state c.rendered.result c.begun-state.ensures c.in_ok-push_prose.ensures c.rendered.ensures
