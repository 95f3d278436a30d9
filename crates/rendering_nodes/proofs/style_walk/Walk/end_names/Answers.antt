use Rattle.std.proofs.Common.{Some, [], ap}
use Rattle.std.proofs.lemmas.Result.{on_ok_weaker}
use Rattle.rendering_leaves.specs.Views.{setting_view}
use Rattle.rendering_names.specs.Names.{names_frame}
use Rattle.rendering_names.specs.Views.{names_parts_view}
use Rattle.rendering_page.specs.Pages.{Frame}
use Rattle.rendering_page.specs.Views as views
use Rattle.rendering_tree.specs.Metas as metas
use Rattle.rendering_nodes.specs.Views.{walk_context}
use Rattle.rendering_nodes.proofs.ElementsSteps.{ended_by}
use Rattle.rendering_nodes.proofs.style_walk.Walk.end_names.Goals as goal

pub returns : goal.returns
returns c = λ a.
    on_ok_weaker c.end_element.result
    (ended_by (walk_context a c.args.self.now) (record (views.frame_view c.names_frame-frame.result) { meta = Some (metas.Names []) })
    (names_frame (setting_view c.args.setting.now).manner (names_parts_view c.args.names.now) []) _ c.args.state.now c.end_element.new.self
    c.state.view_is (ap (λ (f : Frame). record f { meta = Some (metas.Names []) }) c.names_frame-frame.ensures))
    (c.end_element.ensures (metas.Names []))
