use Rattle.std.proofs.Common.{Some, sym, ap, ◌∙◌}
use Rattle.std.specs.Prelude.{if◌then◌else◌}
use Rattle.std.specs.Option.{unwrap_or}
use Rattle.std.proofs.lemmas.Result.{on_ok_weaker}
use Rattle.rendering_leaves.specs.NodeSettings.{State, append}
use Rattle.rendering_leaves.specs.Views.{setting_view}
use Rattle.rendering_names.specs.Names.{names_pieces}
use Rattle.rendering_names.specs.Views.{names_parts_view}
use Rattle.rendering_people.specs.Views.{all_lent_answered_view}
use Rattle.rendering_nodes.specs.Content.{disambiguated, with_people_printed}
use Rattle.rendering_nodes.specs.Views.{walk_context}
use Rattle.rendering_nodes.proofs.style_walk.Walk.push_own.Goals as goal

pub returns-then-setting : goal.returns-then-setting
returns-then-setting c = λ a.
    let context = walk_context a c.args.self.now in
    let s = setting_view c.args.setting.now in
    let people = all_lent_answered_view c.args.people.now in
    let st : State = c.args.state.now in
    let shown : State = append context (names_pieces context.locales s.manner (names_parts_view c.args.names.now) s.options (disambiguated context st.names c.args.own) people) st in
    let recall = λ (x : State). record x { names = Some (unwrap_or x.names c.args.own) } in
    on_ok_weaker c.suppress_people.result
    (λ e. e ∙ (ap (with_people_printed people) (c.remember.ensures ∙ ap recall (c.in_ok-push_disambiguated.ensures a))
    ∙ (λ i. if sym c.if-setting.true i then with_people_printed people (recall shown) else recall shown)))
    c.suppress_people.ensures
