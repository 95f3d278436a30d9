use Rattle.std.proofs.Common.{Some, length}
use Rattle.rendering_page.specs.Views.{frame_view, quotes_view}
use Rattle.rendering_tree.specs.Metas as metas
use Rattle.rendering_names.specs.Names.{beside, label_pieces, list_pieces, variable_frame}
use Rattle.rendering_people.specs.Views.{lent_answered_view}
use Rattle.rendering_names.specs.Roles.{label_term}
use Rattle.rendering_names.specs.Views.{names_parts_view, indexed, name_style_view}
use Rattle.rendering_names.proofs.PiecesAppended.{append-framed}
use Rattle.rendering_names.proofs.style.NameStyle.push_variable.Goals as goal

pub returns : goal.returns
returns c =
    let s = name_style_view c.args.self.now in
    let h = names_parts_view c.args.node.now in
    let a = lent_answered_view c.args.answered.now in
    let meta = metas.NameVariableOf a.1 in
    append-framed (quotes_view c.args.self.now.setting.quotes.now) (variable_frame s.manner a.1) (record (frame_view c.variable_frame-frame.result) { meta = Some meta })
    (beside h.label_is_first (label_pieces s.locales s.manner (label_term h a.1) (length a.0) h.label) (list_pieces s a.1 c.args.count.shown (indexed c.args.forms.now c.args.answered.now.people.items)))
    c.args.page.now c.begin_element.new.self c.push_labelled.new.page c.end_element.new.self
    (λ i. record (c.variable_frame-frame.ensures i) { meta = Some meta })
    c.in_ok-begin_element.ensures c.in_ok-push_labelled.ensures (c.in_ok-end_element.ensures meta)
