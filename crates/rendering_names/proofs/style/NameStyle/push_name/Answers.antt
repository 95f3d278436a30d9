use Rattle.std.proofs.Common.{Some, None, ap, ◌∙◌}
use Rattle.literature_values.specs.PersonViews.{lent_person_view, person_view}
use Rattle.rendering_page.specs.Views.{frame_view, quotes_view}
use Rattle.rendering_tree.specs.Metas as metas
use Rattle.rendering_names.specs.NameParts.{person_pieces}
use Rattle.rendering_names.specs.Names.{inverts, name_manner}
use Rattle.rendering_names.specs.Views.{append_here, name_style_view, resolved_options_view}
use Rattle.rendering_names.proofs.PiecesAppended.{append-framed}
use Rattle.rendering_names.proofs.style.NameStyle.push_name.Goals as goal

pub returns : goal.returns
returns c =
    let s = name_style_view c.args.self.now in
    let o = resolved_options_view c.args.self.now.options in
    let is_inverted = inverts c.args.self.now.options.name_as_sort_order c.args.index in
    let meta = metas.Name c.args.variable c.args.index in
    append-framed (quotes_view c.args.self.now.setting.quotes.now) (record { display = None; meta = Some meta; manner = s.manner; prefix = s.look.prefix; suffix = s.look.suffix })
    (record (frame_view c.name_frame-frame.result) { meta = Some meta })
    (person_pieces (name_manner s) s.look o is_inverted c.args.form (lent_person_view c.args.person.now)) c.args.page.now c.begin_element.new.self c.push_inverted_by.new.page c.end_element.new.self
    (λ i. record (c.name_frame-frame.ensures i) { meta = Some meta })
    c.in_ok-begin_element.ensures
    (c.in_ok-push_inverted_by.ensures
    ∙ ap (λ p. append_here c.args.self.now (person_pieces (name_manner s) s.look o is_inverted c.args.form (person_view p)) c.begin_element.new.self) c.borrowed_person.ensures)
    (c.in_ok-end_element.ensures meta)
