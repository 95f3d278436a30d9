use Rattle.std.proofs.Common.{[], Some, None}
use Rattle.rendering_context.specs.Views.{answer_if, context_view}
use Rattle.rendering_leaves.specs.Values.{answer_pieces}
use Rattle.rendering_names.proofs.PiecesAppended.{append-framed}
use Rattle.rendering_page.specs.Views.{frame_view, manner_view, quotes_view}
use Rattle.rendering_tree.specs.Views.{meta_view}
use Rattle.rendering_leaves.proofs.entry_identifiers.append_meaning.Goals as goal

pub returns : goal.returns
returns c = λ a.
    let m = manner_view c.args.manner in
    let meta = meta_view c.args.meta in
    append-framed (quotes_view c.args.context.now.quotes.now) (record { display = None; meta = Some meta; manner = m; prefix = []; suffix = [] }) (record (frame_view c.bare_frame-frame.result) { meta = Some meta })
    (answer_pieces (context_view a c.args.context.now) m c.args.form (answer_if c.args.answer))
    c.args.page.now c.begin_element.new.self c.append_answer.new.page c.end_element.new.self
    (λ i. record (c.bare_frame-frame.ensures i) { meta = Some meta })
    c.in_ok-begin_element.ensures (c.in_ok-append_answer.ensures a) (c.in_ok-end_element.ensures meta)
