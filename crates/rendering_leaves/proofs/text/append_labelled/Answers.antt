use Rattle.std.proofs.lemmas.Result.{on_ok_weaker}
use Rattle.rendering_context.specs.Views.{answer_if, context_view}
use Rattle.rendering_leaves.specs.Values.{answer_pieces, identified, label_suffix}
use Rattle.rendering_names.proofs.PiecesAppended.{append-both}
use Rattle.rendering_page.specs.Views.{manner_view, quotes_view}
use Rattle.rendering_taxonomy.specs.declared.number.NumberForm.TheVariants as number_forms
use Rattle.rendering_leaves.proofs.text.append_labelled.Goals as goal

pub returns : goal.returns
returns c = λ a.
    let ctx = context_view a c.args.context.now in
    let m = manner_view c.args.manner in
    let v = c.args.variable in
    on_ok_weaker c.append_label_suffix.result
    (λ e. append-both (quotes_view c.args.context.now.quotes.now) (identified m v (answer_pieces ctx m number_forms.Numeric (answer_if c.args.answer))) (label_suffix ctx m v)
    c.args.page.now c.append_identified.new.page c.append_label_suffix.new.page (c.in_ok-append_identified.ensures a) e)
    (c.append_label_suffix.ensures a)
