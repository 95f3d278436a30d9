use Rattle.std.proofs.Common.{◌≡◌, true, [], ◌∷◌, sym, ◌∙◌}
use Rattle.std.proofs.lemmas.Result.{on_ok_weaker}
use Rattle.std.specs.Prelude.{if◌then◌else◌}
use Rattle.rendering_context.specs.Views.{context_view}
use Rattle.rendering_leaves.specs.Values.{is_label_variable, own_year_suffix}
use Rattle.rendering_page.specs.Pages.{append_normal}
use Rattle.rendering_page.specs.Pieces.{append_pieces, normal}
use Rattle.rendering_page.specs.Views.{manner_view, quotes_view}
use Rattle.rendering_leaves.proofs.entry_identifiers.append_label_suffix.Goals as goal

pub returns : goal.returns
returns c = λ a.
    let quotes = quotes_view c.args.context.now.quotes.now in
    let m = manner_view c.args.manner in
    let yes : true ≡ is_label_variable c.args.variable = sym c.if-not-is_label_variable.false ∙ c.is_label_variable.ensures in
    on_ok_weaker c.push_text.result
    (λ e. e
    ∙ (λ i. append_normal quotes m (c.own_year_suffix.ensures a i) c.args.page.now)
    ∙ (λ i. append_pieces quotes (if yes i then normal m (own_year_suffix (context_view a c.args.context.now)) ∷ [] else []) c.args.page.now))
    c.push_text.ensures
