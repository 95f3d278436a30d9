use Rattle.std.proofs.Common.{Some, ◌∙◌}
use Rattle.rendering_locale.specs.Lookup.{term_text}
use Rattle.rendering_page.specs.Pages.{begun, ended, append_normal}
use Rattle.rendering_page.specs.Views.{quotes_view}
use Rattle.rendering_tree.specs.Metas as metas
use Rattle.rendering_leaves.proofs.label.append_label.Goals as goal

pub returns : goal.returns
returns c = λ a.
    let quotes = quotes_view c.args.context.now.quotes.now in
    let label = c.args.node.now.label in
    let text = c.term_text-text.ensures ∙ (λ i. term_text c.args.context.now.locales.now (c.label_term-term.ensures a i) label.form (c.pluralizes-plural.ensures i)) in
    let begins = c.in_ok-begin_element.ensures ∙ (λ i. begun (record (c.frame_of-frame.ensures i) { meta = Some metas.Label }) c.args.page.now) in
    let inside = c.in_ok-push_text.ensures ∙ (λ i. append_normal quotes (c.label_manner.ensures i) (text i) (begins i)) in
    c.in_ok-end_element.ensures metas.Label ∙ (λ i. ended quotes (record (c.frame_of-frame.ensures i) { meta = Some metas.Label }) (inside i))
