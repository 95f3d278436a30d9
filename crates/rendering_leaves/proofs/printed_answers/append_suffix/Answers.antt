use Rattle.std.proofs.Common.{sym, ap, ◌∙◌}
use Rattle.std.proofs.lemmas.Result.{on_ok_weaker}
use Rattle.std.specs.Str.{chars}
use Rattle.rendering_cases.specs.Cases.{cased_text}
use Rattle.rendering_page.specs.Pages.{append_normal}
use Rattle.rendering_page.specs.Pieces.{append_pieces}
use Rattle.rendering_page.specs.Views.{manner_view, quotes_view}
use Rattle.rendering_leaves.proofs.SuffixesCased.{suffix_pieces}
use Rattle.rendering_leaves.proofs.printed_answers.append_suffix.Goals as goal

pub returns-in-None : goal.returns-in-None
returns-in-None c =
    let m = manner_view c.args.manner in
    let cs = chars c.args.year_suffix.now in
    let quotes = quotes_view c.args.context.now.quotes.now in
    on_ok_weaker c.push_text.result
    (λ e. e ∙ ((λ i. append_normal quotes (c.uncased.ensures.uncased i) (cased_text (sym c.in-None.is i) m.is_english cs) c.args.page.now)
    ∙ ap (λ ps. append_pieces quotes ps c.args.page.now) (sym (suffix_pieces m cs))))
    c.push_text.ensures
