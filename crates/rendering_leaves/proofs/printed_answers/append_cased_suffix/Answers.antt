use Rattle.std.proofs.Common.{sym, ap, ◌∙◌}
use Rattle.std.proofs.lemmas.Result.{on_ok_weaker}
use Rattle.std.specs.Str.{chars}
use Rattle.rendering_page.specs.Pages.{append_normal}
use Rattle.rendering_page.specs.Pieces.{append_pieces}
use Rattle.rendering_page.specs.Views.{manner_view, quotes_view}
use Rattle.rendering_leaves.proofs.SuffixesCased.{suffix_pieces}
use Rattle.rendering_leaves.proofs.printed_answers.append_cased_suffix.Goals as goal

pub returns : goal.returns
returns c =
    let m = manner_view c.args.manner in
    let cs = chars c.args.year_suffix.now in
    let quotes = quotes_view c.args.context.now.quotes.now in
    on_ok_weaker c.push_made.result
    (λ e. e ∙ ((λ i. append_normal quotes (c.uncased.ensures.uncased i) (c.in_ok-text.ensures.cased i) c.args.page.now)
    ∙ ap (λ ps. append_pieces quotes ps c.args.page.now) (sym (suffix_pieces m cs))))
    c.push_made.ensures
