use Rattle.std.proofs.Common.{◌≡◌, List, ℕ, sym, ap, ◌∙◌}
use Rattle.std.proofs.lemmas.Result.{on_ok_weaker}
use Rattle.rendering_tree.specs.Tokens.{with_letters}
use Rattle.rendering_page.specs.Pages.{in_case, stripped_if}
use Rattle.rendering_page.specs.Views.{manner_view, pieces_view, words_view}
use Rattle.rendering_page.proofs.appending.append_in_manner.Goals as goal

pub returns : goal.returns
returns c =
    let m = manner_view c.args.manner in
    let cs = words_view c.args.words in
    let stays : cs ≡ in_case m cs = sym (c.applies.ensures.text c.if-applies.false cs) in
    on_ok_weaker c.append_uncased.result
    (λ e. e ∙ ap (λ (xs : List ℕ). with_letters m.formatting (stripped_if m.strips_periods xs) (pieces_view c.args.pieces.now.items)) stays)
    c.append_uncased.ensures
