use Rattle.std.proofs.Common.{List, ℕ, sym, ap, ◌∙◌}
use Rattle.std.proofs.lemmas.Result.{on_ok_weaker}
use Rattle.rendering_tree.specs.Tokens.{Token, with_letters}
use Rattle.rendering_page.specs.Pages.{in_manner}
use Rattle.rendering_page.specs.Tail.{remaining}
use Rattle.rendering_page.specs.Views.{manner_view, pieces_view, words_view}
use Rattle.rendering_page.proofs.appending.append.Goals as goal

pub returns-then-changes : goal.returns-then-changes
returns-then-changes c =
    let m = manner_view c.args.manner in
    let cs = words_view c.args.words in
    let old = pieces_view c.args.pieces.now.items in
    on_ok_weaker c.append_in_manner.result
    (λ e. e ∙ ap (λ (ts : List Token). with_letters m.formatting (in_manner m cs) ts) (c.make_room.ensures ∙ ap (λ (xs : List ℕ). remaining xs old) c.as_str.ensures))
    c.append_in_manner.ensures

pub returns : goal.returns
returns c =
    let m = manner_view c.args.manner in
    let cs = words_view c.args.words in
    let old = pieces_view c.args.pieces.now.items in
    on_ok_weaker c.append_words.result
    (λ e. e
    ∙ (ap (λ (ts : List Token). with_letters m.formatting cs ts) (c.make_room.ensures ∙ ap (λ (xs : List ℕ). remaining xs old) c.as_str.ensures)
    ∙ ap (λ (xs : List ℕ). with_letters m.formatting xs (remaining cs old)) (sym (c.changes.ensures c.if-changes.false cs))))
    c.append_words.ensures
