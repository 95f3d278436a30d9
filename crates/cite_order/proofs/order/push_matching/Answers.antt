use Rattle.std.proofs.Common.{◌≡◌, ◌++◌, ◌∷◌, [], false, true, cond, sym, ap, ◌∙◌, append-nil}
use Rattle.std.proofs.lemmas.List.{map_push}
use Rattle.literature_entries.specs.EntriesData.{entry_view}
use Rattle.literature.specs.Holding.{holds_at}
use Rattle.literature.specs.Views.{selector_view}
use Rattle.literature.proofs.HoldingWorks.{holds_is}
use Rattle.cite_requests.specs.Views.{lent_works_view}
use Rattle.cite_order.proofs.order.push_matching.Goals as goal

pub returns-then-not-matches : goal.returns-then-not-matches
returns-then-not-matches c =
    let x = selector_view c.args.selector.now in
    let w = entry_view c.args.entry.now in
    let before = lent_works_view c.args.found.now.items in
    let here : holds_at x w ≡ false = sym (holds_is x c.args.entry.now) ∙ sym c.matches.ensures ∙ c.if-not-matches.true in
    sym (append-nil before) ∙ ap (λ b. before ++ cond b (w ∷ []) []) (sym here)

pub returns : goal.returns
returns c =
    let x = selector_view c.args.selector.now in
    let w = entry_view c.args.entry.now in
    let before = lent_works_view c.args.found.now.items in
    let here : holds_at x w ≡ true = sym (holds_is x c.args.entry.now) ∙ sym c.matches.ensures ∙ c.if-not-matches.false in
    ap lent_works_view c.in_ok-push.ensures.items
    ∙ map_push (λ b. entry_view b.now) c.args.found.now.items c.args.entry
    ∙ ap (λ b. before ++ cond b (w ∷ []) []) (sym here)
