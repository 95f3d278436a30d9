use Rattle.std.proofs.Common.{◌≡◌, ◌+◌, Bool, true, false, List, [], ◌∷◌, ◌++◌, cond, drop, filter, sym, ap, ◌∙◌, append_assoc, append-nil}
use Rattle.literature_entries.specs.EntriesData.{EntryData, entry_view}
use Rattle.literature.specs.Views.{selector_view}
use Rattle.literature.specs.Holding.{holds_at}
use Rattle.cite_requests.specs.Views.{lent_works_view}
use Rattle.cite_requests.proofs.StepsAfter.{at_item}
use Rattle.cite_order.proofs.order.push_chosen.Goals as goal

-- one work, if it is chosen, and then the others
one_then : (b : Bool) (before rest : List EntryData) (w : EntryData) → (before ++ cond b (w ∷ []) []) ++ rest ≡ before ++ cond b (w ∷ rest) rest
one_then true before rest w = append_assoc before (w ∷ []) rest
one_then false before rest w = ap (λ (ws : List EntryData). ws ++ rest) (append-nil before)

pub loop-entry-preserved : goal.loop-entry-preserved
loop-entry-preserved c =
    let x = selector_view c.args.selector.now in
    let xs = c.args.entries.now in
    let i = c.loop-entry.entry-index in
    let e = c.entry-item.result in
    let before = lent_works_view c.loop-entry.found.items in
    let rest = filter (holds_at x) (lent_works_view (drop (i + 1) xs)) in
    let cut = at_item (λ ys. before ++ filter (holds_at x) (lent_works_view ys)) xs i e c.loop-entry-test.true c.entry-item.is in
    ap (λ (ws : List EntryData). ws ++ rest) c.in_ok-push_matching.ensures ∙ one_then (holds_at x (entry_view e.now)) before rest (entry_view e.now) ∙ sym cut ∙ c.loop-entry.invariant
