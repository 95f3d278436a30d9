use Rattle.std.proofs.Common.{◌≡◌, Bool, true, false, List, [], ◌∷◌, ◌++◌, map, filter, cond, sym, ap, ◌∙◌, append_assoc}
use Rattle.std.specs.Borrow.{Bor}
use Rattle.std.proofs.lemmas.List.{map_push}
use Rattle.literature_entries.specs.EntriesData.{EntryData, entry_view}
use Rattle.literature_entries.specs.declared.entry.Entry.{Entry}
use Rattle.literature.specs.Views.{selector_view}
use Rattle.literature.specs.Holding.{holds_at}
use Rattle.cite_requests.specs.Views.{lent_works_view}
use Rattle.literature.proofs.HoldingWorks.{holds_is}
use Rattle.cite_requests.proofs.sections.push_chosen.Goals as goal

-- one entry more, where it is chosen, and where it is not
taken : (test : EntryData → Bool) (found : List EntryData) (w : EntryData) (ws : List EntryData) → test w ≡ true → (found ++ w ∷ []) ++ filter test ws ≡ found ++ filter test (w ∷ ws)
taken test found w ws is = append_assoc found (w ∷ []) (filter test ws) ∙ ap (λ (b : Bool). found ++ cond b (w ∷ filter test ws) (filter test ws)) (sym is)

left : (test : EntryData → Bool) (found : List EntryData) (w : EntryData) (ws : List EntryData) → test w ≡ false → found ++ filter test ws ≡ found ++ filter test (w ∷ ws)
left test found w ws is = ap (λ (b : Bool). found ++ cond b (w ∷ filter test ws) (filter test ws)) (sym is)

pub loop-entry-preserved-in-Continue-1 : goal.loop-entry-preserved-in-Continue-1
loop-entry-preserved-in-Continue-1 c =
    let x = selector_view c.args.selector.now in
    let e = c.in-Some.entry in
    let found = lent_works_view c.loop-entry.found.items in
    let rest = c.next.new.self in
    let here : c.loop-entry.entry-iterator ≡ e.now ∷ rest = c.in-Some.ensures.steps in
    let passes : holds_at x (entry_view e.now) ≡ true = sym (holds_is x e.now) ∙ sym c.matches.ensures ∙ c.if-matches.true in
    let pushed : lent_works_view c.push.new.self.items ≡ found ++ entry_view e.now ∷ [] = ap lent_works_view c.in_ok-push.ensures.items ∙ map_push (λ (b : Bor Entry). entry_view b.now) c.loop-entry.found.items e in
    ap (λ (ws : List EntryData). ws ++ filter (holds_at x) (map entry_view rest)) pushed
    ∙ taken (holds_at x) found (entry_view e.now) (map entry_view rest) passes
    ∙ ap (λ (es : List Entry). found ++ filter (holds_at x) (map entry_view es)) (sym here)
    ∙ c.loop-entry.invariant

pub loop-entry-preserved : goal.loop-entry-preserved
loop-entry-preserved c =
    let x = selector_view c.args.selector.now in
    let e = c.in-Some.entry in
    let found = lent_works_view c.loop-entry.found.items in
    let rest = c.next.new.self in
    let here : c.loop-entry.entry-iterator ≡ e.now ∷ rest = c.in-Some.ensures.steps in
    let fails : holds_at x (entry_view e.now) ≡ false = sym (holds_is x e.now) ∙ sym c.matches.ensures ∙ c.if-matches.false in
    left (holds_at x) found (entry_view e.now) (map entry_view rest) fails
    ∙ ap (λ (es : List Entry). found ++ filter (holds_at x) (map entry_view es)) (sym here)
    ∙ c.loop-entry.invariant
