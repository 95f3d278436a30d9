use Rattle.std.proofs.Common.{[], ◌∷◌, ℕ, ◌≤◌, length, map, take, get_or, ap, ◌∙◌, arith}
use Rattle.std.specs.List.{enumerate_from}
use Rattle.std.proofs.lemmas.List.{take_all}
use Rattle.std.proofs.lemmas.List.FromFn.{length-enumerate_from}
use Rattle.driver_requests.specs.History.{cited_in, facts_from}
use Rattle.driver_requests.specs.HistoryViews.{facts_view, history_at}
use Rattle.driver_requests.proofs.HistorySteps.{cited_more, fact_more}
use Rattle.driver_requests.proofs.history.cite_each.Goals as goal

pub loop-entry-preserved : goal.loop-entry-preserved
loop-entry-preserved c =
    let ps = c.args.entries.now in
    let i = c.loop-entry.entry-index in
    let note = c.args.note in
    let old = c.args.histories.now in
    let here = c.loop-entry-test.true in (
      ap (λ fs. map facts_view fs) c.in_ok-push.ensures.items
          ∙ fact_more facts_view (λ (p : ℕ × ℕ). facts_from note.index note.number note.distance (cited_in (take p.0 ps) p.1 (history_at old p.1))) ps i c.loop-entry.facts.items c.facts.result here c.loop-entry.invariant.0
          (c.facts.ensures ∙ ap (facts_from note.index note.number note.distance) (c.history_at-history.ensures ∙ c.loop-entry.invariant.1 (get_or ps i 0))),
      λ q. c.cite.ensures q ∙ ap (cited_in (get_or ps i 0 ∷ []) q) (c.loop-entry.invariant.1 q) ∙ cited_more ps i q (history_at old q) here,
    )

pub returns-clause-facts : goal.returns-clause-facts
returns-clause-facts c =
    let ps = c.args.entries.now in
    let note = c.args.note in
    let i = c.loop-entry.entry-index in
    let over : length ps ≤ i = omega (arith, c.loop-entry-test.false) in
    let past : length (enumerate_from 0 ps) ≤ i = rw (length-enumerate_from 0 ps) over in
    c.loop-entry.invariant.0
    ∙ ap (map (λ (p : ℕ × ℕ). facts_from note.index note.number note.distance (cited_in (take p.0 ps) p.1 (history_at c.args.histories.now p.1)))) (take_all i (enumerate_from 0 ps) past)
