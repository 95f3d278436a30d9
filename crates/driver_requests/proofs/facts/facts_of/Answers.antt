use Rattle.std.proofs.Common.{◌≡◌, ℕ, map, ap, ◌∙◌, subst₂, Option, IfOk, OnOk}
use Rattle.driver_requests.specs.History.{facts_in, after_request}
use Rattle.driver_requests.specs.HistoryViews.{facts_view, history_at}
use Rattle.driver_requests.proofs.facts.facts_of.Goals as goal

pub returns-clause-facts : goal.returns-clause-facts
returns-clause-facts g c =
    let distance = ap (λ s. s.citation.near_note_distance) (c.parts.ensures.style ∙ c.style.ensures) in
    subst₂ (λ (n : Option ℕ) (d : ℕ). IfOk c.facts_in.result (λ f. map facts_view f.items ≡ facts_in c.args.index (record { number = n; distance = d; entries = c.args.indices.now }) (history_at c.args.histories.now)))
    c.note_number.ensures distance c.facts_in.ensures.facts

pub returns-clause-after_request : goal.returns-clause-after_request
returns-clause-after_request g c =
    let distance = ap (λ s. s.citation.near_note_distance) (c.parts.ensures.style ∙ c.style.ensures) in
    subst₂ (λ (n : Option ℕ) (d : ℕ). OnOk c.facts_in.result ((q : ℕ) → history_at c.facts_in.new.histories q ≡ after_request c.args.index (record { number = n; distance = d; entries = c.args.indices.now }) q (history_at c.args.histories.now q)))
    c.note_number.ensures distance c.facts_in.ensures.after_request
