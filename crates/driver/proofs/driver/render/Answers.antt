use Rattle.std.proofs.Common.{ℕ, ◌<◌, All, List, length, map, subst, sym, ap, ◌∙◌}
use Rattle.std.specs.Option.{option_map}
use Rattle.std.proofs.lemmas.List.{length-map}
use Rattle.std.proofs.lemmas.List.FromFn.{length-map-range_with_len}
use Rattle.rendering_context.specs.Views.{state_view}
use Rattle.driver_bibliography.specs.Substitution.{Printed}
use Rattle.driver.specs.FinalPrints.{first_listed, listed_view}
use Rattle.driver.specs.Listing.{bibliography_from, item_listed, key_printed}
use Rattle.driver.specs.Printing.{document_finals, entries_listed}
use Rattle.driver_rounds.specs.Rounding.{round_states_view}
use Rattle.driver_rounds.specs.FirstPrints.{flattened}
use Rattle.driver_rounds.specs.Views.{bibliography_context_of}
use Rattle.driver.proofs.ListedSteps.{firsts_stand, made_are}
use Rattle.driver.proofs.driver.render.Goals as goal

pub bibliography-requires-clause-order : goal.bibliography-requires-clause-order
bibliography-requires-clause-order g c =
    let P : ℕ → Type 0 = λ n. All (λ p. p < n) c.args.order.now in
    subst P (ap length (sym (c.deref.ensures.value ∙ c.in_ok-citations.ensures.states))) c.requires.order

pub bibliography-requires-clause-listed : goal.bibliography-requires-clause-listed
bibliography-requires-clause-listed g c =
    let answers = g.T.EntryLike.answers in
    let out = c.in_ok-citations.field-0 in
    let fs = flattened (document_finals g.P.PartialEq.eq answers (λ e. 0) (round_states_view c.args.entry_states).0 c.args.cites) in
    ap length c.deref-2.ensures.value
    ∙ sym (length-map out.listed.items (option_map (listed_view answers (map state_view out.states.items))))
    ∙ ap length (c.in_ok-citations.ensures.listed (λ e. 0))
    ∙ length-map-range_with_len (first_listed fs) 0 (length c.args.entry_states.states.items)
    ∙ sym (ap length (c.deref.ensures.value ∙ c.in_ok-citations.ensures.states))

pub bibliography-requires-clause-own : goal.bibliography-requires-clause-own
bibliography-requires-clause-own g c =
    let answers = g.T.EntryLike.answers in
    let fs = flattened (document_finals g.P.PartialEq.eq answers (λ e. 0) (round_states_view c.args.entry_states).0 c.args.cites) in
    firsts_stand fs (length c.args.entry_states.states.items) (entries_listed answers c.deref.result.now c.deref-2.result.now)
    ((λ k. entries_listed answers (c.deref.ensures.value k) (c.deref-2.ensures.value k)) ∙ c.in_ok-citations.ensures.listed (λ e. 0))

pub returns-clause-rendered : goal.returns-clause-rendered
returns-clause-rendered g c = λ index.
    let answers = g.T.EntryLike.answers in
    let x = bibliography_context_of c.args.request.now in
    let fs = flattened (document_finals g.P.PartialEq.eq answers index (round_states_view c.args.entry_states).0 c.args.cites) in
    let ls = entries_listed answers c.deref.result.now c.deref-2.result.now in
    let listed = (λ k. entries_listed answers (c.deref.ensures.value k) (c.deref-2.ensures.value k)) ∙ c.in_ok-citations.ensures.listed index in
    let listing = c.in_ok-bibliography.ensures.bibliography
    ∙ ap (λ (ts : List Printed). option_map (λ b. bibliography_from b ts) x.style.bibliography) (made_are (item_listed x) fs (length c.args.entry_states.states.items) ls c.args.order.now listed c.requires.order) in
    λ k. record { bibliography = listing k; citations = c.in_ok-citations.ensures.citations index k }

pub returns-clause-keys : goal.returns-clause-keys
returns-clause-keys g c = λ index.
    let answers = g.T.EntryLike.answers in
    let x = bibliography_context_of c.args.request.now in
    let fs = flattened (document_finals g.P.PartialEq.eq answers index (round_states_view c.args.entry_states).0 c.args.cites) in
    let ls = entries_listed answers c.deref.result.now c.deref-2.result.now in
    let listed = (λ k. entries_listed answers (c.deref.ensures.value k) (c.deref-2.ensures.value k)) ∙ c.in_ok-citations.ensures.listed index in
    c.in_ok-bibliography.ensures.keys ∙ ap (λ (ks : List (List ℕ)). option_map (λ b. ks) x.style.bibliography) (made_are (key_printed x) fs (length c.args.entry_states.states.items) ls c.args.order.now listed c.requires.order)
