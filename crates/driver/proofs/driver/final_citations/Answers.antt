use Rattle.std.proofs.Common.{◌≡◌, ℕ, length, map, option_map, subst, sym, ap, ◌∙◌}
use Rattle.std.proofs.lemmas.List.{with_items_is}
use Rattle.rendering_context.specs.Views.{state_view}
use Rattle.driver_disambiguation.specs.SuffixesFound.{suffixes_by}
use Rattle.driver_names.specs.Views.{given_states_view}
use Rattle.driver_requests.specs.SuffixViews.{suffix_view}
use Rattle.driver_rounds.specs.CitesInStep.{all_cites}
use Rattle.driver.specs.Printing.{document_citations, document_listed, entries_listed}
use Rattle.driver_rounds.specs.Rounding.{AreWithin}
use Rattle.driver_rounds.specs.Views.{printed_by_states}
use Rattle.driver.proofs.driver.final_citations.Goals as goal

pub invariant_of-finals : goal.invariant_of-finals
invariant_of-finals g c =
    let states = c.deref.ensures.value ∙ sym c.deref-3.ensures.value in
    let given = c.deref-2.ensures.value ∙ sym c.deref-4.ensures.value in
    record { suffixed = ap (map (option_map suffix_view)) c.deref-5.ensures.value ∙ c.in_ok-year_suffixes.ensures ∙ (λ j. suffixes_by (map state_view (states j)) (given_states_view (given j))) }

pub citations-requires-clause-printed : goal.citations-requires-clause-printed
citations-requires-clause-printed g c =
    let P : ℕ → Type 0 = λ n. AreWithin n c.args.cites.runs.now in
    let states = sym c.deref-3.ensures.value in
    record {
      in_step = c.requires.in_step;
      within = subst P (ap length states) c.requires.within;
      usages = c.requires.usages;
      printed = c.into_cites-printed.ensures ∙ c.requires.printed ∙ ap (λ ms. map (printed_by_states (map state_view ms)) (all_cites g.T.EntryLike.answers c.args.cites)) states;
    }

pub returns-clause-citations : goal.returns-clause-citations
returns-clause-citations g c = λ index.
    c.in_ok-citations.ensures.citations index
    ∙ (λ j. document_citations g.P.PartialEq.eq g.T.EntryLike.answers index (record { states = map state_view (c.deref-3.ensures.value j); given = given_states_view (c.deref-4.ensures.value j) }) c.args.cites)

pub returns-clause-listed : goal.returns-clause-listed
returns-clause-listed g c = λ index.
    let answers = g.T.EntryLike.answers in
    let long : length c.citations.new.listed ≡ c.in_ok-listed.listed.len = c.citations.auto.listed ∙ ap length c.deref_mut.ensures.value ∙ sym c.in_ok-listed.listed.ok.0 in
    let filled = with_items_is c.in_ok-listed.listed c.citations.new.listed long in
    (λ j. entries_listed answers (sym c.deref-3.ensures.value j) (filled j))
    ∙ c.in_ok-citations.ensures.listed index
    ∙ (λ j. document_listed g.P.PartialEq.eq answers index (record { states = map state_view (c.deref-3.ensures.value j); given = given_states_view (c.deref-4.ensures.value j) }) (length (c.deref-3.ensures.value j)) c.args.cites)
