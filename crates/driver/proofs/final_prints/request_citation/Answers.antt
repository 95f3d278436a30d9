use Rattle.std.proofs.Common.{◌≡◌, [], fold, length, map, option_map, refl, sym, ap, ◌∙◌, arith}
use Rattle.std.proofs.lemmas.List.{length-map}
use Rattle.rendering.specs.Views.{style_context_view}
use Rattle.rendering_context.specs.Views.{state_view}
use Rattle.rendering_style.specs.Views.{citation_layout_view}
use Rattle.rendering.specs.Words.{joining_quotes}
use Rattle.driver_blocks.specs.Collapsing.{arranged}
use Rattle.driver_blocks.specs.Views.{arranged_view}
use Rattle.driver_names.specs.Views.{given_states_view, printed_view}
use Rattle.driver_requests.specs.SuffixViews.{suffix_view}
use Rattle.driver_requests.specs.Views.{context_of, request_view}
use Rattle.driver_citations.specs.Citations.{citation_of}
use Rattle.driver.specs.FinalPrints.{all_gathered, arranged_in, nameless, placed_view, placed_with}
use Rattle.driver.specs.Printing.{final_states_view}
use Rattle.driver.specs.Stages.{arranged_for}
use Rattle.driver_rounds.specs.FirstPrints.{first_print}
use Rattle.driver_rounds.specs.Views.{printed_by_states, numbered_cites_view}
use Rattle.driver.proofs.FinalPrintsSteps.{arranged_low}
use Rattle.driver_rounds.proofs.RequestsFound.{run_long}
use Rattle.driver.proofs.RequestFinals.{low_states, placed_in, request_count, request_placed, request_within, suffixes_long}
use Rattle.driver.proofs.TakenTrees.{nameless_low, placed_nameless}
use Rattle.driver.proofs.final_prints.request_citation.Given.{Over}
use Rattle.driver.proofs.final_prints.request_citation.Goals as goal

pub arranged_cites-requires-clause-printed : goal.arranged_cites-requires-clause-printed
arranged_cites-requires-clause-printed g c =
    let answers = g.T.EntryLike.answers in
    let r = c.args.printing.cites.request.now in
    let items = r.items.items in
    let run = c.args.printing.cites.run.now in
    let states = map state_view c.args.printing.entry_states.states.now in
    let ns = numbered_cites_view answers (context_of r) items run in
    let long : length (map printed_view c.args.printed.now) ≡ length items = ap length c.requires.printed ∙ length-map ns (printed_by_states states) ∙ run_long answers (context_of r) items run c.requires.printing.in_step.run in
    omega (arith, long, length-map c.args.printed.now printed_view)

pub arranged_cites-requires-clause-within : goal.arranged_cites-requires-clause-within
arranged_cites-requires-clause-within g c =
    let states = map state_view c.args.printing.entry_states.states.now in
    let long : length (map (option_map suffix_view) c.args.printing.entry_states.year_suffixes.now) ≡ length states = ap length c.args.printing.entry_states.suffixed ∙ suffixes_long states (given_states_view c.args.printing.entry_states.given.now) in
    λ k d less.
    omega (arith, c.requires.printing.within k d less, long, length-map c.args.printing.entry_states.year_suffixes.now (option_map suffix_view), length-map c.args.printing.entry_states.states.now state_view)

pub print_arranged-requires-clause-printed : goal.print_arranged-requires-clause-printed
print_arranged-requires-clause-printed g c =
    let p = c.args.printing in
    c.requires.printed ∙ ap (λ x. map (printed_by_states (map state_view p.entry_states.states.now)) (numbered_cites_view g.T.EntryLike.answers x p.cites.request.now.items.items p.cites.run.now)) (sym c.requires.printing.in_step.context)

pub print_arranged-requires-clause-indices : goal.print_arranged-requires-clause-indices
print_arranged-requires-clause-indices g c =
    let r = c.args.printing.cites.request.now in
    let items = r.items.items in
    let run = c.args.printing.cites.run.now in
    let ns = numbered_cites_view g.T.EntryLike.answers (context_of r) items run in
    let style = citation_layout_view c.args.printing.style.now in
    let year_suffixes = map (option_map suffix_view) c.args.printing.entry_states.year_suffixes.now in
    let printed = map printed_view c.args.printed.now in
    let gathered = all_gathered year_suffixes 0 items run printed in
    let view_of = arranged style c.has_purpose-some_purpose.result gathered in
    arranged_low style c.deref.result.now (map nameless view_of) (length (map first_print ns)) (length items) (ap (map (arranged_view style)) c.deref.ensures.value ∙ c.in_ok-arranged.ensures)
    (nameless_low (length (map first_print ns)) view_of
    (request_within g.T.EntryLike.answers (final_states_view c.args.printing.entry_states) r style c.has_purpose-some_purpose.result run year_suffixes printed gathered view_of (low_states c.args.printing.entry_states.states.now run c.requires.printing.within) c.args.printing.entry_states.suffixed c.requires.printed refl refl))
    (length-map ns first_print ∙ run_long g.T.EntryLike.answers (context_of r) items run c.requires.printing.in_step.run)

-- the cites of the request, gathered, arranged and appended
request_done : (g : Over) (c : goal.After-drop-arranged-2 g)
    → (placed_view g.T.EntryLike.answers (map state_view c.args.printing.entry_states.states.now) c.in_ok-shown.shown.items c.print_arranged.new.listed c.print_arranged.new.last
    ≡ placed_in g.P.PartialEq.eq (map state_view c.args.printing.entry_states.states.now) (placed_view g.T.EntryLike.answers (map state_view c.args.printing.entry_states.states.now) [] c.args.listed.now c.args.last.now)
    (arranged_for (final_states_view c.args.printing.entry_states) (request_view (λ e. 0) g.T.EntryLike.answers c.args.printing.cites.request.now, map first_print (numbered_cites_view g.T.EntryLike.answers (context_of c.args.printing.cites.request.now) c.args.printing.cites.request.now.items.items c.args.printing.cites.run.now))))
    × (length c.deref.result.now ≡ length c.args.printing.cites.request.now.items.items)
request_done g c =
    let answers = g.T.EntryLike.answers in
    let same = g.P.PartialEq.eq in
    let r = c.args.printing.cites.request.now in
    let x = style_context_view c.args.printing.cites.context.now in
    let items = r.items.items in
    let run = c.args.printing.cites.run.now in
    let t = final_states_view c.args.printing.entry_states in
    let ms = map state_view c.args.printing.entry_states.states.now in
    let style = citation_layout_view c.args.printing.style.now in
    let some_purpose = c.has_purpose-some_purpose.result in
    let year_suffixes = map (option_map suffix_view) c.args.printing.entry_states.year_suffixes.now in
    let printed = map printed_view c.args.printed.now in
    let prints = map first_print (numbered_cites_view answers x items run) in
    let gathered = all_gathered year_suffixes 0 items run printed in
    let view_of = arranged style some_purpose gathered in
    let first = placed_view answers ms [] c.args.listed.now c.args.last.now in
    let low = low_states c.args.printing.entry_states.states.now run c.requires.printing.within in
    let is_viewed : map (arranged_view style) c.deref.result.now ≡ map nameless view_of = ap (map (arranged_view style)) c.deref.ensures.value ∙ c.in_ok-arranged.ensures in
    let is_style : style ≡ (context_of r).style.citation = c.requires.printing.style in
    let placed = c.in_ok-shown.ensures.placed ∙ ap (λ xs. fold (placed_with same ms) first (arranged_in prints xs)) is_viewed ∙ placed_nameless same ms prints view_of first in (
      request_placed answers t r style some_purpose run year_suffixes printed gathered view_of low c.args.printing.entry_states.suffixed c.requires.printed refl refl x c.requires.printing.in_step.context is_style c.has_purpose-some_purpose.ensures same ms
          refl (λ ks. placed_view answers ks c.in_ok-shown.shown.items c.print_arranged.new.listed c.print_arranged.new.last) (λ ks. placed_view answers ks [] c.args.listed.now c.args.last.now)
          placed,
      sym (length-map c.deref.result.now (arranged_view style)) ∙ ap length is_viewed ∙ length-map view_of nameless ∙ request_count answers t r style some_purpose run year_suffixes printed gathered view_of low c.args.printing.entry_states.suffixed c.requires.printed refl refl c.requires.printing.in_step.run,
    )

pub returns-clause-citation : goal.returns-clause-citation
returns-clause-citation g c =
    let is_style = c.requires.printing.style in
    let quotes = c.joining_quotes-quotes.ensures ∙ ap joining_quotes c.requires.printing.in_step.context in
    let tree = c.in_ok-citation.ensures ∙ (λ j. citation_of (quotes j) (is_style j).layout (c.has_purpose-some_purpose.ensures j) ((ap (λ p. p.shown) (request_done g c).0) j)) in
    λ j. record { note_number = c.note_number.ensures j; tree = tree j }

pub returns-clause-listed : goal.returns-clause-listed
returns-clause-listed g c = ap (λ p. p.listed) (request_done g c).0

pub returns-clause-last : goal.returns-clause-last
returns-clause-last g c = ap (λ p. p.last) (request_done g c).0

pub returns-clause-effort : goal.returns-clause-effort
returns-clause-effort g c = omega (arith, c.in_ok-shown.ensures.effort, (request_done g c).1, c.requires.printing.in_step.run)
