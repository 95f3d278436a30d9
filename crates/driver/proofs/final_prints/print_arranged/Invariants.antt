use Rattle.std.proofs.Common.{◌≡◌, ◌+◌, ◌≤◌, [], drop, fold, length, map}
use Rattle.rendering.specs.Views.{style_context_view}
use Rattle.rendering_context.specs.Views.{state_view}
use Rattle.rendering_style.specs.Views.{citation_layout_view}
use Rattle.driver_blocks.specs.Views.{arranged_view}
use Rattle.driver.specs.FinalPrints.{arranged_in, placed_view, placed_with}
use Rattle.driver_rounds.specs.FirstPrints.{first_print}
use Rattle.driver_rounds.specs.Views.{numbered_cites_view}
use Rattle.driver.proofs.TakenTrees.{AreLeft}
use Rattle.driver.proofs.final_prints.print_arranged.Given as goal

abbrev pub invariant-loop-cite : goal.invariant-loop-cite
invariant-loop-cite g l =
    let answers = g.T.EntryLike.answers in
    let states = map state_view l.printing.entry_states.states.now in
    let prints = map first_print (numbered_cites_view answers (style_context_view l.printing.cites.context.now) l.printing.cites.request.now.items.items l.printing.cites.run.now) in
    let view_of = arranged_view (citation_layout_view l.printing.style.now) in
    record {
      same : fold (placed_with g.P.PartialEq.eq states) (placed_view answers states l.shown.items l.listed l.last) (arranged_in prints (map view_of (drop l.cite-index l.arranged)))
          ≡ fold (placed_with g.P.PartialEq.eq states) (placed_view answers states [] l.fn.listed l.fn.last) (arranged_in prints (map view_of l.arranged));
      long : length l.listed ≡ length l.fn.listed;
      cites : length l.printed ≡ length l.fn.printed;
      left : AreLeft l.printed l.fn.printed;
      effort : l.effort ≤ l.fn.effort + l.cite-index;
    }
