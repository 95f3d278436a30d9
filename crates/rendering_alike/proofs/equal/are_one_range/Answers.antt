use Rattle.std.proofs.Common.{sym, ◌∙◌}
use Rattle.laws.proofs.Equality.{Shows-options}
use Rattle.literature_numbers.specs.PageViews.{pages_view}
use Rattle.literature_numbers.specs.contracts.page_ranges.PageRanges.{the_row}
use Rattle.literature_numbers.specs.contracts.page_ranges.PageRangesPartialEq.TheImpl as page_ranges
use Rattle.literature_values.proofs.Equality.{Shows-MaybeTyped-PageRanges}
use Rattle.literature_values.specs.TypedViews.{typed_view}
use Rattle.literature_values.specs.contracts.maybe_typed.MaybeTypedPartialEq.TheImpl as maybe_typed
use Rattle.rendering_alike.proofs.equal.are_one_range.Goals as goal

pub returns : goal.returns
returns c =
    let d =
    Shows-options (maybe_typed.ghosts the_row page_ranges.ghosts page_ranges.dict).eq (typed_view pages_view) Shows-MaybeTyped-PageRanges c.args.one.now c.args.other.now in
    (λ h. d.0 (sym c.eq.ensures ∙ h), λ e. c.eq.ensures ∙ d.1 e)
