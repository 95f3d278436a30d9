use Rattle.std.proofs.Common.{ℕ, List, ◌++◌, sym, ap, ◌∙◌}
use Rattle.std.specs.List.{flat_map}
use Rattle.std.proofs.lemmas.List.Folds.{flat_map-map}
use Rattle.std.proofs.lemmas.Result.{on_ok_weaker}
use Rattle.laws.specs.Text.{characters}
use Rattle.literature_numbers.specs.PageViews.{page_part_view}
use Rattle.rendering_ranges.specs.Ranges.{part_in}
use Rattle.rendering_ranges.proofs.ranges.push_ranges.Goals as goal

pub returns : goal.returns
returns c =
    let before : List ℕ = characters c.args.out.now in
    on_ok_weaker c.push_parts.result
    (λ e. e
    ∙ (λ i. before ++ flat_map (λ p. part_in c.args.format (page_part_view p)) (c.deref.ensures.value i))
    ∙ ap (λ (cs : List ℕ). before ++ cs) (sym (flat_map-map (part_in c.args.format) page_part_view c.args.pages.now.ranges.items)))
    c.push_parts.ensures
