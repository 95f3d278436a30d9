use Rattle.std.proofs.Common.{◌≡◌, Bool, IfOk, map, sym, subst, Vec}
use Rattle.std.specs.Global.{Global}
use Rattle.rendering_style.specs.Styles.{Citation}
use Rattle.driver_blocks.specs.Collapsing.{is_next_number, runs_collapsed}
use Rattle.driver_blocks.specs.Views.{arranged_view}
use Rattle.driver_blocks.specs.declared.cite.Arranged.{Arranged}
use Rattle.driver_blocks.proofs.numbers.collapse_numbers.Goals as goal

pub returns-then-locators_end_runs : goal.returns-then-locators_end_runs
returns-then-locators_end_runs c =
    subst (λ (b : Bool). IfOk c.collapse_without_locators.result (λ (v : Vec Arranged Global). (s : Citation) → map (arranged_view s) v.items ≡ runs_collapsed s (is_next_number b) (map (arranged_view s) c.args.cites.now)))
    (sym c.if-locators_end_runs.true)
    c.collapse_without_locators.ensures

pub returns-else-locators_end_runs : goal.returns-else-locators_end_runs
returns-else-locators_end_runs c =
    subst (λ (b : Bool). IfOk c.collapse_with_locators.result (λ (v : Vec Arranged Global). (s : Citation) → map (arranged_view s) v.items ≡ runs_collapsed s (is_next_number b) (map (arranged_view s) c.args.cites.now)))
    (sym c.if-locators_end_runs.false)
    c.collapse_with_locators.ensures
