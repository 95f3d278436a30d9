use Rattle.std.proofs.Common.{◌∙◌, rules, tests}
use Rattle.std.proofs.lemmas.Iterator.{YieldsList-from_slice}
use Rattle.std.proofs.lemmas.Iterator.Search.{any_from_yields_List}
use Rattle.rendering_context.specs.Cites.{may_change}
use Rattle.driver_names.specs.Views.{printed_view}
use Rattle.driver_disambiguation.proofs.Lists.{any-map}
use Rattle.driver_disambiguation.proofs.branches.some_may_change.Goals as goal

pub returns : goal.returns
returns c =
    any_from_yields_List (λ s. may_change (printed_view s.now).state) _ _ _ c.any.ensures.ran (YieldsList-from_slice c.args.cites.now cc) (λ x b q k. search (rules, tests))
    ∙ any-map (λ s. printed_view s.now) (λ s. may_change s.state) c.args.cites.now
