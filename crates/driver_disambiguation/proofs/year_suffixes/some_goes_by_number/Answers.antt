use Rattle.std.proofs.Common.{◌∙◌, rules, tests}
use Rattle.std.proofs.lemmas.Iterator.{YieldsList-from_slice}
use Rattle.std.proofs.lemmas.Iterator.Search.{any_from_yields_List}
use Rattle.driver_names.specs.Views.{printed_view}
use Rattle.driver_disambiguation.proofs.Lists.{any-map}
use Rattle.driver_disambiguation.proofs.year_suffixes.some_goes_by_number.Goals as goal

pub returns : goal.returns
returns c =
    any_from_yields_List (λ s. (printed_view s.now).suffixes_by_number) _ _ _ c.any.ensures.ran (YieldsList-from_slice c.args.cites.now cc) (λ x b q k. search (rules, tests))
    ∙ any-map (λ s. printed_view s.now) (λ s. s.suffixes_by_number) c.args.cites.now
