use Rattle.std.proofs.Common.{nat_cmp, ◌∙◌, rules, tests}
use Rattle.std.specs.BTreeSet.{contains}
use Rattle.std.proofs.lemmas.Iterator.{YieldsList-from_slice}
use Rattle.std.proofs.lemmas.Iterator.Search.{any_from_yields_List}
use Rattle.driver_disambiguation.proofs.Gathering.{any_given_to_class}
use Rattle.driver_disambiguation.proofs.round.is_given_to_class.Goals as goal

pub returns : goal.returns
returns c =
    λ gs same. any_from_yields_List (λ s. contains nat_cmp c.args.entries.now s.now.cite.entry) _ _ _ c.any.ensures.ran (YieldsList-from_slice c.args.class.now cc)
    (λ x b q k. search (rules, tests))
    ∙ any_given_to_class gs (contains nat_cmp c.args.entries.now) same c.args.class.now
