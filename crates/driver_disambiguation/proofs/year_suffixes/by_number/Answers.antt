use Rattle.std.proofs.lemmas.Result.{IfOk-weaker}
use Rattle.driver_disambiguation.proofs.SuffixesSteps.{sorted_back}
use Rattle.driver_disambiguation.proofs.year_suffixes.by_number.Goals as goal

pub returns : goal.returns
returns c =
    IfOk-weaker c.sorted_by_keys.result _ _ (λ v is. sorted_back c.args.cites.now v.items c.in_ok-keyed.keyed.items c.in_ok-keyed.ensures is) c.sorted_by_keys.ensures
