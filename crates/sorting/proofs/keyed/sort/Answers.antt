use Rattle.std.proofs.Common.{◌≡◌, is_lt, rules, ap}
use Rattle.std.proofs.lemmas.List.Sorted.{answers_always, ranks_by}
use Rattle.sorting.specs.Keyed.{by_key}
use Rattle.sorting.specs.Sorted.{is_less}
use Rattle.sorting.proofs.StableSorts.{sorts_are_one}
use Rattle.sorting.proofs.keyed.sort.Goals as goal

pub returns : goal.returns
returns g c =
    let test = is_less (by_key g.K.Ord.cmp) in
    let order = ranks_by g.met.K.Ord.total (λ k. k.key) in
    let answers = answers_always _ _ _ (λ f a r f' k. let same : r ≡ g.K.Ord.cmp a.0.now.key a.1.0.now.key = search rules in ap is_lt same) in
    sorts_are_one test order _ _ (c.in_ok-sort_by.ensures.sorted test order answers) (c.sort_by.ensures.stable test order answers)
