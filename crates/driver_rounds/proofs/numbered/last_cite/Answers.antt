use Rattle.std.proofs.Common.{◌≡◌, ◌+◌, ◌-◌, length, ap, ◌∙◌, get_or, rules}
use Rattle.driver_rounds.specs.Numbering.{last_item}
use Rattle.driver_rounds.proofs.NumberedSteps.{last_there}
use Rattle.driver_rounds.proofs.numbered.last_cite.Goals as goal

pub returns : goal.returns
returns g c =
    let items = c.args.request.now.items.items in
    let n = c.len-count.result - 1 in
    let many : length items ≡ n + 1 = search rules in
    last_there g.T.EntryLike.answers (last_item g.T.EntryLike.answers c.args.last) items c.args.indices.now c.index-items-index.result n c.requires many
    (c.index-items-index.is ∙ ap (λ xs. get_or xs n c.index-items-index.result) c.as_slice-items.ensures.value)
