use Rattle.std.proofs.Common.{◌≡◌, length, ap₂, ◌∙◌, rules}
use Rattle.std.specs.Prelude.{fold}
use Rattle.std.specs.List.{range_with_len}
use Rattle.driver_requests.specs.Indices.{put_last}
use Rattle.driver_requests.proofs.OrderPut.{wanted_then_all}
use Rattle.driver_requests.proofs.order.wanted_first.Goals as goal

pub returns : goal.returns
returns c =
    let ws = c.args.wanted.now in
    let first : length c.deref_mut.result.now ≡ c.args.count = search rules in
    let rest : length c.deref_mut-2.result.now ≡ c.args.count = search rules in
    let wanted = c.in_ok-put_each.ensures.order ∙ ap₂ (λ n es. fold (put_last n) es ws) first c.in_ok-order.ensures.items in
    c.in_ok-put_rest.ensures ∙ ap₂ (λ n es. fold (put_last n) es (range_with_len 0 n)) rest wanted ∙ wanted_then_all c.args.count ws
