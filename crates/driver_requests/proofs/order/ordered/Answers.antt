use Rattle.std.proofs.Common.{◌<◌, All, length, sym, ap, subst, ◌∙◌}
use Rattle.std.proofs.lemmas.List.FromFn.{length-range_with_len}
use Rattle.std.proofs.lemmas.Result.{IfOk-weaker}
use Rattle.driver_requests.proofs.OrderCount.{range_within, wanted_length, wanted_within}
use Rattle.driver_requests.proofs.order.ordered.Goals as goal

pub returns-in-Some-clause-length : goal.returns-in-Some-clause-length
returns-in-Some-clause-length c = IfOk-weaker c.wanted_first.result _ _ (λ v is. ap length is ∙ wanted_length c.args.wanted.now c.args.count) c.wanted_first.ensures

pub returns-in-Some-clause-within : goal.returns-in-Some-clause-within
returns-in-Some-clause-within c = IfOk-weaker c.wanted_first.result _ _ (λ v is. subst (All (λ p. p < c.args.count)) (sym is) (wanted_within c.args.wanted.now c.args.count)) c.wanted_first.ensures

pub returns-in-None-clause-length : goal.returns-in-None-clause-length
returns-in-None-clause-length c = IfOk-weaker c.all_indices.result _ _ (λ v is. ap length is ∙ length-range_with_len 0 c.args.count) c.all_indices.ensures

pub returns-in-None-clause-within : goal.returns-in-None-clause-within
returns-in-None-clause-within c = IfOk-weaker c.all_indices.result _ _ (λ v is. subst (All (λ p. p < c.args.count)) (sym is) (range_within c.args.count)) c.all_indices.ensures
