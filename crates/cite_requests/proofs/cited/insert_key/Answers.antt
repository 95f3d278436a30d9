use Rattle.std.proofs.Common.{cond, sym, true, ◌∙◌}
use Rattle.std.proofs.lemmas.Map.Text.{is_eq-slice_cmp}
use Rattle.cite_requests.proofs.CitedKeys.{has_found}
use Rattle.cite_requests.proofs.cited.insert_key.Goals as goal

pub returns : goal.returns
returns c = λ k.
    has_found c.insert.new.self k
    ∙ c.in_ok-insert.ensures.updates.0 k
    ∙ (λ j. cond (is_eq-slice_cmp c.args.key.now k.now j) true (sym (has_found c.args.keys.now k) j))
