use Rattle.std.proofs.Common.{◌≡◌, string_bytes, subst, ◌∙◌}
use Rattle.biblatex.specs.Fronts.{IsFront}
use Rattle.biblatex.proofs.name.Name.new.Goals as goal

pub invariant_of-result : goal.invariant_of-result
invariant_of-result c =
    let same : c.as_bytes.result.now ≡ string_bytes c.args.text = c.as_bytes.ensures.value ∙ c.as_str.ensures.value in
    record { begins = subst (IsFront c.front_of-front.result) same (c.front_of-front.ensures.number, c.front_of-front.ensures.bytes) }
