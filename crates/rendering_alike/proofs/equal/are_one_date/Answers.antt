use Rattle.std.proofs.Common.{sym, ◌∙◌}
use Rattle.std.specs.Cow.{cow_value}
use Rattle.laws.proofs.Equality.{Shows-options}
use Rattle.literature_values.proofs.DatesEquality.{Shows-Date}
use Rattle.literature_values.specs.contracts.date.DatePartialEq.TheImpl as date
use Rattle.rendering_alike.proofs.equal.are_one_date.Goals as goal

pub returns : goal.returns
returns c =
    let d =
    Shows-options (λ x y. date.ghosts.eq (cow_value x) (cow_value y)) cow_value (λ x y. Shows-Date (cow_value x) (cow_value y)) c.args.one.now c.args.other.now in
    (λ h. d.0 (sym c.eq.ensures ∙ h), λ e. c.eq.ensures ∙ d.1 e)
