use Rattle.std.proofs.Common.{sym, ◌∙◌}
use Rattle.std.specs.Cow.{cow_value}
use Rattle.laws.proofs.Equality.{Shows-lists}
use Rattle.literature_values.proofs.Equality.{Shows-Person}
use Rattle.literature_values.specs.PersonViews.{lent_person_view}
use Rattle.literature_values.specs.contracts.person.PersonPartialEq.TheImpl as one_person
use Rattle.rendering_alike.proofs.equal.are_one_list.Goals as goal

pub returns : goal.returns
returns c =
    let d =
    Shows-lists (λ x y. one_person.ghosts.eq (cow_value x) (cow_value y)) lent_person_view (λ x y. Shows-Person (cow_value x) (cow_value y)) c.args.one.now.items c.args.other.now.items in
    (λ h. d.0 (sym c.eq.ensures ∙ h), λ e. c.eq.ensures ∙ d.1 e)
