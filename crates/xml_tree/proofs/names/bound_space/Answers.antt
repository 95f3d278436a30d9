use Rattle.std.proofs.Common.{ℕ, List, Option, Result, sym, ap, subst}
use Rattle.laws.specs.Results.{Gives}
use Rattle.xml_tree.specs.Scope.{or_unbound}
use Rattle.xml_tree.specs.Values.{Refusal}
use Rattle.xml_tree.specs.Views.{refusal_of, space_view}
use Rattle.xml_tree.proofs.names.bound_space.Goals as goal

pub returns-in-Some : goal.returns-in-Some
returns-in-Some c =
    subst (λ (r : Result (Option (List ℕ)) Refusal). Gives refusal_of space_view c.shared_space.result r) (ap (or_unbound c.args.left) c.in-Some.ensures) c.shared_space.ensures

pub returns-in-None : goal.returns-in-None
returns-in-None c = ap (or_unbound c.args.left) (sym c.in-None.ensures)
