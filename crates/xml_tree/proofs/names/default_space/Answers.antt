use Rattle.std.proofs.Common.{ℕ, List, Option, Result, Ok, sym, ap, subst}
use Rattle.laws.specs.Results.{Gives}
use Rattle.xml_tree.specs.Scope.{default_of}
use Rattle.xml_tree.specs.Values.{Refusal}
use Rattle.xml_tree.specs.Views.{refusal_of, space_view}
use Rattle.xml_tree.proofs.names.default_space.Goals as goal

-- the default namespace, if there is one
abbrev given : Option (Option (List ℕ)) → Result (Option (List ℕ)) Refusal
given o = Ok (default_of o)

pub returns-in-Some : goal.returns-in-Some
returns-in-Some c =
    subst (λ (r : Result (Option (List ℕ)) Refusal). Gives refusal_of space_view c.shared_space.result r) (ap given c.in-Some.ensures) c.shared_space.ensures

pub returns-in-None : goal.returns-in-None
returns-in-None c = ap given (sym c.in-None.ensures)
