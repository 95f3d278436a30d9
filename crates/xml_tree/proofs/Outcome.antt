-- The tree that a text spells and what is read of it are one.
use Rattle.std.proofs.Common.{ℕ, List, Result, Ok, Err, refl, sym, ◌∙◌}
use Rattle.std.specs.Prelude.{IfOk}
use Rattle.laws.specs.Results.{Gives, GivesBack}
use Rattle.laws.proofs.Results.{ok_is}
use Rattle.xml_tree.specs.Trees.{Element}
use Rattle.xml_tree.specs.Values.{Refusal}
use Rattle.xml_tree.specs.Building.{tree_of}
use Rattle.xml_tree.specs.Grammar.{Spells}
use Rattle.xml_tree.specs.Views.{refusal_of}
use Rattle.xml_tree.specs.declared.error.TreeError.{TreeError}
use Rattle.xml_tree.specs.declared.error.TreeError.TheVariants as errors
use Rattle.xml_tree.proofs.Spelled.{tree-spelled}
use Rattle.xml_tree.proofs.SpelledAgain.{tree_is}

pub found_is : {X : Type 0} (view : X → Element) (r : Result X TreeError) (cs : List ℕ) → Gives refusal_of view r (tree_of cs) → IfOk r (λ x. Spells (view x) cs)
found_is view (Ok x) cs e = tree-spelled cs (view x) e
found_is view (Err f) cs e = tt

pub only_this : {X : Type 0} (view : X → Element) (r : Result X TreeError) (cs : List ℕ) (e : Element) → Gives refusal_of view r (tree_of cs) → Spells e cs → GivesBack refusal_of view r e
only_this view (Ok x) cs e f is = ok_is {F = Refusal} (view x) e (sym f ∙ tree_is cs e is)
only_this view (Err errors.Memory) cs e f is = refl
only_this view (Err (errors.Fault fault left)) cs e f is =
    let never = sym f ∙ tree_is cs e is in
    absurd cc
