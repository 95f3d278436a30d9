-- Whether variables have people.
use Rattle.std.proofs.Common.{◌≡◌, Bool, true, false, ◌||◌, List, [], ◌∷◌, refl}
use Rattle.std.specs.Prelude.{if◌then◌else◌}
use Rattle.laws.specs.Text.{is_filled}
use Rattle.rendering_context.specs.Answering as answering
use Rattle.rendering_context.specs.Answering.{all_people, people_answer, with_people}
use Rattle.rendering_context.specs.Contexts.{Context}
use Rattle.rendering_taxonomy.specs.declared.variable.NameVariable.{NameVariable}
use Rattle.rendering_taxonomy.specs.declared.variable.Variable.{Variable}
use Rattle.rendering_tree.specs.Metas.{Answered}

one_more : (b r : Bool) (x : Answered) (xs : List Answered) → r ≡ is_filled xs → (b || r) ≡ is_filled (if b then x ∷ xs else xs)
one_more true r x xs e = refl
one_more false r x xs e = e

-- one of them has people where all people are some
pub people_there : (c : Context) (suppressed : List Variable) (vs : List NameVariable) → answering.has_people c suppressed vs ≡ is_filled (all_people c suppressed vs)
people_there c suppressed [] = refl
people_there c suppressed (v ∷ vs) =
    one_more (with_people (people_answer c suppressed v, v)) (answering.has_people c suppressed vs) (people_answer c suppressed v, v) (all_people c suppressed vs) (people_there c suppressed vs)
