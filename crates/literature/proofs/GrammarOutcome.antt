-- What a text spells and what is read of it are one.
use Rattle.std.proofs.Common.{◌≡◌, ℕ, List, Option, Some, None, Result, Ok, Err, refl, sym, ◌∙◌}
use Rattle.std.specs.Prelude.{IfOk}
use Rattle.laws.proofs.Results.{ok_is}
use Rattle.literature.specs.Trees.{Tree}
use Rattle.literature.specs.Reading.{Fault, selector_of}
use Rattle.literature.specs.Grammar.{IsSelector}
use Rattle.literature.specs.Views.{selector_view, fault}
use Rattle.laws.specs.Results.{EndsWith, GivesBack, Gives}
use Rattle.literature.specs.declared.selector.Selector.{Selector}
use Rattle.literature.specs.declared.selector_error.SelectorError.{SelectorError}
use Rattle.literature.proofs.GrammarAgain.{selector-again}
use Rattle.literature.proofs.GrammarTakes.{selector-takes}

pub found_is : (r : Result Selector SelectorError) (cs : List ℕ) → Gives fault selector_view r (selector_of cs) → IfOk r (λ s. IsSelector cs (selector_view s))
found_is (Ok s) cs e = selector-takes cs (selector_view s) e
found_is (Err e) cs h = tt

no_fault : (o : Option Fault) (r : Result Tree Fault) (x : Tree) → EndsWith o r → r ≡ Ok x → o ≡ None
no_fault None r x h e = refl
no_fault (Some f) r x h e = let never = sym h ∙ e in absurd cc

pub only_this : (r : Result Selector SelectorError) (cs : List ℕ) (x : Tree) → Gives fault selector_view r (selector_of cs) → IsSelector cs x → GivesBack fault selector_view r x
only_this (Ok s) cs x e is = ok_is {F = Fault} (selector_view s) x (sym e ∙ selector-again cs x is)
only_this (Err e) cs x h is = no_fault (fault e) (selector_of cs) x h (selector-again cs x is)
