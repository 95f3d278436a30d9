-- What is given of the answers of an entry is given of all answers that are alike to them.
use Rattle.std.proofs.Common.{◌≡◌, ℕ, List, ap, Option, Some, Result, Ok, Err, IfOk, ◌∙◌, true}
use Rattle.std.specs.Option.{option_map}
use Rattle.rendering_context.specs.Cites.{CiteProperties}
use Rattle.rendering_context.specs.Contexts.{StyleContext}
use Rattle.rendering_entries.specs.Answers.{Answers}
use Rattle.rendering_style.specs.Styles.{Bibliography}
use Rattle.rendering_taxonomy.specs.declared.cite.CitePurpose.{CitePurpose}
use Rattle.rendering_taxonomy.specs.declared.cite.CollapseVerdict.{CollapseVerdict}
use Rattle.rendering.specs.Alike.{ForAlikeAnswers}
use Rattle.rendering.specs.Purposes.{Rendered, bibliography, citation, context_of, item_of}
use Rattle.rendering.proofs.CitesAlike.{cites_alike, items_alike}

module _ (x : StyleContext) (a : Answers) (p : CiteProperties) (locale : Option (List ℕ)) where
  pub cite_for_alike : {R F : Type 0} (view : R → Rendered) (purpose : Option CitePurpose) (verdict : Option CollapseVerdict) (r : Result R F) → IfOk r (λ v. view v ≡ citation x a p locale purpose verdict)
      → ForAlikeAnswers x.style a (λ b. IfOk r (λ v. view v ≡ citation x b p locale purpose verdict))
  cite_for_alike view purpose verdict (Ok v) h = λ b alike. h ∙ cites_alike x a b p locale purpose verdict alike
  cite_for_alike view purpose verdict (Err f) h = λ b alike. tt

  pub item_for_alike : (y : Bibliography) (r : Rendered) → Some y ≡ x.style.bibliography → r ≡ item_of x.style (context_of x locale true a p) y
      → ForAlikeAnswers x.style a (λ b. Some r ≡ bibliography x b p locale)
  item_for_alike y r e h = λ b alike.
      ap Some h ∙ ap (option_map (item_of x.style (context_of x locale true a p))) e ∙ items_alike x a b p locale alike
