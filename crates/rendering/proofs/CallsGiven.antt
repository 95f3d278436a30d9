-- What calls give.
use Rattle.std.proofs.Common.{◌≡◌, ℕ, Bool, List, ap, ◌∙◌, Option, Result, IfOk}
use Rattle.std.proofs.lemmas.Result.{IfOk-weaker}
use Rattle.rendering_context.specs.Cites.{CiteProperties, year_suffix_of}
use Rattle.rendering_context.specs.Contexts.{Context}
use Rattle.rendering_entries.specs.Answers.{Answers}
use Rattle.rendering_leaves.specs.NodeSettings.{State}
use Rattle.rendering_style.specs.Styles.{Style}
use Rattle.rendering_context.specs.Contexts.{StyleContext}
use Rattle.rendering.specs.Purposes.{Rendered, context_of, in_words}
use Rattle.rendering.specs.Views.{rendering_view}
use Rattle.rendering.specs.Words.{CallWords, words_of}
use Rattle.rendering.specs.declared.rendered.Rendering.{Rendering}

-- what is given of what was appended from the start on
pub given_appended : {E : Type 0} (g : State → Rendered) (f : State → State) (start first now : State) (r : Result Rendering E) → first ≡ start → now ≡ f first
    → IfOk r (λ v. rendering_view v ≡ g now) → IfOk r (λ v. rendering_view v ≡ g (f start))
given_appended g f start first now r e h given =
    IfOk-weaker r (λ v. rendering_view v ≡ g now) (λ v. rendering_view v ≡ g (f start)) (λ v known. known ∙ ap g (h ∙ ap f e)) given

module _ {E : Type 0} (x : StyleContext) (a : Answers) (p : CiteProperties) (b : Bool) (words : CallWords) (year_suffix : List ℕ) where
  -- what a call gives is what is given of what it prints from
  pub given_call : (f : Style → Context → Rendered) (s : Style) (c : Answers → Context) (r : Result Rendering E)
      → s ≡ x.style → ((k : Answers) → c k ≡ in_words x.style k p words year_suffix b)
      → IfOk r (λ v. rendering_view v ≡ f s (c a)) → IfOk r (λ v. rendering_view v ≡ f x.style (in_words x.style a p words year_suffix b))
  given_call f s c r style context given =
      IfOk-weaker r (λ v. rendering_view v ≡ f s (c a)) (λ v. rendering_view v ≡ f x.style (in_words x.style a p words year_suffix b))
      (λ v known. known ∙ (λ i. f (style i) (context a i))) given

  -- what is given in the words of a language
  pub given_words : (f : Context → Rendered) (locale : Option (List ℕ)) (r : Result Rendering E)
      → words ≡ words_of x locale → year_suffix ≡ year_suffix_of p.disambiguation
      → IfOk r (λ v. rendering_view v ≡ f (in_words x.style a p words year_suffix b)) → IfOk r (λ v. rendering_view v ≡ f (context_of x locale b a p))
  given_words f locale r e k given =
      IfOk-weaker r (λ v. rendering_view v ≡ f (in_words x.style a p words year_suffix b)) (λ v. rendering_view v ≡ f (context_of x locale b a p))
      (λ v known. known ∙ (λ i. f (in_words x.style a p (e i) (k i) b))) given
