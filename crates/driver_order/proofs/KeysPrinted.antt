-- Keys that are printed from a walk.
use Rattle.std.proofs.Common.{◌≡◌, ℕ, Bool, List, map, ap, ◌∙◌, None, Result, IfOk, Vec}
use Rattle.std.proofs.lemmas.Result.{IfOk-weaker}
use Rattle.rendering.specs.Purposes.{in_words}
use Rattle.rendering.specs.Words.{CallWords, words_of}
use Rattle.rendering_context.specs.Cites.{CiteProperties, year_suffix_of}
use Rattle.rendering_context.specs.Contexts.{Context, StyleContext}
use Rattle.rendering_entries.specs.Answers.{Answers}
use Rattle.rendering_sorting.specs.Views.{parts_view}
use Rattle.rendering_sorting.specs.declared.key.SortPart.{SortPart}
use Rattle.rendering_style.specs.Options.{NameOptions}
use Rattle.rendering_style.specs.Sorting.{SortKey}
use Rattle.rendering_style.specs.Styles.{Style}
use Rattle.driver_order.specs.EntryKeys.{inherited, keys_of, keys_with, part_by}

module _ (x : StyleContext) (a : Answers) (b : Bool) (p : CiteProperties) (words : CallWords) (suffix : List ℕ) where
  -- the keys of an entry, in the words of a style
  pub keys_given : {A E : Type 0} (r : Result (Vec SortPart A) E) (w : Answers → Context) (s : Style) (o : NameOptions) (ks : List SortKey)
      → words ≡ words_of x None → suffix ≡ year_suffix_of p.disambiguation
      → s ≡ x.style → ((k : Answers) → w k ≡ in_words x.style k p words suffix b)
      → o ≡ inherited b x.style → ks ≡ keys_of b x.style
      → IfOk r (λ v. parts_view v ≡ map (part_by (w a) s o) ks) → IfOk r (λ v. parts_view v ≡ keys_with b x a p)
  keys_given r w s o ks l y style context names keys given =
      IfOk-weaker r (λ v. parts_view v ≡ map (part_by (w a) s o) ks) (λ v. parts_view v ≡ keys_with b x a p)
      (λ v known.
      known
      ∙ ap (λ c. map (part_by c s o) ks) (context a)
      ∙ (λ i. map (part_by (in_words x.style a p (l i) (y i) b) (style i) (names i)) (keys i)))
      given
