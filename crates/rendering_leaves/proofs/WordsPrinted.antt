-- One character more of a text whose numbers are put in a form.
use Rattle.std.proofs.Common.{◌≡◌, ℕ, Bool, List, ◌∷◌, ◌++◌, sym, ap, ◌∙◌, append_assoc}
use Rattle.rendering_leaves.specs.Words.{is_of_word, printed_at, words_after}
use Rattle.rendering_locale.specs.Locales.{Ordinals}
use Rattle.rendering_taxonomy.specs.declared.number.NumberForm.{NumberForm}

-- what is printed at a character, and then at those after it, is what is printed from it on
pub put_printed : (o : Ordinals) (form : NumberForm) (is_inside comes : Bool) (old new : List ℕ) (c : ℕ) (rest cs : List ℕ)
    → rest ≡ c ∷ cs → new ≡ old ++ printed_at o form is_inside c rest → comes ≡ is_of_word c
    → new ++ words_after o form comes cs ≡ old ++ words_after o form is_inside rest
put_printed o form is_inside comes old new c rest cs is e f =
    (λ i. e i ++ words_after o form (f i) cs)
    ∙ (append_assoc old (printed_at o form is_inside c rest) (words_after o form (is_of_word c) cs)
    ∙ (ap (λ (xs : List ℕ). old ++ (printed_at o form is_inside c xs ++ words_after o form (is_of_word c) cs)) is
    ∙ ap (λ (xs : List ℕ). old ++ words_after o form is_inside xs) (sym is)))
