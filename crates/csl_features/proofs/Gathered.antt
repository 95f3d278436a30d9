-- What is gathered of an element that is not passed over: the element itself, and then those in it.
use Rattle.std.proofs.Common.{◌≡◌, Bool, false, cond, List, [], ◌∷◌, ◌++◌, sym, ap, ◌∙◌, append_assoc}
use Rattle.xml_tree.specs.Trees.{Element, Tagged, Content}
use Rattle.xml_schema.specs.Faults.{name_of}
use Rattle.csl_words.specs.Elements.{content_in}
use Rattle.csl_locales.specs.Words.{is_passed}
use Rattle.csl_features.specs.Features.{elements, elements_in}

opened : (e : Element) → is_passed (name_of e) ≡ false → e ∷ elements_in (content_in e) ≡ elements e
opened (Tagged left n attributes content) is =
    sym (ap (λ (b : Bool). cond b [] (Tagged left n attributes content ∷ elements_in content)) is)

pub gathered : (e : Element) (inside : Content) (old own all : List Element) → is_passed (name_of e) ≡ false → content_in e ≡ inside → own ≡ old ++ e ∷ [] → all ≡ own ++ elements_in inside
    → all ≡ old ++ elements e
gathered e inside old own all is same by_itself more =
    more
    ∙ (ap (λ (es : List Element). es ++ elements_in inside) by_itself
    ∙ (append_assoc old (e ∷ []) (elements_in inside)
    ∙ (ap (λ (c : Content). old ++ e ∷ elements_in c) (sym same) ∙ ap (λ (es : List Element). old ++ es) (opened e is))))
