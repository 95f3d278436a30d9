-- Each side of a range prints all parts that it does not share, in their order.
use Rattle.std.proofs.Common.{◌≡◌, Bool, true, false, cond, List, [], ◌∷◌, ◌++◌, filter, map, reverse, refl, sym, ap, ◌∙◌}
use Rattle.std.proofs.lemmas.List.{map-append, reverse-append, reverse-reverse}
use Rattle.std.proofs.lemmas.List.Elements.{filter-append}
use Rattle.literature_values.specs.declared.date.Date.{Date}
use Rattle.rendering_locale.specs.Locales.{DatePart}
use Rattle.rendering_dates.specs.Sides.{first_parts, from_first, is_apart, last_parts, without_prefix, without_suffix}

module _ {P F : Type 0} (test : P → Bool) (form : P → F) where
  -- the forms of those that pass the test
  abbrev forms : List P → List F
  forms ps = map form (filter test ps)

  forms_both : (ps qs : List P) → forms (ps ++ qs) ≡ forms ps ++ forms qs
  forms_both ps qs = ap (map form) (filter-append test ps qs) ∙ map-append form (filter test ps) (filter test qs)

  form_turned : (b : Bool) (p : P) → reverse (map form (cond b (p ∷ []) [])) ≡ map form (cond b (p ∷ []) [])
  form_turned true p = refl
  form_turned false p = refl

  forms_turned : (ps : List P) → forms (reverse ps) ≡ reverse (forms ps)
  forms_turned [] = refl
  forms_turned (p ∷ ps) =
      ap forms (reverse-append (p ∷ []) ps)
      ∙ (forms_both (reverse ps) (p ∷ [])
      ∙ ((λ i. forms_turned ps i ++ sym (form_turned (test p) p) i)
      ∙ (sym (reverse-append (forms (p ∷ [])) (forms ps))
      ∙ ap reverse (sym (forms_both (p ∷ []) ps)))))

  module _ (change : P → P) (same_test : (p : P) → test (change p) ≡ test p) (same_form : (p : P) → form (change p) ≡ form p) where
    forms_kept : (ps : List P) → forms (from_first test change ps) ≡ forms ps
    forms_kept [] = refl
    forms_kept (p ∷ ps) = by_test (test p) refl (forms_kept ps)
      where
        by_test : (b : Bool) → test p ≡ b → forms (from_first test change ps) ≡ forms ps
            → forms (cond b (change p ∷ ps) (from_first test change ps)) ≡ map form (cond b (p ∷ filter test ps) (filter test ps))
        by_test true is rest =
            ap (λ (b : Bool). map form (cond b (change p ∷ filter test ps) (filter test ps))) (same_test p ∙ is) ∙ ap (λ (f : F). f ∷ forms ps) (same_form p)
        by_test false is rest = rest

    forms_kept_back : (ps : List P) → forms (reverse (from_first test change (reverse ps))) ≡ forms ps
    forms_kept_back ps =
        forms_turned (from_first test change (reverse ps))
        ∙ (ap reverse (forms_kept (reverse ps) ∙ forms_turned ps) ∙ reverse-reverse (forms ps))

pub first_is_complete : (first last : Date) (ps : List DatePart)
    → map (λ p. p.form) (filter (λ p. is_apart first last p.form) (first_parts first last ps)) ≡ map (λ p. p.form) (filter (λ p. is_apart first last p.form) ps)
first_is_complete first last ps = forms_kept_back (λ (p : DatePart). is_apart first last p.form) (λ (p : DatePart). p.form) without_suffix (λ p. refl) (λ p. refl) ps

pub last_is_complete : (first last : Date) (ps : List DatePart)
    → map (λ p. p.form) (filter (λ p. is_apart last first p.form) (last_parts first last ps)) ≡ map (λ p. p.form) (filter (λ p. is_apart last first p.form) ps)
last_is_complete first last ps = forms_kept (λ (p : DatePart). is_apart last first p.form) (λ (p : DatePart). p.form) without_prefix (λ p. refl) (λ p. refl) ps
