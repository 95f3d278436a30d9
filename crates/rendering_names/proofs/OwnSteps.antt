-- The forms of the people of one variable after those of others.
use Rattle.std.proofs.Common.{arith, ◌≡◌, ℕ, ◌+◌, ◌<◌, List, [], ◌∷◌, ◌++◌, map, length, take, get_or, replicate, sym, ap, ◌∙◌}
use Rattle.std.proofs.lemmas.List.{length-map, map_more, replicate-append-replicate}
use Rattle.literature_values.specs.PersonViews.{lent_person_view}
use Rattle.rendering_tree.specs.Metas as metas
use Rattle.rendering_names.specs.Counts.{people_count}
use Rattle.rendering_people.specs.Views.{lent_answered_view}
use Rattle.rendering_people.specs.declared.people.Answered.{Answered}
use Rattle.rendering_taxonomy.specs.declared.name.DisambiguatedNameForm.{DisambiguatedNameForm}

count_push : (xs : List metas.Answered) (a : metas.Answered) → people_count (xs ++ a ∷ []) ≡ people_count xs + length a.0
count_push [] a = omega arith
count_push (x ∷ xs) a = let e : people_count (xs ++ a ∷ []) ≡ people_count xs + length a.0 = count_push xs a in omega arith

pub forms_more : (ps : List Answered) (i : ℕ) (a : Answered) (f : DisambiguatedNameForm) (n : ℕ) (old new : List DisambiguatedNameForm)
    → i < length ps → a ≡ get_or ps i a → n ≡ length a.people.items
    → old ≡ replicate (people_count (map lent_answered_view (take i ps))) f → new ≡ old ++ replicate n f
    → new ≡ replicate (people_count (map lent_answered_view (take (i + 1) ps))) f
forms_more ps i a f n old new low is_a is_n before after =
    let leading = map lent_answered_view (take i ps) in
    after
    ∙ (λ k. before k ++ replicate ((is_n ∙ sym (length-map a.people.items lent_person_view)) k) f)
    ∙ replicate-append-replicate (people_count leading) (length (lent_answered_view a).0) f
    ∙ ap (λ m. replicate m f)
    (sym (count_push leading (lent_answered_view a))
    ∙ ap people_count (ap (λ b. leading ++ lent_answered_view b ∷ []) is_a ∙ sym (map_more lent_answered_view ps i a low)))
