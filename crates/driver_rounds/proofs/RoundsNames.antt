-- Whether the style of the first request adds names.
use Rattle.std.proofs.Common.{◌≡◌, Bool, false, true≢false, List, [], ◌∷◌, map, refl, sym, ap, ◌∙◌, is_some, Some, None}
use Rattle.std.specs.List.{slice_get}
use Rattle.std.specs.Option.{unwrap_or}
use Rattle.rendering_style.specs.StyleViews.{style_view}
use Rattle.rendering_entries.specs.Answers.{Answers}
use Rattle.driver_requests.specs.Views.{request_view}
use Rattle.driver_requests.specs.declared.request.CitationRequest.{CitationRequest}
use Rattle.driver_rounds.specs.FirstPrints.{adds_names}

-- what the first member says
first_says : {X : Type 0} → (X → Bool) → List X → Bool
first_says says [] = false
first_says says (x ∷ xs) = says x

says_some : {X : Type 0} (says : X → Bool) (xs : List X) (x : X) → slice_get xs 0 ≡ Some x → says x ≡ first_says says xs
unfolding first_says
says_some says [] x h = absurd (true≢false (ap is_some (sym h)))
says_some says (y ∷ xs) x h = ap (λ o. says (unwrap_or o y)) (sym h)

says_none : {X : Type 0} (says : X → Bool) (xs : List X) → slice_get xs 0 ≡ None → false ≡ first_says says xs
unfolding first_says
says_none says [] h = refl
says_none says (y ∷ xs) h = absurd (true≢false (ap is_some h))

adds_is : {T P : Type 0} (answers : T → Answers) (rs : List (CitationRequest T P)) → first_says (λ (r : CitationRequest T P). (style_view r.style.now).citation.add_names) rs ≡ adds_names (map (request_view (λ e. 0) answers) rs)
unfolding first_says
adds_is answers [] = refl
adds_is answers (q ∷ rs) = refl

-- it is the first one's
pub first_adds : {T P : Type 0} (answers : T → Answers) (rs : List (CitationRequest T P)) (r : CitationRequest T P) → slice_get rs 0 ≡ Some r → (style_view r.style.now).citation.add_names ≡ adds_names (map (request_view (λ e. 0) answers) rs)
first_adds {T} {P} answers rs r h = says_some (λ (r : CitationRequest T P). (style_view r.style.now).citation.add_names) rs r h ∙ adds_is answers rs

-- without requests none does
pub none_adds : {T P : Type 0} (answers : T → Answers) (rs : List (CitationRequest T P)) → slice_get rs 0 ≡ None → false ≡ adds_names (map (request_view (λ e. 0) answers) rs)
none_adds {T} {P} answers rs h = says_none (λ (r : CitationRequest T P). (style_view r.style.now).citation.add_names) rs h ∙ adds_is answers rs
