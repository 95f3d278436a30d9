-- Requests of markers are those of their cites with the works that names mean.
use Rattle.std.proofs.Common.{◌≡◌, ℕ, ◌+◌, List, [], ◌∷◌, ◌++◌, map, length, Result, Ok, Err, refl, sym, ap, ◌∙◌, append_assoc, append-nil}
use Rattle.std.specs.List.{enumerate_from}
use Rattle.std.proofs.lemmas.List.{length-append}
use Rattle.laws.specs.Results.{◌>>=◌}
use Rattle.rendering_context.specs.Contexts.{StyleContext}
use Rattle.cite_markers.specs.Document.{Piece, Text, Marker}
use Rattle.cite_markers.specs.Marker.{Cite}
use Rattle.cite_requests.specs.Asked.{AskedItem, AskedRequest, asked_item, asked_request, item_asked, items_asked, requests_after, requests_asked}
use Rattle.cite_requests.specs.Markers.{CitedWork, cited_work, cited_works}
use Rattle.cite_requests.specs.Stages.{Refusal, unknown_name, refused_as, name_stage}
use Rattle.cite_requests.specs.Steps.{all_ok}
use Rattle.cite_requests.specs.Works.{Works}

-- the items of cites with their works, or the refusal of a name
abbrev items_from : Result (List CitedWork) (List ℕ) → Result (List AskedItem) Refusal
items_from found = refused_as unknown_name found >>= λ cs. Ok (map asked_item cs)

items_more : (works : Works) (c : Cite) (found : Result (List CitedWork) (List ℕ)) (r : Result CitedWork (List ℕ))
    → ((refused_as unknown_name (r >>= λ w. Ok (asked_item w))) >>= λ y. items_from found >>= λ ys. Ok (y ∷ ys)) ≡ items_from (r >>= λ w. found >>= λ ws. Ok (w ∷ ws))
items_more works c (Ok ws) (Ok w) = refl
items_more works c (Err n) (Ok w) = refl
items_more works c found (Err n) = refl

-- the items of a marker
pub items_are : (works : Works) (cites : List Cite) → items_asked works cites ≡ items_from (all_ok (cited_work works) cites)
unfolding all_ok
items_are works [] = refl
items_are works (c ∷ cites) =
    ap (λ (r : Result (List AskedItem) Refusal). item_asked works c >>= λ y. r >>= λ ys. Ok (y ∷ ys)) (items_are works cites)
    ∙ items_more works c (all_ok (cited_work works) cites) (cited_work works c)

-- requests that are there, and those of markers with their works
abbrev requests_from : StyleContext → List AskedRequest → Result (List (List CitedWork)) (List ℕ) → Result (List AskedRequest) Refusal
requests_from x done found = refused_as unknown_name found >>= λ ms. Ok (done ++ map (asked_request x) (enumerate_from (length done + 1) ms))

one_more : (x : StyleContext) (done : List AskedRequest) (cs : List CitedWork) (found : Result (List (List CitedWork)) (List ℕ))
    → requests_from x (done ++ asked_request x (length done + 1, cs) ∷ []) found ≡ requests_from x done (found >>= λ ms. Ok (cs ∷ ms))
one_more x done cs (Err n) = refl
one_more x done cs (Ok ms) =
    let r = asked_request x (length done + 1, cs) in
    let next : length (done ++ r ∷ []) + 1 ≡ length done + 1 + 1 = ap (λ (n : ℕ). n + 1) (length-append done (r ∷ [])) in
    ap (λ (n : ℕ). Ok ((done ++ r ∷ []) ++ map (asked_request x) (enumerate_from n ms))) next
    ∙ ap (λ (rs : List AskedRequest). Ok rs) (append_assoc done (r ∷ []) (map (asked_request x) (enumerate_from (length done + 1 + 1) ms)))

pushed : (works : Works) (x : StyleContext) (done : List AskedRequest) (found : Result (List (List CitedWork)) (List ℕ)) (go : List AskedRequest → Result (List AskedRequest) Refusal)
    → ((more : List AskedRequest) → go more ≡ requests_from x more found)
    → (r : Result (List CitedWork) (List ℕ))
    → ((items_from r >>= λ items. Ok (record { context = x; note_number = (asked_request x (length done + 1, [])).note_number; items = items })) >>= λ q. Ok (done ++ q ∷ [])) >>= go
    ≡ requests_from x done (r >>= λ cs. found >>= λ ms. Ok (cs ∷ ms))
pushed works x done found go h (Ok cs) = h (done ++ asked_request x (length done + 1, cs) ∷ []) ∙ one_more x done cs found
pushed works x done found go h (Err n) = refl

pub requests_are_after : (works : Works) (x : StyleContext) (done : List AskedRequest) (ps : List Piece)
    → requests_after works x done ps ≡ requests_from x done (cited_works works ps)
unfolding all_ok requests_after
requests_are_after works x done [] = ap (λ (rs : List AskedRequest). Ok rs) (sym (append-nil done))
requests_are_after works x done (Text t ∷ ps) = requests_are_after works x done ps
requests_are_after works x done (Marker cites ∷ ps) =
    ap (λ (r : Result (List AskedItem) Refusal). ((r >>= λ items. Ok (record { context = x; note_number = (asked_request x (length done + 1, [])).note_number; items = items })) >>= λ q. Ok (done ++ q ∷ [])) >>= λ more. requests_after works x more ps) (items_are works cites)
    ∙ pushed works x done (cited_works works ps) (λ more. requests_after works x more ps) (λ more. requests_are_after works x more ps) (all_ok (cited_work works) cites)

-- the requests of a document
pub requests_are : (works : Works) (x : StyleContext) (ps : List Piece)
    → requests_asked works x ps ≡ (name_stage works ps >>= λ ms. Ok (map (asked_request x) (enumerate_from 1 ms)))
requests_are works x ps = requests_are_after works x [] ps
