-- Requests of pieces, one piece after the other.
use Rattle.std.proofs.Common.{◌≡◌, List, [], ◌∷◌, Result, Ok, Err, sym, ap, ◌∙◌}
use Rattle.laws.specs.Results.{◌>>=◌}
use Rattle.rendering_context.specs.Contexts.{StyleContext}
use Rattle.cite_markers.specs.Document.{Piece}
use Rattle.cite_requests.specs.Asked.{AskedRequest, request_pushed, requests_after}
use Rattle.cite_requests.specs.Stages.{Refusal}
use Rattle.cite_requests.specs.Works.{Works}

module _ (works : Works) (x : StyleContext) where
  -- one piece more
  pub goes_on : (done : List AskedRequest) (p : Piece) (ps : List Piece) (more : List AskedRequest) (all : Result (List AskedRequest) Refusal)
      → requests_after works x done (p ∷ ps) ≡ all → request_pushed works x done p ≡ Ok more → requests_after works x more ps ≡ all
  unfolding requests_after
  goes_on done p ps more all so_far is = sym (ap (λ (r : Result (List AskedRequest) Refusal). r >>= λ rs. requests_after works x rs ps) is) ∙ so_far

  -- a piece that is refused
  pub fails : (done : List AskedRequest) (p : Piece) (ps : List Piece) (r : Refusal) (all : Result (List AskedRequest) Refusal)
      → requests_after works x done (p ∷ ps) ≡ all → request_pushed works x done p ≡ Err r → all ≡ Err r
  unfolding requests_after
  fails done p ps r all so_far is = sym so_far ∙ ap (λ (q : Result (List AskedRequest) Refusal). q >>= λ rs. requests_after works x rs ps) is

  -- no piece more
  pub ends : (done : List AskedRequest) (ps : List Piece) (all : Result (List AskedRequest) Refusal) → requests_after works x done ps ≡ all → ps ≡ [] → all ≡ Ok done
  unfolding requests_after
  ends done ps all so_far none = sym so_far ∙ ap (requests_after works x done) none
