-- A request of a document, found by its index: its cites, and what is left after them.
use Rattle.std.proofs.Common.{arith, ◌≡◌, ℕ, zero, suc, ◌+◌, ◌<◌, ◌≤◌, List, [], ◌∷◌, ◌++◌, All, length, length-append, map, drop, take, get_or, slice_get, refl, sym, ap, ◌∙◌, Some, Vec}
use Rattle.std.specs.Global.{Global}
use Rattle.std.proofs.lemmas.List.{length-map}
use Rattle.std.proofs.lemmas.Option.{slice_get-get_or}
use Rattle.rendering_entries.specs.Answers.{Answers}
use Rattle.driver_requests.specs.Cites.{Numbered}
use Rattle.driver_requests.specs.Views.{context_of}
use Rattle.driver_requests.specs.declared.request.CitationRequest.{CitationRequest}
use Rattle.driver_rounds.proofs.RequestsFound.{cut_plain, cut_view, element_at, element_view, run_long, run_low, runs_step, some_one}
use Rattle.driver_rounds.proofs.RunsSteps.{runs_count_on, runs_go_on, runs_match}
use Rattle.driver_rounds.specs.CitesInStep.{AreInStep, request_cites}
use Rattle.driver_rounds.specs.Rounding.{AreWithin}
use Rattle.driver_rounds.specs.FirstPrints.{flattened}
use Rattle.driver_rounds.specs.Views.{all_numbered_cites_view}
use Rattle.driver_rounds.specs.declared.cite.NumberedCite.{NumberedCite}
use Rattle.driver_rounds.specs.declared.document_cites.DocumentCites.{DocumentCites}
use Rattle.driver_rounds.specs.declared.document_cites.RequestCites.{RequestCites}

-- a run of which the cites were found at an index
pub record FoundRequest (runs : List (Vec NumberedCite Global)) (n : ℕ) (ks : List NumberedCite) : Type 0 where
  pub run : Vec NumberedCite Global
  pub is : run ≡ get_or runs n run
  pub items : ks ≡ run.items

found_request : (runs : List (Vec NumberedCite Global)) (n : ℕ) (ks : List NumberedCite) → slice_get (map (λ (v : Vec NumberedCite Global). v.items) runs) n ≡ Some ks → FoundRequest runs n ks
found_request [] n ks e = absurd cc
found_request (v ∷ runs) zero ks e = record { run = v; is = refl; items = some_one ks v.items (sym e) }
found_request (v ∷ runs) (suc n) ks e = let found = found_request runs n ks e in record { run = found.run; is = found.is; items = found.items }

module _ {T P : Type 0} (answers : T → Answers) (d : DocumentCites T P) (c : RequestCites T P) (n : ℕ) (in_step : AreInStep d) (less : n < length d.requests.now) (request : slice_get d.requests.now n ≡ Some c.request.now)
    (run : slice_get (map (λ (v : Vec NumberedCite Global). v.items) d.runs.now) n ≡ Some c.run.now) where
  pub is : c.request.now ≡ get_or d.requests.now n c.request.now
  is = some_one c.request.now (get_or d.requests.now n c.request.now) (sym request ∙ slice_get-get_or d.requests.now n c.request.now less)

  pub found : FoundRequest d.runs.now n c.run.now
  found = found_request d.runs.now n c.run.now run

  -- its cites
  abbrev pub own_cites : List (Numbered P)
  own_cites = request_cites answers c

  -- those of all requests from it on, and after it
  abbrev pub cites_left : ℕ → List (Numbered P)
  cites_left m = flattened (all_numbered_cites_view answers (drop m d.requests.now) (drop m d.runs.now))

  pub in_runs : n < length d.runs.now
  in_runs = omega (arith, less, runs_match d.runs.now d.requests.now in_step.runs)

  own_size : length c.run.now ≡ length c.request.now.items.items
  own_size =
      ap length found.items
      ∙ element_view (λ (w : Vec NumberedCite Global). length w.items) (λ (q : CitationRequest T P). length q.items.items) d.runs.now d.requests.now n found.run c.request.now in_step.runs (element_at d.runs.now n found.run in_runs found.is)
      (element_at d.requests.now n c.request.now less is)

  pub own_long : length own_cites ≡ length c.run.now
  own_long = run_long answers (context_of c.request.now) c.request.now.items.items c.run.now own_size ∙ sym own_size

  pub left_step : cites_left n ≡ own_cites ++ cites_left (n + 1)
  left_step = ap flattened (runs_step answers d.requests.now d.runs.now n c.request.now found.run c.run.now less in_runs is found.is found.items)

  pub left_size : length (cites_left n) ≡ length c.run.now + length (cites_left (n + 1))
  left_size =
      let all : length (own_cites ++ cites_left (n + 1)) ≡ length own_cites + length (cites_left (n + 1)) = length-append own_cites (cites_left (n + 1)) in
      let step : length (cites_left n) ≡ length (own_cites ++ cites_left (n + 1)) = ap length left_step in
      omega (arith, step, all, own_long)

  -- what is known of the cites that are left, cut after its cites
  pub view_parts : {S B : Type 0} (f : S → B) (g : Numbered P → B) (xs : List S) → map f xs ≡ map g (cites_left n)
      → (map f (take (length c.run.now) xs) ≡ map g own_cites) × (map f (drop (length c.run.now) xs) ≡ map g (cites_left (n + 1)))
  view_parts f g xs e = cut_view f g (length c.run.now) xs own_cites (cites_left (n + 1)) own_long (e ∙ ap (map g) left_step)

  pub plain_parts : {B : Type 0} (g : Numbered P → B) (xs : List B) → xs ≡ map g (cites_left n) → (take (length c.run.now) xs ≡ map g own_cites) × (drop (length c.run.now) xs ≡ map g (cites_left (n + 1)))
  plain_parts g xs e = cut_plain g (length c.run.now) xs own_cites (cites_left (n + 1)) own_long (e ∙ ap (map g) left_step)

  pub enough_view : {S B : Type 0} (f : S → B) (g : Numbered P → B) (xs : List S) → map f xs ≡ map g (cites_left n) → length c.run.now ≤ length xs
  enough_view f g xs e =
      let size : length (map f xs) ≡ length (cites_left n) = ap length e ∙ length-map (cites_left n) g in
      omega (arith, size, length-map xs f, left_size)

  pub enough_plain : {B : Type 0} (g : Numbered P → B) (xs : List B) → xs ≡ map g (cites_left n) → length c.run.now ≤ length xs
  enough_plain g xs e =
      let size : length xs ≡ length (cites_left n) = ap length e ∙ length-map (cites_left n) g in
      omega (arith, size, left_size)

  pub own_low : (count : ℕ) → AreWithin count d.runs.now → All (λ (k : NumberedCite). k.entry < count) c.run.now
  own_low count h = run_low count d.runs.now n found.run c.run.now h in_runs found.is found.items

  -- what is made of each cite goes on with its cites
  pub cites_go_on : {B : Type 0} (make : Numbered P → B) (now new all : List B) → now ++ map make (cites_left n) ≡ all → new ≡ now ++ map make own_cites → new ++ map make (cites_left (n + 1)) ≡ all
  cites_go_on make now new all h e = runs_go_on answers d.requests.now d.runs.now make n c.request.now found.run c.run.now now new all less in_runs is found.is found.items h e

  -- a count of one for each cite goes on with its cites
  pub cites_count_on : (now new all : ℕ) → now + length (cites_left n) ≤ all → new ≤ now + length own_cites → new + length (cites_left (n + 1)) ≤ all
  cites_count_on now new all h le = runs_count_on answers d.requests.now d.runs.now n c.request.now found.run c.run.now now new all less in_runs is found.is found.items h le
