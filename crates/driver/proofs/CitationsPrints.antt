-- The first prints of a request that is found by its index, and what is left after them.
use Rattle.std.proofs.Common.{◌≡◌, ℕ, ◌+◌, ◌<◌, ◌∷◌, length, map, drop, slice_get, Some, Vec}
use Rattle.std.specs.Global.{Global}
use Rattle.rendering_entries.specs.Answers.{Answers}
use Rattle.driver_requests.specs.Views.{request_view}
use Rattle.driver.proofs.FinalPrintsSteps.{prints_step, with_prints}
use Rattle.driver_rounds.proofs.CitationsLoop.{found, in_runs, is, own_cites}
use Rattle.driver_rounds.specs.CitesInStep.{AreInStep}
use Rattle.driver_rounds.specs.FirstPrints.{first_print}
use Rattle.driver_rounds.specs.declared.cite.NumberedCite.{NumberedCite}
use Rattle.driver_rounds.specs.declared.document_cites.DocumentCites.{DocumentCites}
use Rattle.driver_rounds.specs.declared.document_cites.RequestCites.{RequestCites}

module _ {T P : Type 0} (answers : T → Answers) (d : DocumentCites T P) (c : RequestCites T P) (n : ℕ) (in_step : AreInStep d) (less : n < length d.requests.now) (request : slice_get d.requests.now n ≡ Some c.request.now)
    (run : slice_get (map (λ (v : Vec NumberedCite Global). v.items) d.runs.now) n ≡ Some c.run.now) where
  -- the first prints of its cites, then those of the requests after it
  pub own_prints : with_prints answers (drop n d.requests.now) (drop n d.runs.now)
      ≡ (request_view (λ e. 0) answers c.request.now, map first_print (own_cites answers d c n in_step less request run)) ∷ with_prints answers (drop (n + 1) d.requests.now) (drop (n + 1) d.runs.now)
  own_prints =
      let row = found answers d c n in_step less request run in
      prints_step answers d.requests.now d.runs.now n c.request.now row.run c.run.now less (in_runs answers d c n in_step less request run) (is answers d c n in_step less request run) row.is row.items
