-- Requests that are sorted by numbers that were found.
use Rattle.std.proofs.Common.{◌≡◌, ℕ, Bool, List, map, sym, ap, ◌∙◌, Result, IfOk, Vec}
use Rattle.std.proofs.Math.Path.{fun_ext}
use Rattle.std.proofs.lemmas.Result.{IfOk-weaker}
use Rattle.std.specs.Prelude.{filter_map, position}
use Rattle.std.specs.List.{position_or_len}
use Rattle.driver_requests.specs.CitedEntries.{once}
use Rattle.driver_requests.specs.Order.{number_in}
use Rattle.driver_requests.specs.Views.{entries_in}
use Rattle.driver_requests.specs.declared.request.CitationRequest.{CitationRequest}
use Rattle.rendering_entries.specs.Answers.{Answers}
use Rattle.rendering_style.specs.Styles.{Style}
use Rattle.driver_order.specs.Keyed.{number_by, numbers_of, order_of}
use Rattle.driver_order.specs.Sorted.{cited_in, number_among, request_in_order, request_parts, requests_in_order}
use Rattle.driver_order.proofs.NumbersFound.{number_found}
use Rattle.driver_order.proofs.RequestsSorted.{cited_is}

module _ {T P : Type 0} (same : T → T → Bool) (answers : T → Answers) (s : Style) (first : List T) (rs : List (CitationRequest T P)) (es : List T) (ns : List ℕ)
    (cited : es ≡ once same (entries_in rs)) (numbered : ns ≡ numbers_of same s first es) where
  found : (e : T) → number_by same es ns e ≡ number_among same s first (cited_in (map request_parts rs)) e
  found e =
      number_found same es s.bibliography (filter_map (λ d. position (same d) es) first) ns numbered e
      ∙ ap (λ all. number_in 0 (order_of same s first all) (position_or_len (same e) all)) (cited ∙ ap (once same) (sym (cited_is rs)))

  -- the numbers that were found are those by which requests are sorted
  pub sorted_by_found : {A E : Type 0} (r : Result (Vec (CitationRequest T P) A) E)
      → IfOk r (λ v. map request_parts v.items ≡ map (request_in_order s answers (number_by same es ns)) (map request_parts rs))
      → IfOk r (λ v. map request_parts v.items ≡ requests_in_order same answers s first (map request_parts rs))
  sorted_by_found r given =
      IfOk-weaker r (λ v. map request_parts v.items ≡ map (request_in_order s answers (number_by same es ns)) (map request_parts rs))
      (λ v. map request_parts v.items ≡ requests_in_order same answers s first (map request_parts rs))
      (λ v known. known ∙ ap (λ number. map (request_in_order s answers number) (map request_parts rs)) (fun_ext found)) given
