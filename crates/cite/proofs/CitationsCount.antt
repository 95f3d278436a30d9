-- A driver gives a citation for each request.
use Rattle.std.proofs.Common.{◌≡◌, ℕ, suc, Bool, cond, List, [], ◌∷◌, ◌++◌, length, map, Option, None, Ok, Err, refl, sym, ap, ◌∙◌, arith}
use Rattle.std.specs.List.{last_or, zip}
use Rattle.std.proofs.lemmas.List.{length-map}
use Rattle.laws.proofs.Results.{guard_ok, ok_is}
use Rattle.driver_requests.specs.Cites.{cites_after, cites_of}
use Rattle.driver_requests.specs.Errors.{Overflow, overflow}
use Rattle.driver_requests.specs.Positions.{with_previous}
use Rattle.driver_requests.specs.Requests.{Request}
use Rattle.driver_rounds.specs.Documents.{Document}
use Rattle.driver.specs.Finish.{Rendered, citation_in, finish, overflows, rendered_from}
use Rattle.driver.specs.Stages.{Final, arranged_for, final, finals_in}
use Rattle.driver_rounds.specs.FirstPrints.{FirstPrint, disambiguated_in, first_print, first_prints_in, named_after}

zip_count : {A B : Type 0} (xs : List A) (ys : List B) → length ys ≡ length xs → length (zip xs ys) ≡ length xs
zip_count [] ys e = refl
zip_count (x ∷ xs) [] e = absurd (omega (arith, e))
zip_count (x ∷ xs) (y ∷ ys) e = ap suc (zip_count xs ys (omega (arith, e)))

previous_count : {X : Type 0} (last : Option X) (xss : List (List X)) → length (with_previous last xss) ≡ length xss
previous_count last [] = refl
previous_count last (xs ∷ xss) = ap suc (previous_count (last_or last xs) xss)

given_count : (b : Bool) (x r : Rendered) (n : ℕ) → length x.citations ≡ n → cond b (Err overflow) (Ok x) ≡ Ok r → length r.citations ≡ n
given_count b x r n count is = ap (λ (q : Rendered). length q.citations) (sym (ok_is {F = Overflow} x r (guard_ok b (Ok x) overflow r is).1)) ∙ count

module _ {P : Type 0} where
  cites_count : (earlier rs : List (Request P)) → length (cites_after earlier rs) ≡ length rs
  cites_count earlier [] = refl
  cites_count earlier (r ∷ rs) = ap suc (cites_count (earlier ++ r ∷ []) rs)

  module _ (same : P → P → Bool) (d : Document P) where
    firsts_count : length (first_prints_in same d) ≡ length d.requests
    firsts_count =
        length-map (with_previous None (cites_of d.requests)) (map (λ pair. first_print (named_after same d pair)))
        ∙ previous_count None (cites_of d.requests) ∙ cites_count [] d.requests

    finals_count : (bs : List (List (FirstPrint P))) → length bs ≡ length d.requests → length (finals_in same d bs (disambiguated_in d bs)) ≡ length d.requests
    finals_count bs count =
        let t = disambiguated_in d bs in
        let pairs = zip d.requests bs in
        length-map (with_previous None (map (arranged_for t) pairs)) (map (final same t))
        ∙ previous_count None (map (arranged_for t) pairs) ∙ length-map pairs (arranged_for t) ∙ zip_count d.requests bs count

    rendered_count : (fss : List (List (Final P))) → length fss ≡ length d.requests → length (rendered_from d fss).citations ≡ length d.requests
    rendered_count fss count = length-map (zip d.requests fss) citation_in ∙ zip_count d.requests fss count

    pub citations_count : (r : Rendered) → finish same d ≡ Ok r → length r.citations ≡ length d.requests
    citations_count r is =
        let bs = first_prints_in same d in
        let fss = finals_in same d bs (disambiguated_in d bs) in
        given_count (overflows d (disambiguated_in d bs)) (rendered_from d fss) r (length d.requests) (rendered_count fss (finals_count bs firsts_count)) is
