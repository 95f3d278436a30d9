-- Errors of pages, and what they say of the output.
use Rattle.std.proofs.Common.{◌≡◌, ℕ, ◌+◌, ◌≤◌, Bool, true, false, List, [], ◌++◌, length, refl, ap, arith}
use Rattle.std.proofs.lemmas.List.{length-append}
use Rattle.cite_requests.specs.Answers.{IsRefusalUnlessWrite, OnWrite, Wanted}
use Rattle.cite_requests.specs.declared.error.CiteError.{CiteError}
use Rattle.cite_requests.specs.declared.error.CiteError.TheVariants as errors
use Rattle.cite_uses.specs.Pages.{page_error}

-- a failed write stays one on a page without room alone
pub without_room : (has_room : Bool) (e : CiteError) (P Q : Type 0) → OnWrite e P → (has_room ≡ false → P → Q) → OnWrite (page_error has_room e) Q
without_room true (errors.Write fault) P Q p f = tt
without_room true e P Q p f = tt
without_room false (errors.Write fault) P Q p f = f refl p
without_room false e P Q p f = tt

-- and a refusal stays one
pub still_refused : (has_room : Bool) (e : CiteError) (wanted : Wanted (List ℕ)) → IsRefusalUnlessWrite e wanted → IsRefusalUnlessWrite (page_error has_room e) wanted
still_refused true (errors.Write fault) wanted h = tt
still_refused true e wanted h = h
still_refused false e wanted h = h

-- what has a prefix that fills the page is no shorter
pub filled : (room : ℕ) (bytes output prefix rest : List ℕ) → room ≤ length bytes → bytes ≡ prefix → output ≡ prefix ++ rest → room ≤ length output
filled room bytes output prefix rest full is whole =
    omega (arith, full, ap length is, ap length whole, length-append prefix rest)
