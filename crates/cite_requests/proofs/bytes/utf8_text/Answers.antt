use Rattle.std.proofs.Common.{◌≡◌, ℕ, List, true, false, Result, Ok, Err}
use Rattle.std.specs.Prelude.{MatchOption, MatchResult}
use Rattle.std.specs.Borrow.{Bor}
use Rattle.std.specs.Str.{is_utf8, IsUtf8}
use Rattle.std.specs.Result.{result_ok}
use Rattle.std.proofs.lemmas.Str.{is_utf8-from_IsUtf8, IsUtf8-from_is_utf8}
use Rattle.std.proofs.lemmas.Bool.{false_from_ne_true}
use Rattle.cite_requests.proofs.bytes.utf8_text.Goals as goal

-- the text is there exactly where the test holds
tested : {E : Type 0} (P : E → Type 0) (bs : List ℕ) (r : Result (Bor (List ℕ)) E) → MatchResult r (λ s. (s.now ≡ bs) × IsUtf8 bs) (λ e. (IsUtf8 bs → ⊥) × P e)
    → MatchOption (result_ok r) (is_utf8 bs ≡ false) (λ s. (s.now ≡ bs) × (is_utf8 bs ≡ true))
tested P bs (Ok s) h = (h.0, is_utf8-from_IsUtf8 bs h.1)
tested P bs (Err e) h = false_from_ne_true (is_utf8 bs) (λ t. h.0 (IsUtf8-from_is_utf8 bs t))

pub returns : goal.returns
returns c = rw c.ok.ensures.value (tested _ c.args.bytes.now c.from_utf8.result c.from_utf8.ensures.cases)
