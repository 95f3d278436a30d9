-- What calls of a text in memory took, one after the other.
use Rattle.std.proofs.Common.{◌≡◌, ℕ, List, [], ◌∷◌, ◌++◌, Result, Ok, Err, IsOk, OnOk, sym, ap, subst, ◌∙◌, append_assoc, true≢false}
use Rattle.std.specs.Prelude.{IfOk, String, string_bytes}
use Rattle.std.specs.Fmt.{WritesInCalls}
use Rattle.std.specs.Global.{Global}
use Rattle.std.specs.List.{concat, FoldsTo}
use Rattle.std.proofs.lemmas.List.{append-nil}
use Rattle.biblatex_writing.specs.Targets.{TakesUntilFull}
use Rattle.biblatex_writing.specs.declared.target.StringTarget.{StringTarget}

at_ok : {E : Type 0} (r : Result (Unit {0}) E) (P : Type 0) → OnOk r P → IsOk r → P
at_ok (Ok x) P p ok = p
at_ok (Err e) P p ok = absurd (true≢false (sym ok))

-- without a refusal at the end there was none before, and all stands there
calls_taken : (s : StringTarget) (xs : List (List ℕ)) (t : StringTarget) → FoldsTo TakesUntilFull s xs t → IsOk t.result → IsOk s.result × (string_bytes t.text ≡ string_bytes s.text ++ concat xs)
calls_taken s [] t same ok = (subst (λ (x : StringTarget). IsOk x.result) (sym same) ok, ap (λ (x : StringTarget). string_bytes x.text) (sym same) ∙ sym (append-nil (string_bytes s.text)))
calls_taken s (x ∷ xs) t (m, first, others) ok =
    let later = calls_taken m xs t others ok in
    let here = at_ok m.result (IsOk s.result × (string_bytes m.text ≡ string_bytes s.text ++ x)) first later.0 in
    (here.0, later.1 ∙ (ap (λ (bs : List ℕ). bs ++ concat xs) here.1 ∙ append_assoc (string_bytes s.text) x (concat xs)))

-- all stands in a text that was empty
pub text_taken : {E : Type 0} (s t : StringTarget) (bytes : List ℕ) (r : Result (String Global) E) → string_bytes s.text ≡ [] → WritesInCalls TakesUntilFull s bytes t
    → IfOk r (λ x. IsOk t.result × (x ≡ t.text)) → IfOk r (λ x. string_bytes x ≡ bytes)
text_taken s t bytes (Err e) empty written given = tt
text_taken s t bytes (Ok x) empty written given =
    let all = calls_taken s written.parts t written.calls given.0 in
    ap string_bytes given.1 ∙ (all.1 ∙ (ap (λ (bs : List ℕ). bs ++ concat written.parts) empty ∙ written.whole))
