-- The verdict of a bib text is one.
use Rattle.std.proofs.Common.{◌≡◌, ℕ, Bool, true, false, List, Result, sym, ap, ◌∙◌}
use Rattle.std.specs.Str.{chars, is_utf8}
use Rattle.laws.specs.Results.{◌>>=◌}
use Rattle.biblatex.specs.Listed.{Listed}
use Rattle.biblatex.proofs.ResolvedUnique.{one_meaning}
use Rattle.cite_requests.specs.Stages.{Refusal, bib_refused, refused_as, IsReadIf, IsRead, library_stage, AreWorksOf}
use Rattle.cite.specs.Verdict.{Task, verdict, IsVerdict}
use Rattle.cite_requests.specs.Works.{Works}

one_read : (bib : List ℕ) (r s : Result Listed Refusal) → IsRead bib r → IsRead bib s → r ≡ s
one_read bib r s = at (is_utf8 bib)
  where
    at : (is_text : Bool) → IsReadIf is_text bib r → IsReadIf is_text bib s → r ≡ s
    at true (meaning, means, is) (other, too, also) = is ∙ (ap (refused_as bib_refused) (one_meaning (chars bib) meaning other means too) ∙ sym also)
    at false h g = h ∙ sym g

one_library : (bib : List ℕ) (v w : Result Works Refusal) → AreWorksOf bib v → AreWorksOf bib w → v ≡ w
one_library bib v w (read, is, comes) (other, too, also) = comes ∙ (ap (λ (r : Result Listed Refusal). r >>= library_stage) (one_read bib read other is too) ∙ sym also)

-- the output, or the refusal that comes first, is one
pub one_verdict : (bib : List ℕ) (task : Task) (a b : Result (List ℕ) Refusal) → IsVerdict bib task a → IsVerdict bib task b → a ≡ b
one_verdict bib task a b (works, is, comes) (other, too, also) = comes ∙ (ap (λ (w : Result Works Refusal). verdict w task) (one_library bib works other is too) ∙ sym also)
