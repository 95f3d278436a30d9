-- A text that is written part by part.
use Rattle.std.proofs.Common.{◌≡◌, ℕ, List, [], ◌++◌, sym, ◌∙◌, subst, append_assoc, append-nil}
use Rattle.std.specs.Fmt.{WritesInCalls}
use Rattle.laws.specs.Text.{text}
use Rattle.std.proofs.Output.{writes_in_calls_nil, writes_in_calls_append}
use Rattle.laws.proofs.Text.{text-append}

-- what was written so far, and what is left, are the whole text
pub record WrittenSoFar {W : Type 0} (took : W → List ℕ → W → Type 0) (from : W) (whole left : List ℕ) (to : W) : Type 0 where
  pub so_far : List ℕ
  pub wrote : WritesInCalls took from (text so_far) to
  pub together : so_far ++ left ≡ whole

module _ {W : Type 0} (took : W → List ℕ → W → Type 0) (from : W) (whole : List ℕ) where
  -- after the first part
  pub begun : (part left : List ℕ) (to : W) → part ++ left ≡ whole → WritesInCalls took from (text part) to → WrittenSoFar took from whole left to
  begun part left to is wrote = record { so_far = part; wrote = wrote; together = is }

  -- after one more
  pub one_more : (part left : List ℕ) (to last : W) → WrittenSoFar took from whole (part ++ left) to → WritesInCalls took to (text part) last → WrittenSoFar took from whole left last
  one_more part left to last w wrote = record {
    so_far = w.so_far ++ part;
    wrote = subst (λ (t : List ℕ). WritesInCalls took from t last) (sym (text-append w.so_far part)) (writes_in_calls_append took from (text w.so_far) to (text part) last w.wrote wrote);
    together = append_assoc w.so_far part left ∙ w.together;
  }

  -- where nothing is left
  pub all_written : (to : W) → WrittenSoFar took from whole [] to → WritesInCalls took from (text whole) to
  all_written to w = subst (λ (t : List ℕ). WritesInCalls took from (text t) to) (sym (append-nil w.so_far) ∙ w.together) w.wrote

  -- where there is no text
  pub nothing_written : whole ≡ [] → WritesInCalls took from (text whole) from
  nothing_written none = subst (λ (t : List ℕ). WritesInCalls took from (text t) from) (sym none) (writes_in_calls_nil took from)
