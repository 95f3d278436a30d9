-- What was written through a formatter without options.
use Rattle.std.proofs.Common.{ℕ, List, [], ◌∷◌, true≢false, sym, subst, Result, Ok, Err}
use Rattle.std.proofs.Output.{has_written_append, has_written_to_eq, writes_in_calls_nil}
use Rattle.std.specs.List.{concat, FoldsTo}
use Rattle.std.specs.Prelude.{OnOk}
use Rattle.std.specs.Fmt.{IsPlainFormatter, HasWritten, WritesInCalls, WritesOnOk}
use Rattle.std.specs.declared.fmt.Error.{Error}
use Rattle.std.specs.declared.fmt.Formatter.{Formatter}

module _ {W : Type 0} (took : W → List ℕ → W → Type 0) where
  -- calls that each write a text write the texts one after the other
  displayed_each : (f : Formatter W) (xs : List (List ℕ)) (g : Formatter W)
      → FoldsTo (λ a x b. IsPlainFormatter a → HasWritten took a x b) f xs g → IsPlainFormatter f → HasWritten took f (concat xs) g
  displayed_each f [] g h plain = has_written_to_eq took f [] f g (sym h) (record { wrote = writes_in_calls_nil took f.writer; plain = plain })
  displayed_each f (x ∷ xs) g h plain =
      has_written_append took f x h.0 (concat xs) g (h.1 plain) (displayed_each h.0 xs g h.2 (h.1 plain).plain)

  -- what all calls wrote together, where none failed
  pub displayed : (r : Result (Unit {0}) Error) (f : Formatter W) (bs : List ℕ) (g : Formatter W)
      → OnOk r (WritesInCalls (λ a x b. IsPlainFormatter a → HasWritten took a x b) f bs g) → WritesOnOk took f r bs g
  displayed (Ok x) f bs g w plain ok = subst (λ (cs : List ℕ). HasWritten took f cs g) w.whole (displayed_each f w.parts g w.calls plain)
  displayed (Err x) f bs g w plain ok = absurd (true≢false (sym ok))
