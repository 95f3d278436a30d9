-- What a writer took that was told to stop at its first error.
use Rattle.std.proofs.Common.{◌≡◌, ℕ, List, [], ◌∷◌, Result, Ok, Err, IsOk, OnOk, sym, ap, subst, true≢false, ◌∙◌}
use Rattle.std.specs.List.{FoldsTo}
use Rattle.std.specs.Prelude.{is_ok}
use Rattle.std.specs.declared.fmt.Error.{Error}
use Rattle.rendering_output.specs.Targets.{TakesUntilError}
use Rattle.rendering_output.specs.Writing.{WritesCharacters}
use Rattle.rendering_output.specs.declared.target.WriterTarget.{WriterTarget}

at_ok : (r : Result (Unit {0}) Error) (P : Type 0) → OnOk r P → IsOk r → P
at_ok (Ok x) P p ok = p
at_ok (Err e) P p ok = absurd (true≢false (sym ok))

module _ {W : Type 0} (took : W → List ℕ → W → Type 0) where
  -- without an error at the end there was none before, and each call was one of the writer
  calls_taken : (s : WriterTarget W) (xs : List (List ℕ)) (t : WriterTarget W) → FoldsTo (TakesUntilError took) s xs t → IsOk t.result
      → IsOk s.result × (t.writer.ghost_name ≡ s.writer.ghost_name) × FoldsTo took s.writer.now xs t.writer.now
  calls_taken s [] t same ok =
      (subst (λ (x : WriterTarget W). IsOk x.result) (sym same) ok, ap (λ (x : WriterTarget W). x.writer.ghost_name) (sym same), ap (λ (x : WriterTarget W). x.writer.now) same)
  calls_taken s (x ∷ xs) t (m, first, others) ok =
      let later = calls_taken m xs t others ok in
      let here = at_ok m.result (IsOk s.result × (m.writer.ghost_name ≡ s.writer.ghost_name) × took s.writer.now x m.writer.now) first later.0 in
      (here.0, later.1 ∙ here.1, (m.writer.now, here.2, later.2))

  -- so all was written, where there is no error
  pub all_taken : (s t : WriterTarget W) (w v : W) (r : Result (Unit {0}) Error) (cs : List ℕ) → s.writer.now ≡ w → r ≡ t.result → (t.writer.ghost_name ≡ s.writer.ghost_name → v ≡ t.writer.now)
      → WritesCharacters (TakesUntilError took) s cs t → OnOk r (WritesCharacters took w cs v)
  all_taken s t w v (Ok x) cs starts is back written =
      let calls = calls_taken s written.parts t written.calls (ap is_ok (sym is)) in
      subst (λ (a : W). WritesCharacters took a cs v) starts
      (subst (λ (b : W). WritesCharacters took s.writer.now cs b) (sym (back calls.1)) (record { parts = written.parts; calls = calls.2; whole = written.whole }))
  all_taken s t w v (Err e) cs starts is back written = tt
