-- Texts all of whose characters pass a test.
use Rattle.std.proofs.Common.{◌≡◌, ℕ, Bool, true, false, not, ◌&&◌, cond, List, [], ◌∷◌, refl}
use Rattle.std.specs.List.{list_all}
use Rattle.laws.specs.Text.{is_filled}
use Rattle.laws.specs.Runs.{after}

-- all characters pass where no other follows those that pass
pub all_pass : (p : ℕ → Bool) (cs : List ℕ) → not (is_filled (after p cs)) ≡ list_all p cs
all_pass p [] = refl
all_pass p (c ∷ cs) = by_test (p c) (all_pass p cs)
  where
    by_test : (t : Bool) → not (is_filled (after p cs)) ≡ list_all p cs → not (is_filled (cond t (after p cs) (c ∷ cs))) ≡ (t && list_all p cs)
    by_test true more = more
    by_test false more = refl
