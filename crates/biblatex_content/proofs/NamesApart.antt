-- Names that differ in their third byte.
use Rattle.std.proofs.Common.{◌≡◌, ℕ, Bool, true, false, ◌||◌, List, [], ◌∷◌, slice_index, bytes_eq, codes, refl, sym, ap, ◌∙◌}
use Rattle.std.specs.List.{list_any, AllByRecursion}
use Rattle.std.proofs.lemmas.Slice.Eq.{bytes_eq-Decides}
use Rattle.biblatex_content.specs.Verbatim.{is_third_of_verbatim, is_verbatim_name}

-- two names differ, where the third byte of one of them alone passes a test
pub differ : (test : ℕ → Bool) (n m : List ℕ) → test (slice_index n 2) ≡ false → test (slice_index m 2) ≡ true → bytes_eq n m ≡ false
differ test n m other is = by_test (bytes_eq n m) refl
  where
    by_test : (b : Bool) → bytes_eq n m ≡ b → b ≡ false
    by_test true same = sym is ∙ (ap (λ (name : List ℕ). test (slice_index name 2)) (sym ((bytes_eq-Decides n m).0 same)) ∙ other)
    by_test false apart = refl

none_among : (names : List (List ℕ)) → AllByRecursion (λ m. is_third_of_verbatim (slice_index m 2) ≡ true) names → (n : List ℕ) → is_third_of_verbatim (slice_index n 2) ≡ false → list_any (bytes_eq n) names ≡ false
none_among [] all n h = refl
none_among (m ∷ names) all n h = ap (λ (b : Bool). b || list_any (bytes_eq n) names) (differ is_third_of_verbatim n m h all.0) ∙ none_among names all.1 n h

abbrev verbatim : List (List ℕ)
verbatim = codes "file" ∷ codes "doi" ∷ codes "uri" ∷ codes "eprint" ∷ codes "verba" ∷ codes "verbb" ∷ codes "verbc" ∷ codes "pdf" ∷ codes "url" ∷ codes "urlraw" ∷ []

-- a field of such a name is not read verbatim
pub is_ordinary : (n : List ℕ) → is_third_of_verbatim (slice_index n 2) ≡ false → false ≡ is_verbatim_name n
is_ordinary n h = sym (none_among verbatim (refl, (refl, (refl, (refl, (refl, (refl, (refl, (refl, (refl, (refl, tt)))))))))) n h)
