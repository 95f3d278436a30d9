-- Characters of ASCII: none has marks, and none is in a table of other letters.
use Rattle.std.proofs.Common.{◌≡◌, ℕ, ◌+◌, ◌<◌, Bool, true, false, cond, nat_lt, List, [], ◌∷◌, ◌++◌, ◌==◌, find, flat_map, None, Some, refl, sym, ap, ◌∙◌, arith, ltb-true, ne_eqb}
use Rattle.std.specs.Char.{is_ascii, to_ascii_lowercase}
use Rattle.std.specs.List.{list_all}
use Rattle.std.specs.Option.{option_map_or}
use Rattle.std.proofs.lemmas.Bool.{and_parts}
use Rattle.std.proofs.lemmas.List.Sums.{AllPass-from_list_all}
use Rattle.ucd_case.specs.CaseFolding.{full_fold, or_itself}
use Rattle.ucd_case.proofs.CaseFoldingLemmas.{full_fold-ascii}
use Rattle.unicode_normalization.specs.Forms.{Nfd, nfd}
use Rattle.unicode_normalization.proofs.FormsLemmas.{normalize-ascii}
use Rattle.collation.specs.Keys.{letter}
use Rattle.collation.specs.Letters.{first_filled, later_letters, letters_for, ligatures, stroked_letters, text_for}

module _ (c : ℕ) (low : c < 128) where
  -- it is in no table of characters above it
  found_none : (rows : List (ℕ × List ℕ)) → list_all (λ (r : ℕ × List ℕ). nat_lt 127 r.0) rows ≡ true → find (λ (r : ℕ × List ℕ). c == r.0) rows ≡ None
  found_none [] above = refl
  found_none (r ∷ rs) above =
      let parts : (nat_lt 127 r.0 ≡ true) × (list_all (λ (s : ℕ × List ℕ). nat_lt 127 s.0) rs ≡ true) = and_parts _ _ above in
      ap (λ b. cond b (Some r) (find (λ (s : ℕ × List ℕ). c == s.0) rs)) (ne_eqb c r.0 (λ e. omega (arith, low, e, ltb-true 127 r.0 parts.0)))
      ∙ found_none rs parts.1

  text_none : (rows : List (ℕ × List ℕ)) → list_all (λ (r : ℕ × List ℕ). nat_lt 127 r.0) rows ≡ true → text_for rows c ≡ []
  text_none rows above = ap (λ o. option_map_or (λ (r : ℕ × List ℕ). r.1) o []) (found_none rows above)

  no_others : letters_for c ≡ []
  unfolding letters_for
  no_others = λ i. first_filled (text_none stroked_letters refl i) (first_filled (text_none ligatures refl i) (text_none later_letters refl i))

  own_letter : letter c ≡ c ∷ []
  own_letter = ap (or_itself c) no_others

  lowered : (b d : Bool) → nat_lt c 91 ≡ d → cond b c (cond d (c + 32) c) < 128
  lowered true d e = low
  lowered false true e = omega (arith, ltb-true c 91 e)
  lowered false false e = low

-- it is folded to its small letter
pub folded_ascii : (c : ℕ) → c < 128 → flat_map letter (full_fold c) ≡ to_ascii_lowercase c ∷ []
folded_ascii c low =
    ap (flat_map letter) (full_fold-ascii c low)
    ∙ ap (λ ls. ls ++ []) (own_letter (to_ascii_lowercase c) (lowered c low (nat_lt c 65) (nat_lt c 91) refl))

-- a text of such characters is decomposed
pub nfd_ascii : (cs : List ℕ) → list_all is_ascii cs ≡ true → cs ≡ nfd cs
nfd_ascii cs all = sym (normalize-ascii Nfd cs (λ k d l. ltb-true _ _ (AllPass-from_list_all is_ascii cs all k d l)))
