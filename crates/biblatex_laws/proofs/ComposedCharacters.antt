-- What characters are composed to are characters.
use Rattle.std.proofs.Common.{◌≡◌, ℕ, zero, suc, ◌+◌, ◌-◌, ◌/◌, ◌%◌, Bool, true, false, cond, List, [], ◌∷◌, ◌++◌, Some, inl, inr, ◌⊎◌, flat_map, refl, ap, ◌∙◌, arith}
use Rattle.std.specs.Str.{all_scalars}
use Rattle.std.proofs.lemmas.Bool.{cases_eq}
use lib.Utf8.{scalar, low_scalar}
use Rattle.ucd_table.proofs.Computing.{tables}
use Rattle.ucd_table.proofs.RangedFacts.{points_ok, values_ok, Stepped-at_points, Stepped-at_values}
use Rattle.ucd_normal.specs.declared.forms.Form.TheVariants.{Nfc}
use Rattle.ucd_normal.specs.Composition.{IsCompositeOf}
use Rattle.ucd_normal.specs.Decomposition.{decomposition, if_canonical, or_itself, expand, canonical_mapping, canonical_decomposition}
use Rattle.ucd_normal.proofs.CompositionLemmas.{is_empty}
use Rattle.ucd_normal.proofs.DecompositionLemmas.{decomposition_stepped}
use Rattle.unicode_normalization.specs.Compose.{compose, compose_after, primary_composite}
use Rattle.unicode_normalization.specs.Decompose.{decompose}
use Rattle.unicode_normalization.specs.Forms.{decomposed, normalize, nfc}
use Rattle.unicode_normalization.specs.Hangul.{is_syllable, decompose_hangul}
use Rattle.unicode_normalization.specs.Order.{canonical_order, is_reorderable, is_starter, sink}
use Rattle.unicode_normalization.proofs.ComposeLemmas.{compose_after-cases, compose_after-nil}
use Rattle.unicode_normalization.proofs.DecomposeLemmas.{primary_composite-some, is_syllable-IsLv, is_syllable-IsLvt}
use Rattle.unicode_normalization.proofs.HangulLemmas.{IsLv, IsLvt, is_syllable-true, decompose_hangul-two, decompose_hangul-three}
use Rattle.biblatex_laws.proofs.CharacterLists.{append, both_of, first_of, gives, one, tail}

-- the table
mapping_characters : (c : ℕ) → all_scalars (if_canonical (decomposition c)) ≡ true
unfolding tables points_ok values_ok decomposition_stepped
mapping_characters = Stepped-at_values decomposition decomposition_stepped (λ e. all_scalars (if_canonical e)) refl

mapped_character : (c : ℕ) → is_empty (if_canonical (decomposition c)) ≡ false → scalar c ≡ true
unfolding tables points_ok values_ok decomposition_stepped
mapped_character c some = Stepped-at_points decomposition decomposition_stepped (λ e. is_empty (if_canonical e)) (λ p e. scalar p) refl c some

itself : (c : ℕ) (cs : List ℕ) → scalar c ≡ true → all_scalars cs ≡ true → all_scalars (or_itself c cs) ≡ true
itself c [] p q = one c p
itself c (x ∷ xs) p q = q

expanded : (depth c : ℕ) → all_scalars (expand canonical_mapping depth c) ≡ true
unfolding expand
expanded zero c = mapping_characters c
expanded (suc depth) c = gives (λ x. or_itself x (expand canonical_mapping depth x)) (λ x p. itself x (expand canonical_mapping depth x) p (expanded depth x)) (canonical_mapping c) (mapping_characters c)

hangul : (c : ℕ) → is_syllable c ≡ true → all_scalars (decompose_hangul c) ≡ true
hangul c is =
    let range = is_syllable-true c is in
    let l = low_scalar (0x1100 + (c - 0xAC00) / 588) (omega (arith, range.1)) in
    let v = low_scalar (0x1161 + (c - 0xAC00) % 588 / 28) (omega arith) in
    let t = low_scalar (0x11A7 + (c - 0xAC00) % 28) (omega arith) in
    elim (cases_eq ((c - 0xAC00) % 28) 0) [
      | inl two ↦ ap all_scalars (decompose_hangul-two c two) ∙ both_of _ _ l (one (0x1161 + (c - 0xAC00) % 588 / 28) v)
      | inr three ↦ ap all_scalars (decompose_hangul-three c three) ∙ both_of _ _ l (both_of _ _ v (one (0x11A7 + (c - 0xAC00) % 28) t))
    ]

decomposed_character : (c : ℕ) → scalar c ≡ true → all_scalars (decompose Nfc c) ≡ true
unfolding decompose canonical_decomposition
decomposed_character c p = by (is_syllable c) refl
  where
    by : (b : Bool) → is_syllable c ≡ b → all_scalars (cond b (decompose_hangul c) (or_itself c (expand canonical_mapping 3 c))) ≡ true
    by true is = hangul c is
    by false is = itself c (expand canonical_mapping 3 c) p (expanded 3 c)

sunk : (c : ℕ) (ds : List ℕ) → all_scalars (c ∷ ds) ≡ true → all_scalars (sink c ds) ≡ true
unfolding sink
sunk c [] p = p
sunk c (d ∷ ds) p =
    let rest = tail c (d ∷ ds) p in
    by (sunk c ds (both_of (scalar c) (all_scalars ds) (first_of (scalar c) (all_scalars (d ∷ ds)) p) (tail d ds rest))) (first_of (scalar d) (all_scalars ds) rest) (is_reorderable c d)
  where
    by : all_scalars (sink c ds) ≡ true → scalar d ≡ true → (b : Bool) → all_scalars (cond b (d ∷ sink c ds) (c ∷ d ∷ ds)) ≡ true
    by more q true = both_of (scalar d) (all_scalars (sink c ds)) q more
    by more q false = p

ordered : (cs : List ℕ) → all_scalars cs ≡ true → all_scalars (canonical_order cs) ≡ true
unfolding canonical_order
ordered [] p = refl
ordered (c ∷ cs) p = sunk c (canonical_order cs) (both_of (scalar c) (all_scalars (canonical_order cs)) (first_of (scalar c) (all_scalars cs) p) (ordered cs (tail c cs p)))

composite_character : (a b p : ℕ) → primary_composite a b ≡ Some p → scalar p ≡ true
composite_character a b p is = by (primary_composite-some a b p is)
  where
    by : ((IsLv a b p ⊎ IsLvt a b p) ⊎ IsCompositeOf a b p) → scalar p ≡ true
    by (inl (inl lv)) = let range = is_syllable-true p (is_syllable-IsLv a b p lv) in low_scalar p (omega (arith, range.1))
    by (inl (inr lvt)) = let range = is_syllable-true p (is_syllable-IsLvt a b p lvt) in low_scalar p (omega (arith, range.1))
    by (inr h) = mapped_character p (ap is_empty h.mapping)

composed_after : (s : ℕ) (bs cs : List ℕ) → scalar s ≡ true → all_scalars bs ≡ true → all_scalars cs ≡ true → all_scalars (compose_after s bs cs) ≡ true
composed_after s bs [] p q r = ap all_scalars (compose_after-nil s bs) ∙ both_of (scalar s) (all_scalars bs) p q
composed_after s bs (c ∷ cs) p q r =
    let one_more = first_of (scalar c) (all_scalars cs) r in
    let rest = tail c cs r in
    compose_after-cases s bs c cs (λ l. all_scalars l ≡ true)
    (λ made free is. composed_after made bs cs (composite_character s c made is) q rest)
    (λ none starts. both_of (scalar s) (all_scalars (bs ++ compose_after c [] cs)) p (append bs (compose_after c [] cs) q (composed_after c [] cs one_more refl rest)))
    (λ none mark. composed_after s (bs ++ c ∷ []) cs p (append bs (c ∷ []) q (one c one_more)) rest)

composed : (cs : List ℕ) → all_scalars cs ≡ true → all_scalars (compose cs) ≡ true
unfolding compose
composed [] p = refl
composed (c ∷ cs) p = by (composed cs (tail c cs p)) (is_starter c)
  where
    by : all_scalars (compose cs) ≡ true → (b : Bool) → all_scalars (cond b (compose_after c [] cs) (c ∷ compose cs)) ≡ true
    by more true = composed_after c [] cs (first_of (scalar c) (all_scalars cs) p) refl (tail c cs p)
    by more false = both_of (scalar c) (all_scalars (compose cs)) (first_of (scalar c) (all_scalars cs) p) more

-- the composed form of characters is made of characters
pub nfc_characters : (cs : List ℕ) → all_scalars cs ≡ true → all_scalars (nfc cs) ≡ true
unfolding normalize decomposed
nfc_characters cs p = composed (canonical_order (flat_map (decompose Nfc) cs)) (ordered (flat_map (decompose Nfc) cs) (gives (decompose Nfc) decomposed_character cs p))
