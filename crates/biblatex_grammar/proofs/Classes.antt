-- The classes of characters of the grammar are those that the reader tests.
use Rattle.std.proofs.Common.{◌≡◌, ℕ, Bool, true, false, true≢false, not, ◌&&◌, ◌||◌, eqb, List, [], ◌∷◌, refl, sym, ap, ◌∙◌}
use Rattle.std.specs.Char.{is_whitespace, is_control}
use Rattle.std.proofs.lemmas.Bool.{eqb-true}
use Rattle.biblatex_text.specs.Character.{is_special, is_id_continue, is_id_start, is_key}
use Rattle.biblatex_grammar.specs.Characters.{is_one_of, marks, is_of_identifier, is_first_of_identifier, is_of_key}

-- a character that passes a test is none that does not
pub differs : (test : ℕ → Bool) (c d : ℕ) → test c ≡ true → test d ≡ false → eqb c d ≡ false
differs test c d is never = by_test (eqb c d) refl
  where
    by_test : (b : Bool) → eqb c d ≡ b → b ≡ false
    by_test true e = absurd (true≢false (sym is ∙ ap test (eqb-true c d e) ∙ never))
    by_test false e = refl

-- neither of two tests is passed
pub neither : (a b : Bool) → a || b ≡ false → (a ≡ false) × (b ≡ false)
neither true b h = absurd (true≢false h)
neither false b h = (refl, h)

pub none_of_both : (a b : Bool) → a ≡ false → b ≡ false → a || b ≡ false
none_of_both a b e f = rw (e, f) refl

-- the parts of texts that are the same
pub head_same : (x y : ℕ) (xs ys : List ℕ) → x ∷ xs ≡ y ∷ ys → x ≡ y
head_same x y xs ys e = cc

pub tail_same : (x y : ℕ) (xs ys : List ℕ) → x ∷ xs ≡ y ∷ ys → xs ≡ ys
tail_same x y xs ys e = cc

pub never_empty : (x : ℕ) (xs : List ℕ) → [] ≡ x ∷ xs → ⊥
never_empty x xs e = cc

or-assoc : (a b c : Bool) → a || b || c ≡ a || (b || c)
or-assoc true b c = refl
or-assoc false b c = refl

or-false : (a : Bool) → a || false ≡ a
or-false true = refl
or-false false = refl

not-not : (a : Bool) → not (not a) ≡ a
not-not true = refl
not-not false = refl

thirteen : (a b c d e f g h i j k l m : Bool) → a || (b || (c || (d || (e || (f || (g || (h || (i || (j || (k || (l || (m || false)))))))))))) ≡ a || b || c || d || e || f || g || h || i || j || k || l || m
thirteen a b c d e f g h i j k l m = simp (or-assoc, or-false)

special-same : (c : ℕ) → is_one_of marks c ≡ is_special c
special-same c = thirteen (eqb c 64) (eqb c 123) (eqb c 125) (eqb c 34) (eqb c 35) (eqb c 39) (eqb c 40) (eqb c 41) (eqb c 44) (eqb c 61) (eqb c 37) (eqb c 92) (eqb c 126)

pub identifier-same : (c : ℕ) → is_of_identifier c ≡ is_id_continue c
identifier-same c = ap (λ b. not (is_whitespace c || is_control c || b)) (special-same c)

four : (x a b c d : Bool) → x || (a || (b || (c || (d || false)))) ≡ x || a || b || c || d
four x a b c d = simp (or-assoc, or-false)

pub first-same : (c : ℕ) → is_first_of_identifier c ≡ is_id_start c
first-same c =
    ap (λ b. not (not b || is_one_of (58 ∷ 60 ∷ 45 ∷ 62 ∷ []) c)) (identifier-same c)
    ∙ (ap (λ b. not (b || is_one_of (58 ∷ 60 ∷ 45 ∷ 62 ∷ []) c)) (not-not (is_whitespace c || is_control c || is_special c))
    ∙ ap not (four (is_whitespace c || is_control c || is_special c) (eqb c 58) (eqb c 60) (eqb c 45) (eqb c 62)))

braced : (x a b c : Bool) → not (x || (a || (b || (c || (b || false))))) ≡ not (x || a || b || c)
braced true a b c = refl
braced false true b c = refl
braced false false true c = refl
braced false false false true = refl
braced false false false false = refl

pub key-same : (c : ℕ) → is_of_key 125 c ≡ is_key c
key-same c = braced (is_whitespace c || is_control c) (eqb c 44) (eqb c 125) (eqb c 37)

rounded : (x a b c d : Bool) → not (x || (a || (b || (c || (d || false))))) ≡ not (x || a || b || c) && not d
rounded true a b c d = refl
rounded false true b c d = refl
rounded false false true c d = refl
rounded false false false true d = refl
rounded false false false false true = refl
rounded false false false false false = refl

pub round_key-same : (c : ℕ) → is_of_key 41 c ≡ is_key c && not (eqb c 41)
round_key-same c = rounded (is_whitespace c || is_control c) (eqb c 44) (eqb c 125) (eqb c 37) (eqb c 41)
