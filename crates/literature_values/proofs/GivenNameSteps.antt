-- Pieces of a given name, one after the other.
use Rattle.std.proofs.Common.{◌≡◌, ℕ, ◌+◌, ◌<◌, Bool, true, false, cond, List, [], ◌∷◌, ◌++◌, length, map, Option, Some, None, Result, Ok, Err, refl, sym, ap, ◌∙◌, subst, arith, length-append}
use Rattle.std.specs.Prelude.{filter}
use Rattle.std.specs.Fmt.{WritesInCalls}
use Rattle.laws.specs.Characters.{full_stop, hyphen}
use Rattle.laws.specs.Results.{◌>>=◌}
use Rattle.laws.specs.Steps.{each, Shortens}
use Rattle.laws.specs.Runs.{prefix_of, after}
use Rattle.laws.specs.Text.{text}
use Rattle.laws.proofs.Results.{ok_is}
use Rattle.laws.proofs.Runs.{length-after, prefix-after}
use Rattle.laws.proofs.Steps.{each-none, each-some}
use Rattle.texts.specs.Character.{passes}
use Rattle.texts.specs.Reading.{taken}
use Rattle.texts.specs.declared.character.Class.TheVariants.{Blank}
use Rattle.literature_values.specs.Initials.{Style}
use Rattle.literature_values.specs.GivenNames.{is_of, Piece, piece_after, piece_from, next_piece_at, pieces_read, pieces, Shown, shown, stays, all_shown, shown_text, further_shown, others_shown, joined_shown, by_piece}
use Rattle.literature_values.proofs.InitialsSteps.{taken-leaves}
use Rattle.literature_values.proofs.WritingSteps.{WrittenSoFar, begun, one_more, all_written}
use Rattle.literature_values.specs.declared.given_name.PieceClass.TheVariants.{Between, Within}

-- a piece takes a character at least
pub pieces_shorten : Shortens next_piece_at
unfolding next_piece_at
pieces_shorten cs rest p is =
    by_name (prefix_of (is_of Within) left) (ap length (prefix-after (is_of Within) left) ∙ length-append (prefix_of (is_of Within) left) tail)
    (ok_is {F = ⊥} (piece_from (taken hyphen (after (passes Blank) cs))) (Some p, rest) is)
  where
    left : List ℕ
    left = after (is_of Between) (taken hyphen (after (passes Blank) cs)).1

    tail : List ℕ
    tail = after (is_of Within) left

    by_name : (name : List ℕ) → length left ≡ length name + length tail → piece_after (taken hyphen (after (passes Blank) cs)).0 name (taken full_stop tail) ≡ (Some p, rest)
        → length rest < length cs
    by_name [] parts e =
        let none = ap (λ (q : Option Piece × List ℕ). q.0) e in
        absurd cc
    by_name (c ∷ name) parts e =
        omega (arith, ap (λ (q : Option Piece × List ℕ). length q.1) e, taken-leaves full_stop tail, taken-leaves hyphen (after (passes Blank) cs), length-after (passes Blank) cs, length-after (is_of Between) (taken hyphen (after (passes Blank) cs)).1)

pieces_more : (p : Piece) (cs rest : List ℕ) → next_piece_at cs ≡ Ok (Some p, rest) → pieces cs ≡ p ∷ pieces rest
pieces_more p cs rest is = ap pieces_read (each-some next_piece_at pieces_shorten cs rest p is) ∙ by_rest (each next_piece_at rest)
  where
    by_rest : (q : Result (List Piece × List ℕ) ⊥) → pieces_read (q >>= λ r. Ok (p ∷ r.0, r.1)) ≡ p ∷ pieces_read q
    by_rest (Ok r) = refl
    by_rest (Err e) = absurd e

abbrev kept : Bool → List Piece → List Shown
kept cuts ps = filter (stays cuts) (map (shown cuts) ps)

-- a piece that stays is the first that is printed
pub shown_first : (cuts : Bool) (p : Piece) (cs rest : List ℕ) → next_piece_at cs ≡ Ok (Some p, rest) → stays cuts (shown cuts p) ≡ true → all_shown cuts cs ≡ shown cuts p ∷ all_shown cuts rest
shown_first cuts p cs rest is stay =
    ap (kept cuts) (pieces_more p cs rest is) ∙ ap (λ (b : Bool). cond b (shown cuts p ∷ all_shown cuts rest) (all_shown cuts rest)) stay

-- of one that is left out nothing is
pub shown_later : (cuts : Bool) (p : Piece) (cs rest : List ℕ) → next_piece_at cs ≡ Ok (Some p, rest) → stays cuts (shown cuts p) ≡ false → all_shown cuts cs ≡ all_shown cuts rest
shown_later cuts p cs rest is stay =
    ap (kept cuts) (pieces_more p cs rest is) ∙ ap (λ (b : Bool). cond b (shown cuts p ∷ all_shown cuts rest) (all_shown cuts rest)) stay

-- at the end nothing is
pub shown_none : (cuts : Bool) (cs rest : List ℕ) → next_piece_at cs ≡ Ok (None, rest) → all_shown cuts cs ≡ []
shown_none cuts cs rest is = ap (λ (q : Result (List Piece × List ℕ) ⊥). kept cuts (pieces_read q)) (each-none next_piece_at cs rest is)

-- what was written so far, and what is printed of the pieces left after another one, are all of a given name
abbrev pub GivenSoFar : {W : Type 0} → (W → List ℕ → W → Type 0) → W → Bool → Style → List ℕ → Shown → List ℕ → W → Type 0
GivenSoFar took from cuts s given x rest to = WrittenSoFar took from (by_piece cuts s given) (others_shown s x (all_shown cuts rest)) to

-- a given name of which nothing is printed
pub given_none : (cuts : Bool) (s : Style) (given : List ℕ) → all_shown cuts given ≡ [] → by_piece cuts s given ≡ []
unfolding by_piece
given_none cuts s given is = ap (joined_shown s) is

given_first : (cuts : Bool) (s : Style) (given : List ℕ) (x : Shown) (xs : List Shown) → all_shown cuts given ≡ x ∷ xs → shown_text s x ++ others_shown s x xs ≡ by_piece cuts s given
unfolding by_piece
given_first cuts s given x xs is = sym (ap (joined_shown s) is)

module _ {W : Type 0} (took : W → List ℕ → W → Type 0) (from : W) (cuts : Bool) (s : Style) (given : List ℕ) where
  -- after the first piece
  pub begins : (x : Shown) (rest : List ℕ) (to : W) → all_shown cuts given ≡ x ∷ all_shown cuts rest → WritesInCalls took from (text (shown_text s x)) to → GivenSoFar took from cuts s given x rest to
  begins x rest to is wrote =
      begun took from (by_piece cuts s given) (shown_text s x) (others_shown s x (all_shown cuts rest)) to (given_first cuts s given x (all_shown cuts rest) is) wrote

  -- after one more
  pub goes_on : (x y : Shown) (rest more : List ℕ) (to last : W) → GivenSoFar took from cuts s given x rest to → all_shown cuts rest ≡ y ∷ all_shown cuts more
      → WritesInCalls took to (text (further_shown s (x, y))) last → GivenSoFar took from cuts s given y more last
  goes_on x y rest more to last w is wrote =
      one_more took from (by_piece cuts s given) (further_shown s (x, y)) (others_shown s y (all_shown cuts more)) to last
      (subst (λ (ys : List Shown). WrittenSoFar took from (by_piece cuts s given) (others_shown s x ys) to) is w) wrote

  -- where no further one is printed
  pub ends : (x : Shown) (rest : List ℕ) (to : W) → GivenSoFar took from cuts s given x rest to → all_shown cuts rest ≡ [] → WritesInCalls took from (text (by_piece cuts s given)) to
  ends x rest to w is =
      all_written took from (by_piece cuts s given) to (subst (λ (ys : List Shown). WrittenSoFar took from (by_piece cuts s given) (others_shown s x ys) to) is w)
