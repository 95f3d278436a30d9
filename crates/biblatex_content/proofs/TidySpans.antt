-- What is still to be written of members with spans, after a gap.
use Rattle.std.proofs.Common.{◌≡◌, ℕ, Bool, true, false, ◌||◌, ◌==◌, List, [], ◌∷◌, ◌++◌, map, refl, sym, ap, ◌∙◌}
use Rattle.laws.specs.Characters.{space}
use Rattle.biblatex_text.specs.Raw.{At}
use Rattle.biblatex_content.specs.declared.chunk.Kind.{Kind}
use Rattle.biblatex_content.specs.declared.tidy.Gap.{Gap}
use Rattle.biblatex_content.specs.declared.tidy.Gap.TheVariants.{Start, Nothing, Space}
use Rattle.biblatex_tex.specs.Character.{is_blank}
use Rattle.biblatex_content.specs.Styled.{Member, Letter, Math}
use Rattle.biblatex_content.specs.Tidy.{is_space}
use Rattle.biblatex_content.specs.Spans.{spaced_at, squeezed_at, without_last_space_at, owed_at, tidied_after_at}

-- what is no space stays, whatever follows
kept : (m : At Member) (ms : List (At Member)) → is_space m.v ≡ false → without_last_space_at (m ∷ ms) ≡ m ∷ without_last_space_at ms
kept m [] other = rw other refl
kept m (n ∷ ms) other = refl

first_no : (a b : Bool) → a || b ≡ false → a ≡ false
first_no true b e = e
first_no false b e = refl

no_space : (c : ℕ) → is_blank c ≡ false → (c == space) ≡ false
no_space c e = first_no (c == space) _ (first_no _ _ (first_no _ _ (first_no _ _ e)))

-- what is still to come after a member that is no blank
abbrev following : List (At Member) → List (At Member)
following ms = squeezed_at false (map spaced_at ms)

-- such a member stays
stays_here : (after_space : Bool) (m : At Member) (ms : List (At Member)) → is_space m.v ≡ false
    → without_last_space_at (squeezed_at after_space (m ∷ map spaced_at ms)) ≡ m ∷ without_last_space_at (following ms)
stays_here after_space m ms other = rw other (kept m (following ms) other)

stays_after : (sp m : At Member) (ms : List (At Member)) → is_space m.v ≡ false
    → without_last_space_at (sp ∷ squeezed_at true (m ∷ map spaced_at ms)) ≡ sp ∷ m ∷ without_last_space_at (following ms)
stays_after sp m ms other = rw other (ap (λ (x : List (At Member)). sp ∷ x) (kept m (following ms) other))

-- and makes a space of a gap that is one
comes : (gap : Gap) (s e : ℕ) (m : At Member) (ms : List (At Member)) → spaced_at m ≡ m → is_space m.v ≡ false
    → owed_at s e gap ++ m ∷ tidied_after_at s e Nothing ms ≡ tidied_after_at s e gap (m ∷ ms)
comes Start s e m ms same other =
    sym (ap (λ (x : At Member). without_last_space_at (squeezed_at true (x ∷ map spaced_at ms))) same ∙ stays_here true m ms other)
comes Nothing s e m ms same other =
    sym (ap (λ (x : At Member). without_last_space_at (squeezed_at false (x ∷ map spaced_at ms))) same ∙ stays_here false m ms other)
comes (Space kind) s e m ms same other =
    let sp : At Member = record { v = Letter kind space; start = s; end = e } in
    sym (ap (λ (x : At Member). without_last_space_at (sp ∷ squeezed_at true (x ∷ map spaced_at ms))) same ∙ stays_after sp m ms other)

pub letter_comes : (gap : Gap) (s e : ℕ) (kind : Kind) (c start end : ℕ) (ms : List (At Member)) → is_blank c ≡ false
    → owed_at s e gap ++ record { v = Letter kind c; start = start; end = end } ∷ tidied_after_at s e Nothing ms
    ≡ tidied_after_at s e gap (record { v = Letter kind c; start = start; end = end } ∷ ms)
letter_comes gap s e kind c start end ms other = comes gap s e (record { v = Letter kind c; start = start; end = end }) ms (rw other refl) (no_space c other)

pub math_comes : (gap : Gap) (s e : ℕ) (text : List ℕ) (start end : ℕ) (ms : List (At Member))
    → owed_at s e gap ++ record { v = Math text; start = start; end = end } ∷ tidied_after_at s e Nothing ms
    ≡ tidied_after_at s e gap (record { v = Math text; start = start; end = end } ∷ ms)
math_comes gap s e text start end ms = comes gap s e (record { v = Math text; start = start; end = end }) ms refl refl

-- a blank goes, or makes a gap
pub blank_begins : (s e : ℕ) (kind : Kind) (c start end : ℕ) (ms : List (At Member)) → is_blank c ≡ true
    → tidied_after_at start end (Space kind) ms ≡ tidied_after_at s e Nothing (record { v = Letter kind c; start = start; end = end } ∷ ms)
blank_begins s e kind c start end ms is = rw is refl

pub blank_goes-first : (s e : ℕ) (kind : Kind) (c start end : ℕ) (ms : List (At Member)) → is_blank c ≡ true
    → tidied_after_at s e Start ms ≡ tidied_after_at s e Start (record { v = Letter kind c; start = start; end = end } ∷ ms)
blank_goes-first s e kind c start end ms is = rw is refl

pub blank_goes : (s e : ℕ) (kind other : Kind) (c start end : ℕ) (ms : List (At Member)) → is_blank c ≡ true
    → tidied_after_at s e (Space kind) ms ≡ tidied_after_at s e (Space kind) (record { v = Letter other c; start = start; end = end } ∷ ms)
blank_goes s e kind other c start end ms is = rw is refl

-- at the end nothing is to come
pub nothing_comes : (s e : ℕ) (gap : Gap) → tidied_after_at s e gap [] ≡ []
nothing_comes s e Start = refl
nothing_comes s e Nothing = refl
nothing_comes s e (Space kind) = refl
