-- Lines, and what is shown of them.
use Rattle.std.proofs.Common.{◌≡◌, ℕ, List, [], ◌∷◌, ◌++◌, map, flat_map, sym, ap, ◌∙◌, append_assoc}
use Rattle.std.specs.Str.{chars, IsUtf8}
use Rattle.laws.specs.Text.{text}
use Rattle.laws.proofs.Text.{text_of_chars, text-append}
use Rattle.source_positions.specs.Position.{shown_in_line, blank}

-- a text is spelled by the characters that were put together
pub spelled : (bs cs : List ℕ) → IsUtf8 bs → chars bs ≡ cs → bs ≡ text cs
spelled bs cs u e = sym (text_of_chars bs u) ∙ ap text e

-- characters after a text are spelled after it
pub put_characters : (old new cs : List ℕ) → IsUtf8 old → IsUtf8 new → chars new ≡ chars old ++ cs → new ≡ old ++ text cs
put_characters old new cs u v e = spelled new (chars old ++ cs) v e ∙ (text-append (chars old) cs ∙ ap (λ (t : List ℕ). t ++ text cs) (text_of_chars old u))

-- one more character of a line
pub put_shown : (start old new rest more : List ℕ) (c : ℕ) → old ++ flat_map shown_in_line rest ≡ start → rest ≡ c ∷ more → new ≡ old ++ shown_in_line c → new ++ flat_map shown_in_line more ≡ start
put_shown start old new rest more c so_far next e =
    ap (λ (t : List ℕ). t ++ flat_map shown_in_line more) e
    ∙ (append_assoc old (shown_in_line c) (flat_map shown_in_line more)
    ∙ (ap (λ (t : List ℕ). old ++ flat_map shown_in_line t) (sym next) ∙ so_far))

-- one more blank
pub put_blank : (start old new rest more : List ℕ) (c : ℕ) → old ++ map blank rest ≡ start → rest ≡ c ∷ more → new ≡ old ++ blank c ∷ [] → new ++ map blank more ≡ start
put_blank start old new rest more c so_far next e =
    ap (λ (t : List ℕ). t ++ map blank more) e
    ∙ (append_assoc old (blank c ∷ []) (map blank more)
    ∙ (ap (λ (t : List ℕ). old ++ map blank t) (sym next) ∙ so_far))
