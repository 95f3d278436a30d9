-- Texts put one after the other.
use Rattle.std.proofs.Common.{◌≡◌, ℕ, ◌<◌, ◌^◌, List, [], ◌∷◌, ◌++◌, Result, Ok, Err, String, Global, IfOk, string_bytes, refl, ap, ◌∙◌, append_assoc}
use Rattle.std.specs.Prelude.{OnOk}
use Rattle.std.specs.Fmt.{decimal}
use Rattle.std.specs.Str.{chars}
use Rattle.std.proofs.lemmas.Fmt.{IsAscii-decimal}
use Rattle.std.proofs.lemmas.Str.{chars-IsAscii}
use Rattle.laws.specs.Characters as character
use Rattle.laws.specs.Text.{characters}

-- the bytes that spell an en dash
dash : chars (226 ∷ 128 ∷ 147 ∷ []) ≡ character.en_dash ∷ []
unfolding chars
dash = refl

-- a comma and a space spell themselves
comma : chars (character.comma ∷ character.space ∷ []) ≡ character.comma ∷ character.space ∷ []
unfolding chars
comma = refl

-- two texts after another
put_two : {E : Type 0} (r : Result (Unit {0}) E) (old middle new first more : List ℕ) → middle ≡ old ++ first → OnOk r (new ≡ middle ++ more) → OnOk r (new ≡ old ++ (first ++ more))
put_two (Ok x) old middle new first more e f = f ∙ ap (λ (t : List ℕ). t ++ more) e ∙ append_assoc old first more
put_two (Err x) old middle new first more e f = tt

pub after_dash : {E : Type 0} (r : Result (Unit {0}) E) (old middle new more : List ℕ) → middle ≡ old ++ chars (226 ∷ 128 ∷ 147 ∷ []) → OnOk r (new ≡ middle ++ more) → OnOk r (new ≡ old ++ character.en_dash ∷ more)
after_dash r old middle new more e f = put_two r old middle new (character.en_dash ∷ []) more (e ∙ ap (λ (t : List ℕ). old ++ t) dash) f

pub after_comma : {E : Type 0} (r : Result (Unit {0}) E) (old middle new more : List ℕ) → middle ≡ old ++ chars (character.comma ∷ character.space ∷ []) → OnOk r (new ≡ middle ++ more) → OnOk r (new ≡ old ++ character.comma ∷ character.space ∷ more)
after_comma r old middle new more e f = put_two r old middle new (character.comma ∷ character.space ∷ []) more (e ∙ ap (λ (t : List ℕ). old ++ t) comma) f

-- a number is printed in ASCII
pub shown_page : {E : Type 0} (r : Result (String Global) E) (n : ℕ) → n < 2 ^ 64 → IfOk r (λ s. string_bytes s ≡ decimal n) → IfOk r (λ s. characters s ≡ decimal n)
shown_page (Ok s) n fits e = ap chars e ∙ chars-IsAscii (decimal n) (IsAscii-decimal n fits)
shown_page (Err f) n fits e = tt
