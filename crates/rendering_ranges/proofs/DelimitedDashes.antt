-- An en dash in place of an en dash.
use Rattle.std.proofs.Common.{◌≡◌, ℕ, Bool, true, false, ◌==◌, ◌&&◌, ◌||◌, List, [], ◌∷◌, ◌++◌, refl, sym, ap, ◌∙◌, append_assoc, eqb-true}
use Rattle.std.specs.Prelude.{not, if◌then◌else◌}
use Rattle.laws.specs.Characters.{en_dash}
use Rattle.rendering_ranges.specs.Dashes.{dash_follows, has_come_after}
use Rattle.rendering_ranges.specs.Delimited.{EnDashesStay, delimited_after, exchanged}

-- what takes its own place
own : (b e : Bool) (c : ℕ) → (b ≡ true → c ≡ en_dash) → (if b && e then en_dash ∷ [] else c ∷ []) ≡ c ∷ []
own true true c h = ap (λ n. n ∷ []) (sym (h refl))
own true false c h = refl
own false e c h = refl

one : (has_come : Bool) (c : ℕ) (cs : List ℕ) → exchanged (en_dash ∷ []) has_come c cs ≡ c ∷ []
one has_come c cs = own (c == en_dash) (not (has_come || dash_follows cs)) c (eqb-true c en_dash)

each : (has_come : Bool) (cs : List ℕ) → delimited_after (en_dash ∷ []) has_come cs ≡ cs
each has_come [] = refl
each has_come (c ∷ cs) = λ i. one has_come c cs i ++ each (has_come_after has_come c) cs i

pub en_dashes_stay : EnDashesStay
en_dashes_stay cs = each false cs

-- one more character is printed
pub put : (delimiter : List ℕ) (has_come comes : Bool) (old new : List ℕ) (c : ℕ) (cs : List ℕ) → new ≡ old ++ exchanged delimiter has_come c cs → comes ≡ has_come_after has_come c
    → new ++ delimited_after delimiter comes cs ≡ old ++ delimited_after delimiter has_come (c ∷ cs)
put delimiter has_come comes old new c cs e f =
    (λ i. e i ++ delimited_after delimiter (f i) cs)
    ∙ append_assoc old (exchanged delimiter has_come c cs) (delimited_after delimiter (has_come_after has_come c) cs)
