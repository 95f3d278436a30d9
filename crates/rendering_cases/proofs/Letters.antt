-- Cases that take each character by itself, and texts without letters.
use Rattle.std.proofs.Common.{◌≡◌, ℕ, Bool, true, false, ◌&&◌, ◌||◌, cond, List, [], ◌∷◌, ◌++◌, flat_map, refl, sym, ap, ap₂, subst, ◌∙◌, true≢false, Option, Some, None}
use Rattle.std.specs.Global.{Global}
use Rattle.std.specs.Prelude.{IfOk, IfSome, Result, String}
use Rattle.std.proofs.lemmas.Result.{IfOk-weaker}
use Rattle.laws.specs.Text.{characters}
use Rattle.std.specs.Char.Unicode.ToLowercase.{to_lowercase}
use Rattle.std.specs.Char.Unicode.ToUppercase.{to_uppercase}
use Rattle.std.specs.List.{list_any}
use Rattle.rendering_taxonomy.specs.declared.text_case.TextCase.{TextCase}
use Rattle.rendering_taxonomy.specs.declared.text_case.TextCase.TheVariants as cases
use Rattle.rendering_cases.specs.Cases.{cased_text, changed, changed_between}
use Rattle.rendering_cases.specs.Laws.{changes_first_letters, letter_by_letter}
use Rattle.rendering_cases.specs.Words.{Place, is_in_capitals, is_letter, place_at}

lowered : (in_capitals : Bool) (before cs beyond : List ℕ) → changed_between cases.Lowercase in_capitals before cs beyond ≡ flat_map to_lowercase cs
lowered in_capitals before [] beyond = refl
lowered in_capitals before (c ∷ cs) beyond = ap (λ (t : List ℕ). to_lowercase c ++ t) (lowered in_capitals (c ∷ before) cs beyond)

raised : (in_capitals : Bool) (before cs beyond : List ℕ) → changed_between cases.Uppercase in_capitals before cs beyond ≡ flat_map to_uppercase cs
raised in_capitals before [] beyond = refl
raised in_capitals before (c ∷ cs) beyond = ap (λ (t : List ℕ). to_uppercase c ++ t) (raised in_capitals (c ∷ before) cs beyond)

pub cased_by_letters : (case : Option TextCase) (is_english : Bool) (cs : List ℕ) → IfSome (letter_by_letter case cs) (λ ds. cased_text case is_english cs ≡ ds)
cased_by_letters None is_english cs = tt
cased_by_letters (Some cases.Lowercase) is_english cs = lowered (is_in_capitals cs) [] cs []
cased_by_letters (Some cases.Uppercase) is_english cs = raised (is_in_capitals cs) [] cs []
cased_by_letters (Some cases.CapitalizeFirst) is_english cs = tt
cased_by_letters (Some cases.CapitalizeAll) is_english cs = tt
cased_by_letters (Some cases.Sentence) is_english cs = tt
cased_by_letters (Some cases.Title) is_english cs = tt

-- a case changes no character but letters
abbrev Keeps : TextCase → Type 0
Keeps case = (in_capitals : Bool) (p : Place) (c : ℕ) → is_letter c ≡ false → changed case in_capitals p c ≡ c ∷ []

keeps_all : Keeps cases.CapitalizeAll
keeps_all in_capitals p c none = rw none refl

keeps_first : Keeps cases.CapitalizeFirst
keeps_first in_capitals p c none = rw none (by_start p.begins_text)
  where
    by_start : (b : Bool) → cond (b && false) (to_uppercase c) (c ∷ []) ≡ c ∷ []
    by_start true = refl
    by_start false = refl

keeps_title : Keeps cases.Title
keeps_title in_capitals p c none = rw none refl

-- the first of two tests fails where neither holds, and the second
first_fails : (a b : Bool) → (a || b) ≡ false → a ≡ false
first_fails true b e = e
first_fails false b e = refl

second_fails : (a b : Bool) → (a || b) ≡ false → b ≡ false
second_fails true b e = absurd (true≢false e)
second_fails false b e = e

kept_between : (case : TextCase) → Keeps case → (in_capitals : Bool) (before cs beyond : List ℕ) → list_any is_letter cs ≡ false → changed_between case in_capitals before cs beyond ≡ cs
kept_between case keeps in_capitals before [] beyond none = refl
kept_between case keeps in_capitals before (c ∷ cs) beyond none =
    ap₂ (λ (s t : List ℕ). s ++ t)
    (keeps in_capitals (place_at before (c ∷ (cs ++ beyond))) c (first_fails (is_letter c) (list_any is_letter cs) none))
    (kept_between case keeps in_capitals (c ∷ before) cs beyond (second_fails (is_letter c) (list_any is_letter cs) none))

-- a text without letters stays as it is, but for small and capital letters, and sentences
pub unlettered : (case : Option TextCase) (is_english : Bool) (cs : List ℕ) → changes_first_letters case ≡ true → list_any is_letter cs ≡ false → cased_text case is_english cs ≡ cs
unlettered None is_english cs changes none = refl
unlettered (Some cases.Lowercase) is_english cs changes none = absurd (true≢false (sym changes))
unlettered (Some cases.Uppercase) is_english cs changes none = absurd (true≢false (sym changes))
unlettered (Some cases.CapitalizeFirst) is_english cs changes none = kept_between cases.CapitalizeFirst keeps_first (is_in_capitals cs) [] cs [] none
unlettered (Some cases.CapitalizeAll) is_english cs changes none = kept_between cases.CapitalizeAll keeps_all (is_in_capitals cs) [] cs [] none
unlettered (Some cases.Sentence) is_english cs changes none = absurd (true≢false (sym changes))
unlettered (Some cases.Title) true cs changes none = kept_between cases.Title keeps_title (is_in_capitals cs) [] cs [] none
unlettered (Some cases.Title) false cs changes none = refl

-- what is said of a text in a case, of one that may have failed
pub letters_said : {E : Type 0} (r : Result (String Global) E) (case : Option TextCase) (is_english : Bool) (cs : List ℕ) → IfOk r (λ s. characters s ≡ cased_text case is_english cs)
    → IfOk r (λ s. IfSome (letter_by_letter case cs) (λ ds. characters s ≡ ds))
letters_said r case is_english cs made = IfOk-weaker r _ (λ s. IfSome (letter_by_letter case cs) (λ ds. characters s ≡ ds)) (λ s e. subst (λ (t : List ℕ). IfSome (letter_by_letter case cs) (λ ds. t ≡ ds)) (sym e) (cased_by_letters case is_english cs)) made

pub unlettered_said : {E : Type 0} (r : Result (String Global) E) (case : Option TextCase) (is_english : Bool) (cs : List ℕ) → IfOk r (λ s. characters s ≡ cased_text case is_english cs)
    → IfOk r (λ s. changes_first_letters case ≡ true → list_any is_letter cs ≡ false → characters s ≡ cs)
unlettered_said r case is_english cs made = IfOk-weaker r _ (λ s. changes_first_letters case ≡ true → list_any is_letter cs ≡ false → characters s ≡ cs) (λ s e changes none. e ∙ unlettered case is_english cs changes none) made
