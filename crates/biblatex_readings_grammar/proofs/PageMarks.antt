-- What stands between pages, and pages.
use Rattle.std.proofs.Common.{◌≡◌, ℕ, ◌^◌, Bool, true, false, cond, ◌&&◌, ◌||◌, eqb, ltb, List, [], ◌∷◌, ◌++◌, length, Some, None, Result, Ok, ℤ, pos, refl, sym, ap, ◌∙◌, subst, inl, inr, arith}
use Rattle.std.specs.Prelude.{◌⊎◌, unsigned_abs}
use Rattle.std.proofs.lemmas.Bool.{eqb-true, ltb-true, lt-ltb, and_parts}
use Rattle.std.proofs.lemmas.Bool.Decides.{nat_tests}
use Rattle.std.specs.Char.{is_ascii_digit}
use Rattle.std.specs.Str.Parse.{digits_value}
use Rattle.laws.specs.Runs.{prefix_of, after, AllPassTest, Bars}
use Rattle.laws.proofs.Results.{bind_ok, test_ok, ok_is}
use Rattle.laws.proofs.Runs.{cuts, prefix-after, all-prefix}
use Rattle.texts.specs.Character.{passes}
use Rattle.texts.specs.Reading.{number_at}
use Rattle.texts.specs.declared.character.Class.TheVariants.{Digit, Space, Dash}
use Rattle.texts.specs.declared.reader.Unreadable.{Unreadable}
use Rattle.texts.specs.declared.reader.Unreadable.TheVariants.{NotThere}
use Rattle.texts.proofs.ReadingStarts.{Starts, digit_bars}
use Rattle.biblatex_values.specs.Pages.{page_at, dashes_from, dashes_after, comma_from, comma_after}
use Rattle.biblatex_readings_grammar.specs.Pages.{IsPage, is_space, is_dash, ArePassing, AreDashes, IsComma}

-- of what is read a property holds that its equal has
pub at_read : {X : Type 0} (P : X → Type 0) (x p : X) → ◌≡◌ {A = Result X Unreadable} (Ok x) (Ok p) → P x → P p
at_read P x p e h = subst P (ok_is {F = Unreadable} x p e) h

some_is : {X : Type 0} (x y : X) → Some x ≡ Some y → x ≡ y
some_is x y e = cc

-- the reader's class has the characters of the test
record Same (f g : ℕ → Bool) : Type 0 where
  pub same : (c : ℕ) → f c ≡ g c

digits : Same (passes Digit) is_ascii_digit
unfolding passes
digits = record { same = λ c. refl }

spaces : Same (passes Space) is_space
unfolding passes
spaces = record { same = λ c. refl }

dashes : Same (passes Dash) is_dash
unfolding passes
dashes = record { same = λ c. refl }

into : (f g : ℕ → Bool) → Same f g → (t : List ℕ) → AllPassTest g t → AllPassTest f t
into f g s [] all = tt
into f g s (c ∷ t) all = (s.same c ∙ all.0, into f g s t all.1)

out_of : (f g : ℕ → Bool) → Same f g → (t : List ℕ) → AllPassTest f t → AllPassTest g t
out_of f g s [] all = tt
out_of f g s (c ∷ t) all = (sym (s.same c) ∙ all.0, out_of f g s t all.1)

passing-again : (f g : ℕ → Bool) → Same f g → (cs rest : List ℕ) → ArePassing g cs rest → Bars f rest → after f cs ≡ rest
passing-again f g s cs rest (t, e, all) bars = ap (after f) e ∙ (cuts f t rest (into f g s t all) bars).after

passing-takes : (f g : ℕ → Bool) → Same f g → (cs : List ℕ) → ArePassing g cs (after f cs)
passing-takes f g s cs = (prefix_of f cs, prefix-after f cs, out_of f g s (prefix_of f cs) (all-prefix f cs))

-- what bars a space and what follows spaces bars the text
through : (f : ℕ → Bool) (cs rest : List ℕ) → ArePassing is_space cs rest → f 32 ≡ false → Bars f rest → Bars f cs
through f cs rest ([], e, all) space bars = subst (λ (x : List ℕ). Bars f x) (sym e) bars
through f cs rest (c ∷ t, e, all) space bars = subst (λ (x : List ℕ). Bars f x) (sym e) (ap f (eqb-true c 32 all.0) ∙ space)

pub page-again : (cs rest : List ℕ) (n : ℕ) → IsPage cs n rest → Bars (passes Digit) rest → page_at cs ≡ Ok (n, rest)
page-again cs rest n (t, e, all, some, small, is) bars =
    let c = cuts (passes Digit) t rest (into (passes Digit) is_ascii_digit digits t all) bars in
    let first : prefix_of (passes Digit) cs ≡ t = ap (prefix_of (passes Digit)) e ∙ c.prefix in
    let left : after (passes Digit) cs ≡ rest = ap (after (passes Digit)) e ∙ c.after in
    let long : ltb 0 (length t) ≡ true = lt-ltb 0 (length t) some in
    let few : ltb (digits_value 10 t) (2 ^ 31) ≡ true = lt-ltb (digits_value 10 t) (2 ^ 31) small in
    rw (first, left, long, few) (ap (λ (k : ℕ). Ok (k, rest)) (sym is))

pub page-takes : (cs : List ℕ) (p : ℕ × List ℕ) → page_at cs ≡ Ok p → IsPage cs p.0 p.1
page-takes cs p e =
    let ds : List ℕ = prefix_of (passes Digit) cs in
    let n = bind_ok (number_at cs) _ p e in
    let t = test_ok (ltb 0 (length ds) && ltb (digits_value 10 ds) (2 ^ 31)) (Ok (pos (digits_value 10 ds), after (passes Digit) cs)) NotThere n.0 n.1 in
    let both = and_parts (ltb 0 (length ds)) (ltb (digits_value 10 ds) (2 ^ 31)) t.0 in
    let page : IsPage cs (digits_value 10 ds) (after (passes Digit) cs)
    = (ds, prefix-after (passes Digit) cs, out_of (passes Digit) is_ascii_digit digits ds (all-prefix (passes Digit) cs), ltb-true _ _ both.0, ltb-true _ _ both.1, refl) in
    let read : IsPage cs (unsigned_abs n.0.0) n.0.1
    = at_read (λ (q : ℤ × List ℕ). IsPage cs (unsigned_abs q.0) q.1) (pos (digits_value 10 ds), after (passes Digit) cs) n.0 t.1 page in
    at_read (λ (q : ℕ × List ℕ). IsPage cs q.0 q.1) (unsigned_abs n.0.0, n.0.1) p n.2 read

-- a page begins with a digit
pub page-starts : (cs rest : List ℕ) (n : ℕ) → IsPage cs n rest → Starts (passes Digit) cs
page-starts cs rest n ([], e, all, some, small, is) = absurd (omega arith)
page-starts cs rest n (c ∷ t, e, all, some, small, is) = record { first = c; others = t ++ rest; is = e; passes = digits.same c ∙ all.0 }

-- what is no space, no digit and no dash
record IsOther (c : ℕ) : Type 0 where
  pub no_space : passes Space c ≡ false
  pub no_digit : passes Digit c ≡ false

dash_other : (c : ℕ) → is_dash c ≡ true → IsOther c
unfolding passes
dash_other c is = record { no_space = grind (arith, nat_tests); no_digit = grind (arith, nat_tests) }

comma_other : IsOther 44
unfolding passes
comma_other = record { no_space = refl; no_digit = refl }

ampersand_other : IsOther 38
unfolding passes
ampersand_other = record { no_space = refl; no_digit = refl }

separator_other : (c : ℕ) → (c ≡ 44) ⊎ (c ≡ 38) → IsOther c
separator_other c (inl e) = subst IsOther (sym e) comma_other
separator_other c (inr e) = subst IsOther (sym e) ampersand_other

-- neither of the two is a dash
no_dash : (c : ℕ) → (c ≡ 44) ⊎ (c ≡ 38) → passes Dash c ≡ false
unfolding passes
no_dash c (inl e) = ap (passes Dash) e
no_dash c (inr e) = ap (passes Dash) e

space_dash : passes Dash 32 ≡ false
unfolding passes
space_dash = refl

space_digit : passes Digit 32 ≡ false
unfolding passes
space_digit = refl

pub dashes-again : (cs rest : List ℕ) → AreDashes cs rest → Starts (passes Digit) rest → dashes_after cs ≡ Some rest
dashes-again cs rest (a, b, c, before, dash, more, behind) digit =
    let bars = digit_bars rest digit in
    let first = passing-again (passes Space) is_space spaces cs (c ∷ a) before (dash_other c dash).no_space in
    let here : passes Dash c ≡ true = dashes.same c ∙ dash in
    let second = passing-again (passes Dash) is_dash dashes a b more (through (passes Dash) b rest behind space_dash bars.2) in
    let third = passing-again (passes Space) is_space spaces b rest behind bars.1 in
    rw (first, here, second, third) refl

pub dashes-bar : (cs rest : List ℕ) → AreDashes cs rest → Bars (passes Digit) cs
dashes-bar cs rest (a, b, c, before, dash, more, behind) = through (passes Digit) cs (c ∷ a) before space_digit (dash_other c dash).no_digit

pub dashes-take : (cs rest : List ℕ) → dashes_after cs ≡ Some rest → AreDashes cs rest
dashes-take cs rest e = by_first (after (passes Space) cs) (passing-takes (passes Space) is_space spaces cs) e
  where
    by_test : (c : ℕ) (a : List ℕ) → ArePassing is_space cs (c ∷ a) → (t u : Bool) → passes Dash c ≡ t → t ≡ u
        → cond t (Some (after (passes Space) (cond u (after (passes Dash) a) (c ∷ a)))) None ≡ Some rest → AreDashes cs rest
    by_test c a before true true is same h =
        let b : List ℕ = after (passes Dash) a in
        let dash : is_dash c ≡ true = sym (dashes.same c) ∙ is in
        (a, b, c, before, dash, passing-takes (passes Dash) is_dash dashes a, subst (λ (x : List ℕ). ArePassing is_space b x) (some_is (after (passes Space) b) rest h) (passing-takes (passes Space) is_space spaces b))
    by_test c a before true false is same h = absurd cc
    by_test c a before false u is same h = absurd cc

    by_first : (x : List ℕ) → ArePassing is_space cs x → dashes_from x ≡ Some rest → AreDashes cs rest
    by_first [] before h = absurd cc
    by_first (c ∷ a) before h = by_test c a before (passes Dash c) (passes Dash c) refl refl h

pub comma-again : (cs rest : List ℕ) → IsComma cs rest → Starts (passes Digit) rest → comma_after cs ≡ Some rest
comma-again cs rest (a, c, before, is, behind) digit =
    let first = passing-again (passes Space) is_space spaces cs (c ∷ a) before (separator_other c is).no_space in
    let second = passing-again (passes Space) is_space spaces a rest behind (digit_bars rest digit).1 in
    ap comma_from first ∙ (by_mark is ∙ ap (λ (x : List ℕ). Some x) second)
  where
    by_mark : (c ≡ 44) ⊎ (c ≡ 38) → comma_from (c ∷ a) ≡ Some (after (passes Space) a)
    by_mark (inl e) = ap (λ (d : ℕ). comma_from (d ∷ a)) e
    by_mark (inr e) = ap (λ (d : ℕ). comma_from (d ∷ a)) e

pub comma-bars : (cs rest : List ℕ) → IsComma cs rest → Bars (passes Digit) cs
comma-bars cs rest (a, c, before, is, behind) = through (passes Digit) cs (c ∷ a) before space_digit (separator_other c is).no_digit

-- where a comma or an ampersand stands, no dashes do
pub comma-no_dashes : (cs rest : List ℕ) → IsComma cs rest → dashes_after cs ≡ None
comma-no_dashes cs rest (a, c, before, is, behind) =
    let first = passing-again (passes Space) is_space spaces cs (c ∷ a) before (separator_other c is).no_space in
    let here = no_dash c is in
    rw (first, here) refl

pub comma-takes : (cs rest : List ℕ) → comma_after cs ≡ Some rest → IsComma cs rest
comma-takes cs rest e = by_first (after (passes Space) cs) (passing-takes (passes Space) is_space spaces cs) e
  where
    behind : (a : List ℕ) → Some (after (passes Space) a) ≡ Some rest → ArePassing is_space a rest
    behind a h = subst (λ (x : List ℕ). ArePassing is_space a x) (some_is (after (passes Space) a) rest h) (passing-takes (passes Space) is_space spaces a)

    by_tests : (c : ℕ) (a : List ℕ) → ArePassing is_space cs (c ∷ a) → (t u : Bool) → eqb c 44 ≡ t → eqb c 38 ≡ u → cond (t || u) (Some (after (passes Space) a)) None ≡ Some rest → IsComma cs rest
    by_tests c a before true u is other h = (a, c, before, inl (eqb-true c 44 is), behind a h)
    by_tests c a before false true is other h = (a, c, before, inr (eqb-true c 38 other), behind a h)
    by_tests c a before false false is other h = absurd cc

    by_first : (x : List ℕ) → ArePassing is_space cs x → comma_from x ≡ Some rest → IsComma cs rest
    by_first [] before h = absurd cc
    by_first (c ∷ a) before h = by_tests c a before (eqb c 44) (eqb c 38) refl refl h
