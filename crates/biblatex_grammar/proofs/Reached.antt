-- Where the machine is after the beginning of a text, and where it stops.
use Rattle.std.proofs.Common.{◌≡◌, ℕ, Bool, true, false, cond, List, [], ◌∷◌, ◌++◌, ◌⊎◌, Result, Ok, Err, codes, refl, sym, ap, ◌∙◌, subst, inl, inr}
use Rattle.laws.proofs.Results.{ok_is}
use Rattle.biblatex_text.specs.Reading.{Refusal}
use Rattle.biblatex_text.specs.Items.{is_named}
use Rattle.biblatex_text.specs.declared.token.Fault.{Fault}
use Rattle.biblatex_text.specs.declared.token.Fault.TheVariants.{UnexpectedEof}
use Rattle.biblatex_grammar.proofs.Machine.{Point, item, kind_done, Place, before, naming, Next, step, Verdict, whole, too_soon, end_of, ends_at, continued, verdict, reached}

pub err_is : {A F : Type 0} (x y : F) → ◌≡◌ {A = Result A F} (Err x) (Err y) → x ≡ y
err_is x y e = cc

-- where a text is read, no fault stands
pub whole_is_err : (r : Refusal) → whole ≡ Err r → ⊥
whole_is_err r e = cc

-- after a beginning the machine says of the text what it says of the rest
pub on-reached : (front : List ℕ) (place then : Place) (rest : List ℕ) → reached place front ≡ Ok then → verdict place (front ++ rest) ≡ verdict then rest
on-reached [] place then rest e = ap (λ p. verdict p rest) (ok_is {F = Refusal} place then e)
on-reached (c ∷ front) place then rest e = by_step (step place c) (λ p. on-reached front p then rest) e
  where
    by_step : (r : Next) → ((p : Place) → reached p front ≡ Ok then → verdict p (front ++ rest) ≡ verdict then rest) → continued r (c ∷ front) (λ p. reached p front) ≡ Ok then
        → continued r (c ∷ front ++ rest) (λ p. verdict p (front ++ rest)) ≡ verdict then rest
    by_step (Ok p) more d = more p d
    by_step (Err f) more d = absurd cc

pub reached-on : (front : List ℕ) (place then : Place) (rest : List ℕ) → reached place front ≡ Ok then → reached place (front ++ rest) ≡ reached then rest
reached-on [] place then rest e = ap (λ p. reached p rest) (ok_is {F = Refusal} place then e)
reached-on (c ∷ front) place then rest e = by_step (step place c) (λ p. reached-on front p then rest) e
  where
    by_step : (r : Next) → ((p : Place) → reached p front ≡ Ok then → reached p (front ++ rest) ≡ reached then rest) → continued r (c ∷ front) (λ p. reached p front) ≡ Ok then
        → continued r (c ∷ front ++ rest) (λ p. reached p (front ++ rest)) ≡ reached then rest
    by_step (Ok p) more d = more p d
    by_step (Err f) more d = absurd cc

-- what begins a text that is read the machine goes through
pub begins-reached : (front : List ℕ) (place : Place) (rest : List ℕ) → verdict place (front ++ rest) ≡ whole → (then : Place) × (reached place front ≡ Ok then)
begins-reached [] place rest e = (place, refl)
begins-reached (c ∷ front) place rest e = by_step (step place c) (λ p. begins-reached front p rest) e
  where
    by_step : (r : Next) → ((p : Place) → verdict p (front ++ rest) ≡ whole → (then : Place) × (reached p front ≡ Ok then)) → continued r (c ∷ front ++ rest) (λ p. verdict p (front ++ rest)) ≡ whole
        → (then : Place) × (continued r (c ∷ front) (λ p. reached p front) ≡ Ok then)
    by_step (Ok p) more d = more p d
    by_step (Err f) more d = absurd (whole_is_err (f, c ∷ front ++ rest) (sym d))

-- at its end a text is read, or ends too soon
abbrev pub Ending : Verdict → Type 0
Ending v = (v ≡ whole) ⊎ (v ≡ too_soon)

pub point-ending : (k : Point) → Ending (end_of k)
point-ending item = inl refl
point-ending (kind_done name) = by_comment (is_named name (codes "comment"))
  where
    by_comment : (b : Bool) → Ending (cond b whole too_soon)
    by_comment true = inl refl
    by_comment false = inr refl
point-ending k = inr refl

pub ending : (place : Place) → Ending (ends_at place)
ending (before hides d k) = point-ending k
ending (naming name) = point-ending (kind_done name)

-- why the machine stops: the text ends too soon, or a character may not stand there
abbrev pub Why : Place → Fault → List ℕ → Type 0
Why place f [] = (f ≡ UnexpectedEof) × (ends_at place ≡ too_soon)
Why place f (c ∷ more) = step place c ≡ Err f

pub record Halted (place : Place) (cs : List ℕ) (f : Fault) (rest : List ℕ) : Type 0 where
  pub front : List ℕ
  pub then : Place
  pub parts : cs ≡ front ++ rest
  pub there : reached place front ≡ Ok then
  pub why : Why then f rest

pub halted : (cs : List ℕ) (place : Place) (f : Fault) (rest : List ℕ) → verdict place cs ≡ Err (f, rest) → Halted place cs f rest
halted [] place f rest e = by_ending (ending place)
  where
    by_ending : Ending (ends_at place) → Halted place [] f rest
    by_ending (inl is) = absurd (whole_is_err (f, rest) (sym is ∙ e))
    by_ending (inr is) =
        let same : ◌≡◌ {A = Refusal} (UnexpectedEof, []) (f, rest) = err_is {A = Unit {0}} {F = Refusal} (UnexpectedEof, []) (f, rest) (sym is ∙ e) in
        let empty : [] ≡ rest = ap (λ (r : Refusal). r.1) same in
        subst (Halted place [] f) empty (record { front = []; then = place; parts = refl; there = refl; why = (sym (ap (λ (r : Refusal). r.0) same), is) })
halted (c ∷ cs) place f rest e = by_step (step place c) refl (λ p. halted cs p f rest) e
  where
    by_step : (r : Next) → step place c ≡ r → ((p : Place) → verdict p cs ≡ Err (f, rest) → Halted p cs f rest) → continued r (c ∷ cs) (λ p. verdict p cs) ≡ Err (f, rest) → Halted place (c ∷ cs) f rest
    by_step (Ok p) is more d =
        let h = more p d in
        record { front = c ∷ h.front; then = h.then; parts = ap (λ (x : List ℕ). c ∷ x) h.parts; there = ap (λ (r : Next). continued r (c ∷ h.front) (λ q. reached q h.front)) is ∙ h.there; why = h.why }
    by_step (Err g) is more d =
        let same : ◌≡◌ {A = Refusal} (g, c ∷ cs) (f, rest) = err_is {A = Unit {0}} {F = Refusal} (g, c ∷ cs) (f, rest) d in
        let here : step place c ≡ Err f = is ∙ ap (λ (r : Refusal). Err r.0) same in
        subst (Halted place (c ∷ cs) f) (ap (λ (r : Refusal). r.1) same) (record { front = []; then = place; parts = refl; there = refl; why = here })
