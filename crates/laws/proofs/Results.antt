-- What steps one after the other give.
use Rattle.std.proofs.Common.{◌≡◌, Bool, true, false, cond, List, ℕ, Option, Some, None, Result, Ok, Err, refl, sym}
use Rattle.std.specs.Prelude.{IfOk, IsOk, is_some}
use Rattle.laws.specs.Results.{◌>>=◌, Reads, EndsWith, Gives, GivesBack, BothRefuse, GivesOrRefuses}

-- the value of a step that did not fail
pub bind_ok : {F A B : Type 0} (r : Result A F) (f : A → Result B F) (y : B) → (r >>= f) ≡ Ok y → (x : A) × (r ≡ Ok x) × (f x ≡ Ok y)
bind_ok (Ok x) f y e = (x, refl, e)
bind_ok (Err d) f y e = absurd cc

-- steps one after the other may be grouped
pub bind_bind : {F A B C : Type 0} (r : Result A F) (f : A → Result B F) (g : B → Result C F) → ((r >>= f) >>= g) ≡ (r >>= λ x. f x >>= g)
bind_bind (Ok x) f g = refl
bind_bind (Err d) f g = refl

-- where a value comes from behind a test, the test held and the step gave the value
pub test_ok : {F A : Type 0} (b : Bool) (r : Result A F) (d : F) (y : A) → cond b r (Err d) ≡ Ok y → (b ≡ true) × (r ≡ Ok y)
test_ok true r d y e = (refl, e)
test_ok false r d y e = absurd cc

-- where a value comes from behind a test that refuses, the test did not hold and the step gave the value
pub guard_ok : {F A : Type 0} (b : Bool) (r : Result A F) (d : F) (y : A) → cond b (Err d) r ≡ Ok y → (b ≡ false) × (r ≡ Ok y)
guard_ok true r d y e = absurd cc
guard_ok false r d y e = (refl, e)

-- the test says which of the two a choice is
pub chosen : {A : Type 0} (b : Bool) (x y z : A) → cond b x y ≡ z → (b ≡ true → x ≡ z) × (b ≡ false → y ≡ z)
chosen true x y z e = (λ _. e, λ h. absurd cc)
chosen false x y z e = (λ h. absurd cc, λ _. e)

abbrev done : (F : Type 0) {A : Type 0} → A → Result A F
done F x = Ok x

pub ok_is : {F A : Type 0} (x y : A) → done F x ≡ done F y → x ≡ y
ok_is x y e = cc

-- what holds of the value of steps one after the other
pub bind_if_ok : {F A B : Type 0} (P : A → Type 0) (Q : B → Type 0) (r : Result A F) (f : A → Result B F) → IfOk r P → ((x : A) → P x → IfOk (f x) Q) → IfOk (r >>= f) Q
bind_if_ok P Q (Ok x) f p more = more x p
bind_if_ok P Q (Err d) f p more = tt

-- what holds of the value of a step holds where a test may refuse before it
pub test_if_ok : {F A : Type 0} (Q : A → Type 0) (b : Bool) (r : Result A F) (d : F) → IfOk r Q → IfOk (cond b r (Err d)) Q
test_if_ok Q true r d p = p
test_if_ok Q false r d p = tt

pub guard_if_ok : {F A : Type 0} (Q : A → Type 0) (b : Bool) (r : Result A F) (d : F) → IfOk r Q → IfOk (cond b (Err d) r) Q
guard_if_ok Q true r d p = tt
guard_if_ok Q false r d p = p

-- the value of a step that is known not to have failed
pub if_ok_at : {F A : Type 0} (Q : A → Type 0) (r : Result A F) (x : A) → r ≡ Ok x → IfOk r Q → Q x
if_ok_at {F} {A} Q r x e p = let h : IfOk {E = F} (Ok x) Q = rw e at p in h

-- what reading gives, where the function's answer is known
pub reads_ok : {F X Y : Type 0} (view : X → Y) (r : Result X F) (x : X) (rest : List ℕ) (read : Result (Y × List ℕ) F) → r ≡ Ok x → Reads view r rest read → read ≡ Ok (view x, rest)
reads_ok {F} view r x rest read e h = let g : Reads {F = F} view (Ok x) rest read = rw e at h in g

-- a function whose reading has no fault returns Ok
pub reads_fine : {F X Y : Type 0} (view : X → Y) (r : Result X F) (rest : List ℕ) (read : Result (Y × List ℕ) F) → ((f : F) → read ≡ Err f → ⊥) → Reads view r rest read → IsOk r
reads_fine view (Ok x) rest read never h = λ _. true
reads_fine view (Err f) rest read never h = absurd (never f h)

-- a refusal is not what a definition gives
no_refusal : {F Y : Type 0} (refusal : Option F) (y : Y) → EndsWith refusal (done F y) → refusal ≡ None
no_refusal None y h = refl
no_refusal (Some f) y h = absurd cc

-- where a definition gives a value, the call gives it back, under the view
pub gives_back : {E F V X : Type 0} (refusal : E → Option F) (view : X → V) (r : Result X E) (v : V) → Gives refusal view r (done F v) → GivesBack refusal view r v
gives_back {E} {F} refusal view (Ok x) v same = ok_is {F = F} _ _ (sym same)
gives_back refusal view (Err e) v same = no_refusal (refusal e) v same

-- the same where both refuse
neither_refuses : (F : Type 0) {G Y : Type 0} (refusal : Option G) (y : Y) → BothRefuse (is_some refusal) (done F y) → refusal ≡ None
neither_refuses F None y h = refl
neither_refuses F (Some g) y h =
    let other = h.1 in
    absurd cc

pub gives_back_or_refuses : (F : Type 0) {E G V X : Type 0} (refusal : E → Option G) (view : X → V) (r : Result X E) (v : V) → GivesOrRefuses refusal view r (done F v) → GivesBack refusal view r v
gives_back_or_refuses F refusal view (Ok x) v same = ok_is {F = F} _ _ (sym same)
gives_back_or_refuses F refusal view (Err e) v same = neither_refuses F (refusal e) v same
