-- Steps that may fail, one after the other, and what a call returned against what a definition gives.
use Rattle.std.specs.Prelude.{◌≡◌, ℕ, Bool, true, false, List, Option, None, IfSome, is_some, Result, Ok, Err}

infixl 10 ◌>>=◌
-- the next step on what the first gave, or the fault of the first
abbrev pub ◌>>=◌ : {F A B : Type 0} → Result A F → (A → Result B F) → Result B F
(Ok x) >>= f = f x
(Err e) >>= f = Err e

-- What a function returned, under the view, and what it left to read are what reading gives.
abbrev pub Reads : {F X Y : Type 0} → (X → Y) → Result X F → List ℕ → Result (Y × List ℕ) F → Type 0
Reads view (Ok x) rest read = read ≡ Ok (view x, rest)
Reads view (Err f) rest read = read ≡ Err f

-- What a function left to read, or its fault, is what reading gives.
abbrev pub Passes : {F X : Type 0} → Result X F → List ℕ → Result (List ℕ) F → Type 0
Passes (Ok x) rest read = read ≡ Ok rest
Passes (Err f) rest read = read ≡ Err f

-- A definition ends with that refusal; where there is none, nothing is promised of it.
abbrev pub EndsWith : {F Y : Type 0} → Option F → Result Y F → Type 0
EndsWith refusal read = IfSome refusal (λ f. read ≡ Err f)

-- What a call made, under the view, is what a definition gives, or the call's error is its refusal. An error that is no refusal, as out of
-- memory is none, says nothing.
abbrev pub Gives : {E F X Y : Type 0} → (E → Option F) → (X → Y) → Result X E → Result Y F → Type 0
Gives refusal view (Ok x) read = read ≡ Ok (view x)
Gives refusal view (Err e) read = EndsWith (refusal e) read

-- what the call gives, and what it left to read, are what is read and what follows it; or they refuse alike
abbrev pub GivesRest : {E F T X Y : Type 0} → (E → Option F) → (X → Y) → Result X E → T → Result (Y × T) F → Type 0
GivesRest refusal view (Ok x) rest read = read ≡ Ok (view x, rest)
GivesRest refusal view (Err e) rest read = EndsWith (refusal e) read

-- the same of what the call left of its receiver
abbrev pub Leaves : {E F S X : Type 0} → (E → Option F) → Result X E → S → Result S F → Type 0
Leaves refusal (Ok x) new read = read ≡ Ok new
Leaves refusal (Err e) new read = EndsWith (refusal e) read

-- What a call made, under the view, or the refusal that its error is, has a property.
abbrev pub Answers : {E F X Y : Type 0} → (E → Option F) → (X → Y) → Result X E → (Result Y F → Type 0) → Type 0
Answers refusal view (Ok x) P = P (Ok (view x))
Answers refusal view (Err e) P = IfSome (refusal e) (λ f. P (Err f))

-- What a call made, under the view, is the value; its error is no refusal.
abbrev pub GivesBack : {E F V X : Type 0} → (E → Option F) → (X → V) → Result X E → V → Type 0
GivesBack refusal view (Ok x) v = view x ≡ v
GivesBack refusal view (Err e) v = refusal e ≡ None

-- where a call refuses a definition does, whatever their refusals are
abbrev pub BothRefuse : {F Y : Type 0} → Bool → Result Y F → Type 0
BothRefuse {F} true read = (f : F) × (read ≡ Err f)
BothRefuse {F} false read = Unit {0}

-- What a call made, under the view, is what a definition gives, or both refuse.
abbrev pub GivesOrRefuses : {E F G X Y : Type 0} → (E → Option G) → (X → Y) → Result X E → Result Y F → Type 0
GivesOrRefuses refusal view (Ok x) read = read ≡ Ok (view x)
GivesOrRefuses refusal view (Err e) read = BothRefuse (is_some (refusal e)) read

-- what the call gives, and what it left to read, are what is read and what follows it; or both refuse
abbrev pub GivesRestOrRefuses : {E F G T X Y : Type 0} → (E → Option G) → (X → Y) → Result X E → T → Result (Y × T) F → Type 0
GivesRestOrRefuses refusal view (Ok x) rest read = read ≡ Ok (view x, rest)
GivesRestOrRefuses refusal view (Err e) rest read = BothRefuse (is_some (refusal e)) read
