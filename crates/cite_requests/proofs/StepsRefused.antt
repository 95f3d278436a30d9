-- What steps over a list refuse, and what they give.
use Rattle.std.proofs.Common.{◌≡◌, suc, All, List, [], ◌∷◌, length, Result, Ok, Err, refl, sym, ap, subst, ◌∙◌}
use Rattle.std.specs.Prelude.{IfErr, MatchResult}
use Rattle.std.proofs.lemmas.List.Elements.{All-nil, All-cons, All-head, All-tail}
use Rattle.laws.specs.Results.{◌>>=◌}
use Rattle.laws.proofs.Results.{bind_ok, ok_is}
use Rattle.laws.proofs.Throughout.{bind_match}
use Rattle.cite_requests.specs.Stages.{Refusal, refused_as}
use Rattle.cite_requests.specs.Steps.{all_ok}

abbrev pub Whatever : {A : Type 0} → A → Type 0
Whatever x = Unit {0}

all_whatever : {X : Type 0} (xs : List X) → All Whatever xs
all_whatever [] = All-nil Whatever
all_whatever (x ∷ xs) = All-cons Whatever x xs tt (all_whatever xs)

-- of an outcome of which nothing is known
pub whatever : {A F : Type 0} (r : Result A F) → MatchResult r Whatever Whatever
whatever (Ok x) = tt
whatever (Err f) = tt

-- what holds of the fault of any member holds of the first one
pub all_refuse : {F X Y : Type 0} (P : X → Type 0) (Q : F → Type 0) (step : X → Result Y F) → ((x : X) → P x → IfErr (step x) Q) → (xs : List X) → All P xs → IfErr (all_ok step xs) Q
unfolding all_ok
all_refuse P Q step refuses [] all = tt
all_refuse P Q step refuses (x ∷ xs) all =
    bind_match Whatever Whatever Q (step x) _ (refuses x (All-head P x xs all)) (λ y _.
    bind_match Whatever Whatever Q (all_ok step xs) _ (all_refuse P Q step refuses xs (All-tail P x xs all)) (λ ys _. tt))

-- the same without a condition
pub each_refuses : {F X Y : Type 0} (Q : F → Type 0) (step : X → Result Y F) → ((x : X) → IfErr (step x) Q) → (xs : List X) → IfErr (all_ok step xs) Q
each_refuses Q step refuses xs = all_refuse Whatever Q step (λ x _. refuses x) xs (all_whatever xs)

-- as many are given as there are members
pub all_count : {F X Y : Type 0} (step : X → Result Y F) (xs : List X) (ys : List Y) → all_ok step xs ≡ Ok ys → length ys ≡ length xs
unfolding all_ok
all_count {F} step [] ys is = ap length (sym (ok_is {F = F} [] ys is))
all_count {F} step (x ∷ xs) ys is =
    let first = bind_ok (step x) _ ys is in
    let others = bind_ok (all_ok step xs) _ ys first.2 in
    ap length (sym (ok_is {F = F} (first.0 ∷ others.0) ys others.2)) ∙ ap suc (all_count step xs others.0 others.1)

-- what holds of whatever is given of a member holds of all that is given
pub all_give : {F X Y : Type 0} (Q : Y → Type 0) (step : X → Result Y F) → ((x : X) (y : Y) → step x ≡ Ok y → Q y) → (xs : List X) (ys : List Y) → all_ok step xs ≡ Ok ys → All Q ys
unfolding all_ok
all_give {F} Q step gives [] ys is = subst (All Q) (ok_is {F = F} [] ys is) (All-nil Q)
all_give {F} Q step gives (x ∷ xs) ys is =
    let first = bind_ok (step x) _ ys is in
    let others = bind_ok (all_ok step xs) _ ys first.2 in
    subst (All Q) (ok_is {F = F} (first.0 ∷ others.0) ys others.2) (All-cons Q first.0 others.0 (gives x first.0 first.1) (all_give Q step gives xs others.0 others.1))

-- what is given where no fault is
pub given : {F Y : Type 0} (refusal : F → Refusal) (r : Result Y F) (y : Y) → refused_as refusal r ≡ Ok y → r ≡ Ok y
given refusal (Ok x) y is = ap (λ z. Ok z) (ok_is {F = Refusal} x y is)
given refusal (Err f) y is = absurd cc

-- a fault is the same refusal, member by member
module _ {F X Y : Type 0} (refusal : F → Refusal) (step : X → Result Y F) where
  refused_step : (r : Result Y F) (rest : Result (List Y) F) (own : Result (List Y) Refusal) → refused_as refusal rest ≡ own
      → refused_as refusal (r >>= λ y. rest >>= λ ys. Ok (y ∷ ys)) ≡ (refused_as refusal r >>= λ y. own >>= λ ys. Ok (y ∷ ys))
  refused_step (Err f) rest own is = refl
  refused_step (Ok y) (Ok ys) own is = ap (λ (q : Result (List Y) Refusal). q >>= λ zs. Ok (y ∷ zs)) is
  refused_step (Ok y) (Err f) own is = ap (λ (q : Result (List Y) Refusal). q >>= λ zs. Ok (y ∷ zs)) is

  pub refused_each : (xs : List X) → refused_as refusal (all_ok step xs) ≡ all_ok (λ x. refused_as refusal (step x)) xs
  unfolding all_ok
  refused_each [] = refl
  refused_each (x ∷ xs) = refused_step (step x) (all_ok step xs) (all_ok (λ y. refused_as refusal (step y)) xs) (refused_each xs)
