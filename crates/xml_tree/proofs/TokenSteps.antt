-- Token after token, to the tree of a text.
use Rattle.std.proofs.Common.{◌≡◌, ℕ, zero, suc, ◌<◌, List, length, Option, Some, None, Result, Ok, Err, refl, ap, ◌∙◌, arith}
use Rattle.laws.specs.Results.{◌>>=◌, EndsWith}
use Rattle.laws.proofs.Results.{bind_ok, ok_is}
use Rattle.xml_text.specs.Tokens.{At, Token}
use Rattle.xml_text.specs.Reading as reading
use Rattle.xml_text.specs.Markup.{token_at}
use Rattle.xml_tree.specs.Values.{Refusal}
use Rattle.xml_tree.specs.Building.{State, step, finished, with_place, stepped_by, stepped, go_on, tree_below, tree_from}
use Rattle.xml_text.proofs.ShorterTokens.{tokens_shorten}
use Rattle.xml_tree.proofs.Folded.{ends_bind}

pub with_place_ok : {X : Type 0} (r : Result X reading.Refusal) (x : X) → with_place r ≡ Ok x → r ≡ Ok x
with_place_ok {X} (Ok x) y e = ap (λ (z : X). Ok z) (ok_is {F = Refusal} x y e)
with_place_ok (Err f) y e = absurd cc

behind_is : (m more : State) (behind rest : List ℕ) → ◌≡◌ {A = Result (Option State × List ℕ) Refusal} (Ok (Some m, behind)) (Ok (Some more, rest)) → behind ≡ rest
behind_is m more behind rest e = ap (λ (p : Option State × List ℕ). p.1) (ok_is {F = Refusal} (Some m, behind) (Some more, rest) e)

-- one more token leaves less
pub steps_shorten : (s more : State) (cs rest : List ℕ) → stepped s cs ≡ Ok (Some more, rest) → length rest < length cs
unfolding stepped
steps_shorten s more cs rest e =
    let t = bind_ok (with_place (token_at cs)) (λ t. stepped_by s cs t.0 t.1) (Some more, rest) e in
    by_token t.0 (with_place_ok (token_at cs) t.0 t.1) t.2
  where
    by_token : (t : Option (At Token) × List ℕ) → token_at cs ≡ Ok t → stepped_by s cs t.0 t.1 ≡ Ok (Some more, rest) → length rest < length cs
    by_token (None, behind) is d =
        let never : ◌≡◌ {A = Option State} None (Some more) = ap (λ (p : Option State × List ℕ). p.0) (ok_is {F = Refusal} (None, behind) (Some more, rest) d) in
        absurd cc
    by_token (Some x, behind) is d =
        let m = bind_ok (step s cs x.v) (λ m. Ok (Some m, behind)) (Some more, rest) d in
        let same : behind ≡ rest = behind_is m.0 more behind rest m.2 in
        let less : length behind < length cs = tokens_shorten cs behind x is in
        rw same at less

-- how many tokens are counted does not matter
below-same : (n m : ℕ) (s : State) (cs : List ℕ) → length cs < n → length cs < m → tree_below n s cs ≡ tree_below m s cs
unfolding tree_below
below-same zero m s cs a b = absurd (omega arith)
below-same (suc n) zero s cs a b = absurd (omega arith)
below-same (suc n) (suc m) s cs a b = by_step (λ more rest c d. below-same n m more rest c d) (stepped s cs) refl
  where
    by_step : ((more : State) (rest : List ℕ) → length rest < n → length rest < m → tree_below n more rest ≡ tree_below m more rest) → (r : Result (Option State × List ℕ) Refusal) → stepped s cs ≡ r
        → (r >>= λ p. go_on (tree_below n) s p.0 p.1) ≡ (r >>= λ p. go_on (tree_below m) s p.0 p.1)
    by_step same (Err f) is = refl
    by_step same (Ok (None, rest)) is = refl
    by_step same (Ok (Some more, rest)) is =
        let less : length rest < length cs = steps_shorten s more cs rest is in
        same more rest (omega arith) (omega arith)

-- one more token
pub tree-step : (s more : State) (cs rest : List ℕ) → stepped s cs ≡ Ok (Some more, rest) → tree_from s cs ≡ tree_from more rest
unfolding tree_below tree_from
tree-step s more cs rest is =
    let less : length rest < length cs = steps_shorten s more cs rest is in
    ap (λ (r : Result (Option State × List ℕ) Refusal). r >>= λ p. go_on (tree_below (length cs)) s p.0 p.1) is ∙ below-same (length cs) (suc (length rest)) more rest (omega arith) (omega arith)

-- the end of the text
pub tree-end : (s : State) (cs rest : List ℕ) → stepped s cs ≡ Ok (None, rest) → tree_from s cs ≡ finished s.open_ones s.root
unfolding tree_below tree_from
tree-end s cs rest is = ap (λ (r : Result (Option State × List ℕ) Refusal). r >>= λ p. go_on (tree_below (length cs)) s p.0 p.1) is

-- a fault
pub tree_fails : (s : State) (cs : List ℕ) (refusal : Option Refusal) → EndsWith refusal (stepped s cs) → EndsWith refusal (tree_from s cs)
unfolding tree_below tree_from
tree_fails s cs refusal e = ends_bind refusal (stepped s cs) (λ p. go_on (tree_below (length cs)) s p.0 p.1) e
