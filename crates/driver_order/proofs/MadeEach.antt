-- Lists that are made of another one, one by one.
use Rattle.std.proofs.Common.{◌≡◌, ℕ, ◌+◌, ◌<◌, Bor, List, [], ◌∷◌, ◌++◌, drop, get_or, length, map, sym, ap, ◌∙◌, append_assoc, append-nil}
use Rattle.std.specs.List.{enumerate_from}
use Rattle.std.proofs.lemmas.List.{at_drop_more, map-append}
use Rattle.laws.specs.Borrowed.{borrowed}

-- something is made of the next
pub made_on : {X Y Z V : Type 0} (view : Y → V) (f : Z → V) (g : X → Z) (old new : List Y) (y : Y) (x : X) (rest here : List X) (all : List V) → here ≡ x ∷ rest
    → map view old ++ map f (map g here) ≡ all → view y ≡ f (g x) → new ≡ old ++ y ∷ [] → map view new ++ map f (map g rest) ≡ all
made_on {X} {Y} {Z} {V} view f g old new y x rest here all steps so_far made pushed =
    let more : List V = map f (map g rest) in
    ap (λ (ys : List Y). map view ys ++ more) pushed
    ∙ (ap (λ (vs : List V). vs ++ more) (map-append view old (y ∷ []))
    ∙ (append_assoc (map view old) (view y ∷ []) more
    ∙ (ap (λ (v : V). map view old ++ v ∷ more) made ∙ (sym (ap (λ (xs : List X). map view old ++ map f (map g xs)) steps) ∙ so_far))))

-- nothing is left
pub made_all : {X Y Z V : Type 0} (view : Y → V) (f : Z → V) (g : X → Z) (made : List Y) (here : List X) (all : List V) → here ≡ []
    → map view made ++ map f (map g here) ≡ all → map view made ≡ all
made_all {X} view f g made here all none so_far = sym (ap (λ (xs : List X). map view made ++ map f (map g xs)) none ∙ append-nil (map view made)) ∙ so_far

-- something is made of the next of borrowed values, with its number
pub made_next : {T Y V : Type 0} (view : Y → V) (f : ℕ × T → V) (es : List (Bor T)) (n : ℕ) (e : Bor T) → n < length es → e ≡ get_or es n e
    → (old new : List Y) (y : Y) (all : List V) → new ≡ old ++ y ∷ [] → view y ≡ f (n, e.now)
    → map view old ++ map f (enumerate_from n (borrowed (drop n es))) ≡ all → map view new ++ map f (enumerate_from (n + 1) (borrowed (drop (n + 1) es))) ≡ all
made_next {T} {Y} {V} view f es n e here at old new y all pushed made so_far =
    let more : List V = map f (enumerate_from (n + 1) (borrowed (drop (n + 1) es))) in
    ap (λ (ys : List Y). map view ys ++ more) pushed
    ∙ (ap (λ (vs : List V). vs ++ more) (map-append view old (y ∷ []))
    ∙ (append_assoc (map view old) (view y ∷ []) more
    ∙ (ap (λ (v : V). map view old ++ v ∷ more) made
    ∙ (sym (at_drop_more (λ (xs : List (Bor T)). map view old ++ map f (enumerate_from n (borrowed xs))) es n e here ∙ ap (λ (b : Bor T). map view old ++ f (n, b.now) ∷ more) (sym at)) ∙ so_far))))
