-- How many steps are left: two for each piece, and those for the pieces that it stands for; one for each frame.
use Rattle.std.proofs.Common.{◌≡◌, ℕ, ◌<◌, ◌+◌, Bool, List, [], ◌∷◌, ◌++◌, map, All, Ok, refl, ap, arith}
use Rattle.std.proofs.lemmas.List.Elements.{All-head, All-tail}
use Rattle.biblatex_text.specs.Raw.{At, Piece}
use Rattle.biblatex_fields.specs.Abbreviations.{Glossary, AreFlags, defined, pieces_at}
use Rattle.biblatex_fields.specs.Openings.{Resolved, Replacement, parts, parts_in, resolved_sense, resolved_steps, steps, steps_of, total, unresolved, unresolved_at}
use Rattle.biblatex_fields.proofs.ValueDepth.{IsLocal, deep_enough}

same_total : (f h : At Piece → ℕ) (ps : List (At Piece)) → All (λ q. f q ≡ h q) ps → total f ps ≡ total h ps
same_total f h [] all = refl
same_total f h (p ∷ ps) all =
    let here : f p ≡ h p = All-head (λ q. f q ≡ h q) p ps all in
    let more = same_total f h ps (All-tail (λ q. f q ≡ h q) p ps all) in
    omega (arith, here, more)

rule_is_local : (g : Glossary) → IsLocal g (steps_of g)
rule_is_local g f h p all = ap (λ (n : ℕ). 2 + n) (same_total f h (parts g p) all)

-- the steps for a piece
pub steps_are : (g : Glossary) → AreFlags g.flags g.definitions → (p : At Piece) → steps g p ≡ 2 + total (λ q. steps g q) (parts g p)
unfolding steps
steps_are g flags p = deep_enough g (steps_of g) 0 (rule_is_local g) flags p

-- as many for a piece as it is written
pub steps_unresolved : (g : Glossary) → AreFlags g.flags g.definitions → (ps : List (At Piece)) → total (resolved_steps g) (map unresolved ps) ≡ total (λ q. steps g q) ps
steps_unresolved g flags [] = refl
steps_unresolved g flags (p ∷ ps) =
    let more = steps_unresolved g flags ps in
    let here = steps_are g flags p in
    omega (arith, here, more)

-- the steps for what is left
pub left : Glossary → List (List Resolved) → ℕ
left g [] = 0
left g (f ∷ fs) = 1 + total (resolved_steps g) f + left g fs

left_last : (g : Glossary) (fs : List (List Resolved)) (f : List Resolved) → left g (fs ++ f ∷ []) ≡ 1 + total (resolved_steps g) f + left g fs
unfolding left
left_last g [] f = refl
left_last g (h ∷ fs) f = let more = left_last g fs f in omega (arith, more)

-- an empty frame goes
pub less_frames : (g : Glossary) (fs : List (List Resolved)) → left g fs < left g (fs ++ [] ∷ [])
less_frames g fs = let e = left_last g fs [] in omega (arith, e)

-- a piece that stands for a text goes
pub less_pieces : (g : Glossary) (fs : List (List Resolved)) (p : Resolved) (ps : List Resolved) → left g (fs ++ ps ∷ []) < left g (fs ++ (p ∷ ps) ∷ [])
less_pieces g fs p ps = let e = left_last g fs (p ∷ ps) in let h = left_last g fs ps in omega (arith, e, h)

-- a piece goes, and what is read instead of the pieces that it stands for comes
pub opened_pieces : (g : Glossary) (is_verbatim : Bool) → AreFlags g.flags g.definitions → (fs : List (List Resolved)) (p : Resolved) (ps qs : List Resolved) (index : ℕ)
    → resolved_sense g p ≡ Ok (defined (pieces_at g.definitions index)) → Replacement g is_verbatim qs (unresolved_at g.definitions index)
    → left g ((fs ++ ps ∷ []) ++ qs ∷ []) < left g (fs ++ (p ∷ ps) ∷ [])
opened_pieces g is_verbatim flags fs p ps qs index is stands =
    let e = left_last g fs (p ∷ ps) in
    let h = left_last g fs ps in
    let k = left_last g (fs ++ ps ∷ []) qs in
    let t : total (λ q. steps g q) (parts_in (resolved_sense g p)) ≡ total (λ q. steps g q) (pieces_at g.definitions index) = ap (λ r. total (λ q. steps g q) (parts_in r)) is in
    let s = steps_unresolved g flags (pieces_at g.definitions index) in
    let u = stands.fewer in
    omega (arith, e, h, k, s, t, u)
