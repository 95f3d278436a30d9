-- What a loop keeps that makes something of some elements of a list, and nothing of the others.
use Rattle.std.proofs.Common.{◌≡◌, ℕ, ◌+◌, ◌<◌, List, [], ◌∷◌, ◌++◌, length, map, take, get_or, Option, Some, None, refl, sym, ap, ◌∙◌, append_assoc}
use Rattle.std.proofs.lemmas.List.{take_more, map-append}
use Rattle.std.proofs.lemmas.List.Elements.{filter_map-append}
use Rattle.std.specs.Borrow.{Bor}
use Rattle.std.specs.List.{filter_map, cons_option}
use Rattle.std.specs.Option.{option_to_list}
use Rattle.laws.specs.Borrowed.{borrowed}

-- what is made of one element
pub one_kept : {X : Type 0} (o : Option X) → cons_option o [] ≡ option_to_list o
one_kept None = refl
one_kept (Some x) = refl

-- what is made of one element more
pub kept_more : {X V : Type 0} (h : X → Option V) (xs : List X) (i : ℕ) (x : X) → i < length xs → x ≡ get_or xs i x → filter_map h (take (i + 1) xs) ≡ filter_map h (take i xs) ++ option_to_list (h x)
kept_more {X} {V} h xs i x less is =
    ap (filter_map h) (take_more xs i x less ∙ ap (λ (y : X). take i xs ++ y ∷ []) (sym is))
    ∙ (filter_map-append h (take i xs) (x ∷ []) ∙ ap (λ (vs : List V). filter_map h (take i xs) ++ vs) (one_kept (h x)))

-- the same of a list that a view sees
pub keeps_on : {X Y V : Type 0} (view : Y → V) (h : X → Option V) (xs : List X) (i : ℕ) (x : X) (old new : List Y) → i < length xs → x ≡ get_or xs i x → map view old ≡ filter_map h (take i xs)
    → map view new ≡ map view old ++ option_to_list (h x) → map view new ≡ filter_map h (take (i + 1) xs)
keeps_on {X} {Y} {V} view h xs i x old new less is so_far pushed = pushed ∙ (ap (λ (vs : List V). vs ++ option_to_list (h x)) so_far ∙ sym (kept_more h xs i x less is))

-- the same of words that are borrowed
pub words_kept : {V : Type 0} (h : List ℕ → Option V) (ws : List (Bor (List ℕ))) (i : ℕ) (d : Bor (List ℕ)) → i < length ws
    → filter_map h (borrowed (take (i + 1) ws)) ≡ filter_map h (borrowed (take i ws)) ++ option_to_list (h (get_or ws i d).now)
words_kept {V} h ws i d less =
    let w : Bor (List ℕ) = get_or ws i d in
    ap (filter_map h) (ap borrowed (take_more ws i d less) ∙ map-append (λ (b : Bor (List ℕ)). b.now) (take i ws) (w ∷ []))
    ∙ (filter_map-append h (borrowed (take i ws)) (w.now ∷ []) ∙ ap (λ (vs : List V). filter_map h (borrowed (take i ws)) ++ vs) (one_kept (h w.now)))

pub words_keep_on : {V : Type 0} (h : List ℕ → Option V) (ws : List (Bor (List ℕ))) (i : ℕ) (d : Bor (List ℕ)) (first old new : List V) → i < length ws → old ≡ first ++ filter_map h (borrowed (take i ws))
    → new ≡ old ++ option_to_list (h (get_or ws i d).now) → new ≡ first ++ filter_map h (borrowed (take (i + 1) ws))
words_keep_on {V} h ws i d first old new less so_far pushed =
    let made : List V = option_to_list (h (get_or ws i d).now) in
    pushed
    ∙ (ap (λ (vs : List V). vs ++ made) so_far
    ∙ (append_assoc first (filter_map h (borrowed (take i ws))) made ∙ ap (λ (vs : List V). first ++ vs) (sym (words_kept h ws i d less))))
