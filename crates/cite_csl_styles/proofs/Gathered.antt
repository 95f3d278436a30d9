-- What several stages give, one after the other.
use Rattle.std.proofs.Common.{◌≡◌, ℕ, ◌<◌, ◌+◌, List, [], ◌∷◌, ◌++◌, length, get_or, take, map, Result, Ok, Err, refl, sym, ap, ◌∙◌, subst}
use Rattle.std.specs.Prelude.{filter_map, option_to_list}
use Rattle.std.proofs.lemmas.List.{append-nil, map-append, take_more}
use Rattle.std.proofs.lemmas.List.Elements.{filter_map-append}
use Rattle.std.proofs.lemmas.Grind.{flat_map-append}
use Rattle.cite_csl_styles.specs.Stages.{Lines, Wanted, given, lines_in, lines_of, AreMade, Adds}

-- what stages gave so far, and the lines of the others
pub record AreGathered {X Y : Type 0} (stage : X → Wanted Y) (xs : List X) (all : List Y) (lines : Lines) : Type 0 where
  pub made : List (Result Y Lines)
  pub are_made : AreMade stage xs made
  pub all_are : all ≡ filter_map (λ (r : Result Y Lines). given r) made
  pub lines_are : lines ≡ lines_of made

one_more : {X Y : Type 0} (stage : X → Wanted Y) (xs : List X) (made : List (Result Y Lines)) (x : X) (r : Result Y Lines) → AreMade stage xs made → stage x r → AreMade stage (xs ++ x ∷ []) (made ++ r ∷ [])
one_more stage [] [] x r h s = (s, tt)
one_more stage [] (q ∷ qs) x r h s = absurd h
one_more stage (y ∷ ys) [] x r h s = absurd h
one_more stage (y ∷ ys) (q ∷ qs) x r h s = (h.0, one_more stage ys qs x r h.1 s)

one_given : {Y : Type 0} (r : Result Y Lines) → option_to_list (given r) ≡ filter_map (λ (q : Result Y Lines). given q) (r ∷ [])
one_given (Ok y) = refl
one_given (Err lines) = refl

gathered_more : {X Y : Type 0} (stage : X → Wanted Y) (xs : List X) (x : X) (old new : List Y) (before after : Lines)
    → AreGathered stage xs old before → Adds (stage x) old new before after → AreGathered stage (xs ++ x ∷ []) new after
gathered_more {X} {Y} stage xs x old new before after h (r, s, e, f) = record {
  made = h.made ++ r ∷ [];
  are_made = one_more stage xs h.made x r h.are_made s;
  all_are = e ∙ (ap (λ (o : List Y). o ++ option_to_list (given r)) h.all_are
      ∙ (ap (λ (o : List Y). filter_map (λ (q : Result Y Lines). given q) h.made ++ o) (one_given r) ∙ sym (filter_map-append (λ (q : Result Y Lines). given q) h.made (r ∷ []))));
  lines_are = f ∙ (ap (λ (o : Lines). o ++ lines_in r) h.lines_are
      ∙ (ap (λ (o : Lines). lines_of h.made ++ o) (sym (append-nil (lines_in r))) ∙ sym (flat_map-append (λ (q : Result Y Lines). lines_in q) h.made (r ∷ []))));
}

-- the next of a list
pub gathered_next : {A X Y : Type 0} (stage : X → Wanted Y) (view : A → X) (xs : List A) (i : ℕ) (x : A) (old new : List Y) (before after : Lines)
    → i < length xs → x ≡ get_or xs i x → AreGathered stage (map view (take i xs)) old before → Adds (stage (view x)) old new before after → AreGathered stage (map view (take (i + 1) xs)) new after
gathered_next {A} {X} {Y} stage view xs i x old new before after less here h adds =
    let leading : map view (take (i + 1) xs) ≡ map view (take i xs) ++ view x ∷ [] =
    ap (map view) (take_more xs i x less) ∙ (map-append view (take i xs) (get_or xs i x ∷ []) ∙ ap (λ (y : A). map view (take i xs) ++ view y ∷ []) (sym here)) in
    subst (λ (ys : List X). AreGathered stage ys new after) (sym leading) (gathered_more stage (map view (take i xs)) (view x) old new before after h adds)

-- one that gives something
pub adds_one : {A Y : Type 0} (stage : Wanted Y) (view : A → Y) (old new : List A) (x : A) (before : Lines) → stage (Ok (view x)) → new ≡ old ++ x ∷ [] → Adds stage (map view old) (map view new) before before
adds_one stage view old new x before made more = (Ok (view x), made, ap (map view) more ∙ map-append view old (x ∷ []), sym (append-nil before))
