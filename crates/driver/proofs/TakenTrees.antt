-- What cites have printed is taken, cite by cite, in their final order, which does not rest on the names by which they were put there.
use Rattle.std.proofs.Common.{arith, ◌≡◌, ℕ, ◌<◌, ◌+◌, ◌++◌, Bool, false, true≢false, List, [], ◌∷◌, All, length, map, drop, get_or, set, fold, if◌then◌else◌, refl, sym, ap, subst, ◌∙◌, Option, Some, None, inl, inr}
use Rattle.std.specs.List.{cons_option, slice_get}
use Rattle.std.specs.Option.{option_map}
use Rattle.std.proofs.lemmas.Bool.{cases_eq}
use Rattle.std.proofs.lemmas.List.{drop_more, get_or-set_other, get_or-set_same, length-map, map-set}
use Rattle.std.proofs.lemmas.List.Elements.{All-cons, All-head, All-nil, All-tail}
use Rattle.rendering_style.specs.Styles.{Citation}
use Rattle.rendering_tree.specs.Trees.{Children, is_nothing, nothing}
use Rattle.rendering.specs.Purposes.{citation}
use Rattle.driver_blocks.specs.Runs.{Arranged}
use Rattle.driver_blocks.specs.Views.{arranged_view}
use Rattle.driver_blocks.specs.declared.cite.Arranged as arranged
use Rattle.driver_disambiguation.specs.States.{States}
use Rattle.driver_names.specs.Views.{printed_view}
use Rattle.driver_names.specs.declared.printed.Printed.{Printed}
use Rattle.driver.proofs.FinalPrintsSteps.{view_at, view_more}
use Rattle.driver.specs.FinalPrints.{IsLeft, Placed, arranged_in, final_after, listed_as, listed_with, nameless, placed_final, placed_with}
use Rattle.driver.specs.Renaming.{arranged_as}
use Rattle.driver.specs.Stages.{Final, cite_of, located, printed_at_last}
use Rattle.driver_rounds.specs.FirstPrints.{FirstPrint}

-- two cites in the final order that are printed alike
module _ {P : Type 0} (f g : Final P) (context : (cite_of f).context ≡ (cite_of g).context) (answers : (cite_of f).item.entry.answers ≡ (cite_of g).item.entry.answers) (properties : located f ≡ located g) (purpose : (cite_of f).item.purpose ≡ (cite_of g).item.purpose)
    (verdict : f.arranged.verdict ≡ g.arranged.verdict) where
  printed_alike : printed_at_last f ≡ printed_at_last g
  printed_alike = λ j. (citation (context j) (answers j) (properties j) None (purpose j) (verdict j)).tree

  placed_alike : (p : Placed P) → f.arranged.is_shown ≡ g.arranged.is_shown → f.arranged.delimiter ≡ g.arranged.delimiter → (cite_of f).index ≡ (cite_of g).index → listed_as f ≡ listed_as g → (cite_of f).item ≡ (cite_of g).item → placed_final p f ≡ placed_final p g
  placed_alike p is_shown delimiter index listed item = λ j. record {
    shown = p.shown ++ (if is_shown j then record { delimiter = delimiter j; index = index j; tree = printed_alike j } ∷ [] else []);
    listed = listed_with p.listed (listed j);
    last = Some (index j, item j);
  }

-- cites come to the same without their names
module _ {P : Type 0} (same : P → P → Bool) (states : States) where
  placed_one : (p : Placed P) (y : FirstPrint P) (a : Arranged ℕ) → placed_with same states p (arranged_as (λ n. y) (nameless a)) ≡ placed_with same states p (arranged_as (λ n. y) a)
  placed_one p y a = placed_alike (final_after same states p.last (arranged_as (λ n. y) (nameless a))) (final_after same states p.last (arranged_as (λ n. y) a)) refl refl refl refl refl p refl refl refl refl refl

  placed_step : (p : Placed P) (o : Option (FirstPrint P)) (a : Arranged ℕ) (xs ys : List (Arranged (FirstPrint P))) → ((q : Placed P) → fold (placed_with same states) q xs ≡ fold (placed_with same states) q ys)
      → fold (placed_with same states) p (cons_option (option_map (λ y. arranged_as (λ n. y) (nameless a)) o) xs) ≡ fold (placed_with same states) p (cons_option (option_map (λ y. arranged_as (λ n. y) a) o) ys)
  placed_step p None a xs ys h = h p
  placed_step p (Some y) a xs ys h = ap (λ q. fold (placed_with same states) q xs) (placed_one p y a) ∙ h (placed_with same states p (arranged_as (λ n. y) a))

  pub placed_nameless : (prints : List (FirstPrint P)) (xs : List (Arranged ℕ)) (p : Placed P) → fold (placed_with same states) p (arranged_in prints (map nameless xs)) ≡ fold (placed_with same states) p (arranged_in prints xs)
  placed_nameless prints [] p = refl
  placed_nameless prints (a ∷ xs) p = placed_step p (slice_get prints a.cite.cite) a (arranged_in prints (map nameless xs)) (arranged_in prints xs) (placed_nameless prints xs)

-- and they have the same indices
abbrev pub IsBelow : ℕ → Arranged ℕ → Type 0
IsBelow n a = a.cite.cite < n

pub nameless_low : (n : ℕ) (xs : List (Arranged ℕ)) → All (IsBelow n) xs → All (IsBelow n) (map nameless xs)
nameless_low n [] h = All-nil (IsBelow n)
nameless_low n (a ∷ xs) h = All-cons (IsBelow n) (nameless a) (map nameless xs) (All-head (IsBelow n) a xs h) (nameless_low n xs (All-tail (IsBelow n) a xs h))

-- one more cite loses its names
pub nameless_goes_on : (c : Citation) (xs : List arranged.Arranged) (n : ℕ) (a b : arranged.Arranged) (now new : List arranged.Arranged) → n < length xs → a ≡ get_or xs n a → new ≡ now ++ b ∷ [] → arranged_view c b ≡ nameless (arranged_view c a)
    → map (arranged_view c) now ++ map nameless (map (arranged_view c) (drop n xs)) ≡ map nameless (map (arranged_view c) xs) → map (arranged_view c) new ++ map nameless (map (arranged_view c) (drop (n + 1) xs)) ≡ map nameless (map (arranged_view c) xs)
nameless_goes_on c xs n a b now new less is e is_nameless h =
    let view_of = arranged_view c in
    let rest = map nameless (map view_of (drop (n + 1) xs)) in
    let steps : map nameless (map view_of (drop n xs)) ≡ nameless (view_of a) ∷ rest = ap (λ ys. map nameless (map view_of ys)) (drop_more xs n a less) ∙ ap (λ d. nameless (view_of d) ∷ rest) (sym is) in
    view_more view_of now new b (nameless (view_of a)) (map nameless (map view_of (drop n xs))) rest (map nameless (map view_of xs)) steps h e is_nameless

-- what is left of a tree is it, unless it is nothing
pub left_whole : (left t : Children) → IsLeft left t → is_nothing left ≡ false → left ≡ t
left_whole left t (inl none) e = absurd (true≢false (sym (ap is_nothing none) ∙ e))
left_whole left t (inr same) e = same

pub left_same : (a b c d : Children) → a ≡ b → c ≡ d → IsLeft a c → IsLeft b d
left_same a b c d e f h = subst (λ t. IsLeft t d) e (subst (λ t. IsLeft a t) f h)

-- the tree of a cite
abbrev pub tree_of : Printed → Children
tree_of s = (printed_view s).tree

-- the tree of the cite at an index
abbrev pub left_at : List Printed → ℕ → Children
left_at ss n = get_or (map tree_of ss) n nothing

-- of the trees of cites that are left, each is what it was
abbrev pub AreLeft : List Printed → List Printed → Type 0
AreLeft now all = (n : ℕ) → IsLeft (left_at now n) (left_at all n)

pub all_left : (ss : List Printed) → AreLeft ss ss
all_left ss n = inr refl

pub left_is : (ss : List Printed) (n : ℕ) (s : Printed) → n < length ss → s ≡ get_or ss n s → left_at ss n ≡ tree_of s
left_is ss n s less is = sym (view_at tree_of ss n s nothing less is)

-- one more tree is taken
pub left_after : (now all : List Printed) (index : ℕ) (s : Printed) → index < length now → tree_of s ≡ nothing → AreLeft now all → AreLeft (set now index s) all
left_after now all index s less is h n =
    let ts = map tree_of now in
    let moved : map tree_of (set now index s) ≡ set ts index nothing = map-set tree_of now index s ∙ ap (set ts index) is in
    let low : index < length ts = omega (arith, less, length-map now tree_of) in
    elim (cases_eq n index) [
      | inl e ↦ inl (ap (λ us. get_or us n nothing) moved ∙ ap (λ k. get_or (set ts index nothing) k nothing) e ∙ get_or-set_same ts index nothing nothing low)
      | inr apart ↦ subst (λ t. IsLeft t (left_at all n)) (sym (ap (λ us. get_or us n nothing) moved ∙ get_or-set_other ts index n nothing nothing apart)) (h n)
    ]
