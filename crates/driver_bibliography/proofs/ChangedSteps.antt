-- Changing the first names in a list of children.
use Rattle.std.proofs.Common.{◌≡◌, ℕ, ◌+◌, ◌<◌, ◌≤◌, Bool, true, false, true≢false, List, [], ◌∷◌, length, take, drop, get_or, set, refl, sym, ap, subst, ◌∙◌, arith, Option, Some, None, is_some, Result, Ok, Err}
use Rattle.std.specs.Prelude.{IfOk, if◌then◌else◌}
use Rattle.std.specs.Option.{option_map, unwrap_or}
use Rattle.std.proofs.lemmas.List.{drop_more, drop_all, drop-set-lt, take_more_set, take-append-drop}
use Rattle.rendering_taxonomy.specs.declared.formatting.Display.{Display}
use Rattle.rendering_tree.specs.Metas.{Meta}
use Rattle.rendering_tree.specs.Trees.{Child, Children, Elem, nothing, before, followed_by, simplified}
use Rattle.rendering_tree.specs.Views.{child_view, children_view, tree_view}
use Rattle.rendering_tree.specs.declared.element.ElemChild.{ElemChild}
use Rattle.rendering_tree.specs.declared.element.ElemChildren.{ElemChildren}
use Rattle.rendering_tree.proofs.SimplifySteps.{children-append, followed_by-assoc}
use Rattle.rendering_tree.proofs.TreesParting.{children-set}
use Rattle.driver_bibliography.specs.Substitution.{changed, changed_in, changed_or_others, is_some_names, names_changed_or_inside, text_for, with_names}
use Rattle.driver_bibliography.specs.Views.{Changes, children_for, repeated_view}
use Rattle.driver_bibliography.specs.declared.repeats.Repetition.{Repetition}
use Rattle.driver_bibliography.specs.declared.repeats.Repetition.TheVariants as repeats

-- what is changed in a list that stands after another one
abbrev pub after : Children → Option Children → Option Children
after zs o = option_map (followed_by zs) o

pub after-nothing : (o : Option Children) → o ≡ after nothing o
after-nothing None = refl
after-nothing (Some ys) = refl

after-both : (zs : Children) (x : Child) (o : Option Children) → after zs (option_map (λ ys. before x ys) o) ≡ after (followed_by zs (before x nothing)) o
after-both zs x None = refl
after-both zs x (Some ys) = ap Some (sym (followed_by-assoc zs (before x nothing) ys))

-- There are no names in the children before an index.
pub record Passing (f : Children → Children) (old xs : List ElemChild) (i : ℕ) : Type 0 where
  pub same : children_view xs ≡ children_view old
  pub others : changed f (children_view old) ≡ after (children_view (take i xs)) (changed f (children_view (drop i xs)))

-- at first
pub passing_begins : (f : Children → Children) (xs : List ElemChild) → Passing f xs xs 0
passing_begins f xs = record { same = refl; others = after-nothing (changed f (children_view xs)) }

-- after all
pub passing_ends : (f : Children → Children) (old xs : List ElemChild) (i : ℕ) → Passing f old xs i → length xs ≤ i → Changes (changed f (children_view old)) (children_view old) (children_view xs) false
passing_ends f old xs i p all =
    let none : changed f (children_view old) ≡ None = p.others ∙ ap (λ ys. after (children_view (take i xs)) (changed f (children_view ys))) (drop_all i xs all) in
    record { as_found = sym (ap is_some none); as_wanted = p.same ∙ sym (ap (λ o. unwrap_or o (children_view old)) none) }

-- what was found is there
found_some : {X : Type 0} (o : Option X) (old new : X) → Changes o old new true → o ≡ Some new
found_some None old new h = absurd (true≢false h.as_found)
found_some (Some y) old new h = ap Some (sym h.as_wanted)

found_none : {X : Type 0} (o : Option X) (old new : X) → Changes o old new false → (o ≡ None) × (new ≡ old)
found_none None old new h = (refl, h.as_wanted)
found_none (Some y) old new h = absurd (true≢false (sym h.as_found))

module _ (f : Children → Children) (old xs : List ElemChild) (i : ℕ) (x d y : ElemChild) (passing : Passing f old xs i) (less : i < length xs) (is : x ≡ get_or xs i d) where
  around : children_view xs ≡ followed_by (children_view (take i xs)) (children_view (drop i xs))
  around = ap children_view (sym (take-append-drop i xs)) ∙ children-append (take i xs) (drop i xs)

  from : children_view (drop i xs) ≡ before (child_view x) (children_view (drop (i + 1) xs))
  from = ap children_view (drop_more xs i d less) ∙ ap (λ z. before (child_view z) (children_view (drop (i + 1) xs))) (sym is)

  here : changed f (children_view old) ≡ after (children_view (take i xs)) (changed_or_others (child_view x) (children_view (drop (i + 1) xs)) (changed_in f (child_view x)) (changed f (children_view (drop (i + 1) xs))))
  here = passing.others ∙ ap (λ ys. after (children_view (take i xs)) (changed f ys)) from

  -- names that were changed in a child
  pub found_names : (b : Bool) → Changes (changed_in f (child_view x)) (child_view x) (child_view y) b → b ≡ true → Changes (changed f (children_view old)) (children_view old) (children_view (set xs i y)) true
  found_names b g t =
      let h : Changes (changed_in f (child_view x)) (child_view x) (child_view y) true = subst (λ (c : Bool). Changes (changed_in f (child_view x)) (child_view x) (child_view y) c) t g in
      let some : changed_in f (child_view x) ≡ Some (child_view y) = found_some (changed_in f (child_view x)) (child_view x) (child_view y) h in
      let all : changed f (children_view old) ≡ Some (followed_by (children_view (take i xs)) (before (child_view y) (children_view (drop (i + 1) xs)))) =
      here ∙ ap (λ o. after (children_view (take i xs)) (changed_or_others (child_view x) (children_view (drop (i + 1) xs)) o (changed f (children_view (drop (i + 1) xs))))) some in
      record { as_found = sym (ap is_some all); as_wanted = children-set xs (set xs i y) i y less refl ∙ sym (ap (λ o. unwrap_or o (children_view old)) all) }

  -- where there are none, the others are asked
  pub passed_names : (b : Bool) → Changes (changed_in f (child_view x)) (child_view x) (child_view y) b → b ≡ false → Passing f old (set xs i y) (i + 1)
  passed_names b g t =
      let h : Changes (changed_in f (child_view x)) (child_view x) (child_view y) false = subst (λ (c : Bool). Changes (changed_in f (child_view x)) (child_view x) (child_view y) c) t g in
      let none = found_none (changed_in f (child_view x)) (child_view x) (child_view y) h in
      let zs = children_view (take i xs) in
      let leading : children_view (take (i + 1) (set xs i y)) ≡ followed_by zs (before (child_view x) nothing) =
      ap children_view (take_more_set xs i y less) ∙ children-append (take i xs) (y ∷ []) ∙ ap (λ z. followed_by zs (before z nothing)) none.1 in
      let others : drop (i + 1) (set xs i y) ≡ drop (i + 1) xs = drop-set-lt (i + 1) xs i y (omega arith) in
      let back : children_view xs ≡ followed_by zs (before (child_view x) (children_view (drop (i + 1) xs))) = around ∙ ap (followed_by zs) from in
      record {
        same = children-set xs (set xs i y) i y less refl ∙ ap (λ z. followed_by zs (before z (children_view (drop (i + 1) xs)))) none.1 ∙ sym back ∙ passing.same;
        others = here
            ∙ ap (λ o. after zs (changed_or_others (child_view x) (children_view (drop (i + 1) xs)) o (changed f (children_view (drop (i + 1) xs))))) none.0
            ∙ after-both zs (child_view x) (changed f (children_view (drop (i + 1) xs)))
            ∙ (λ k. after (sym leading k) (changed f (children_view (sym others k))));
      }

module _ (f : Children → Children) where
  -- what was changed of a child that is viewed in another way
  pub changes_in : {E : Type 0} (r : Result Bool E) {new now old first : Child} → new ≡ now → old ≡ first → IfOk r (λ b. Changes (changed_in f old) old now b) → IfOk r (λ b. Changes (changed_in f first) first new b)
  changes_in (Ok b) g o p = record { as_found = p.as_found ∙ ap (λ z. is_some (changed_in f z)) o; as_wanted = g ∙ p.as_wanted ∙ ap (λ z. unwrap_or (changed_in f z) z) o }
  changes_in (Err e) g o p = tt

  inside_found : (d : Option Display) (m : Option Meta) (o : Option Children) → is_some o ≡ is_some (option_map (λ ys. Elem d m ys) o)
  inside_found d m None = refl
  inside_found d m (Some ys) = refl

  inside_wanted : (d : Option Display) (m : Option Meta) (xs : Children) (o : Option Children) → Elem d m (unwrap_or o xs) ≡ unwrap_or (option_map (λ ys. Elem d m ys) o) (Elem d m xs)
  inside_wanted d m xs None = refl
  inside_wanted d m xs (Some ys) = refl

  -- what was changed in an element that stands for no names node
  pub names_inside : {E : Type 0} (d : Option Display) (m : Option Meta) (xs : Children) (r : Result Bool E) {new : Child} (now left : Children) → is_some_names m ≡ false → new ≡ Elem d m left → now ≡ xs
      → IfOk r (λ b. Changes (changed f now) now left b) → IfOk r (λ b. Changes (names_changed_or_inside f d m xs (changed f xs)) (Elem d m xs) new b)
  names_inside d m xs (Err e) now left none g same p = tt
  names_inside d m xs (Ok b) {new} now left none g same p =
      let other : option_map (λ ys. Elem d m ys) (changed f xs) ≡ names_changed_or_inside f d m xs (changed f xs) = sym (ap (λ t. if t then Some (Elem d m (f xs)) else option_map (λ ys. Elem d m ys) (changed f xs)) none) in
      record {
        as_found = p.as_found ∙ ap (λ z. is_some (changed f z)) same ∙ inside_found d m (changed f xs) ∙ ap is_some other;
        as_wanted = g
            ∙ ap (Elem d m) (p.as_wanted ∙ ap (λ z. unwrap_or (changed f z) z) same)
            ∙ inside_wanted d m xs (changed f xs)
            ∙ ap (λ o. unwrap_or o (Elem d m xs)) other;
      }

-- a text stands for what is repeated, if that is something
stands : (text : List ℕ) (r : Repetition) (tree : Children) → (r ≡ repeats.Nothing → ⊥) → with_names (children_for text (repeated_view r)) tree ≡ text_for text (repeated_view r) tree
stands text repeats.Nothing tree some = absurd (some refl)
stands text repeats.All tree some = refl
stands text repeats.Lists tree some = refl
stands text (repeats.First n) tree some = refl

pub text_stands : {E : Type 0} (r : Result ElemChildren E) (text : List ℕ) (repeated : Repetition) (tree : Children) {new : Children} → (repeated ≡ repeats.Nothing → ⊥)
    → new ≡ with_names (children_for text (repeated_view repeated)) tree → IfOk r (λ t. tree_view t ≡ simplified new) → IfOk r (λ t. tree_view t ≡ simplified (text_for text (repeated_view repeated) tree))
text_stands (Ok t) text repeated tree some e h = h ∙ ap simplified (e ∙ stands text repeated tree some)
text_stands (Err d) text repeated tree some e h = tt
