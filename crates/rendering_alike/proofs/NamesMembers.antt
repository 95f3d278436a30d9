-- What was gathered are the same variables and kinds as those that are named, each once.
use Rattle.std.proofs.Common.{◌≡◌, ◌↔◌, ◌<◌, ℕ, zero, suc, Bool, true, false, ◌&&◌, cond, ◌⊎◌, inl, inr, List, [], ◌∷◌, ◌++◌, length, get_or, refl, sym, ap, subst, ◌∙◌, arith, rules}
use Rattle.std.specs.Prelude.{Contains, fold, if◌then◌else◌}
use Rattle.std.specs.List.{list_any}
use Rattle.std.proofs.lemmas.List.Elements.{Contains-append_left, Contains-append_right, Contains-append_cases, Contains-push, Contains-push_cases}
use Rattle.std.proofs.lemmas.List.Folds.{Any-from_list_any}
use denote.Enum.Bare.{same_true}
use Rattle.rendering_context.proofs.VariablesIndices.{same_variable}
use Rattle.rendering_leaves.specs.NodeSettings.{with_variable}
use Rattle.rendering_nodes.specs.Named.{Named, as_printed, joined_named}
use Rattle.rendering_nodes.proofs.FindingsKnown.{one_list}
use Rattle.rendering_taxonomy.specs.Variables.{is_variable}
use Rattle.rendering_taxonomy.specs.contracts.kind.Kind.{the_type}
use Rattle.rendering_taxonomy.specs.contracts.kind.KindPartialEq.TheImpl as kind_eq
use Rattle.rendering_taxonomy.specs.declared.kind.Kind.{Kind}
use Rattle.rendering_taxonomy.specs.declared.variable.Variable.{Variable}
use Rattle.rendering_alike.specs.Naming.{NameTheSame, with_named}

either : {A B C : Type 0} → (A → C) → (B → C) → A ⊎ B → C
either f g (inl a) = f a
either f g (inr b) = g b

-- members that are added, each unless one that is the same is there
module _ {X : Type 0} (same : X → X → Bool) (one : (x y : X) → same x y ≡ true → x ≡ y) where
  abbrev with_one : List X → X → List X
  with_one xs x = cond (list_any (same x) xs) xs (xs ++ x ∷ [])

  kept : (xs : List X) (y x : X) → Contains xs x → Contains (with_one xs y) x
  kept xs y x h = by (list_any (same y) xs)
    where
      by : (b : Bool) → Contains (cond b xs (xs ++ y ∷ [])) x
      by true = h
      by false = Contains-append_left xs (y ∷ []) x h

  there : (xs : List X) (y : X) → Contains (with_one xs y) y
  there xs y = by (list_any (same y) xs) refl
    where
      by : (b : Bool) → list_any (same y) xs ≡ b → Contains (cond b xs (xs ++ y ∷ [])) y
      by true is = let found = Any-from_list_any (same y) xs is in subst (Contains xs) (sym (one y found.1 found.4)) (found.0, found.2, found.3)
      by false is = Contains-push xs y

  one_more : (xs : List X) (y x : X) → Contains (with_one xs y) x → Contains xs x ⊎ (y ≡ x)
  one_more xs y x = by (list_any (same y) xs)
    where
      by : (b : Bool) → Contains (cond b xs (xs ++ y ∷ [])) x → Contains xs x ⊎ (y ≡ x)
      by true h = inl h
      by false h = Contains-push_cases xs y x h

  stays : (ys xs : List X) (x : X) → Contains xs x → Contains (fold with_one xs ys) x
  stays [] xs x h = h
  stays (y ∷ ys) xs x h = stays ys (with_one xs y) x (kept xs y x h)

  comes : (ys xs : List X) (x : X) (k : ℕ) → k < length ys → get_or ys k x ≡ x → Contains (fold with_one xs ys) x
  comes [] xs x k low is = absurd (omega (arith, low))
  comes (y ∷ ys) xs x zero low is = stays ys (with_one xs y) x (subst (Contains (with_one xs y)) is (there xs y))
  comes (y ∷ ys) xs x (suc k) low is = comes ys (with_one xs y) x k (omega (arith, low)) is

  from : (ys xs : List X) (x : X) → Contains (fold with_one xs ys) x → Contains xs x ⊎ Contains ys x
  from [] xs x h = inl h
  from (y ∷ ys) xs x h =
      either (λ c. either inl (λ e. inr (0, omega arith, e)) (one_more xs y x c)) (λ c. inr (Contains-append_right (y ∷ []) ys x c)) (from ys (with_one xs y) x h)

  members : (xs ys : List X) (x : X) → Contains (fold with_one xs ys) x ↔ Contains (xs ++ ys) x
  members xs ys x = (
    λ h. either (Contains-append_left xs ys x) (Contains-append_right xs ys x) (from ys xs x h),
    λ h. either (stays ys xs x) (λ c. comes ys xs x c.0 c.1 c.2) (Contains-append_cases xs ys x h),
  )

-- variables of one index are one
one_variable : (v w : Variable) → is_variable v w ≡ true → v ≡ w
one_variable v w is = sym (ap (λ vs. get_or vs 0 v) (one_list (w ∷ []) (v ∷ []) (ap (λ b. b && true) (same_variable v w ∙ is))))

-- kinds of which `==` is true are one
one_kind : (k l : Kind) → kind_eq.ghosts.eq l k ≡ true → k ≡ l
one_kind k l is = sym (same_true the_type (search rules) l k is)

-- what is in a list is in another where it counts, and where it does not
counted : (p : Bool) (xs ys : List Variable) → ((v : Variable) → Contains xs v ↔ Contains ys v) → (v : Variable) → Contains (if p then xs else []) v ↔ Contains (if p then ys else []) v
counted true xs ys same v = same v
counted false xs ys same v = (λ h. h, λ h. h)

pub joined_members : (p : Bool) (n m : Named) → NameTheSame (as_printed p (with_named n m)) (as_printed p (joined_named n m))
joined_members p n m = record {
  variables = members is_variable one_variable n.variables m.variables;
  kinds = members (λ k l. kind_eq.ghosts.eq l k) one_kind n.kinds m.kinds;
  written = counted p (fold with_variable n.variables m.variables) (n.variables ++ m.variables) (members is_variable one_variable n.variables m.variables);
}
