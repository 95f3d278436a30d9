-- What `==` answers of texts, options, lists and pairs, where it is known of their parts.
use Rattle.std.specs.Global.{Global}
use Rattle.std.proofs.Common.{◌≡◌, ℕ, Bool, true, false, List, [], ◌∷◌, map, get_or, drop, length, Option, Some, None, String, string_bytes, string_eq, ◌&&◌, refl, sym, ap, ◌∙◌, arith, rules}
use Rattle.std.specs.Bool.{Decides}
use Rattle.std.specs.Option.{option_eq, option_map}
use Rattle.std.specs.Str.{chars}
use Rattle.std.specs.Prelude.{unwrap_or}
use Rattle.std.specs.Cmp.Lexicographic.{bytes_decides, pointwise}
use Rattle.std.proofs.lemmas.Bool.Decides.{Decides-and}
use Rattle.std.proofs.lemmas.Iterator.Adapters.{option_map_id}
use Rattle.std.proofs.lemmas.Str.{IsUtf8-string_bytes}
use Rattle.laws.specs.Equality.{Shows}
use Rattle.laws.specs.Text.{text}
use Rattle.laws.proofs.Text.{text_of_chars}

-- what is decided of a fact is decided of another that says the same
pub Decides-moved : {P R : Type 0} (b : Bool) → Decides b P → (P → R) → (R → P) → Decides b R
Decides-moved b d to from = (λ h. to (d.0 h), λ r. d.1 (from r))

-- what cannot be is decided as false
pub Decides-never : {P : Type 0} → (P → ⊥) → Decides false P
Decides-never never = (λ h. search rules, λ p. absurd (never p))

-- texts are viewed as their characters
pub Shows-strings : Shows (string_eq {Z = Global}) (λ s. chars (string_bytes s))
Shows-strings s t =
    Decides-moved (string_eq s t) (bytes_decides (string_bytes s) (string_bytes t)) (ap chars)
    (λ e. sym (text_of_chars (string_bytes s) (IsUtf8-string_bytes s)) ∙ ap text e ∙ text_of_chars (string_bytes t) (IsUtf8-string_bytes t))

pub Shows-options : {A V : Type 0} (same : A → A → Bool) (view : A → V) → Shows same view → Shows (option_eq same) (option_map view)
Shows-options same view s None None = (λ h. refl, λ e. refl)
Shows-options same view s None (Some y) = Decides-never (λ e. search rules)
Shows-options same view s (Some x) None = Decides-never (λ e. search rules)
Shows-options same view s (Some x) (Some y) = Decides-moved (same x y) (s x y) (ap (λ v. Some v)) (ap (λ o. unwrap_or o (view x)))

-- options are one where they hold the same
pub Shows-options_themselves : {A : Type 0} (same : A → A → Bool) → Shows same (λ x. x) → Shows (option_eq same) (λ o. o)
Shows-options_themselves same s o p =
    Decides-moved (option_eq same o p) (Shows-options same (λ x. x) s o p) (λ e. sym (option_map_id o) ∙ e ∙ option_map_id p) (ap (option_map (λ x. x)))

pub Shows-lists : {A V : Type 0} (same : A → A → Bool) (view : A → V) → Shows same view → Shows (pointwise same) (map view)
Shows-lists same view s [] [] = (λ h. refl, λ e. refl)
Shows-lists same view s [] (y ∷ ys) = Decides-never (λ e. search rules)
Shows-lists same view s (x ∷ xs) [] = Decides-never (λ e. search rules)
Shows-lists same view s (x ∷ xs) (y ∷ ys) =
    Decides-moved (same x y && pointwise same xs ys) (Decides-and (same x y) (pointwise same xs ys) (s x y) (Shows-lists same view s xs ys))
    (λ p i. p.0 i ∷ p.1 i) (λ e. (ap (λ l. get_or l 0 (view x)) e, ap (drop 1) e))

pub Shows-pairs : {A B V W : Type 0} (same : A → A → Bool) (view : A → V) (same_other : B → B → Bool) (view_other : B → W)
    → Shows same view → Shows same_other view_other → Shows {V = V × W} (λ (p q : A × B). same p.0 q.0 && same_other p.1 q.1) (λ p. (view p.0, view_other p.1))
Shows-pairs same view same_other view_other s t p q =
    Decides-moved (same p.0 q.0 && same_other p.1 q.1) (Decides-and (same p.0 q.0) (same_other p.1 q.1) (s p.0 q.0) (t p.1 q.1))
    (λ e i. (e.0 i, e.1 i)) (λ e. (ap (λ v. v.0) e, ap (λ v. v.1) e))
