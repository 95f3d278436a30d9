-- Which macros call which, by their indices.
use Rattle.std.proofs.Common.{◌≡◌, ℕ, zero, suc, ◌<◌, List, [], ◌∷◌, length, map, get_or, Option, Some, None, Contains, refl, sym, ap, subst, ◌∙◌, arith}
use Rattle.std.specs.List.{filter_map, cons_option}
use Rattle.std.proofs.lemmas.List.Elements.{Contains-append_right}
use Rattle.std.proofs.lemmas.List.{length-map}
use Rattle.reference_graph.specs.References.{references_of}
use Rattle.rendering_style.specs.Nodes.{nodes_of}
use Rattle.rendering_style.specs.Styles.{Macro}
use Rattle.rendering_style.specs.Opening.{index_of, calls, references}
use Rattle.rendering_style.specs.Tables.{nodes_at}

-- what one element gives, the list gives
given : {X Y : Type 0} (f : X → Option Y) (xs : List X) (x : X) (y : Y) (k : ℕ) → k < length xs → get_or xs k x ≡ x → f x ≡ Some y → Contains (filter_map f xs) y
given f [] x y k low is e = absurd (omega (arith, low))
given {X} {Y} f (z ∷ xs) x y zero low is e = first (f z) (ap f is ∙ e)
  where
    first : (o : Option Y) → o ≡ Some y → Contains (cons_option o (filter_map f xs)) y
    first None h = absurd cc
    first (Some w) h = (0, omega arith, inside h)
      where
        inside : Some w ≡ Some y → w ≡ y
        inside h = cc
given {X} {Y} f (z ∷ xs) x y (suc k) low is e = more (f z) (given f xs x y k (omega (arith, low)) is e)
  where
    more : (o : Option Y) → Contains (filter_map f xs) y → Contains (cons_option o (filter_map f xs)) y
    more None c = c
    more (Some w) c = Contains-append_right (w ∷ []) (filter_map f xs) y c

contains_filter_map : {X Y : Type 0} (f : X → Option Y) (xs : List X) (x : X) (y : Y) → Contains xs x → f x ≡ Some y → Contains (filter_map f xs) y
contains_filter_map f xs x y c e = given f xs x y c.0 c.1 c.2 e

-- the references of the macro at an index
references_at : (all ms : List Macro) (i : ℕ) → i < length ms → get_or (map (λ (m : Macro). filter_map (index_of all) (calls (nodes_of m.nodes))) ms) i [] ≡ filter_map (index_of all) (calls (nodes_at ms i))
references_at all [] i low = absurd (omega (arith, low))
references_at all (m ∷ ms) zero low = refl
references_at all (m ∷ ms) (suc i) low = references_at all ms i (omega (arith, low))

-- a macro that nodes call by its name is one that they refer to
pub refers : (ms : List Macro) (i r : ℕ) (name : List ℕ) → i < length ms → Contains (calls (nodes_at ms i)) name → index_of ms name ≡ Some r → Contains (references_of (references ms) i) r
refers ms i r name low c e = subst (λ (rs : List ℕ). Contains rs r) (sym (references_at ms ms i low)) (contains_filter_map (index_of ms) (calls (nodes_at ms i)) name r c e)

pub as_many : (ms : List Macro) → length (references ms) ≡ length ms
as_many ms = length-map ms (λ (m : Macro). filter_map (index_of ms) (calls (nodes_of m.nodes)))
