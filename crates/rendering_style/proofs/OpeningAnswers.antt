-- What is answered to the parts of a style.
use Rattle.std.proofs.Common.{◌≡◌, ℕ, zero, suc, ◌<◌, Bool, true, false, ◌&&◌, leb, List, [], ◌∷◌, length, Option, Some, None, Contains, refl, sym, ap, subst, ◌∙◌, arith, IfSome}
use Rattle.std.proofs.Math.Nat.{le_refl}
use Rattle.std.specs.List.{list_all, slice_get}
use Rattle.std.specs.Option.{option_map, option_map_or}
use Rattle.reference_graph.specs.References.{references_of, IsCircular}
use Rattle.reference_graph.specs.Order.{is_marked, MarksCircular}
use Rattle.rendering_style.specs.Nodes.{Node, nodes_of}
use Rattle.rendering_style.specs.Styles.{Bibliography, Layout, Macro, Style}
use Rattle.rendering_style.specs.Opening.{index_of, all_nodes, fits, layout_fits, style_fits, references, Refusal, macro_ring, IsFirstRing, IsAnswer}
use Rattle.rendering_style.specs.Levels.{levels}
use Rattle.rendering_style.specs.Tables.{height_at, AreHeights}
use Rattle.rendering_style.proofs.OpeningIndices.{indexed_within}
use Rattle.rendering_style.proofs.LevelsFit.{MeasuresName, name_measured, nodes_fit}
use Rattle.rendering_style.proofs.OpeningCalls.{as_many}

-- each name has the height at its index
all_measured : (ms : List Macro) (heights : List ℕ) → AreHeights heights ms → (name : List ℕ) → MeasuresName ms (λ q. height_at heights (index_of ms q)) name
all_measured ms heights h name = name_measured ms heights name (λ i e. h i (indexed_within ms name i e))

each_node : (f : Node → Bool) (xs : List Node) → list_all f xs ≡ all_nodes f (nodes_of xs)
each_node f [] = refl
each_node f (x ∷ xs) = ap (λ b. f x && b) (each_node f xs)

layout_by_heights : (ms : List Macro) (heights : List ℕ) → AreHeights heights ms → (l : Layout) → layout_fits ms l ≡ leb (levels (λ q. height_at heights (index_of ms q)) (nodes_of l.nodes)) 200
layout_by_heights ms heights h l =
    each_node (fits 200 ms) l.nodes ∙ nodes_fit ms (λ q. height_at heights (index_of ms q)) (nodes_of l.nodes) (λ name k. all_measured ms heights h name) 200 (le_refl 200)

of_bibliography : (ms : List Macro) (heights : List ℕ) → AreHeights heights ms → (o : Option Bibliography)
    → option_map_or (λ b. layout_fits ms b.layout) o true ≡ option_map_or (λ b. leb (levels (λ q. height_at heights (index_of ms q)) (nodes_of b.layout.nodes)) 200) o true
of_bibliography ms heights h None = refl
of_bibliography ms heights h (Some b) = layout_by_heights ms heights h b.layout

-- whether a style fits, by the heights of its macros
pub style_by_heights : (s : Style) (heights : List ℕ) → AreHeights heights s.macros
    → style_fits s ≡ (leb (levels (λ q. height_at heights (index_of s.macros q)) (nodes_of s.citation.layout.nodes)) 200
    && option_map_or (λ b. leb (levels (λ q. height_at heights (index_of s.macros q)) (nodes_of b.layout.nodes)) 200) s.bibliography true
    && list_all (λ m. leb (height_at heights (index_of s.macros m.name)) 200) s.macros)
style_by_heights s heights h = λ i.
    layout_by_heights s.macros heights h s.citation.layout i
    && of_bibliography s.macros heights h s.bibliography i
    && list_all (λ (m : Macro). all_measured s.macros heights h m.name 200 (le_refl 200) i) s.macros

-- what refers to something is there
refers_below : (R : List (List ℕ)) (n c : ℕ) → Contains (references_of R n) c → n < length R
refers_below [] n c k = absurd (omega (arith, k.1))
refers_below (rs ∷ R) zero c k = omega arith
refers_below (rs ∷ R) (suc n) c k = let more = refers_below R n c k in omega (arith, more)

-- the first that is marked is the first ring
pub first_ring : (R : List (List ℕ)) (ms : List Macro) (marks : List Bool) (i : ℕ) → R ≡ references ms → MarksCircular R marks → is_marked marks i ≡ true → ((k : ℕ) → k < i → is_marked marks k ≡ false) → IsFirstRing ms i
first_ring R ms marks i same told is before =
    let ring : IsCircular (references ms) i = subst (λ (r : List (List ℕ)). IsCircular r i) same ((told i).0 is) in
    let many = as_many ms in
    let low = refers_below (references ms) i ring.1.0 ring.1.1 in
    record {
      there = omega (arith, many, low);
      ring = ring;
      first = λ j less c. never j (before j less) ((told j).1 (subst (λ (r : List (List ℕ)). IsCircular r j) (sym same) c));
    }
  where
    never : (j : ℕ) → is_marked marks j ≡ false → is_marked marks j ≡ true → ⊥
    never j unmarked marked = cc

named_ring : (s : Style) (i : ℕ) (r : Refusal) (o : Option Macro) → slice_get s.macros i ≡ o → IsFirstRing s.macros i → option_map (λ (m : Macro). macro_ring m.name) o ≡ Some r → IsAnswer s (Some r)
named_ring s i r None is ring e = absurd cc
named_ring s i r (Some m) is ring e = subst (λ (x : Refusal). IsAnswer s (Some x)) (inside e) (i, ring, ap (option_map (λ (x : Macro). x.name)) is)
  where
    inside : Some (macro_ring m.name) ≡ Some r → macro_ring m.name ≡ r
    inside e = cc

-- the refusal for a ring is an answer
pub ring_answers : (s : Style) (i : ℕ) (o : Option Refusal) → IsFirstRing s.macros i → IfSome o (λ r. option_map (λ (m : Macro). macro_ring m.name) (slice_get s.macros i) ≡ Some r) → IfSome o (λ r. IsAnswer s (Some r))
ring_answers s i None ring h = tt
ring_answers s i (Some r) ring h = named_ring s i r (slice_get s.macros i) refl ring h

-- where none is marked, none is a ring
pub no_ring : (R : List (List ℕ)) (ms : List Macro) (marks : List Bool) → R ≡ references ms → MarksCircular R marks → ((i : ℕ) → is_marked marks i ≡ false) → (i : ℕ) → IsCircular (references ms) i → ⊥
no_ring R ms marks same told none i c = never (none i) ((told i).1 (subst (λ (r : List (List ℕ)). IsCircular r i) (sym same) c))
  where
    never : is_marked marks i ≡ false → is_marked marks i ≡ true → ⊥
    never unmarked marked = cc
