-- The indices of macros by their names.
use Rattle.std.proofs.Common.{◌≡◌, ℕ, suc, ◌+◌, ◌<◌, Bool, true, false, cond, not, ltb, List, [], ◌∷◌, ◌++◌, length, find, map, get_or, take, string_bytes, Option, Some, None, ◌⊎◌, inl, inr, refl, sym, ap, ◌∙◌, arith}
use Rattle.std.specs.List.{position, position_or_len, slice_get}
use Rattle.std.specs.Option.{option_map, option_or}
use Rattle.std.specs.Str.{bytes_eq}
use Rattle.std.proofs.lemmas.Bool.Decides.{nat_tests}
use Rattle.std.proofs.lemmas.List.{take_more, map_push, length-map, length-take-le}
use Rattle.rendering_style.specs.Styles.{Macro}
use Rattle.rendering_style.specs.Views.{macro_view}
use Rattle.rendering_style.specs.declared.parts.Macro.{Macro as MacroPart}
use Rattle.rendering_style.specs.Nodes.{nodes_of}
use Rattle.rendering_style.specs.Opening.{macro_named, index_of}

-- an option, and what it is after one more step of a search
abbrev shifted : Option ℕ → Option ℕ
shifted None = None
shifted (Some i) = Some (suc i)

position-cons : {X : Type 0} (p : X → Bool) (x : X) (xs : List X) → position p (x ∷ xs) ≡ cond (p x) (Some 0) (shifted (position p xs))
position-cons p x xs = by_test (p x) (position_or_len p xs) (length xs)
  where
    by_index : (b : Bool) (k n : ℕ) → ltb k n ≡ b → cond (ltb (1 + k) (suc n)) (Some (1 + k)) None ≡ shifted (cond b (Some k) None)
    by_index true k n e =
        let h : ltb (1 + k) (suc n) ≡ true = grind (arith, nat_tests) in
        let s : 1 + k ≡ suc k = omega arith in
        ap (λ b. cond b (Some (1 + k)) None) h ∙ ap (λ i. Some i) s
    by_index false k n e =
        let h : ltb (1 + k) (suc n) ≡ false = grind (arith, nat_tests) in
        ap (λ b. cond b (Some (1 + k)) None) h

    by_test : (b : Bool) (k n : ℕ) → cond (ltb (cond (not b) (1 + k) 0) (suc n)) (Some (cond (not b) (1 + k) 0)) None ≡ cond b (Some 0) (shifted (cond (ltb k n) (Some k) None))
    by_test true k n =
        let h : ltb 0 (suc n) ≡ true = grind (arith, nat_tests) in
        ap (λ b. cond b (Some 0) None) h
    by_test false k n = by_index (ltb k n) k n refl

-- the name means nothing
abbrev pub IsNowhere : List Macro → List ℕ → Type 0
IsNowhere ms name = (macro_named ms name ≡ None) × (index_of ms name ≡ None)

-- the name means the macro at an index
pub record IsAt (ms : List Macro) (name : List ℕ) : Type 0 where
  pub index : ℕ
  pub found : Macro
  pub named : macro_named ms name ≡ Some (nodes_of found.nodes)
  pub indexed : index_of ms name ≡ Some index
  pub there : slice_get ms index ≡ Some found
  pub within : index < length ms

-- one of both
pub look_up : (ms : List Macro) (name : List ℕ) → IsNowhere ms name ⊎ IsAt ms name
look_up [] name = inl (refl, refl)
look_up (m ∷ ms) name = by_test (bytes_eq m.name name) refl (look_up ms name)
  where
    first : index_of (m ∷ ms) name ≡ cond (bytes_eq m.name name) (Some 0) (shifted (index_of ms name))
    first = position-cons (λ (x : Macro). bytes_eq x.name name) m ms

    named_by : (b : Bool) → bytes_eq m.name name ≡ b → macro_named (m ∷ ms) name ≡ option_map (λ (x : Macro). nodes_of x.nodes) (cond b (Some m) (find (λ (x : Macro). bytes_eq x.name name) ms))
    named_by b e = ap (λ (c : Bool). option_map (λ (x : Macro). nodes_of x.nodes) (cond c (Some m) (find (λ (x : Macro). bytes_eq x.name name) ms))) e

    indexed_by : (b : Bool) → bytes_eq m.name name ≡ b → index_of (m ∷ ms) name ≡ cond b (Some 0) (shifted (index_of ms name))
    indexed_by b e = first ∙ ap (λ (c : Bool). cond c (Some 0) (shifted (index_of ms name))) e

    by_test : (b : Bool) → bytes_eq m.name name ≡ b → IsNowhere ms name ⊎ IsAt ms name → IsNowhere (m ∷ ms) name ⊎ IsAt (m ∷ ms) name
    by_test true e f = inr (record { index = 0; found = m; named = named_by true e; indexed = indexed_by true e; there = refl; within = omega arith })
    by_test false e (inl n) = inl (named_by false e ∙ n.0, indexed_by false e ∙ ap shifted n.1)
    by_test false e (inr s) = inr (record {
      index = suc s.index;
      found = s.found;
      named = named_by false e ∙ s.named;
      indexed = indexed_by false e ∙ ap shifted s.indexed;
      there = s.there;
      within = (let h = s.within in omega (arith, h));
    })

-- where it means an index, that is a macro's
pub indexed_within : (ms : List Macro) (name : List ℕ) (r : ℕ) → index_of ms name ≡ Some r → r < length ms
indexed_within ms name r e = by_cases (look_up ms name)
  where
    by_cases : IsNowhere ms name ⊎ IsAt ms name → r < length ms
    by_cases (inl n) = absurd (none (sym n.1 ∙ e))
      where
        none : None ≡ Some r → ⊥
        none h = cc
    by_cases (inr s) = let same : s.index ≡ r = inside (sym s.indexed ∙ e) in let h = s.within in omega (arith, same, h)
      where
        inside : {a b : ℕ} → Some a ≡ Some b → a ≡ b
        inside h = cc

-- one more macro
pub index_of-last : (name : List ℕ) (ms : List Macro) (m : Macro) → index_of (ms ++ m ∷ []) name ≡ option_or (index_of ms name) (cond (bytes_eq m.name name) (Some (length ms)) None)
index_of-last name [] m = position-cons (λ (x : Macro). bytes_eq x.name name) m []
index_of-last name (x ∷ xs) m =
    position-cons (λ (y : Macro). bytes_eq y.name name) x (xs ++ m ∷ [])
    ∙ (by_test (bytes_eq x.name name) (index_of xs name) (index_of (xs ++ m ∷ []) name) (bytes_eq m.name name) (index_of-last name xs m)
    ∙ ap (λ o. option_or o (cond (bytes_eq m.name name) (Some (length (x ∷ xs))) None)) (sym (position-cons (λ (y : Macro). bytes_eq y.name name) x xs)))
  where
    by_test : (b : Bool) (o p : Option ℕ) (c : Bool) → p ≡ option_or o (cond c (Some (length xs)) None) → cond b (Some 0) (shifted p) ≡ option_or (cond b (Some 0) (shifted o)) (cond c (Some (suc (length xs))) None)
    by_test true o p c e = refl
    by_test false None p true e = ap shifted e
    by_test false None p false e = ap shifted e
    by_test false (Some i) p c e = ap shifted e

-- a table of indices, with the name of one more macro
pub index_more : (old new : List ℕ → Option ℕ) (ms : List MacroPart) (n : ℕ) (m : MacroPart) (name : List ℕ) → n < length ms → m ≡ get_or ms n m → name ≡ string_bytes m.name
    → ((q : List ℕ) → old q ≡ index_of (map macro_view (take n ms)) q) → ((q : List ℕ) → new q ≡ option_or (old q) (cond (bytes_eq name q) (Some n) None))
    → (q : List ℕ) → new q ≡ index_of (map macro_view (take (n + 1) ms)) q
index_more old new ms n m name low is same told more q =
    let count : n ≡ length (map macro_view (take n ms)) = sym (length-map (take n ms) macro_view ∙ length-take-le n ms (omega (arith, low))) in
    let longer : map macro_view (take (n + 1) ms) ≡ map macro_view (take n ms) ++ macro_view m ∷ [] =
    ap (map macro_view) (take_more ms n m low ∙ ap (λ (x : MacroPart). take n ms ++ x ∷ []) (sym is)) ∙ map_push macro_view (take n ms) m in
    more q
    ∙ ((λ i. option_or (told q i) (cond (bytes_eq (same i) q) (Some (count i)) None))
    ∙ (sym (index_of-last q (map macro_view (take n ms)) (macro_view m))
    ∙ ap (λ (xs : List Macro). index_of xs q) (sym longer)))

-- what the code finds at the index of a name
pub named_at : (ms : List Macro) (name : List ℕ) (r : ℕ) → index_of ms name ≡ Some r → option_map (λ (m : Macro). nodes_of m.nodes) (slice_get ms r) ≡ macro_named ms name
named_at ms name r e = by_cases (look_up ms name)
  where
    none : None ≡ Some r → ⊥
    none h = cc

    inside : {a b : ℕ} → Some a ≡ Some b → a ≡ b
    inside h = cc

    by_cases : IsNowhere ms name ⊎ IsAt ms name → option_map (λ (m : Macro). nodes_of m.nodes) (slice_get ms r) ≡ macro_named ms name
    by_cases (inl n) = absurd (none (sym n.1 ∙ e))
    by_cases (inr s) =
        ap (λ k. option_map (λ (m : Macro). nodes_of m.nodes) (slice_get ms k)) (sym (inside (sym s.indexed ∙ e)))
        ∙ (ap (option_map (λ (m : Macro). nodes_of m.nodes)) s.there ∙ sym s.named)

pub named_nowhere : (ms : List Macro) (name : List ℕ) → index_of ms name ≡ None → macro_named ms name ≡ None
named_nowhere ms name e = by_cases (look_up ms name)
  where
    some : {r : ℕ} → None ≡ Some r → ⊥
    some h = cc

    by_cases : IsNowhere ms name ⊎ IsAt ms name → macro_named ms name ≡ None
    by_cases (inl n) = n.0
    by_cases (inr s) = absurd (some (sym e ∙ s.indexed))
