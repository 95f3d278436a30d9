-- How deep definitions go: on the way inwards none comes twice, so a rule may be taken one level deeper than there are
-- definitions, or deeper, and gives the same.
use Rattle.std.proofs.Common.{◌≡◌, ℕ, zero, suc, ◌<◌, ◌≤◌, ◌+◌, Bool, true, false, ◌||◌, List, [], ◌∷◌, length, get_or, eqb, All, Contains, Option, Some, None, refl, sym, subst, ◌∙◌, arith, ◌⊎◌, inl, inr}
use Rattle.std.specs.List.{AllByRecursion, list_any, IsDistinct}
use Rattle.std.proofs.lemmas.Bool.{eqb-true}
use Rattle.std.proofs.lemmas.List.Elements.{All-nil, All-weaker, All-contains_itself}
use Rattle.std.proofs.lemmas.Map.Keys.{IsDistinct-cons}
use Rattle.std.proofs.lemmas.Map.Steps.{length-le_from_distinct_below}
use Rattle.laws.specs.Text.{lowered}
use Rattle.biblatex_text.specs.Raw.{At, Piece, normal, abbreviation}
use Rattle.biblatex_fields.specs.Month.{month}
use Rattle.biblatex_fields.specs.Abbreviations.{Glossary, month_or_unknown, indices, index_of, pieces_at, named, references, AreFlags}
use Rattle.biblatex_fields.specs.Openings.{parts_in, parts}
use Rattle.biblatex_fields.specs.Value.{deep}
use Rattle.biblatex_fields.proofs.AbbreviationsGraph.{Reaches, one_step, step_on, index_within, refers}

-- a rule asks about the pieces alone that a piece stands for
abbrev pub IsLocal : {A : Type 0} → Glossary → ((At Piece → A) → At Piece → A) → Type 0
IsLocal {A} g rule = (f h : At Piece → A) (p : At Piece) → All (λ q. f q ≡ h q) (parts g p) → rule f p ≡ rule h p

-- what a piece opens, if it opens anything
abbrev Opens : Glossary → At Piece → Type 0
Opens g p = (index : ℕ) × (index < length g.definitions) × Contains (named g.definitions p.v) index × (get_or g.flags index false ≡ false) × (parts g p ≡ pieces_at g.definitions index)

first_of : (index : ℕ) → Contains (index ∷ []) index
first_of index = (zero, omega arith, refl)

unnamed : (start end : ℕ) (name : List ℕ) (o : Option (List ℕ)) → parts_in (month_or_unknown (record { v = name; start = start; end = end }) o) ≡ []
unnamed start end name None = refl
unnamed start end name (Some text) = refl

by_flag : (g : Glossary) (start end : ℕ) (name : List ℕ) (index : ℕ) → index_of (lowered name) g.definitions ≡ Some index → (b : Bool) → get_or g.flags index false ≡ b
    → (parts g (record { v = abbreviation name; start = start; end = end }) ≡ []) ⊎ Opens g (record { v = abbreviation name; start = start; end = end })
by_flag g start end name index e true h = inl (rw (e, h) refl)
by_flag g start end name index e false h = inr (index, index_within (lowered name) g.definitions index e, subst (λ (o : Option ℕ). Contains (indices o) index) (sym e) (first_of index), h, rw (e, h) refl)

by_index : (g : Glossary) (start end : ℕ) (name : List ℕ) (o : Option ℕ) → index_of (lowered name) g.definitions ≡ o
    → (parts g (record { v = abbreviation name; start = start; end = end }) ≡ []) ⊎ Opens g (record { v = abbreviation name; start = start; end = end })
by_index g start end name None e = inl (rw e (unnamed start end name (month (lowered name))))
by_index g start end name (Some index) e = by_flag g start end name index e (get_or g.flags index false) refl

by_piece : (g : Glossary) (start end : ℕ) (v : Piece) → (parts g (record { v = v; start = start; end = end }) ≡ []) ⊎ Opens g (record { v = v; start = start; end = end })
by_piece g start end (normal cs) = inl refl
by_piece g start end (abbreviation name) = by_index g start end name (index_of (lowered name) g.definitions) refl

-- a piece opens nothing, or a definition that is not circular
opened : (g : Glossary) (p : At Piece) → (parts g p ≡ []) ⊎ Opens g p
opened g p = by_piece g p.start p.end p.v

-- whether an index is on a way
abbrev is_on : ℕ → List ℕ → Bool
is_on index way = list_any (eqb index) way

-- The way inwards to a piece: the definitions that are open, each of which reaches what the piece names.
record Way (g : Glossary) (way : List ℕ) (p : At Piece) : Type 0 where
  pub distinct : IsDistinct eqb way
  pub within : (index : ℕ) → is_on index way ≡ true → index < length g.definitions
  pub leads : (index : ℕ) → is_on index way ≡ true → (next : ℕ) → Contains (named g.definitions p.v) next → Reaches (references g.definitions) index next

apart : (index : ℕ) (way : List ℕ) → is_on index way ≡ false → AllByRecursion (λ y. eqb index y ≡ false) way
apart index [] e = tt
apart index (y ∷ way) e = by_test (eqb index y) refl (λ h. apart index way h) e
  where
    by_test : (b : Bool) → eqb index y ≡ b → (is_on index way ≡ false → AllByRecursion (λ z. eqb index z ≡ false) way) → b || is_on index way ≡ false → AllByRecursion (λ z. eqb index z ≡ false) (y ∷ way)
    by_test true h more e = absurd cc
    by_test false h more e = (h, more e)

on_longer : (index first : ℕ) (way : List ℕ) → is_on index (first ∷ way) ≡ true → (index ≡ first) ⊎ (is_on index way ≡ true)
on_longer index first way e = by_test (eqb index first) refl e
  where
    by_test : (b : Bool) → eqb index first ≡ b → b || is_on index way ≡ true → (index ≡ first) ⊎ (is_on index way ≡ true)
    by_test true h e = inl (eqb-true index first h)
    by_test false h e = inr e

-- a definition that a piece opens is not on the way to it, else it would be circular
fresh : (g : Glossary) (way : List ℕ) (p : At Piece) → AreFlags g.flags g.definitions → Way g way p → (o : Opens g p) → is_on o.0 way ≡ false
fresh g way p flags w o = by_test (is_on o.0 way) refl
  where
    by_test : (b : Bool) → is_on o.0 way ≡ b → b ≡ false
    by_test false e = refl
    by_test true e =
        let circular : get_or g.flags o.0 false ≡ true = (flags.exact o.0 o.1).1 (w.leads o.0 e o.0 o.2) in
        let never : true ≡ false = sym circular ∙ o.3 in
        absurd cc

-- the way to a piece of a definition that a piece opens
inwards : (g : Glossary) (way : List ℕ) (p : At Piece) → AreFlags g.flags g.definitions → Way g way p → (o : Opens g p) → (q : At Piece) → Contains (pieces_at g.definitions o.0) q → Way g (o.0 ∷ way) q
inwards g way p flags w o q k = record {
  distinct = IsDistinct-cons eqb o.0 way (apart o.0 way (fresh g way p flags w o)) w.distinct;
  within = λ index e. inside index (on_longer index o.0 way e);
  leads = λ index e next h. goes index next h (on_longer index o.0 way e);
}
  where
    inside : (index : ℕ) → (index ≡ o.0) ⊎ (is_on index way ≡ true) → index < length g.definitions
    inside index (inl e) = subst (λ (x : ℕ). x < length g.definitions) (sym e) o.1
    inside index (inr e) = w.within index e

    goes : (index next : ℕ) → Contains (named g.definitions q.v) next → (index ≡ o.0) ⊎ (is_on index way ≡ true) → Reaches (references g.definitions) index next
    goes index next h (inl e) = subst (λ (x : ℕ). Reaches (references g.definitions) x next) (sym e) (one_step _ o.0 next (refers g.definitions o.0 q next k h))
    goes index next h (inr e) = step_on _ index o.0 next (w.leads index e o.0 o.2) (refers g.definitions o.0 q next k h)

-- no way is longer than there are definitions
short : (g : Glossary) (way : List ℕ) (p : At Piece) → Way g way p → length way ≤ length g.definitions
short g way p w = length-le_from_distinct_below way (length g.definitions) w.distinct w.within

enough : {A : Type 0} (g : Glossary) (rule : (At Piece → A) → At Piece → A) (bottom : A) → IsLocal g rule → AreFlags g.flags g.definitions
    → (n m : ℕ) (way : List ℕ) (p : At Piece) → Way g way p → length g.definitions < n + length way → length g.definitions < m + length way → deep rule bottom n p ≡ deep rule bottom m p
enough g rule bottom local flags zero m way p w a b = absurd (let s = short g way p w in omega (arith, s, a))
enough g rule bottom local flags (suc n) zero way p w a b = absurd (let s = short g way p w in omega (arith, s, b))
enough {A} g rule bottom local flags (suc n) (suc m) way p w a b =
    local (λ q. deep rule bottom n q) (λ q. deep rule bottom m q) p
    (by_parts (λ o q k. enough g rule bottom local flags n m (o.0 ∷ way) q (inwards g way p flags w o q k) (omega (arith, a)) (omega (arith, b))) (opened g p))
  where
    by_parts : ((o : Opens g p) (q : At Piece) → Contains (pieces_at g.definitions o.0) q → deep rule bottom n q ≡ deep rule bottom m q)
        → (parts g p ≡ []) ⊎ Opens g p → All (λ q. deep rule bottom n q ≡ deep rule bottom m q) (parts g p)
    by_parts more (inl e) = subst (λ (qs : List (At Piece)). All (λ q. deep rule bottom n q ≡ deep rule bottom m q) qs) (sym e) (All-nil (λ q. deep rule bottom n q ≡ deep rule bottom m q))
    by_parts more (inr o) = subst (λ (qs : List (At Piece)). All (λ q. deep rule bottom n q ≡ deep rule bottom m q) qs) (sym o.4)
        (All-weaker (Contains (pieces_at g.definitions o.0)) (λ q. deep rule bottom n q ≡ deep rule bottom m q) (λ q k. more o q k)
        (pieces_at g.definitions o.0) (All-contains_itself (pieces_at g.definitions o.0)))

distinct-nil : IsDistinct eqb []
unfolding IsDistinct
distinct-nil = tt

-- One level more than there are definitions is deep enough.
pub deep_enough : {A : Type 0} (g : Glossary) (rule : (At Piece → A) → At Piece → A) (bottom : A) → IsLocal g rule → AreFlags g.flags g.definitions
    → (p : At Piece) → deep rule bottom (suc (length g.definitions)) p ≡ rule (λ q. deep rule bottom (suc (length g.definitions)) q) p
deep_enough g rule bottom local flags p = enough g rule bottom local flags (suc (length g.definitions)) (suc (suc (length g.definitions))) [] p
    (record { distinct = distinct-nil; within = λ index e. absurd cc; leads = λ index e next h. absurd cc }) (omega arith) (omega arith)
