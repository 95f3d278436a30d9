-- What the small functions over vectors answer, in the words of the search.
use Rattle.std.specs.Global.{Global}
use Rattle.std.proofs.Common.{◌≡◌, ℕ, ◌+◌, ◌<◌, ◌≤◌, ◌↔◌, inl, inr, List, [], Bool, false, Vec, Result, Ok, Err, IfOk, replicate, IsTrue, Contains, map, length, get_or, refl, sym, ap, subst, ◌∙◌, arith}
use Rattle.std.proofs.lemmas.List.{get_or-map, length-map}
use Rattle.std.proofs.lemmas.Simd.{map-map}
use Rattle.reference_graph.specs.References.{lists, references_of}
use Rattle.reference_graph.specs.declared.search.Visit.{Visit}
use Rattle.reference_graph.specs.declared.search.Visit.TheVariants.{New}
use Rattle.reference_graph.specs.Search.{State, begun}
use Rattle.reference_graph.specs.Invariant.{IsRing}

-- the list of a number that there is
pub list_of : (vectors : List (Vec ℕ Global)) (v : ℕ) (x : Vec ℕ Global) → v < length vectors → x ≡ get_or vectors v x → references_of (lists vectors) v ≡ x.items
list_of vectors v x h e = get_or-map (λ (y : Vec ℕ Global). y.items) vectors v x [] h ∙ ap (λ (y : Vec ℕ Global). y.items) (sym e)

pub lists_long : (vectors : List (Vec ℕ Global)) → length (lists vectors) ≡ length vectors
lists_long vectors = length-map vectors (λ (y : Vec ℕ Global). y.items)

pub lengths_of : (vectors : List (Vec ℕ Global)) → map (λ (r : List ℕ). length r) (lists vectors) ≡ map (λ (y : Vec ℕ Global). length y.items) vectors
lengths_of vectors = map-map (λ (r : List ℕ). length r) (λ (y : Vec ℕ Global). y.items) vectors

pub ring_decided : (R : List (List ℕ)) (s : State) (q number : ℕ) (items : List ℕ) (r : Bool) → get_or s.path q 0 ≡ number → references_of R number ≡ items → length s.path ≤ q + 1 → (IsTrue r ↔ Contains items number) → IsTrue r ↔ IsRing R s q
ring_decided R s q number items r e f one k =
    let P : ℕ → Type 0 = λ x. Contains (references_of R x) x in
    let Q : List ℕ → Type 0 = λ x. Contains x number in (
      λ t. inr (subst P (sym e) (subst Q (sym f) (k.0 t))),
      λ ring. elim ring [ inl more ↦ absurd (omega arith) | inr c ↦ k.1 (subst Q f (subst P e c)) ],
    )

abbrev pub state : List Visit → List ℕ → List ℕ → List ℕ → List ℕ → List ℕ → List Bool → State
state indices unread path reading starts order circular = record { visits = indices; unread = unread; path = path; reading = reading; starts = starts; order = order; circular = circular }

pub begun_is : (vectors : List (Vec ℕ Global)) (indices : List Visit) (unread path reading starts order : List ℕ) (circular : List Bool) → indices ≡ replicate (length vectors) New → unread ≡ map (λ (y : Vec ℕ Global). length y.items) vectors → path ≡ [] → reading ≡ [] → starts ≡ [] → order ≡ [] → circular ≡ replicate (length vectors) false → state indices unread path reading starts order circular ≡ begun (lists vectors)
begun_is vectors indices unread path reading starts order circular a b c d e f g =
    let n : length (lists vectors) ≡ length vectors = length-map vectors (λ (y : Vec ℕ Global). y.items) in
    let l = lengths_of vectors in
    rw (a, b, c, d, e, f, g, n, l) refl

pub if_ok_then : {A E : Type 0} (r : Result A E) (P Q : Type 0) → (P → Q) → IfOk r (λ _. P) → IfOk r (λ _. Q)
if_ok_then (Ok x) P Q f p = f p
if_ok_then (Err e) P Q f p = tt
