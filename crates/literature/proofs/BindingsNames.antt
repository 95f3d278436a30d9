-- The last entry of each name.
use Rattle.std.proofs.Common.{◌≡◌, ℕ, Bool, true, false, List, [], ◌∷◌, map, refl, sym, ap, ◌∙◌, subst, Option, Some, None, cond, Bor, String, string_bytes, bytes_eq, ◌+◌, ◌<◌, ◌≤◌, length, drop, get_or}
use Rattle.std.proofs.lemmas.List.{at_drop_more, at_drop_all, length-map, get_or-map}
use Rattle.std.specs.Global.{Global}
use Rattle.std.specs.Cmp.Lexicographic.{bytes_decides}
use Rattle.std.specs.Map.{lookup}
use Rattle.literature_entries.specs.declared.entry.Entry.{Entry}
use Rattle.literature.specs.Bindings.{Bound, later_or, last_bound, set, settle, settled}
use Rattle.literature.specs.Found.{named, all_named}
use Rattle.literature.specs.BoundNames.{binding_view}
use Rattle.literature.specs.declared.binding.Named.{Named}

-- what a name means by one binding
abbrev asked : List ℕ → List ℕ × Entry → Option Entry
asked name b = cond (bytes_eq name b.0) (Some b.1) None

later_none : {X : Type 0} (o : Option X) → o ≡ later_or None o
later_none None = refl
later_none (Some x) = refl

later_later : {X : Type 0} (a b c : Option X) → later_or (later_or a b) c ≡ later_or a (later_or b c)
later_later a b None = refl
later_later a b (Some x) = refl

later_here : (t : Bool) (name : List ℕ) (b c : List ℕ × Entry) (rest : Option Entry) → bytes_eq name b.0 ≡ t → bytes_eq name c.0 ≡ t
    → cond (bytes_eq name c.0) (Some b.1) rest ≡ later_or (cond (bytes_eq name c.0) (Some c.1) rest) (asked name b)
later_here true name b c rest e f = rw (e, f) refl
later_here false name b c rest e f = rw (e, f) refl

later_there : (t : Bool) (name : List ℕ) (b c : List ℕ × Entry) (rest more : Option Entry) → bytes_eq name c.0 ≡ t → (t ≡ true → bytes_eq name b.0 ≡ false) → more ≡ later_or rest (asked name b)
    → cond (bytes_eq name c.0) (Some c.1) more ≡ later_or (cond (bytes_eq name c.0) (Some c.1) rest) (asked name b)
later_there true name b c rest more e other i = rw (e, other refl) refl
later_there false name b c rest more e other i = rw e i

not_both : (t : Bool) (name first second : List ℕ) → bytes_eq first second ≡ false → bytes_eq name second ≡ true → bytes_eq name first ≡ t → t ≡ false
not_both false name first second differ e f = refl
not_both true name first second differ e f =
    let same : first ≡ second = sym ((bytes_decides name first).0 f) ∙ (bytes_decides name second).0 e in
    let never = sym differ ∙ (bytes_decides first second).1 same in
    absurd cc

found_step : (t : Bool) (name : List ℕ) (b c : List ℕ × Entry) (cs : Bound) → bytes_eq b.0 c.0 ≡ t → lookup (bytes_eq name) (set b cs) ≡ later_or (lookup (bytes_eq name) cs) (asked name b)
    → lookup (bytes_eq name) (cond t ((c.0, b.1) ∷ cs) (c ∷ set b cs)) ≡ later_or (lookup (bytes_eq name) (c ∷ cs)) (asked name b)
found_step true name b c cs e i =
    later_here (bytes_eq name c.0) name b c (lookup (bytes_eq name) cs) (ap (bytes_eq name) ((bytes_decides b.0 c.0).0 e)) refl
found_step false name b c cs e i =
    later_there (bytes_eq name c.0) name b c (lookup (bytes_eq name) cs) (lookup (bytes_eq name) (set b cs)) refl (λ h. not_both (bytes_eq name b.0) name b.0 c.0 e h refl) i

found_in_set : (name : List ℕ) (b : List ℕ × Entry) (cs : Bound) → lookup (bytes_eq name) (set b cs) ≡ later_or (lookup (bytes_eq name) cs) (asked name b)
found_in_set name b [] = later_none (asked name b)
found_in_set name b (c ∷ cs) = found_step (bytes_eq b.0 c.0) name b c cs refl (found_in_set name b cs)

found_in_settled : (name : List ℕ) (done bs : Bound) → lookup (bytes_eq name) (settle done bs) ≡ later_or (lookup (bytes_eq name) done) (last_bound name bs)
found_in_settled name done [] = refl
found_in_settled name done (b ∷ bs) =
    found_in_settled name (set b done) bs ∙ ap (λ o. later_or o (last_bound name bs)) (found_in_set name b done) ∙ later_later (lookup (bytes_eq name) done) (asked name b) (last_bound name bs)

-- of each name the last entry is found
pub last_is_found : (name : List ℕ) (bs : Bound) → lookup (bytes_eq name) (settled bs) ≡ last_bound name bs
last_is_found name bs = found_in_settled name [] bs ∙ sym (later_none (last_bound name bs))

-- one more is settled, and then the others
pub settle_next : (done bs : Bound) (i : ℕ) (b : List ℕ × Entry) → i < length bs → b ≡ get_or bs i b → settle done (drop i bs) ≡ settle (set b done) (drop (i + 1) bs)
settle_next done bs i b less is = at_drop_more (settle done) bs i b less ∙ ap (λ c. settle (set c done) (drop (i + 1) bs)) (sym is)

pub settle_end : (done bs : Bound) (i : ℕ) → length bs ≤ i → settle done (drop i bs) ≡ done
settle_end done bs i end = at_drop_all (settle done) bs i end

-- the same of what the code found
pub settles_next : (found : List Named) (i : ℕ) (n : Named) (done : Bound) → i < length found → n ≡ get_or found i n → settle (set (named n) done) (drop (i + 1) (all_named found)) ≡ settle done (drop i (all_named found))
settles_next found i n done less is =
    sym (settle_next done (all_named found) i (named n) (subst (λ k. i < k) (sym (length-map found named)) less) (ap named is ∙ sym (get_or-map named found i n (named n) less)))

-- the names of pairs, in order
pub names_in_order : (ps : List (String Global × Bor Entry)) → map (λ (p : String Global × Bor Entry). string_bytes p.0) ps ≡ map (λ b. b.0) (map binding_view ps)
names_in_order [] = refl
names_in_order (p ∷ ps) = ap (λ ns. string_bytes p.0 ∷ ns) (names_in_order ps)
