-- What is bound, added step by step.
use Rattle.std.proofs.Common.{◌≡◌, ℕ, ◌+◌, ◌<◌, ◌≤◌, Bool, true, false, ◌&&◌, List, [], ◌∷◌, ◌++◌, map, length, take, drop, get_or, refl, sym, ap, ◌∙◌, subst, Result, Vec, Box, String, string_bytes, IfOk, cond}
use Rattle.std.specs.Global.{Global}
use Rattle.std.specs.List.{list_any}
use Rattle.std.proofs.lemmas.List.{at_drop_more, at_drop_all, append_assoc, append-nil, take-map, length-map, map-append}
use Rattle.std.proofs.lemmas.Str.{IsUtf8-string_bytes}
use Rattle.std.proofs.Math.Seq.{take-append_seam}
use Rattle.laws.specs.Text.{text, characters}
use Rattle.laws.proofs.Text.{text_of_chars}
use Rattle.literature_entries.specs.declared.entry.Entry.{Entry}
use Rattle.literature.specs.Trees.{trees_of}
use Rattle.literature.specs.Trees as trees
use Rattle.literature.specs.Holding.{meaning, each_takes}
use Rattle.literature.specs.Bindings.{Bound, binds, sides, of_first, each_binds}
use Rattle.literature.specs.Found.{Adds, all_named, named, side_view}
use Rattle.literature.specs.Views.{tree_view}
use Rattle.literature.specs.declared.node.Node.{Node, Binding, Alternatives, Multi}
use Rattle.literature.specs.declared.binding.Named.{Named}
use Rattle.literature.proofs.Views.{view_binding, view_alternatives, view_multi}
use Rattle.literature.proofs.HoldingMembers.{at_alternatives, above_alternatives, above_members}

module _ {X : Type 0} (test : X → Bool) (bound : X → Bound) where
  -- None of the first i passes, and nothing was added: what the others say and bind is what all do.
  pub record IsSearched (xs : List X) (i : ℕ) (old now : List Named) : Type 0 where
    pub says : list_any test (drop i xs) ≡ list_any test xs
    pub binds : of_first test bound (drop i xs) ≡ of_first test bound xs
    pub same : all_named now ≡ all_named old

  pub search_begins : (xs : List X) (old : List Named) → IsSearched xs 0 old old
  search_begins xs old = record { says = refl; binds = refl; same = refl }

  first_passes : (xs : List X) (i : ℕ) (x : X) → i < length xs → x ≡ get_or xs i x → test x ≡ true → (list_any test (drop i xs) ≡ true) × (of_first test bound (drop i xs) ≡ bound x)
  first_passes xs i x less is passes =
      let p : test (get_or xs i x) ≡ true = ap test (sym is) ∙ passes in
      let here : of_first test bound (get_or xs i x ∷ drop (i + 1) xs) ≡ bound (get_or xs i x) = rw p refl in
      let says : list_any test (get_or xs i x ∷ drop (i + 1) xs) ≡ true = rw p refl in
      (at_drop_more (list_any test) xs i x less ∙ says, at_drop_more (of_first test bound) xs i x less ∙ here ∙ ap bound (sym is))

  first_fails : (xs : List X) (i : ℕ) (x : X) → i < length xs → x ≡ get_or xs i x → test x ≡ false
      → (list_any test (drop i xs) ≡ list_any test (drop (i + 1) xs)) × (of_first test bound (drop i xs) ≡ of_first test bound (drop (i + 1) xs))
  first_fails xs i x less is fails =
      let p : test (get_or xs i x) ≡ false = ap test (sym is) ∙ fails in
      let here : of_first test bound (get_or xs i x ∷ drop (i + 1) xs) ≡ of_first test bound (drop (i + 1) xs) = rw p refl in
      let says : list_any test (get_or xs i x ∷ drop (i + 1) xs) ≡ list_any test (drop (i + 1) xs) = rw p refl in
      (at_drop_more (list_any test) xs i x less ∙ says, at_drop_more (of_first test bound) xs i x less ∙ here)

  -- what passes is found
  pub search_finds : (xs : List X) (i : ℕ) (x : X) (old now new : List Named) (r : Bool) → IsSearched xs i old now → i < length xs → x ≡ get_or xs i x → Adds (test x) (bound x) now new r → r ≡ true
      → Adds (list_any test xs) (of_first test bound xs) old new true
  search_finds xs i x old now new r h less is adds passed =
      let passes : test x ≡ true = sym adds.answered ∙ passed in
      let first = first_passes xs i x less is passes in
      let whole : list_any test xs ≡ true = sym h.says ∙ first.0 in
      let added : all_named new ≡ all_named now ++ bound x = adds.added ∙ ap (λ b. all_named now ++ cond b (bound x) []) passes in
      record {
        answered = sym whole;
        added = added ∙ (λ j. h.same j ++ (sym first.1 ∙ h.binds) j) ∙ ap (λ b. all_named old ++ cond b (of_first test bound xs) []) (sym whole);
      }

  -- what fails is passed over
  pub search_goes_on : (xs : List X) (i : ℕ) (x : X) (old now new : List Named) (r : Bool) → IsSearched xs i old now → i < length xs → x ≡ get_or xs i x → Adds (test x) (bound x) now new r → r ≡ false
      → IsSearched xs (i + 1) old new
  search_goes_on xs i x old now new r h less is adds failed =
      let fails : test x ≡ false = sym adds.answered ∙ failed in
      let first = first_fails xs i x less is fails in
      let added : all_named new ≡ all_named now ++ [] = adds.added ∙ ap (λ b. all_named now ++ cond b (bound x) []) fails in
      record { says = sym first.0 ∙ h.says; binds = sym first.1 ∙ h.binds; same = added ∙ append-nil (all_named now) ∙ h.same }

  -- where all were passed over nothing is added
  pub search_ends : (xs : List X) (i : ℕ) (old now : List Named) → IsSearched xs i old now → length xs ≤ i → Adds (list_any test xs) (of_first test bound xs) old now false
  search_ends xs i old now h end =
      let none : list_any test xs ≡ false = sym h.says ∙ at_drop_all (list_any test) xs i end in
      record { answered = sym none; added = h.same ∙ sym (append-nil (all_named old)) ∙ ap (λ b. all_named old ++ cond b (of_first test bound xs) []) (sym none) }

binds_at : (ns : List Node) (e : Entry) → of_first (λ s. s.means.at e) (λ s. s.binds.at e) (sides (trees_of (map tree_view ns))) ≡ of_first (λ n. (meaning (tree_view n)).at e) (λ n. (binds (tree_view n)).at e) ns
binds_at [] e = refl
binds_at (n ∷ ns) e = rw (binds_at ns e) refl

binds_above : (ns : List Node) (ps : List Entry)
    → of_first (λ s. s.means.above ps) (λ s. s.binds.above ps) (sides (trees_of (map tree_view ns))) ≡ of_first (λ n. (meaning (tree_view n)).above ps) (λ n. (binds (tree_view n)).above ps) ns
binds_above [] ps = refl
binds_above (n ∷ ns) ps = rw (binds_above ns ps) refl

each_side : (ns : List Node) → sides (trees_of (map tree_view ns)) ≡ map side_view ns
each_side [] = refl
each_side (n ∷ ns) = ap (λ ss. side_view n ∷ ss) (each_side ns)

-- what a choice binds at an entry
pub bound_at : (n : Node) (xs : Vec Node Global) (e : Entry) → n ≡ Alternatives xs → (binds (tree_view n)).at e ≡ of_first (λ m. (meaning (tree_view m)).at e) (λ m. (binds (tree_view m)).at e) xs.items
bound_at n xs e is = ap (λ m. (binds (tree_view m)).at e) is ∙ ap (λ x. (binds x).at e) (view_alternatives xs) ∙ binds_at xs.items e

-- the same of parents
pub bound_above : (n : Node) (xs : Vec Node Global) (ps : List Entry) → n ≡ Alternatives xs
    → (binds (tree_view n)).above ps ≡ of_first (λ m. (meaning (tree_view m)).above ps) (λ m. (binds (tree_view m)).above ps) xs.items
bound_above n xs ps is = ap (λ m. (binds (tree_view m)).above ps) is ∙ ap (λ x. (binds x).above ps) (view_alternatives xs) ∙ binds_above xs.items ps

-- what more than one at once bind
pub bound_each : (n : Node) (xs : Vec Node Global) (ps : List Entry) → n ≡ Multi xs → (binds (tree_view n)).above ps ≡ each_binds (map side_view xs.items) ps
bound_each n xs ps is = ap (λ m. (binds (tree_view m)).above ps) is ∙ ap (λ x. (binds x).above ps) (view_multi xs) ∙ ap (λ ss. each_binds ss ps) (each_side xs.items)

-- what a choice adds is what its sides add
pub choice_adds : {F : Type 0} (n : Node) (xs : Vec Node Global) (e : Entry) (ns : List Node) (r : Result Bool F) (old new : List Named) → n ≡ Alternatives xs → ns ≡ xs.items
    → IfOk r (Adds (list_any (λ m. (meaning (tree_view m)).at e) ns) (of_first (λ m. (meaning (tree_view m)).at e) (λ m. (binds (tree_view m)).at e) ns) old new)
    → IfOk r (Adds ((meaning (tree_view n)).at e) ((binds (tree_view n)).at e) old new)
choice_adds n xs e ns r old new is same h =
    let here = subst (λ ms. IfOk r (Adds (list_any (λ m. (meaning (tree_view m)).at e) ms) (of_first (λ m. (meaning (tree_view m)).at e) (λ m. (binds (tree_view m)).at e) ms) old new)) same h in
    let same_fields = subst (λ b. IfOk r (Adds b (of_first (λ m. (meaning (tree_view m)).at e) (λ m. (binds (tree_view m)).at e) xs.items) old new)) (sym (at_alternatives n xs e is)) here in
    subst (λ b. IfOk r (Adds ((meaning (tree_view n)).at e) b old new)) (sym (bound_at n xs e is)) same_fields

-- the same of parents
pub choice_adds_above : {F : Type 0} (n : Node) (xs : Vec Node Global) (ps : List Entry) (ns : List Node) (r : Result Bool F) (old new : List Named) → n ≡ Alternatives xs → ns ≡ xs.items
    → IfOk r (Adds (list_any (λ m. (meaning (tree_view m)).above ps) ns) (of_first (λ m. (meaning (tree_view m)).above ps) (λ m. (binds (tree_view m)).above ps) ns) old new)
    → IfOk r (Adds ((meaning (tree_view n)).above ps) ((binds (tree_view n)).above ps) old new)
choice_adds_above n xs ps ns r old new is same h =
    let here = subst (λ ms. IfOk r (Adds (list_any (λ m. (meaning (tree_view m)).above ps) ms) (of_first (λ m. (meaning (tree_view m)).above ps) (λ m. (binds (tree_view m)).above ps) ms) old new)) same h in
    let same_fields = subst (λ b. IfOk r (Adds b (of_first (λ m. (meaning (tree_view m)).above ps) (λ m. (binds (tree_view m)).above ps) xs.items) old new)) (sym (above_alternatives n xs ps is)) here in
    subst (λ b. IfOk r (Adds ((meaning (tree_view n)).above ps) b old new)) (sym (bound_above n xs ps is)) same_fields

-- what more than one at once add
pub members_add : {F : Type 0} (n : Node) (xs : Vec Node Global) (ps : List Entry) (ns : List Node) (r : Result Bool F) (old new : List Named) → n ≡ Multi xs → ns ≡ xs.items
    → IfOk r (Adds (each_takes (map (λ m. (meaning (tree_view m)).at) ns) ps) (each_binds (map side_view ns) ps) old new) → IfOk r (Adds ((meaning (tree_view n)).above ps) ((binds (tree_view n)).above ps) old new)
members_add n xs ps ns r old new is same h =
    let here = subst (λ ms. IfOk r (Adds (each_takes (map (λ m. (meaning (tree_view m)).at) ms) ps) (each_binds (map side_view ms) ps) old new)) same h in
    let same_fields = subst (λ b. IfOk r (Adds b (each_binds (map side_view xs.items) ps) old new)) (sym (above_members n xs ps is)) here in
    subst (λ b. IfOk r (Adds ((meaning (tree_view n)).above ps) b old new)) (sym (bound_each n xs ps is)) same_fields

-- what a name and what stands after it add
pub name_adds : {F : Type 0} (n : Node) (s : String Global) (x : Box Node Global) (body : Node) (e : Entry) (name : List ℕ) (r : Result Bool F) (old new : List Named) → n ≡ Binding s x → body ≡ x.value → name ≡ string_bytes s
    → IfOk r (Adds ((meaning (tree_view body)).at e) ((name, e) ∷ (binds (tree_view body)).at e) old new) → IfOk r (Adds ((meaning (tree_view n)).at e) ((binds (tree_view n)).at e) old new)
name_adds n s x body e name r old new is same_body same h =
    let written : name ≡ text (characters s) = same ∙ sym (text_of_chars (string_bytes s) (IsUtf8-string_bytes s)) in
    let whole : trees.Binding (characters s) (tree_view body) ≡ tree_view n = ap (λ b. trees.Binding (characters s) (tree_view b)) same_body ∙ sym (view_binding s x) ∙ ap tree_view (sym is) in
    let here = subst (λ m. IfOk r (Adds ((meaning (tree_view body)).at e) ((m, e) ∷ (binds (tree_view body)).at e) old new)) written h in
    subst (λ t. IfOk r (Adds ((meaning t).at e) ((binds t).at e) old new)) whole here

taken_back : (old now : List Named) (more : Bound) → all_named now ≡ all_named old ++ more → all_named (take (length old) now) ≡ all_named old
taken_back old now more e =
    sym (take-map named (length old) now) ∙ ap (take (length old)) e ∙ ap (λ k. take k (all_named old ++ more)) (sym (length-map old named)) ∙ take-append_seam (all_named old) more

-- what was added is taken back where nothing holds
pub withdrawn : (h : Bool) (bound : Bound) (old now new : List Named) (more : Bound) (n : ℕ) (r : Bool) → n ≡ length old → all_named now ≡ all_named old ++ more → new ≡ take n now → r ≡ h → r ≡ false
    → Adds h bound old new r
withdrawn h bound old now new more n r count e cut same failed =
    record {
      answered = same;
      added = ap all_named cut ∙ ap (λ k. all_named (take k now)) count ∙ taken_back old now more e ∙ sym (append-nil (all_named old)) ∙ ap (λ b. all_named old ++ cond b bound []) (sym failed ∙ same);
    }

-- what is added in two steps is added as one list
pub added_on : (old now new : List Named) (a b : Bound) → all_named now ≡ all_named old ++ a → all_named new ≡ all_named now ++ b → all_named new ≡ all_named old ++ (a ++ b)
added_on old now new a b e h = h ∙ ap (λ xs. xs ++ b) e ∙ append_assoc (all_named old) a b

-- a name is taken back where what stands after it does not hold
pub name_withdrawn : (h : Bool) (inner bound : Bound) (old now new last : List Named) (b : Named) (n : ℕ) (r : Bool) → n ≡ length old → now ≡ old ++ b ∷ [] → Adds h inner now new r → last ≡ take n new → r ≡ false
    → Adds h bound old last r
name_withdrawn h inner bound old now new last b n r count push adds cut failed =
    let first : all_named now ≡ all_named old ++ named b ∷ [] = ap all_named push ∙ map-append named old (b ∷ []) in
    withdrawn h bound old new last _ n r count (added_on old now new (named b ∷ []) (cond h inner []) first adds.added) cut adds.answered failed

-- what the entry binds is taken back where its parents do not satisfy what is asked of them
pub ancestry_withdrawn : (at above above_too : Bool) (below inner bound : Bound) (old now new last : List Named) (n : ℕ) (first r : Bool) → n ≡ length old → Adds at below old now first → first ≡ true → Adds above inner now new r
    → above ≡ above_too → last ≡ take n new → r ≡ false → Adds (at && above_too) bound old last r
ancestry_withdrawn at above above_too below inner bound old now new last n first r count adds passed more same cut failed =
    let all : r ≡ (at && above_too) = more.answered ∙ same ∙ ap (λ b. b && above_too) (sym (sym adds.answered ∙ passed)) in
    withdrawn (at && above_too) bound old new last _ n r count (added_on old now new (cond at below []) (cond above inner []) adds.added more.added) cut all failed
