-- Selectors that take parents in turn, with what they bind.
use Rattle.std.proofs.Common.{◌≡◌, ℕ, suc, ◌+◌, ◌<◌, ◌≤◌, Bool, true, false, List, [], ◌∷◌, ◌++◌, map, length, take, drop, get_or, remove, refl, sym, ap, ◌∙◌, subst, Option, Some, None, cond, arith, Bor}
use Rattle.std.specs.Option.{option_map}
use Rattle.std.proofs.lemmas.List.{take_more, at_drop_more, at_drop_all, append_assoc, append-nil, take-map, drop-map, length-map, map-append, get_or-map}
use Rattle.laws.specs.Borrowed.{borrowed}
use Rattle.literature_entries.specs.declared.entry.Entry.{Entry}
use Rattle.literature.specs.Holding.{meaning, take_first, following, and_others, each_takes}
use Rattle.literature.specs.Bindings.{Bound, binds, taken_binds, each_binds}
use Rattle.literature.specs.Found.{Adds, all_named, side_view}
use Rattle.literature.specs.Views.{tree_view}
use Rattle.literature.proofs.BindingsAdded.{withdrawn, added_on}
use Rattle.literature.specs.declared.node.Node.{Node}
use Rattle.literature.specs.declared.binding.Named.{Named}

-- the others, where one was taken
abbrev pub others : {X : Type 0} → Option (X × List X) → Option (List X)
others o = option_map (λ p. p.1) o

-- what the one that was taken binds
abbrev pub one_binds : (Entry → Bound) → Option (Entry × List Entry) → Bound
one_binds bound o = taken_binds bound (λ es. []) o

others_after : {X : Type 0} (x : X) (o : Option (X × List X)) → others (option_map (following x) o) ≡ option_map (λ ys. x ∷ ys) (others o)
others_after x None = refl
others_after x (Some p) = refl

one_binds_after : (bound : Entry → Bound) (x : Entry) (o : Option (Entry × List Entry)) → one_binds bound (option_map (following x) o) ≡ one_binds bound o
one_binds_after bound x None = refl
one_binds_after bound x (Some p) = refl

prepended_on : {X : Type 0} (xs : List X) (x : X) (o : Option (List X)) → option_map (λ ys. xs ++ ys) (option_map (λ ys. x ∷ ys) o) ≡ option_map (λ ys. (xs ++ x ∷ []) ++ ys) o
prepended_on xs x None = refl
prepended_on xs x (Some ys) = ap Some (sym (append_assoc xs (x ∷ []) ys))

module _ (test : Entry → Bool) (bound : Entry → Bound) where
  -- None of the first i entries passes, and nothing was added: what is taken of the others is what is taken of all.
  pub record IsTried (es : List Entry) (i : ℕ) (old now : List Named) : Type 0 where
    pub rest : others (take_first test es) ≡ option_map (λ ys. take i es ++ ys) (others (take_first test (drop i es)))
    pub binds : one_binds bound (take_first test es) ≡ one_binds bound (take_first test (drop i es))
    pub same : all_named now ≡ all_named old

  unchanged : {X : Type 0} (o : Option (List X)) → o ≡ option_map (λ ys. ys) o
  unchanged None = refl
  unchanged (Some ys) = refl

  pub tries_begin : (es : List Entry) (old : List Named) → IsTried es 0 old old
  tries_begin es old = record { rest = unchanged (others (take_first test es)); binds = refl; same = refl }

  passing : (es : List Entry) (i : ℕ) (e : Entry) → i < length es → e ≡ get_or es i e → test e ≡ true → take_first test (drop i es) ≡ Some (e, drop (i + 1) es)
  passing es i e less is passes =
      let p : test (get_or es i e) ≡ true = ap test (sym is) ∙ passes in
      let here : take_first test (get_or es i e ∷ drop (i + 1) es) ≡ Some (get_or es i e, drop (i + 1) es) = rw p refl in
      at_drop_more (take_first test) es i e less ∙ here ∙ ap (λ x. Some (x, drop (i + 1) es)) (sym is)

  failing : (es : List Entry) (i : ℕ) (e : Entry) → i < length es → e ≡ get_or es i e → test e ≡ false
      → take_first test (drop i es) ≡ option_map (following (get_or es i e)) (take_first test (drop (i + 1) es))
  failing es i e less is fails =
      let p : test (get_or es i e) ≡ false = ap test (sym is) ∙ fails in
      let here : take_first test (get_or es i e ∷ drop (i + 1) es) ≡ option_map (following (get_or es i e)) (take_first test (drop (i + 1) es)) = rw p refl in
      at_drop_more (take_first test) es i e less ∙ here

  -- what passes is taken
  pub tries_find : (es : List Entry) (i : ℕ) (e : Entry) (old now : List Named) → IsTried es i old now → i < length es → e ≡ get_or es i e → test e ≡ true → others (take_first test es) ≡ Some (remove es i)
  tries_find es i e old now h less is passes =
      let next : i + 1 ≡ suc i = omega arith in
      h.rest ∙ ap (λ o. option_map (λ ys. take i es ++ ys) (others o)) (passing es i e less is passes) ∙ ap (λ k. Some (take i es ++ drop k es)) next

  -- what passes binds what it does by itself
  pub tries_add : (es : List Entry) (i : ℕ) (e : Entry) (old now new : List Named) (r : Bool) → IsTried es i old now → i < length es → e ≡ get_or es i e → Adds (test e) (bound e) now new r → test e ≡ true
      → all_named new ≡ all_named old ++ one_binds bound (take_first test es)
  tries_add es i e old now new r h less is adds passes =
      adds.added ∙ ap (λ b. all_named now ++ cond b (bound e) []) passes
      ∙ (λ j. h.same j ++ (sym (append-nil (bound e)) ∙ sym (h.binds ∙ ap (one_binds bound) (passing es i e less is passes))) j)

  -- what fails is passed over
  pub tries_go_on : (es : List Entry) (i : ℕ) (e : Entry) (old now new : List Named) (r : Bool) → IsTried es i old now → i < length es → e ≡ get_or es i e → Adds (test e) (bound e) now new r → test e ≡ false
      → IsTried es (i + 1) old new
  tries_go_on es i e old now new r h less is adds fails =
      let f = failing es i e less is fails in
      let later = take_first test (drop (i + 1) es) in
      record {
        rest = h.rest ∙ ap (λ o. option_map (λ ys. take i es ++ ys) (others o)) f ∙ ap (option_map (λ ys. take i es ++ ys)) (others_after (get_or es i e) later)
            ∙ prepended_on (take i es) (get_or es i e) (others later) ∙ ap (λ xs. option_map (λ ys. xs ++ ys) (others later)) (sym (take_more es i e less));
        binds = h.binds ∙ ap (one_binds bound) f ∙ one_binds_after bound (get_or es i e) later;
        same = adds.added ∙ ap (λ b. all_named now ++ cond b (bound e) []) fails ∙ append-nil (all_named now) ∙ h.same;
      }

  nothing_here : (es : List Entry) (i : ℕ) → length es ≤ i → take_first test (drop i es) ≡ None
  nothing_here es i end = at_drop_all (take_first test) es i end

  -- where all were passed over none is taken
  pub tries_end : (es : List Entry) (i : ℕ) (old now : List Named) → IsTried es i old now → length es ≤ i → others (take_first test es) ≡ None
  tries_end es i old now h end = h.rest ∙ ap (λ o. option_map (λ ys. take i es ++ ys) (others o)) (nothing_here es i end)

  pub tries_add_none : (es : List Entry) (i : ℕ) (old now : List Named) → IsTried es i old now → length es ≤ i → all_named now ≡ all_named old ++ one_binds bound (take_first test es)
  tries_add_none es i old now h end =
      h.same ∙ sym (append-nil (all_named old)) ∙ ap (λ b. all_named old ++ b) (sym (h.binds ∙ ap (one_binds bound) (nothing_here es i end)))

-- a reference among others by the entry that it borrows
pub borrowed_at : (bs : List (Bor Entry)) (i : ℕ) (b : Bor Entry) → b ≡ get_or bs i b → i < length bs → b.now ≡ get_or (borrowed bs) i b.now
borrowed_at bs i b is less = ap (λ x. x.now) is ∙ sym (get_or-map (λ x. x.now) bs i b b.now less)

pub within : (bs : List (Bor Entry)) (i : ℕ) → i < length bs → i < length (borrowed bs)
within bs i less = subst (λ k. i < k) (sym (length-map bs (λ x. x.now))) less

pub borrowed_without : (bs : List (Bor Entry)) (i : ℕ) → borrowed (remove bs i) ≡ remove (borrowed bs) i
borrowed_without bs i = map-append (λ x. x.now) (take i bs) (drop (suc i) bs) ∙ (λ j. sym (take-map (λ x. x.now) i bs) j ++ sym (drop-map (λ x. x.now) (suc i) bs) j)

others_say : {X : Type 0} (pass : List X → Bool) (o : Option (X × List X)) (ys : List X) → others o ≡ Some ys → and_others pass o ≡ pass ys
others_say pass None ys e = absurd cc
others_say pass (Some p) ys e = ap pass (some_is e) where
  some_is : {Y : Type 0} {a b : Y} → Some a ≡ Some b → a ≡ b
  some_is e = cc

others_bind : (bound : Entry → Bound) (then : List Entry → Bound) (o : Option (Entry × List Entry)) (ys : List Entry) → others o ≡ Some ys → taken_binds bound then o ≡ one_binds bound o ++ then ys
others_bind bound then None ys e = absurd cc
others_bind bound then (Some p) ys e =
    ap (λ zs. bound p.0 ++ then zs) (some_is e) ∙ ap (λ b. b ++ then ys) (sym (append-nil (bound p.0))) where
      some_is : {Y : Type 0} {a b : Y} → Some a ≡ Some b → a ≡ b
      some_is e = cc

none_says : {X : Type 0} (pass : List X → Bool) (o : Option (X × List X)) → others o ≡ None → and_others pass o ≡ false
none_says pass None e = refl
none_says pass (Some p) e = absurd cc

none_binds : (bound : Entry → Bound) (o : Option (Entry × List Entry)) → others o ≡ None → one_binds bound o ≡ []
none_binds bound None e = refl
none_binds bound (Some p) e = absurd cc

-- the tests of nodes
abbrev pub tests : List Node → List (Entry → Bool)
tests ms = map (λ m. (meaning (tree_view m)).at) ms

-- The first i members each took a parent: what the others make of those that are left is what all make of all.
pub record IsInTurn (ms : List Node) (i : ℕ) (ps left : List Entry) (old now : List Named) : Type 0 where
  pub says : each_takes (tests (drop i ms)) left ≡ each_takes (tests ms) ps
  pub binds : all_named now ++ each_binds (map side_view (drop i ms)) left ≡ all_named old ++ each_binds (map side_view ms) ps
  pub more : Bound
  pub since : all_named now ≡ all_named old ++ more

pub turns_begin : (ms : List Node) (ps left : List Entry) (old : List Named) → left ≡ ps → IsInTurn ms 0 ps left old old
turns_begin ms ps left old e =
    record { says = ap (each_takes (tests ms)) e; binds = ap (λ es. all_named old ++ each_binds (map side_view ms) es) e; more = []; since = sym (append-nil (all_named old)) }

-- a member takes a parent, and those after it have the others
pub turns_go_on : (ms : List Node) (i : ℕ) (m : Node) (ps left next : List Entry) (old now new : List Named) → IsInTurn ms i ps left old now → i < length ms → m ≡ get_or ms i m
    → others (take_first (meaning (tree_view m)).at left) ≡ Some next → all_named new ≡ all_named now ++ one_binds (binds (tree_view m)).at (take_first (meaning (tree_view m)).at left)
    → IsInTurn ms (i + 1) ps next old new
turns_go_on ms i m ps left next old now new h less is taken added =
    let o = take_first (meaning (tree_view m)).at left in
    let later = drop (i + 1) ms in
    let cut : each_takes (tests (drop i ms)) left ≡ each_takes (tests (m ∷ later)) left = at_drop_more (λ ns. each_takes (tests ns) left) ms i m less ∙ ap (λ n. each_takes (tests (n ∷ later)) left) (sym is) in
    let cut_bound : each_binds (map side_view (drop i ms)) left ≡ each_binds (map side_view (m ∷ later)) left = at_drop_more (λ ns. each_binds (map side_view ns) left) ms i m less ∙ ap (λ n. each_binds (map side_view (n ∷ later)) left) (sym is) in
    let here : each_binds (map side_view (m ∷ later)) left ≡ one_binds (binds (tree_view m)).at o ++ each_binds (map side_view later) next = others_bind (binds (tree_view m)).at (each_binds (map side_view later)) o next taken in
    record {
      says = sym (others_say (each_takes (tests later)) o next taken) ∙ sym cut ∙ h.says;
      binds = ap (λ b. b ++ each_binds (map side_view later) next) added ∙ append_assoc (all_named now) (one_binds (binds (tree_view m)).at o) (each_binds (map side_view later) next)
          ∙ ap (λ b. all_named now ++ b) (sym (cut_bound ∙ here)) ∙ h.binds;
      more = h.more ++ one_binds (binds (tree_view m)).at o;
      since = added ∙ ap (λ b. b ++ one_binds (binds (tree_view m)).at o) h.since ∙ append_assoc (all_named old) h.more (one_binds (binds (tree_view m)).at o);
    }

-- where a member finds no parent, the members do not hold
pub turns_fail : (ms : List Node) (i : ℕ) (m : Node) (ps left : List Entry) (old now : List Named) → IsInTurn ms i ps left old now → i < length ms → m ≡ get_or ms i m
    → others (take_first (meaning (tree_view m)).at left) ≡ None → each_takes (tests ms) ps ≡ false
turns_fail ms i m ps left old now h less is none =
    let later = drop (i + 1) ms in
    let cut : each_takes (tests (drop i ms)) left ≡ each_takes (tests (m ∷ later)) left = at_drop_more (λ ns. each_takes (tests ns) left) ms i m less ∙ ap (λ n. each_takes (tests (n ∷ later)) left) (sym is) in
    sym h.says ∙ cut ∙ none_says (each_takes (tests later)) (take_first (meaning (tree_view m)).at left) none

-- a member that finds none adds nothing
pub turns_fail_same : (m : Node) (left : List Entry) (now new : List Named) → others (take_first (meaning (tree_view m)).at left) ≡ None
    → all_named new ≡ all_named now ++ one_binds (binds (tree_view m)).at (take_first (meaning (tree_view m)).at left) → all_named new ≡ all_named now ++ []
turns_fail_same m left now new none added = added ∙ ap (λ b. all_named now ++ b) (none_binds (binds (tree_view m)).at _ none)

-- where each member took a parent, the members hold
pub turns_end : (ms : List Node) (i : ℕ) (ps left : List Entry) (old now : List Named) → IsInTurn ms i ps left old now → length ms ≤ i
    → Adds (each_takes (tests ms) ps) (each_binds (map side_view ms) ps) old now true
turns_end ms i ps left old now h end =
    let whole : each_takes (tests ms) ps ≡ true = sym h.says ∙ at_drop_all (λ ns. each_takes (tests ns) left) ms i end in
    let nothing : each_binds (map side_view (drop i ms)) left ≡ [] = at_drop_all (λ ns. each_binds (map side_view ns) left) ms i end in
    record {
      answered = sym whole;
      added = sym (append-nil (all_named now)) ∙ ap (λ b. all_named now ++ b) (sym nothing) ∙ h.binds ∙ ap (λ b. all_named old ++ cond b (each_binds (map side_view ms) ps) []) (sym whole);
    }

-- a member finds none among what was borrowed: what was bound is taken back
pub turns_withdrawn : (ms : List Node) (i : ℕ) (m : Node) (ps : List Entry) (lent left : List (Bor Entry)) (o : Option ℕ) (old now new last : List Named) (n : ℕ) → IsInTurn ms i ps (borrowed left) old now → i < length ms → m ≡ get_or ms i m
    → lent ≡ left → others (take_first (meaning (tree_view m)).at (borrowed lent)) ≡ option_map (remove (borrowed lent)) o → o ≡ None
    → all_named new ≡ all_named now ++ one_binds (binds (tree_view m)).at (take_first (meaning (tree_view m)).at (borrowed lent)) → n ≡ length old → last ≡ take n new
    → Adds (each_takes (tests ms) ps) (each_binds (map side_view ms) ps) old last false
turns_withdrawn ms i m ps lent left o old now new last n h less is same taken none added count cut =
    let nothing : others (take_first (meaning (tree_view m)).at (borrowed lent)) ≡ None = taken ∙ ap (option_map (remove (borrowed lent))) none in
    let nothing_left : others (take_first (meaning (tree_view m)).at (borrowed left)) ≡ None = subst (λ bs. others (take_first (meaning (tree_view m)).at (borrowed bs)) ≡ None) same nothing in
    let fails = turns_fail ms i m ps (borrowed left) old now h less is nothing_left in
    let unchanged = turns_fail_same m (borrowed lent) now new nothing added in
    withdrawn (each_takes (tests ms) ps) (each_binds (map side_view ms) ps) old new last _ n false count (added_on old now new h.more [] h.since unchanged) cut (sym fails) refl

-- a member takes one of what was borrowed
pub turns_taken : (ms : List Node) (i : ℕ) (m : Node) (ps : List Entry) (lent left next : List (Bor Entry)) (o : Option ℕ) (index : ℕ) (old now new : List Named) → IsInTurn ms i ps (borrowed left) old now → i < length ms → m ≡ get_or ms i m
    → lent ≡ left → others (take_first (meaning (tree_view m)).at (borrowed lent)) ≡ option_map (remove (borrowed lent)) o → o ≡ Some index
    → all_named new ≡ all_named now ++ one_binds (binds (tree_view m)).at (take_first (meaning (tree_view m)).at (borrowed lent)) → next ≡ remove left index
    → IsInTurn ms (i + 1) ps (borrowed next) old new
turns_taken ms i m ps lent left next o index old now new h less is same taken some added cut =
    let without : others (take_first (meaning (tree_view m)).at (borrowed lent)) ≡ Some (borrowed (remove lent index)) = taken ∙ ap (option_map (remove (borrowed lent))) some ∙ ap Some (sym (borrowed_without lent index)) in
    let left_without : others (take_first (meaning (tree_view m)).at (borrowed left)) ≡ Some (borrowed (remove left index)) = subst (λ bs. others (take_first (meaning (tree_view m)).at (borrowed bs)) ≡ Some (borrowed (remove bs index))) same without in
    let left_added = subst (λ bs. all_named new ≡ all_named now ++ one_binds (binds (tree_view m)).at (take_first (meaning (tree_view m)).at (borrowed bs))) same added in
    turns_go_on ms i m ps (borrowed left) (borrowed next) old now new h less is (left_without ∙ ap (λ bs. Some (borrowed bs)) (sym cut)) left_added
