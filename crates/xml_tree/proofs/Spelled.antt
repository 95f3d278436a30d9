-- What is read of a text is a tree that it spells.
use Rattle.std.proofs.Common.{◌≡◌, ℕ, zero, suc, ◌≤◌, ◌<◌, Bool, true, false, nat_lt, List, [], ◌∷◌, length, Option, Some, None, Result, Ok, Err, refl, sym, ap, subst, arith}
use Rattle.laws.specs.Results.{◌>>=◌}
use Rattle.laws.specs.Text.{is_filled}
use Rattle.laws.proofs.Results.{bind_ok, test_ok, guard_ok, ok_is}
use Rattle.xml_text.specs.Tokens.{At, Name, Reference, Tag, Token, Start, End, Characters, Refers, Section, Nothing}
use Rattle.xml_text.specs.Reading.{left_of, after_space}
use Rattle.xml_text.specs.Prolog.{prolog_at}
use Rattle.xml_text.specs.Markup.{token_at}
use Rattle.xml_text.specs.Grammar.{AreTokens}
use Rattle.xml_text.specs.Values.{character_of}
use Rattle.xml_text.specs.declared.fault.Fault.{Fault}
use Rattle.xml_text.specs.declared.fault.Fault.TheVariants as faults
use Rattle.xml_text.proofs.GrammarTakes.{token-takes}
use Rattle.xml_text.proofs.GrammarProlog.{prolog-takes}
use Rattle.xml_tree.specs.Trees.{Element}
use Rattle.xml_tree.specs.Values.{Refusal, lines_of, placed_character}
use Rattle.xml_tree.specs.Names.{Said, said}
use Rattle.xml_tree.specs.Scope.{unbound, same_name}
use Rattle.xml_tree.specs.Building.{Open, State, state, scope_of, opened, element_of, with_text, ended, most_open, started, start, end, characters, referred, section, step, finished, with_place, stepped_by, stepped, go_on, tree_below, tree_from, tree_of, first_state}
use Rattle.xml_tree.specs.Grammar.{IsTextOf, IsElement, IsDocument, IsOutside, AreOutside, depth, Spells}
use Rattle.xml_text.proofs.ShorterTokens.{tokens_shorten}
use Rattle.xml_text.proofs.Blank.{space_alone}
use Rattle.xml_tree.proofs.TokenSteps.{with_place_ok}
use Rattle.xml_tree.proofs.Depths.{Within, StateWithin, same_state, step-within}
use Rattle.xml_tree.proofs.Completing.{token_of, Fills, Completes, StateCompletes, fills_text, fills_nothing, fills_element, fills_opened, fills_end, fills_last, empty_element, whole_element}

-- a token outside the root
outside_before : (x : At Token) (root : Option Element) (ts : List (At Token)) (e : Element) → IsOutside x.v → Completes [] root ts e → Completes [] root (x ∷ ts) e
outside_before x None ts e is (before, root, behind, f, outside, element, others) = (x ∷ before, root, behind, ap (λ (y : List (At Token)). x ∷ y) f, (is, outside), element, others)
outside_before x (Some r) ts e is (outside, same) = ((is, outside), same)

-- a token that gives text to the innermost element
text_before : (x : At Token) (a : List ℕ) (o : Open) (os : List Open) (root : Option Element) (ts : List (At Token)) (e : Element) → IsTextOf x.v a → Completes (with_text a o ∷ os) root ts e
    → Completes (o ∷ os) root (x ∷ ts) e
text_before x a o os None ts e is (behind, fills, outside) = (behind, fills_text x a o os ts e behind is fills, outside)
text_before x a o os (Some r) ts e is never = absurd never

characters-takes : (left : ℕ) (cs t : List ℕ) (os : List Open) (root : Option Element) (more : State) (ts : List (At Token)) (e : Element) → characters os root cs t ≡ Ok more → StateCompletes more ts e
    → Completes os root (token_of left (Characters t) ∷ ts) e
characters-takes left cs t [] root more ts e is done =
    let g = guard_ok (is_filled (after_space t)) (Ok (state [] root)) (faults.Outside, left_of (after_space cs)) more is in
    let same = same_state (state [] root) more g.1 in
    outside_before (token_of left (Characters t)) root ts e (space_alone t g.0) (subst (λ (s : State). StateCompletes s ts e) (sym same) done)
characters-takes left cs t (o ∷ os) root more ts e is done =
    let same = same_state (state (with_text (lines_of t) o ∷ os) root) more is in
    text_before (token_of left (Characters t)) (lines_of t) o os root ts e refl (subst (λ (s : State). StateCompletes s ts e) (sym same) done)

placed_ok : (left : ℕ) (r : Result ℕ Fault) (t : List ℕ) → placed_character left r ≡ Ok t → (c : ℕ) × (r ≡ Ok c) × (t ≡ c ∷ [])
placed_ok left (Ok c) t e = (c, refl, sym (ok_is {F = Refusal} (c ∷ []) t e))
placed_ok left (Err fault) t e = absurd cc

referred-takes : (left : ℕ) (r : Reference) (os : List Open) (root : Option Element) (more : State) (ts : List (At Token)) (e : Element) → referred os root left r ≡ Ok more → StateCompletes more ts e
    → Completes os root (token_of left (Refers r) ∷ ts) e
referred-takes left r [] root more ts e is done = absurd cc
referred-takes left r (o ∷ os) root more ts e is done =
    let t = bind_ok (placed_character left (character_of r)) (λ t. Ok (state (with_text t o ∷ os) root)) more is in
    let same = same_state (state (with_text t.0 o ∷ os) root) more t.2 in
    let c = placed_ok left (character_of r) t.0 t.1 in
    text_before (token_of left (Refers r)) t.0 o os root ts e (c.0, c.1, c.2) (subst (λ (s : State). StateCompletes s ts e) (sym same) done)

section-takes : (left : ℕ) (t : List ℕ) (os : List Open) (root : Option Element) (more : State) (ts : List (At Token)) (e : Element) → section os root left t ≡ Ok more → StateCompletes more ts e
    → Completes os root (token_of left (Section t) ∷ ts) e
section-takes left t [] root more ts e is done = absurd cc
section-takes left t (o ∷ os) root more ts e is done =
    let same = same_state (state (with_text (lines_of t) o ∷ os) root) more is in
    text_before (token_of left (Section t)) (lines_of t) o os root ts e refl (subst (λ (s : State). StateCompletes s ts e) (sym same) done)

nothing-takes : (left : ℕ) (os : List Open) (root : Option Element) (ts : List (At Token)) (e : Element) → Completes os root ts e → Completes os root (token_of left Nothing ∷ ts) e
nothing-takes left [] root ts e done = outside_before (token_of left Nothing) root ts e tt done
nothing-takes left (o ∷ os) None ts e (behind, fills, outside) = (behind, fills_nothing (token_of left Nothing) o os ts e behind refl fills, outside)
nothing-takes left (o ∷ os) (Some r) ts e never = absurd never

-- an element that stands alone, with what follows it
document_of : (ts behind : List (At Token)) (e : Element) → IsElement unbound ts e behind → AreOutside behind → IsDocument ts e
document_of ts behind e element outside = ([], ts, behind, refl, tt, element, outside)

start-takes : (left : ℕ) (tag : Tag) (x : Said) (os : List Open) (ts : List (At Token)) (e : Element) → said (scope_of os) left tag ≡ Ok x
    → StateCompletes (started None os tag.empty (opened left tag.name x)) ts e → Completes os None (token_of left (Start tag) ∷ ts) e
start-takes left tag x os ts e is done = by_empty tag.empty refl os is done
  where
    by_empty : (b : Bool) → tag.empty ≡ b → (os : List Open) → said (scope_of os) left tag ≡ Ok x → StateCompletes (started None os b (opened left tag.name x)) ts e
        → Completes os None (token_of left (Start tag) ∷ ts) e
    by_empty true f [] is (outside, same) =
        document_of (token_of left (Start tag) ∷ ts) ts e (subst (λ (y : Element). IsElement unbound (token_of left (Start tag) ∷ ts) y ts) same (empty_element unbound left tag x ts is f)) outside
    by_empty true f (o ∷ os) is (behind, fills, outside) =
        (behind, fills_element (element_of (opened left tag.name x)) o os (token_of left (Start tag) ∷ ts) ts e behind (empty_element (scope_of (o ∷ os)) left tag x ts is f) fills, outside)
    by_empty false f [] is (behind, (c, at, end, content, same, g), outside) =
        document_of (token_of left (Start tag) ∷ ts) behind e
        (subst (λ (y : Element). IsElement unbound (token_of left (Start tag) ∷ ts) y behind) g (whole_element unbound left tag x ts c at end behind is f content same)) outside
    by_empty false f (o ∷ os) is (behind, fills, outside) = (behind, fills_opened left tag x o os ts e behind is f fills, outside)

end-takes : (left : ℕ) (name : At Name) (os : List Open) (more : State) (ts : List (At Token)) (e : Element) → end os None left name ≡ Ok more → StateCompletes more ts e
    → Completes os None (token_of left (End name) ∷ ts) e
end-takes left name [] more ts e is done = absurd cc
end-takes left name (o ∷ os) more ts e is done = by_around os is
  where
    by_around : (os : List Open) → end (o ∷ os) None left name ≡ Ok more → Completes (o ∷ os) None (token_of left (End name) ∷ ts) e
    by_around [] is =
        let t = test_ok (same_name name.v o.written) (Ok (ended None (element_of o) [])) (faults.Mismatched, name.left) more is in
        let d = subst (λ (s : State). StateCompletes s ts e) (sym (same_state (ended None (element_of o) []) more t.1)) done in
        (ts, subst (λ (y : Element). Fills o [] (token_of left (End name) ∷ ts) y ts) d.1 (fills_last left name o ts t.0), d.0)
    by_around (p ∷ os) is =
        let t = test_ok (same_name name.v o.written) (Ok (ended None (element_of o) (p ∷ os))) (faults.Mismatched, name.left) more is in
        let d = subst (λ (s : State). StateCompletes s ts e) (sym (same_state (ended None (element_of o) (p ∷ os)) more t.1)) done in
        (d.0, fills_end left name o p os ts e d.0 t.0 d.1, d.2)

-- ---- one more token

start_any : (os : List Open) (root : Option Element) (left : ℕ) (tag : Tag) (more : State) (ts : List (At Token)) (e : Element) → start os root left tag ≡ Ok more → StateCompletes more ts e
    → Completes os root (token_of left (Start tag) ∷ ts) e
start_any os (Some r) left tag more ts e is done = absurd cc
start_any os None left tag more ts e is done =
    let t = test_ok (nat_lt (length os) most_open) (said (scope_of os) left tag >>= λ x. Ok (started None os tag.empty (opened left tag.name x))) (faults.TooDeep, left) more is in
    let x = bind_ok (said (scope_of os) left tag) (λ x. Ok (started None os tag.empty (opened left tag.name x))) more t.1 in
    start-takes left tag x.0 os ts e x.1 (subst (λ (s : State). StateCompletes s ts e) (sym (same_state (started None os tag.empty (opened left tag.name x.0)) more x.2)) done)

end_any : (os : List Open) (root : Option Element) (left : ℕ) (name : At Name) (more : State) (ts : List (At Token)) (e : Element) → Within os root → end os root left name ≡ Ok more → StateCompletes more ts e
    → Completes os root (token_of left (End name) ∷ ts) e
end_any [] root left name more ts e w is done = absurd cc
end_any (o ∷ os) None left name more ts e w is done = end-takes left name (o ∷ os) more ts e is done
end_any (o ∷ os) (Some r) left name more ts e w is done = absurd w

step-takes : (s more : State) (cs : List ℕ) (x : Token) (ts : List (At Token)) (e : Element) → StateWithin s → step s cs x ≡ Ok more → StateCompletes more ts e → StateCompletes s (token_of (left_of cs) x ∷ ts) e
step-takes s more cs (Start tag) ts e w is done = start_any s.open_ones s.root (left_of cs) tag more ts e is done
step-takes s more cs (End name) ts e w is done = end_any s.open_ones s.root (left_of cs) name more ts e w is done
step-takes s more cs (Characters t) ts e w is done = characters-takes (left_of cs) cs t s.open_ones s.root more ts e is done
step-takes s more cs (Refers r) ts e w is done = referred-takes (left_of cs) r s.open_ones s.root more ts e is done
step-takes s more cs (Section t) ts e w is done = section-takes (left_of cs) t s.open_ones s.root more ts e is done
step-takes s more cs Nothing ts e w is done = nothing-takes (left_of cs) s.open_ones s.root ts e (subst (λ (y : State). StateCompletes y ts e) (sym (same_state s more is)) done)

-- ---- all tokens

-- tokens that the text spells, which complete the state to a tree that is not too deep
abbrev Spelled : State → List ℕ → Element → Type 0
Spelled s cs e = (ts : List (At Token)) × AreTokens cs ts [] × StateCompletes s ts e × (depth e ≤ most_open)

finished-takes : (os : List Open) (root : Option Element) (e : Element) → Within os root → finished os root ≡ Ok e → Completes os root [] e × (depth e ≤ most_open)
finished-takes (o ∷ os) root e w is = absurd cc
finished-takes [] None e w is = absurd cc
finished-takes [] (Some r) e w is =
    let same = ok_is {F = Refusal} r e is in
    ((tt, same), subst (λ (x : Element). depth x ≤ most_open) same w)

tree-takes : (n : ℕ) (s : State) (cs : List ℕ) (e : Element) → length cs < n → StateWithin s → tree_below n s cs ≡ Ok e → Spelled s cs e
unfolding tree_below stepped
tree-takes zero s cs e few w is = absurd (omega arith)
tree-takes (suc n) s cs e few w is =
    let p = bind_ok (stepped s cs) (λ p. go_on (tree_below n) s p.0 p.1) e is in
    let t = bind_ok (with_place (token_at cs)) (λ t. stepped_by s cs t.0 t.1) p.0 p.1 in
    by_token (λ more rest less v d. tree-takes n more rest e less v d) t.0 (with_place_ok (token_at cs) t.0 t.1) p.0 t.2 p.2
  where
    by_token : ((more : State) (rest : List ℕ) → length rest < n → StateWithin more → tree_below n more rest ≡ Ok e → Spelled more rest e) → (t : Option (At Token) × List ℕ) → token_at cs ≡ Ok t → (p : Option State × List ℕ) → stepped_by s cs t.0 t.1 ≡ Ok p → go_on (tree_below n) s p.0 p.1 ≡ Ok e → Spelled s cs e
    by_token others (None, rest) read p d f =
        let ends = token-takes cs (None, rest) read in
        let g : finished s.open_ones s.root ≡ Ok e = subst (λ (q : Option State × List ℕ). go_on (tree_below n) s q.0 q.1 ≡ Ok e) (sym (ok_is {F = Refusal} (None, rest) p d)) f in
        let done = finished-takes s.open_ones s.root e w g in
        ([], ends.0, done.0, done.1)
    by_token others (Some x, rest) read p d f =
        let next = token-takes cs (Some x, rest) read in
        let m = bind_ok (step s cs x.v) (λ m. Ok (Some m, rest)) p d in
        let g : tree_below n m.0 rest ≡ Ok e = subst (λ (q : Option State × List ℕ). go_on (tree_below n) s q.0 q.1 ≡ Ok e) (sym (ok_is {F = Refusal} (Some m.0, rest) p m.2)) f in
        let less : length rest < length cs = tokens_shorten cs rest x read in
        let done = others m.0 rest (omega arith) (step-within s m.0 cs x.v m.1 w) g in (
          x ∷ done.0,
          (rest, next.0, next.1, done.1),
          subst (λ (k : ℕ). StateCompletes s (token_of k x.v ∷ done.0) e) (sym next.0) (step-takes s m.0 cs x.v done.0 e w m.1 done.2),
          done.3,
        )

pub tree-spelled : (cs : List ℕ) (e : Element) → tree_of cs ≡ Ok e → Spells e cs
unfolding tree_of tree_from
tree-spelled cs e is =
    let body = bind_ok (with_place (prolog_at cs)) (λ rest. tree_from first_state rest) e is in
    let done = tree-takes (suc (length body.0)) first_state body.0 e (omega arith) tt body.2 in
    (body.0, done.0, prolog-takes cs body.0 (with_place_ok (prolog_at cs) body.0 body.1), done.1, done.2, done.3)
