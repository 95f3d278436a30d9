-- A tree that a text spells is read.
use Rattle.std.proofs.Common.{◌≡◌, ℕ, ◌+◌, ◌≤◌, ◌<◌, true, false, List, [], ◌∷◌, ◌++◌, length, Option, Some, None, Ok, refl, sym, ap, ◌∙◌, subst, ◌⊎◌, inl, inr, arith}
use Rattle.std.proofs.lemmas.Bool.{lt-ltb}
use Rattle.laws.specs.Results.{◌>>=◌}
use Rattle.xml_text.specs.Tokens.{At, Name, Tag, Token, Start, End, Characters, Refers, Section, Nothing}
use Rattle.xml_text.specs.Reading.{left_of}
use Rattle.xml_text.specs.Markup.{token_at}
use Rattle.xml_text.specs.Grammar.{AreTokens}
use Rattle.xml_text.proofs.GrammarAgain.{token-again}
use Rattle.xml_text.proofs.GrammarProlog.{prolog-again}
use Rattle.xml_text.proofs.Blank.{blank_ends}
use Rattle.xml_tree.specs.Trees.{Element, Tagged, Content, Last, Next}
use Rattle.xml_tree.specs.Values.{lines_of}
use Rattle.xml_tree.specs.Scope.{Scope, unbound, over, same_name}
use Rattle.xml_tree.specs.Names.{Said, said}
use Rattle.xml_tree.specs.Building.{Open, State, state, scope_of, opened, element_of, with_child, with_text, ended, most_open, end, step, finished, with_place, stepped_by, stepped, tree_from, tree_of, first_state}
use Rattle.xml_tree.specs.Grammar.{IsTextOf, IsElement, IsContent, IsOutside, AreOutside, IsDocument, depth, content_depth, Spells}
use Rattle.xml_tree.proofs.TokenSteps.{tree-step, tree-end}
use Rattle.xml_tree.proofs.Completing.{token_of, prefixed, joined, prefixed_none, closed, Fills, Completes, StateCompletes, closed_text, closed_child, closed_last}

-- ---- how deep

joined_depth : (ps : List (List ℕ × Element)) (t : List ℕ) (c : Content) → content_depth c ≤ content_depth (joined ps t c)
joined_depth [] t (Last u) = omega arith
joined_depth [] t (Next u e c) = omega arith
joined_depth (p ∷ ps) t c =
    let more = joined_depth ps t c in
    omega arith

child_depth : (ps : List (List ℕ × Element)) (t : List ℕ) (e : Element) (c : Content) → depth e ≤ content_depth (joined (ps ++ (t, e) ∷ []) [] c)
child_depth [] t e c = omega arith
child_depth (p ∷ ps) t e c =
    let more = child_depth ps t e c in
    omega arith

-- the content of the innermost element that the tokens close
abbrev content_of_fills : (o : Open) (os : List Open) (ts : List (At Token)) (e : Element) (rest : List (At Token)) → Fills o os ts e rest → Content
content_of_fills o [] ts e rest f = f.0
content_of_fills o (p ∷ os) ts e rest f = f.0

fills_depth : (o : Open) (os : List Open) (ts : List (At Token)) (e : Element) (rest : List (At Token)) (f : Fills o os ts e rest) → depth (closed o (content_of_fills o os ts e rest f)) + length os ≤ depth e
fills_depth o [] ts e rest f =
    let same : depth (closed o f.0) ≡ depth e = ap depth f.5 in
    omega (arith, same)
fills_depth o (p ∷ os) ts e rest f =
    let around = fills_depth (with_child (closed o f.0) p) os f.3 e rest f.6 in
    let inside = child_depth p.before p.text (closed o f.0) (content_of_fills (with_child (closed o f.0) p) os f.3 e rest f.6) in
    omega (arith, around, inside)

-- ---- the first token of a content

-- a content without tokens, one whose first token gives text, or one that begins with an element
abbrev Begins : Scope → At Token → List (At Token) → Content → List (At Token) → Type 0
Begins scope x ts c rest =
    ((c ≡ Last []) × (x ∷ ts ≡ rest)) ⊎ (((a : List ℕ) × (d : Content) × (c ≡ prefixed a d) × IsTextOf x.v a × IsContent scope ts d rest)
    ⊎ ((e : Element) × (ds : List (At Token)) × (d : Content) × (c ≡ Next [] e d) × IsElement scope (x ∷ ts) e ds × IsContent scope ds d rest))

abbrev first_of : At Token → List (At Token) → At Token
first_of d [] = d
first_of d (x ∷ xs) = x

abbrev later_tokens : List (At Token) → List (At Token)
later_tokens [] = []
later_tokens (x ∷ xs) = xs

content_begins : (scope : Scope) (x : At Token) (ts : List (At Token)) (c : Content) (rest : List (At Token)) → IsContent scope (x ∷ ts) c rest → Begins scope x ts c rest
content_begins scope x ts (Last u) rest ([], f, are) = inl (ap (λ (v : List ℕ). Last v) are, f)
content_begins scope x ts (Last u) rest (y ∷ run, f, (a, b, is, are, g)) =
    inr (inl (a, Last b, ap (λ (v : List ℕ). Last v) g, subst (λ (z : At Token). IsTextOf z.v a) (sym (ap (first_of x) f)) is, (run, ap later_tokens f, are)))
content_begins scope x ts (Next u e c) rest (p, q, ([], f, are), element, content) =
    inr (inr (e, q, c, ap (λ (v : List ℕ). Next v e c) are, subst (λ (z : List (At Token)). IsElement scope z e q) (sym f) element, content))
content_begins scope x ts (Next u e c) rest (p, q, (y ∷ run, f, (a, b, is, are, g)), element, content) =
    inr (inl (a, Next b e c, ap (λ (v : List ℕ). Next v e c) g, subst (λ (z : At Token). IsTextOf z.v a) (sym (ap (first_of x) f)) is, (p, q, (run, ap later_tokens f, are), element, content)))

-- ---- one token

-- the state after a token, which the others complete
abbrev Goes : State → List ℕ → Token → List (At Token) → Element → Type 0
Goes s cs x ts e = (more : State) × (step s cs x ≡ Ok more) × StateCompletes more ts e

-- outside the root
outside-again : (cs : List ℕ) (x : Token) (root : Option Element) (ts : List (At Token)) (e : Element) → IsOutside x → Completes [] root ts e → Goes (state [] root) cs x ts e
outside-again cs (Start tag) root ts e is done = absurd is
outside-again cs (End name) root ts e is done = absurd is
outside-again cs (Characters t) root ts e is done = (state [] root, rw (blank_ends t is) refl, done)
outside-again cs (Refers r) root ts e is done = absurd is
outside-again cs (Section t) root ts e is done = absurd is
outside-again cs Nothing root ts e is done = (state [] root, refl, done)

-- a text in the innermost open element
text-again : (cs : List ℕ) (x : Token) (a : List ℕ) (o : Open) (os : List Open) (ts : List (At Token)) (e : Element) → IsTextOf x a → Completes (with_text a o ∷ os) None ts e
    → (a ≡ [] → Completes (o ∷ os) None ts e) → Goes (state (o ∷ os) None) cs x ts e
text-again cs (Start tag) a o os ts e is done none = absurd is
text-again cs (End name) a o os ts e is done none = absurd is
text-again cs (Characters t) a o os ts e is done none = (state (with_text (lines_of t) o ∷ os) None, refl, subst (λ (y : List ℕ). Completes (with_text y o ∷ os) None ts e) is done)
text-again cs (Refers r) a o os ts e (c, f, g) done none =
    (state (with_text (c ∷ []) o ∷ os) None, rw f refl, subst (λ (y : List ℕ). Completes (with_text y o ∷ os) None ts e) g done)
text-again cs (Section t) a o os ts e is done none = (state (with_text (lines_of t) o ∷ os) None, refl, subst (λ (y : List ℕ). Completes (with_text y o ∷ os) None ts e) is done)
text-again cs Nothing a o os ts e is done none = (state (o ∷ os) None, refl, none is)

-- what closes an open element, by its content
abbrev fills_of : (o : Open) (os : List Open) (c : Content) (rest : List (At Token)) (e : Element) → Type 0
fills_of o [] c rest e = (at : ℕ) × (end : At Name) × (behind : List (At Token)) × (rest ≡ token_of at (End end) ∷ behind) × (same_name end.v o.written ≡ true) × (closed o c ≡ e) × AreOutside behind
fills_of o (p ∷ os) c rest e = (at : ℕ) × (end : At Name) × (mid : List (At Token)) × (behind : List (At Token)) × (rest ≡ token_of at (End end) ∷ mid) × (same_name end.v o.written ≡ true)
    × Fills (with_child (closed o c) p) os mid e behind × AreOutside behind

parted : (o : Open) (os : List Open) (ts : List (At Token)) (e : Element) → Completes (o ∷ os) None ts e → (c : Content) × (rest : List (At Token)) × IsContent (scope_of (o ∷ os)) ts c rest × fills_of o os c rest e
parted o [] ts e (behind, (c, at, end, content, same, f), outside) = (c, token_of at (End end) ∷ behind, content, (at, end, behind, refl, same, f, outside))
parted o (p ∷ os) ts e (behind, (c, at, end, mid, content, same, more), outside) = (c, token_of at (End end) ∷ mid, content, (at, end, mid, behind, refl, same, more, outside))

whole : (o : Open) (os : List Open) (ts : List (At Token)) (c : Content) (rest : List (At Token)) (e : Element) → IsContent (scope_of (o ∷ os)) ts c rest → fills_of o os c rest e → Completes (o ∷ os) None ts e
whole o [] ts c rest e content (at, end, behind, f, same, g, outside) =
    (behind, (c, at, end, subst (λ (y : List (At Token)). IsContent (scope_of (o ∷ [])) ts c y) f content, same, g), outside)
whole o (p ∷ os) ts c rest e content (at, end, mid, behind, f, same, more, outside) =
    (behind, (c, at, end, mid, subst (λ (y : List (At Token)). IsContent (scope_of (o ∷ p ∷ os)) ts c y) f content, same, more), outside)

-- the same content of an element that has more
moved : (o p : Open) (os : List Open) (c d : Content) (rest : List (At Token)) (e : Element) → closed o c ≡ closed p d → (same : p.written ≡ o.written) → fills_of o os c rest e → fills_of p os d rest e
moved o p [] c d rest e f g (at, end, behind, h, same, k, outside) = (at, end, behind, h, rw g same, sym f ∙ k, outside)
moved o p (q ∷ os) c d rest e f g (at, end, mid, behind, h, same, more, outside) =
    (at, end, mid, behind, h, rw g same, subst (λ (y : Element). Fills (with_child y q) os mid e behind) f more, outside)

-- ---- tags

abbrev first_token : List (At Token) → Token
first_token [] = Nothing
first_token (x ∷ xs) = x.v

abbrev first_left : List (At Token) → ℕ
first_left [] = 0
first_left (x ∷ xs) = x.left

abbrev within : List Open → State
within os = state os None

start_empty : (cs : List ℕ) (tag : Tag) (z : Said) (os : List Open) (ts : List (At Token)) (e : Element) → length os < 256 → said (scope_of os) (left_of cs) tag ≡ Ok z → tag.empty ≡ true
    → StateCompletes (ended None (element_of (opened (left_of cs) tag.name z)) os) ts e → Goes (within os) cs (Start tag) ts e
start_empty cs tag z os ts e few is empty done =
    let room = lt-ltb (length os) 256 few in
    (ended None (element_of (opened (left_of cs) tag.name z)) os, rw (room, is, empty) refl, done)

start_full : (cs : List ℕ) (tag : Tag) (z : Said) (os : List Open) (ts : List (At Token)) (e : Element) → length os < 256 → said (scope_of os) (left_of cs) tag ≡ Ok z → tag.empty ≡ false
    → Completes (opened (left_of cs) tag.name z ∷ os) None ts e → Goes (within os) cs (Start tag) ts e
start_full cs tag z os ts e few is full done =
    let room = lt-ltb (length os) 256 few in
    (within (opened (left_of cs) tag.name z ∷ os), rw (room, is, full) refl, done)

-- what follows an element that has ended completes what is around it
opened_completes : (left : ℕ) (tag : Tag) (z : Said) (os : List Open) (ts ds : List (At Token)) (c : Content) (at : ℕ) (end : At Name) (e : Element)
    → IsContent (over z.own (scope_of os)) ts c (token_of at (End end) ∷ ds) → same_name end.v tag.name ≡ true → StateCompletes (ended None (closed (opened left tag.name z) c) os) ds e
    → Completes (opened left tag.name z ∷ os) None ts e
opened_completes left tag z [] ts ds c at end e content same (outside, f) = (ds, (c, at, end, content, same, f), outside)
opened_completes left tag z (o ∷ os) ts ds c at end e content same (behind, fills, outside) = (behind, (c, at, end, ds, content, same, fills), outside)

element-again : (cs : List ℕ) (x : Token) (os : List Open) (y : Element) (ds ts : List (At Token)) (e : Element) → length os < 256 → IsElement (scope_of os) (token_of (left_of cs) x ∷ ts) y ds
    → StateCompletes (ended None y os) ds e → Goes (within os) cs x ts e
element-again cs x os (Tagged left name attributes content) ds ts e few (tag, z, inside, f, is, g, h, inl (empty, k, m)) done =
    let left_is : left ≡ left_of cs = sym (ap first_left f) in
    let later : ts ≡ ds = ap later_tokens f ∙ m in
    let same : Tagged left name attributes content ≡ element_of (opened (left_of cs) tag.name z) =
    ap (λ (n : ℕ). Tagged n name attributes content) left_is ∙ (ap (λ n. Tagged (left_of cs) n attributes content) g ∙ (ap (λ a. Tagged (left_of cs) z.name a content) h ∙ ap (λ (c : Content). Tagged (left_of cs) z.name z.attributes c) k)) in
    subst (λ (t : Token). Goes (within os) cs t ts e) (sym (ap first_token f))
    (start_empty cs tag z os ts e few (subst (λ (n : ℕ). said (scope_of os) n tag ≡ Ok z) left_is is) empty
    (subst (λ (t : List (At Token)). StateCompletes (ended None (element_of (opened (left_of cs) tag.name z)) os) t e) (sym later) (subst (λ (w : Element). StateCompletes (ended None w os) ds e) same done)))
element-again cs x os (Tagged left name attributes content) ds ts e few (tag, z, inside, f, is, g, h, inr (full, (at, end, inner, k))) done =
    let left_is : left ≡ left_of cs = sym (ap first_left f) in
    let later : inside ≡ ts = sym (ap later_tokens f) in
    let same : Tagged left name attributes content ≡ closed (opened (left_of cs) tag.name z) content =
    ap (λ (n : ℕ). Tagged n name attributes content) left_is ∙ (ap (λ n. Tagged (left_of cs) n attributes content) g ∙ (ap (λ a. Tagged (left_of cs) z.name a content) h ∙ ap (λ (c : Content). Tagged (left_of cs) z.name z.attributes c) (sym (prefixed_none content)))) in
    subst (λ (t : Token). Goes (within os) cs t ts e) (sym (ap first_token f))
    (start_full cs tag z os ts e few (subst (λ (n : ℕ). said (scope_of os) n tag ≡ Ok z) left_is is) full
    (opened_completes (left_of cs) tag z os ts ds content at end e (subst (λ (t : List (At Token)). IsContent (over z.own (scope_of os)) t content (token_of at (End end) ∷ ds)) later inner) k
    (subst (λ (w : Element). StateCompletes (ended None w os) ds e) same done)))

-- the end-tag of the innermost open element
end-again : (cs : List ℕ) (x : Token) (o : Open) (os : List Open) (ts rest : List (At Token)) (e : Element) → token_of (left_of cs) x ∷ ts ≡ rest → fills_of o os (Last []) rest e → Goes (within (o ∷ os)) cs x ts e
end-again cs x o [] ts rest e f (at, end, behind, g, same, h, outside) =
    subst (λ (t : Token). Goes (within (o ∷ [])) cs t ts e) (sym (ap first_token (f ∙ g)))
    (ended None (element_of o) [], rw same refl, (subst AreOutside (sym (ap later_tokens (f ∙ g))) outside, sym (closed_last o) ∙ h))
end-again cs x o (p ∷ os) ts rest e f (at, end, mid, behind, g, same, more, outside) =
    subst (λ (t : Token). Goes (within (o ∷ p ∷ os)) cs t ts e) (sym (ap first_token (f ∙ g))) (
      ended None (element_of o) (p ∷ os),
      rw same refl,
      (behind, subst (λ (t : List (At Token)). Fills (with_child (element_of o) p) os t e behind) (sym (ap later_tokens (f ∙ g))) (subst (λ (w : Element). Fills (with_child w p) os mid e behind) (closed_last o) more), outside),
    )

-- a token within the root
inside-again : (cs : List ℕ) (x : Token) (o : Open) (os : List Open) (ts : List (At Token)) (e : Element) → depth e ≤ most_open → Completes (o ∷ os) None (token_of (left_of cs) x ∷ ts) e → Goes (within (o ∷ os)) cs x ts e
inside-again cs x o os ts e deep done =
    let p = parted o os (token_of (left_of cs) x ∷ ts) e done in
    by_begin p.0 p.1 (content_begins (scope_of (o ∷ os)) (token_of (left_of cs) x) ts p.0 p.1 p.2) p.3
  where
    has_depth : (y : Element) → 1 ≤ depth y
    has_depth (Tagged left name attributes content) = omega arith

    room : (y : Element) (ds : List (At Token)) → Completes (with_child y o ∷ os) None ds e → length (o ∷ os) < 256
    room y ds (behind, fills, outside) =
        let around = fills_depth (with_child y o) os ds e behind fills in
        let inside = child_depth o.before o.text y (content_of_fills (with_child y o) os ds e behind fills) in
        let one = has_depth y in
        omega (arith, around, inside, one, deep)

    by_begin : (c : Content) (rest : List (At Token)) → Begins (scope_of (o ∷ os)) (token_of (left_of cs) x) ts c rest → fills_of o os c rest e → Goes (within (o ∷ os)) cs x ts e
    by_begin c rest (inl (same, f)) fills = end-again cs x o os ts rest e f (subst (λ (y : Content). fills_of o os y rest e) same fills)
    by_begin c rest (inr (inl (a, d, same, is, content))) fills =
        text-again cs x a o os ts e is (whole (with_text a o) os ts d rest e content (moved o (with_text a o) os c d rest e (ap (closed o) same ∙ sym (closed_text o a d)) refl fills))
        (λ none. whole o os ts d rest e content (moved o o os c d rest e (ap (closed o) same ∙ (ap (λ (y : List ℕ). closed o (prefixed y d)) none ∙ ap (closed o) (prefixed_none d))) refl fills))
    by_begin c rest (inr (inr (y, ds, d, same, element, content))) fills =
        let after_it = whole (with_child y o) os ds d rest e content (moved o (with_child y o) os c d rest e (ap (closed o) same ∙ sym (closed_child o y d)) refl fills) in
        element-again cs x (o ∷ os) y ds ts e (room y ds after_it) element after_it

-- any token
step-again : (s : State) (cs : List ℕ) (x : Token) (ts : List (At Token)) (e : Element) → depth e ≤ most_open → StateCompletes s (token_of (left_of cs) x ∷ ts) e → Goes s cs x ts e
step-again s cs x ts e deep done = by_state s.open_ones s.root done
  where
    by_state : (os : List Open) (root : Option Element) → Completes os root (token_of (left_of cs) x ∷ ts) e → Goes (state os root) cs x ts e
    by_state [] None ([], root, behind, f, outside, element, others) =
        element-again cs x [] e behind ts e (omega arith) (subst (λ (t : List (At Token)). IsElement unbound t e behind) (sym f) element) (others, refl)
    by_state [] None (y ∷ before, root, behind, f, outside, element, others) =
        outside-again cs x None ts e (subst IsOutside (sym (ap first_token f)) outside.0) (before, root, behind, ap later_tokens f, outside.1, element, others)
    by_state [] (Some r) (outside, same) = outside-again cs x (Some r) ts e outside.0 (outside.1, same)
    by_state (o ∷ os) None d = inside-again cs x o os ts e deep d
    by_state (o ∷ os) (Some r) never = absurd never

-- ---- all tokens

no_document : (e : Element) → IsDocument [] e → ⊥
no_document (Tagged left name attributes content) ([], root, behind, f, outside, (tag, x, inside, g, is, h, k, others), after_it) = absurd cc
no_document e (y ∷ before, root, behind, f, outside, element, others) = absurd cc

no_content : (scope : Scope) (c : Content) (x : At Token) (rest : List (At Token)) → IsContent scope [] c (x ∷ rest) → ⊥
no_content scope (Last u) x rest ([], f, are) = absurd cc
no_content scope (Last u) x rest (y ∷ run, f, are) = absurd cc
no_content scope (Next u (Tagged left name attributes content) c) x rest (a, b, ([], f, are), (tag, z, inside, g, is, h, k, others), more) = absurd cc
no_content scope (Next u e c) x rest (a, b, (y ∷ run, f, are), element, more) = absurd cc

-- no token completes a state only where the root has ended
done_is : (os : List Open) (root : Option Element) (e : Element) → Completes os root [] e → finished os root ≡ Ok e
done_is [] None e done = absurd (no_document e done)
done_is [] (Some r) e (outside, same) = ap (λ (x : Element). Ok x) same
done_is (o ∷ []) None e (behind, (c, at, end, content, same, f), outside) = absurd (no_content (scope_of (o ∷ [])) c (token_of at (End end)) behind content)
done_is (o ∷ p ∷ os) None e (behind, (c, at, end, mid, content, same, more), outside) = absurd (no_content (scope_of (o ∷ p ∷ os)) c (token_of at (End end)) mid content)
done_is (o ∷ os) (Some r) e never = absurd never

stepped-again : (s more : State) (cs rest : List ℕ) (x : At Token) → token_at cs ≡ Ok (Some x, rest) → step s cs x.v ≡ Ok more → stepped s cs ≡ Ok (Some more, rest)
unfolding stepped
stepped-again s more cs rest x read is = rw read (rw is refl)

ended-again : (s : State) (cs : List ℕ) → cs ≡ [] → stepped s cs ≡ Ok (None, [])
unfolding stepped
ended-again s cs e = ap (λ (c : List ℕ). with_place (token_at c) >>= λ t. stepped_by s c t.0 t.1) e

tree-again : (ts : List (At Token)) (s : State) (cs : List ℕ) (e : Element) → AreTokens cs ts [] → depth e ≤ most_open → StateCompletes s ts e → tree_from s cs ≡ Ok e
tree-again [] s cs e none deep done = tree-end s cs [] (ended-again s cs none) ∙ done_is s.open_ones s.root e done
tree-again (x ∷ ts) s cs e (rest, at, is, others) deep done =
    let here : StateCompletes s (token_of (left_of cs) x.v ∷ ts) e = subst (λ (n : ℕ). StateCompletes s (token_of n x.v ∷ ts) e) at done in
    let more = step-again s cs x.v ts e deep here in
    tree-step s more.0 cs rest (stepped-again s more.0 cs rest x (token-again cs rest x at is) more.1) ∙ tree-again ts more.0 rest e others deep more.2

pub tree_is : (cs : List ℕ) (e : Element) → Spells e cs → tree_of cs ≡ Ok e
unfolding tree_of
tree_is cs e (body, ts, prolog, tokens, document, deep) =
    rw (prolog-again cs body prolog) (tree-again ts first_state body e tokens deep document)
