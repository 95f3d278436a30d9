-- Trees that are being built, and the tokens that complete them.
use Rattle.std.proofs.Common.{◌≡◌, ℕ, true, false, List, [], ◌∷◌, ◌++◌, Option, Some, None, Ok, refl, sym, ap, ◌∙◌, subst, append_assoc, inl, inr}
use Rattle.std.proofs.lemmas.List.{append-nil}
use Rattle.xml_text.specs.Tokens.{At, Name, Tag, Token, Start, End}
use Rattle.xml_tree.specs.Trees.{Element, Tagged, Content, Last, Next, content_of}
use Rattle.xml_tree.specs.Scope.{Scope, over, same_name}
use Rattle.xml_tree.specs.Names.{Said, said}
use Rattle.xml_tree.specs.Building.{Open, State, scope_of, opened, element_of, with_child, with_text}
use Rattle.xml_tree.specs.Grammar.{IsTextOf, IsElement, IsContent, AreOutside, IsDocument}

-- a token at its place
abbrev pub token_of : ℕ → Token → At Token
token_of left x = record { v = x; left = left }

-- a text before a content
abbrev pub prefixed : List ℕ → Content → Content
prefixed t (Last u) = Last (t ++ u)
prefixed t (Next u e c) = Next (t ++ u) e c

-- texts and elements, a text, and the content that follows
abbrev pub joined : List (List ℕ × Element) → List ℕ → Content → Content
joined [] t c = prefixed t c
joined (p ∷ ps) t c = Next p.0 p.1 (joined ps t c)

pub prefixed_none : (c : Content) → prefixed [] c ≡ c
prefixed_none (Last u) = refl
prefixed_none (Next u e c) = refl

prefixed_twice : (t u : List ℕ) (c : Content) → prefixed (t ++ u) c ≡ prefixed t (prefixed u c)
prefixed_twice t u (Last v) = ap (λ (x : List ℕ). Last x) (append_assoc t u v)
prefixed_twice t u (Next v e c) = ap (λ (x : List ℕ). Next x e c) (append_assoc t u v)

pub joined_last : (ps : List (List ℕ × Element)) (t : List ℕ) → joined ps t (Last []) ≡ content_of ps t
joined_last [] t = ap (λ (x : List ℕ). Last x) (append-nil t)
joined_last (p ∷ ps) t = ap (λ (c : Content). Next p.0 p.1 c) (joined_last ps t)

pub joined_text : (ps : List (List ℕ × Element)) (t u : List ℕ) (c : Content) → joined ps (t ++ u) c ≡ joined ps t (prefixed u c)
joined_text [] t u c = prefixed_twice t u c
joined_text (p ∷ ps) t u c = ap (λ (x : Content). Next p.0 p.1 x) (joined_text ps t u c)

pub joined_child : (ps : List (List ℕ × Element)) (t : List ℕ) (e : Element) (c : Content) → joined (ps ++ (t, e) ∷ []) [] c ≡ joined ps t (Next [] e c)
joined_child [] t e c = ap (λ (x : Content). Next t e x) (prefixed_none c) ∙ ap (λ (x : List ℕ). Next x e c) (sym (append-nil t))
joined_child (p ∷ ps) t e c = ap (λ (x : Content). Next p.0 p.1 x) (joined_child ps t e c)

-- the element that an open one becomes by that content
abbrev pub closed : Open → Content → Element
closed o c = Tagged o.left o.said.name o.said.attributes (joined o.before o.text c)

-- the tokens close an open element, and those around it, which makes that root
abbrev pub Fills : Open → List Open → List (At Token) → Element → List (At Token) → Type 0
Fills o [] ts e rest = (c : Content) × (at : ℕ) × (end : At Name) × IsContent (scope_of (o ∷ [])) ts c (token_of at (End end) ∷ rest) × (same_name end.v o.written ≡ true) × (closed o c ≡ e)
Fills o (p ∷ os) ts e rest = (c : Content) × (at : ℕ) × (end : At Name) × (mid : List (At Token)) × IsContent (scope_of (o ∷ p ∷ os)) ts c (token_of at (End end) ∷ mid)
    × (same_name end.v o.written ≡ true) × Fills (with_child (closed o c) p) os mid e rest

-- the tokens complete a state to a document with that root; where an element is open none has ended
abbrev pub Completes : List Open → Option Element → List (At Token) → Element → Type 0
Completes [] None ts e = IsDocument ts e
Completes [] (Some r) ts e = AreOutside ts × (r ≡ e)
Completes (o ∷ os) None ts e = (behind : List (At Token)) × Fills o os ts e behind × AreOutside behind
Completes (o ∷ os) (Some r) ts e = ⊥

abbrev pub StateCompletes : State → List (At Token) → Element → Type 0
StateCompletes s ts e = Completes s.open_ones s.root ts e

-- ---- one more token before

content_text : (scope : Scope) (x : At Token) (a : List ℕ) (ts : List (At Token)) (c : Content) (rest : List (At Token)) → IsTextOf x.v a → IsContent scope ts c rest
    → IsContent scope (x ∷ ts) (prefixed a c) rest
content_text scope x a ts (Last u) rest is (run, e, are) = (x ∷ run, ap (λ (y : List (At Token)). x ∷ y) e, (a, u, is, are, refl))
content_text scope x a ts (Next u e c) rest is (b, d, (run, f, are), element, content) =
    (b, d, (x ∷ run, ap (λ (y : List (At Token)). x ∷ y) f, (a, u, is, are, refl)), element, content)

pub closed_text : (o : Open) (a : List ℕ) (c : Content) → closed (with_text a o) c ≡ closed o (prefixed a c)
closed_text o a c = ap (λ (x : Content). Tagged o.left o.said.name o.said.attributes x) (joined_text o.before o.text a c)

pub closed_child : (o : Open) (e : Element) (c : Content) → closed (with_child e o) c ≡ closed o (Next [] e c)
closed_child o e c = ap (λ (x : Content). Tagged o.left o.said.name o.said.attributes x) (joined_child o.before o.text e c)

pub closed_last : (o : Open) → closed o (Last []) ≡ element_of o
closed_last o = ap (λ (x : Content). Tagged o.left o.said.name o.said.attributes x) (joined_last o.before o.text)

-- a token that gives text
pub fills_text : (x : At Token) (a : List ℕ) (o : Open) (os : List Open) (ts : List (At Token)) (e : Element) (rest : List (At Token)) → IsTextOf x.v a → Fills (with_text a o) os ts e rest
    → Fills o os (x ∷ ts) e rest
fills_text x a o [] ts e rest is (c, at, end, content, same, f) =
    (prefixed a c, at, end, content_text (scope_of (o ∷ [])) x a ts c (token_of at (End end) ∷ rest) is content, same, sym (closed_text o a c) ∙ f)
fills_text x a o (p ∷ os) ts e rest is (c, at, end, mid, content, same, more) = (
  prefixed a c,
  at,
  end,
  mid,
  content_text (scope_of (o ∷ p ∷ os)) x a ts c (token_of at (End end) ∷ mid) is content,
  same,
  subst (λ (y : Element). Fills (with_child y p) os mid e rest) (closed_text o a c) more,
)

-- a token that gives nothing
pub fills_nothing : (x : At Token) (o : Open) (os : List Open) (ts : List (At Token)) (e : Element) (rest : List (At Token)) → IsTextOf x.v [] → Fills o os ts e rest → Fills o os (x ∷ ts) e rest
fills_nothing x o [] ts e rest is (c, at, end, content, same, f) = (
  c,
  at,
  end,
  subst (λ (y : Content). IsContent (scope_of (o ∷ [])) (x ∷ ts) y (token_of at (End end) ∷ rest)) (prefixed_none c)
      (content_text (scope_of (o ∷ [])) x [] ts c (token_of at (End end) ∷ rest) is content),
  same,
  f,
)
fills_nothing x o (p ∷ os) ts e rest is (c, at, end, mid, content, same, more) = (
  c,
  at,
  end,
  mid,
  subst (λ (y : Content). IsContent (scope_of (o ∷ p ∷ os)) (x ∷ ts) y (token_of at (End end) ∷ mid)) (prefixed_none c)
      (content_text (scope_of (o ∷ p ∷ os)) x [] ts c (token_of at (End end) ∷ mid) is content),
  same,
  more,
)

content_element : (scope : Scope) (ts ds : List (At Token)) (x : Element) (c : Content) (rest : List (At Token)) → IsElement scope ts x ds → IsContent scope ds c rest
    → IsContent scope ts (Next [] x c) rest
content_element scope ts ds x c rest element content = (ts, ds, ([], refl, refl), element, content)

-- a whole element
pub fills_element : (x : Element) (o : Open) (os : List Open) (ts ds : List (At Token)) (e : Element) (rest : List (At Token)) → IsElement (scope_of (o ∷ os)) ts x ds
    → Fills (with_child x o) os ds e rest → Fills o os ts e rest
fills_element x o [] ts ds e rest element (c, at, end, content, same, f) =
    (Next [] x c, at, end, content_element (scope_of (o ∷ [])) ts ds x c (token_of at (End end) ∷ rest) element content, same, sym (closed_child o x c) ∙ f)
fills_element x o (p ∷ os) ts ds e rest element (c, at, end, mid, content, same, more) = (
  Next [] x c,
  at,
  end,
  mid,
  content_element (scope_of (o ∷ p ∷ os)) ts ds x c (token_of at (End end) ∷ mid) element content,
  same,
  subst (λ (y : Element). Fills (with_child y p) os mid e rest) (closed_child o x c) more,
)

-- the tag of an empty element
pub empty_element : (scope : Scope) (left : ℕ) (tag : Tag) (x : Said) (ts : List (At Token)) → said scope left tag ≡ Ok x → tag.empty ≡ true
    → IsElement scope (token_of left (Start tag) ∷ ts) (element_of (opened left tag.name x)) ts
empty_element scope left tag x ts is empty = (tag, x, ts, refl, is, refl, refl, inl (empty, refl, refl))

-- a start-tag, content, and an end-tag
pub whole_element : (scope : Scope) (left : ℕ) (tag : Tag) (x : Said) (ts : List (At Token)) (c : Content) (at : ℕ) (end : At Name) (rest : List (At Token)) → said scope left tag ≡ Ok x → tag.empty ≡ false
    → IsContent (over x.own scope) ts c (token_of at (End end) ∷ rest) → same_name end.v tag.name ≡ true
    → IsElement scope (token_of left (Start tag) ∷ ts) (closed (opened left tag.name x) c) rest
whole_element scope left tag x ts c at end rest is full content same =
    subst (λ (y : Content). IsElement scope (token_of left (Start tag) ∷ ts) (Tagged left x.name x.attributes y) rest) (sym (prefixed_none c))
    (tag, x, ts, refl, is, refl, refl, inr (full, (at, end, content, same)))

-- what opens an element that those tokens close
pub fills_opened : (left : ℕ) (tag : Tag) (x : Said) (o : Open) (os : List Open) (ts : List (At Token)) (e : Element) (rest : List (At Token)) → said (scope_of (o ∷ os)) left tag ≡ Ok x → tag.empty ≡ false
    → Fills (opened left tag.name x) (o ∷ os) ts e rest → Fills o os (token_of left (Start tag) ∷ ts) e rest
fills_opened left tag x o os ts e rest is full (c, at, end, mid, content, same, more) =
    fills_element (closed (opened left tag.name x) c) o os (token_of left (Start tag) ∷ ts) mid e rest (whole_element (scope_of (o ∷ os)) left tag x ts c at end mid is full content same) more

-- an end-tag
pub fills_end : (at : ℕ) (end : At Name) (o p : Open) (os : List Open) (ts : List (At Token)) (e : Element) (rest : List (At Token)) → same_name end.v o.written ≡ true
    → Fills (with_child (element_of o) p) os ts e rest → Fills o (p ∷ os) (token_of at (End end) ∷ ts) e rest
fills_end at end o p os ts e rest same more =
    (Last [], at, end, ts, ([], refl, refl), same, subst (λ (y : Element). Fills (with_child y p) os ts e rest) (sym (closed_last o)) more)

pub fills_last : (at : ℕ) (end : At Name) (o : Open) (ts : List (At Token)) → same_name end.v o.written ≡ true → Fills o [] (token_of at (End end) ∷ ts) (element_of o) ts
fills_last at end o ts same = (Last [], at, end, ([], refl, refl), same, closed_last o)
