-- The tokens of a text, at other places, spell a tree that says the same.
use Rattle.std.proofs.Common.{◌≡◌, inl, inr, ℕ, ◌+◌, max, Bool, true, false, List, [], ◌∷◌, ◌++◌, refl, sym, ap, ◌∙◌, subst}
use Rattle.xml_text.specs.Tokens.{At, Piece, Literal, Referred, Token, Start, End, Characters, Refers, Section, Nothing}
use Rattle.xml_tree.specs.Trees as trees
use Rattle.xml_tree.specs.Trees.{Element, Tagged, Content, Last, Next}
use Rattle.xml_tree.specs.Scope.{Scope, unbound, over, same_name}
use Rattle.xml_tree.specs.Grammar.{IsTextOf, AreTextOf, IsElement, IsContent, depth, content_depth, IsOutside, AreOutside, IsDocument}
use Rattle.csl_laws.specs.Alike.{IsOneOf, AreSameAttributes, AreSameTexts, AreAlike, AreAlikeInside}
use Rattle.csl_laws.specs.Places.{AreEachSame, IsSamePiece, IsSameAttribute, IsSameToken, AreSameTokens}
use Rattle.csl_laws.proofs.SaidAgain.{Same, SaidAgain, said_again}

-- ---- lists

each_split : {X : Type 0} (R : X → X → Type 0) (xs ys us : List X) → AreEachSame R (xs ++ ys) us
    → (first : List X) × (second : List X) × (us ≡ first ++ second) × AreEachSame R xs first × AreEachSame R ys second
each_split R [] ys us all = ([], us, refl, tt, all)
each_split R (x ∷ xs) ys [] all = absurd all
each_split {X} R (x ∷ xs) ys (u ∷ us) (one, all) =
    let k : (first : List X) × (second : List X) × (us ≡ first ++ second) × AreEachSame R xs first × AreEachSame R ys second = each_split R xs ys us all in
    (u ∷ k.0, k.1, ap (λ (zs : List X). u ∷ zs) k.2, (one, k.3), k.4)

pub each_join : {X : Type 0} (R : X → X → Type 0) (xs ys us vs : List X) → AreEachSame R xs us → AreEachSame R ys vs → AreEachSame R (xs ++ ys) (us ++ vs)
each_join R [] ys [] vs all more = more
each_join R [] ys (u ∷ us) vs all more = absurd all
each_join R (x ∷ xs) ys [] vs all more = absurd all
each_join R (x ∷ xs) ys (u ∷ us) vs (one, all) more = (one, each_join R xs ys us vs all more)

each_itself : {X : Type 0} (R : X → X → Type 0) → ((x : X) → R x x) → (xs : List X) → AreEachSame R xs xs
each_itself R one [] = tt
each_itself R one (x ∷ xs) = (one x, each_itself R one xs)

piece_itself : (p : Piece) → IsSamePiece p p
piece_itself (Literal t) = refl
piece_itself (Referred r) = refl

token_itself : (k : Token) → IsSameToken k k
token_itself (Start tag) = (tag, refl, (refl, each_itself IsSameAttribute (λ a. (refl, each_itself IsSamePiece piece_itself a.v.value)) tag.attributes, refl))
token_itself (End n) = (n, refl, refl)
token_itself (Characters t) = refl
token_itself (Refers r) = refl
token_itself (Section t) = refl
token_itself Nothing = refl

pub tokens_themselves : (ts : List (At Token)) → AreSameTokens ts ts
tokens_themselves ts = each_itself (λ (x : At Token) (y : At Token). IsSameToken x.v y.v) (λ x. token_itself x.v) ts

-- ---- texts, and what stands outside

text_again : (k l : Token) (t : List ℕ) → IsSameToken k l → IsTextOf k t → IsTextOf l t
text_again (Start tag) l t same text = absurd text
text_again (End n) l t same text = absurd text
text_again (Characters cs) l t same text = subst (λ (z : Token). IsTextOf z t) (sym same) text
text_again (Refers r) l t same text = subst (λ (z : Token). IsTextOf z t) (sym same) text
text_again (Section cs) l t same text = subst (λ (z : Token). IsTextOf z t) (sym same) text
text_again Nothing l t same text = subst (λ (z : Token). IsTextOf z t) (sym same) text

texts_again : (xs ys : List (At Token)) (t : List ℕ) → AreSameTokens xs ys → AreTextOf xs t → AreTextOf ys t
texts_again [] [] t all text = text
texts_again [] (y ∷ ys) t all text = absurd all
texts_again (x ∷ xs) [] t all text = absurd all
texts_again (x ∷ xs) (y ∷ ys) t (one, all) (a, b, p, q, e) = (a, b, text_again x.v y.v a one p, texts_again xs ys b all q, e)

outside_again : (k l : Token) → IsSameToken k l → IsOutside k → IsOutside l
outside_again (Start tag) l same out = absurd out
outside_again (End n) l same out = absurd out
outside_again (Characters cs) l same out = subst IsOutside (sym same) out
outside_again (Refers r) l same out = absurd out
outside_again (Section cs) l same out = absurd out
outside_again Nothing l same out = subst IsOutside (sym same) out

all_outside_again : (xs ys : List (At Token)) → AreSameTokens xs ys → AreOutside xs → AreOutside ys
all_outside_again [] [] all out = out
all_outside_again [] (y ∷ ys) all out = absurd all
all_outside_again (x ∷ xs) [] all out = absurd all
all_outside_again (x ∷ xs) (y ∷ ys) (one, all) (first, out) = (outside_again x.v y.v one first, all_outside_again xs ys all out)

-- ---- attributes

one_of_again : (xs ys : List (At trees.Attribute)) → AreEachSame Same xs ys → (a : trees.Attribute) → IsOneOf xs a → IsOneOf ys a
one_of_again [] [] all a is = is
one_of_again [] (y ∷ ys) all a is = absurd all
one_of_again (x ∷ xs) [] all a is = absurd all
one_of_again (x ∷ xs) (y ∷ ys) (one, all) a (inl e) = inl (sym one ∙ e)
one_of_again (x ∷ xs) (y ∷ ys) (one, all) a (inr i) = inr (one_of_again xs ys all a i)

one_of_before : (xs ys : List (At trees.Attribute)) → AreEachSame Same xs ys → (a : trees.Attribute) → IsOneOf ys a → IsOneOf xs a
one_of_before [] [] all a is = is
one_of_before [] (y ∷ ys) all a is = absurd all
one_of_before (x ∷ xs) [] all a is = absurd all
one_of_before (x ∷ xs) (y ∷ ys) (one, all) a (inl e) = inl (one ∙ e)
one_of_before (x ∷ xs) (y ∷ ys) (one, all) a (inr i) = inr (one_of_before xs ys all a i)

text_itself : (here : Bool) (t : List ℕ) → AreSameTexts here t t
text_itself true t = refl
text_itself false t = refl

-- ---- elements

pub record ElementAgain (counts : Element → Bool) (scope : Scope) (e : Element) (us rest : List (At Token)) : Type 0 where
  pub it : Element
  pub others : List (At Token)
  pub spelled : IsElement scope us it others
  pub alike : AreAlike counts e it
  pub same : AreSameTokens rest others

pub record ContentAgain (counts : Element → Bool) (scope : Scope) (c : Content) (us rest : List (At Token)) : Type 0 where
  pub it : Content
  pub others : List (At Token)
  pub spelled : IsContent scope us it others
  pub alike : (here : Bool) → AreAlikeInside counts here c it
  pub same : AreSameTokens rest others

first_token : (x : At Token) (xs us : List (At Token)) → AreSameTokens (x ∷ xs) us → (u : At Token) × (more : List (At Token)) × (us ≡ u ∷ more) × IsSameToken x.v u.v × AreSameTokens xs more
first_token x xs [] all = absurd all
first_token x xs (u ∷ us) (one, all) = (u, us, refl, one, all)

mutual
  element_again : (counts : Element → Bool) (scope : Scope) (ts : List (At Token)) (e : Element) (rest : List (At Token)) → IsElement scope ts e rest → (us : List (At Token)) → AreSameTokens ts us
      → ElementAgain counts scope e us rest
  element_again counts scope ts (Tagged left name attributes content) rest (tag, x, inside, is, says, names, all, inl (empty, none, ends)) us same =
      let k = first_token (record { v = Start tag; left = left }) inside us (subst (λ (z : List (At Token)). AreSameTokens z us) is same) in
      let s : SaidAgain x scope k.0.left k.3.0 = said_again scope left k.0.left tag k.3.0 x k.3.2 says in
      record {
        it = Tagged k.0.left s.it.name s.it.attributes (Last []);
        others = k.1;
        spelled = (k.3.0, s.it, k.1, k.2 ∙ (λ j. record { v = k.3.1 j; left = k.0.left } ∷ k.1), s.is, refl, refl, inl (sym k.3.2.2 ∙ empty, refl, refl));
        alike = (
          names ∙ s.name,
          subst (λ (zs : List (At trees.Attribute)). AreSameAttributes zs s.it.attributes) (sym all) (s.once, s.once_again, λ a. (one_of_again x.attributes s.it.attributes s.attributes a, one_of_before x.attributes s.it.attributes s.attributes a)),
          subst (λ (z : Content). AreAlikeInside counts (counts (Tagged left name attributes content)) z (Last [])) (sym none) (text_itself (counts (Tagged left name attributes content)) []),
        );
        same = subst (λ (z : List (At Token)). AreSameTokens z k.1) ends k.4;
      }
  element_again counts scope ts (Tagged left name attributes content) rest (tag, x, inside, is, says, names, all, inr (filled, (place, end, content_is, closes))) us same =
      let k = first_token (record { v = Start tag; left = left }) inside us (subst (λ (z : List (At Token)). AreSameTokens z us) is same) in
      let s : SaidAgain x scope k.0.left k.3.0 = said_again scope left k.0.left tag k.3.0 x k.3.2 says in
      let c : ContentAgain counts (over x.own scope) content k.1 (record { v = End end; left = place } ∷ rest) = content_again counts (over x.own scope) inside content (record { v = End end; left = place } ∷ rest) content_is k.1 k.4 in
      let l = first_token (record { v = End end; left = place }) rest c.others c.same in
      let tail : c.others ≡ record { v = End l.3.0; left = l.0.left } ∷ l.1 = l.2 ∙ (λ j. record { v = l.3.1 j; left = l.0.left } ∷ l.1) in
      record {
        it = Tagged k.0.left s.it.name s.it.attributes c.it;
        others = l.1;
        spelled = (
          k.3.0,
          s.it,
          k.1,
          k.2 ∙ (λ j. record { v = k.3.1 j; left = k.0.left } ∷ k.1),
          s.is,
          refl,
          refl,
          inr (
            sym k.3.2.2 ∙ filled,
            (
              l.0.left,
              l.3.0,
              subst (λ (o : Scope). IsContent (over o scope) k.1 c.it (record { v = End l.3.0; left = l.0.left } ∷ l.1)) s.own (subst (IsContent (over x.own scope) k.1 c.it) tail c.spelled),
              (λ j. same_name (sym l.3.2 j) (sym k.3.2.0 j)) ∙ closes,
            ),
          ),
        );
        alike = (
          names ∙ s.name,
          subst (λ (zs : List (At trees.Attribute)). AreSameAttributes zs s.it.attributes) (sym all) (s.once, s.once_again, λ a. (one_of_again x.attributes s.it.attributes s.attributes a, one_of_before x.attributes s.it.attributes s.attributes a)),
          c.alike (counts (Tagged left name attributes content)),
        );
        same = l.4;
      }

  content_again : (counts : Element → Bool) (scope : Scope) (ts : List (At Token)) (c : Content) (rest : List (At Token)) → IsContent scope ts c rest → (us : List (At Token)) → AreSameTokens ts us
      → ContentAgain counts scope c us rest
  content_again counts scope ts (Last t) rest (run, split, are) us same =
      let k = each_split (λ (x : At Token) (y : At Token). IsSameToken x.v y.v) run rest us (subst (λ (z : List (At Token)). AreSameTokens z us) split same) in
      record { it = Last t; others = k.1; spelled = (k.0, k.2, texts_again run k.0 t k.3 are); alike = λ here. text_itself here t; same = k.4 }
  content_again counts scope ts (Next t e c) rest (a, b, (run, split, are), element, more) us same =
      let k = each_split (λ (x : At Token) (y : At Token). IsSameToken x.v y.v) run a us (subst (λ (z : List (At Token)). AreSameTokens z us) split same) in
      let f : ElementAgain counts scope e k.1 b = element_again counts scope a e b element k.1 k.4 in
      let d : ContentAgain counts scope c f.others rest = content_again counts scope b c rest more f.others f.same in
      record {
        it = Next t f.it d.it;
        others = d.others;
        spelled = (k.1, f.others, (k.0, k.2, texts_again run k.0 t k.3 are), f.spelled, d.spelled);
        alike = λ here. (text_itself here t, f.alike, d.alike here);
        same = d.same;
      }

-- ---- documents

pub document_again : (counts : Element → Bool) (ts us : List (At Token)) (e : Element) → IsDocument ts e → AreSameTokens ts us → (f : Element) × IsDocument us f × AreAlike counts e f
document_again counts ts us e (before, root, behind, is, out, element, later) same =
    let k = each_split (λ (x : At Token) (y : At Token). IsSameToken x.v y.v) before root us (subst (λ (z : List (At Token)). AreSameTokens z us) is same) in
    let f : ElementAgain counts unbound e k.1 behind = element_again counts unbound root e behind element k.1 k.4 in
    (f.it, (k.0, k.1, f.others, k.2, all_outside_again before k.0 k.3 out, f.spelled, all_outside_again behind f.others f.same later), f.alike)

-- ---- depth

mutual
  pub depth_same : (counts : Element → Bool) (x y : Element) → AreAlike counts x y → depth x ≡ depth y
  depth_same counts (Tagged left n ps c) (Tagged right m bs d) (names, same, inside) = ap (λ (k : ℕ). k + 1) (content_depth_same counts (counts (Tagged left n ps c)) c d inside)

  content_depth_same : (counts : Element → Bool) (here : Bool) (c d : Content) → AreAlikeInside counts here c d → content_depth c ≡ content_depth d
  content_depth_same counts here (Last t) (Last u) a = refl
  content_depth_same counts here (Last t) (Next u f d) a = absurd a
  content_depth_same counts here (Next t e c) (Last u) a = absurd a
  content_depth_same counts here (Next t e c) (Next u f d) (ts, es, rest) = λ j. max (depth_same counts e f es j) (content_depth_same counts here c d rest j)
