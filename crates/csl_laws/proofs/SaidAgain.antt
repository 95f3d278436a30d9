-- What a tag says does not go by the places of its attributes and references.
use Rattle.std.proofs.Common.{◌≡◌, ℕ, Bool, true, false, cond, ◌||◌, List, [], ◌∷◌, ◌++◌, map, Option, Some, None, Result, Ok, Err, codes, refl, sym, ap, ◌∙◌, subst}
use Rattle.laws.specs.Results.{◌>>=◌}
use Rattle.laws.proofs.Results.{ok_is, bind_ok, test_ok, guard_ok}
use Rattle.laws.specs.Text.{if_filled}
use Rattle.xml_text.specs.Tokens.{At, Name, Piece, Literal, Referred, Tag}
use Rattle.xml_text.specs.Tokens as tokens
use Rattle.xml_text.specs.Values.{character_of}
use Rattle.xml_text.specs.declared.fault.Fault.{Fault}
use Rattle.xml_text.specs.declared.fault.Fault.TheVariants as faults
use Rattle.xml_tree.specs.Trees.{FullName, Attribute}
use Rattle.xml_tree.specs.Folding.{folded}
use Rattle.xml_tree.specs.Values.{Refusal, lines_of, spaced, placed_character, with_more, with_piece, value_of}
use Rattle.xml_tree.specs.Scope.{Scope, unbound, bound, over, same_name, same_full_name, declared_prefix, is_allowed, or_unbound, space_of, element_space, attribute_space, is_word, xml_space}
use Rattle.xml_tree.specs.Names.{Valued, is_written, valued_as, with_value, valued, with_declaration, declare, declared, named_in, with_named, with_expanded, expand, expanded, repeated, unrepeated, distinct, Said, named, said}
use Rattle.csl_laws.specs.Places.{AreEachSame, IsSamePiece, IsSameAttribute, IsSameTag}

-- the same, wherever it stands
abbrev pub Same : {X : Type 0} → At X → At X → Type 0
Same x y = x.v ≡ y.v

each_append : {X : Type 0} (R : X → X → Type 0) (xs ys : List X) (x y : X) → AreEachSame R xs ys → R x y → AreEachSame R (xs ++ x ∷ []) (ys ++ y ∷ [])
each_append R [] [] x y all one = (one, tt)
each_append R [] (b ∷ ys) x y all one = absurd all
each_append R (a ∷ xs) [] x y all one = absurd all
each_append R (a ∷ xs) (b ∷ ys) x y (first, all) one = (first, each_append R xs ys x y all one)

ok_same : {F A : Type 0} (x y : A) (r : Result A F) → r ≡ Ok x → r ≡ Ok y → x ≡ y
ok_same x y r e f = cc

-- steps over two lists
folds_again : {A S F : Type 0} (R : A → A → Type 0) (Q : S → S → Type 0) (step : S → A → Result S F)
    → ((s t : S) (a b : A) (more : S) → Q s t → R a b → step s a ≡ Ok more → (other : S) × (step t b ≡ Ok other) × Q more other)
    → (xs ys : List A) (s t end : S) → Q s t → AreEachSame R xs ys → folded step s xs ≡ Ok end → (other : S) × (folded step t ys ≡ Ok other) × Q end other
folds_again {A} {S} {F} R Q step one [] [] s t end q all e = (t, refl, subst (λ (u : S). Q u t) (ok_same s end (folded step s []) refl e) q)
folds_again R Q step one [] (b ∷ ys) s t end q all e = absurd all
folds_again R Q step one (a ∷ xs) [] s t end q all e = absurd all
folds_again {A} {S} {F} R Q step one (a ∷ xs) (b ∷ ys) s t end q (first, all) e =
    let k = bind_ok (step s a) (λ more. folded step more xs) end e in
    let l : (other : S) × (step t b ≡ Ok other) × Q k.0 other = one s t a b k.0 q first k.1 in
    let m : (other : S) × (folded step l.0 ys ≡ Ok other) × Q end other = folds_again R Q step one xs ys k.0 l.0 end l.2 all k.2 in
    (m.0, ap (λ (r : Result S F). r >>= λ more. folded step more ys) l.1 ∙ m.1, m.2)

-- ---- values

character_again : (k : Result ℕ Fault) (s t end : List ℕ) (left right : ℕ) → s ≡ t → with_more s (placed_character left k) ≡ Ok end
    → (other : List ℕ) × (with_more t (placed_character right k) ≡ Ok other) × (end ≡ other)
character_again (Ok c) s t end left right q e =
    (t ++ c ∷ [], refl, ok_same end (s ++ c ∷ []) (with_more s (placed_character left (Ok c))) e refl ∙ ap (λ (u : List ℕ). u ++ c ∷ []) q)
character_again (Err f) s t end left right q e = absurd cc

piece_again : (s t : List ℕ) (a b : Piece) (more : List ℕ) → s ≡ t → IsSamePiece a b → with_piece s a ≡ Ok more → (other : List ℕ) × (with_piece t b ≡ Ok other) × (more ≡ other)
piece_again s t (Literal a) (Literal b) more q same e =
    (t ++ map spaced (lines_of b), refl, ok_same more (s ++ map spaced (lines_of a)) (with_piece s (Literal a)) e refl ∙ (λ j. q j ++ map spaced (lines_of (same j))))
piece_again s t (Literal a) (Referred r) more q same e = absurd same
piece_again s t (Referred r) (Literal b) more q same e = absurd same
piece_again s t (Referred r) (Referred u) more q same e =
    character_again (character_of u.v) s t more r.left u.left q (ap (λ (k : tokens.Reference). with_more s (placed_character r.left (character_of k))) (sym same) ∙ e)

value_again : (ps qs : List Piece) (v : List ℕ) → AreEachSame IsSamePiece ps qs → value_of ps ≡ Ok v → value_of qs ≡ Ok v
value_again ps qs v all e =
    let k : (other : List ℕ) × (folded with_piece [] qs ≡ Ok other) × (v ≡ other) = folds_again IsSamePiece (λ (x y : List ℕ). x ≡ y) with_piece piece_again ps qs [] [] v refl all e in
    k.1 ∙ ap (λ (x : List ℕ). Ok x) (sym k.2)

-- ---- attributes with their values

written_same : (xs ys : List (At Valued)) (name : Name) → AreEachSame Same xs ys → is_written xs name ≡ is_written ys name
written_same [] [] name all = refl
written_same [] (y ∷ ys) name all = absurd all
written_same (x ∷ xs) [] name all = absurd all
written_same (x ∷ xs) (y ∷ ys) name (first, all) = λ j. same_name (first j).name name || written_same xs ys name all j

valued_step : (s t : List (At Valued)) (a b : At tokens.Attribute) (more : List (At Valued)) → AreEachSame Same s t → IsSameAttribute a b → with_value s a ≡ Ok more
    → (other : List (At Valued)) × (with_value t b ≡ Ok other) × AreEachSame Same more other
valued_step s t a b more q (names, values) e =
    let g = guard_ok (is_written s a.v.name) (value_of a.v.value >>= λ value. Ok (s ++ valued_as a value ∷ [])) (faults.Repeated, a.left) more e in
    let k = bind_ok (value_of a.v.value) (λ value. Ok (s ++ valued_as a value ∷ [])) more g.1 in
    let new : is_written t b.v.name ≡ false = sym (written_same s t b.v.name q) ∙ (ap (is_written s) (sym names) ∙ g.0) in
    let value : value_of b.v.value ≡ Ok k.0 = value_again a.v.value b.v.value k.0 values k.1 in
    let made : with_value t b ≡ Ok (t ++ valued_as b k.0 ∷ []) = rw (new, value) refl in (
      t ++ valued_as b k.0 ∷ [],
      made,
      subst (λ (x : List (At Valued)). AreEachSame Same x (t ++ valued_as b k.0 ∷ [])) (ok_same (s ++ valued_as a k.0 ∷ []) more (Ok (s ++ valued_as a k.0 ∷ [])) refl k.2)
          (each_append Same s t (valued_as a k.0) (valued_as b k.0) q (λ j. record { name = names j; value = k.0 })),
    )

valued_again : (xs ys : List (At tokens.Attribute)) (end : List (At Valued)) → AreEachSame IsSameAttribute xs ys → valued xs ≡ Ok end
    → (other : List (At Valued)) × (valued ys ≡ Ok other) × AreEachSame Same end other
valued_again xs ys end all e = folds_again IsSameAttribute (AreEachSame Same) with_value valued_step xs ys [] [] end tt all e

-- ---- declarations

declared_step : (s t : Scope) (a b : At Valued) (more : Scope) → s ≡ t → Same a b → declare s a ≡ Ok more → (other : Scope) × (declare t b ≡ Ok other) × (more ≡ other)
declared_step s t a b more q same e =
    by_prefix (declared_prefix b.v.name) (ap (λ (p : Option (Option (List ℕ))). with_declaration s p a) (ap (λ (v : Valued). declared_prefix v.name) (sym same)) ∙ e)
  where
    by_prefix : (p : Option (Option (List ℕ))) → with_declaration s p a ≡ Ok more → (other : Scope) × (with_declaration t p b ≡ Ok other) × (more ≡ other)
    by_prefix None e = (t, refl, ok_same more s (with_declaration s None a) e refl ∙ q)
    by_prefix (Some prefix) e =
        let g = test_ok (is_allowed prefix a.v.value) (Ok (bound prefix (if_filled a.v.value) s)) (faults.Namespace, a.left) more e in
        let allowed : is_allowed prefix b.v.value ≡ true = ap (λ (v : Valued). is_allowed prefix v.value) (sym same) ∙ g.0 in (
          bound prefix (if_filled b.v.value) t,
          rw allowed refl,
          ok_same more (bound prefix (if_filled a.v.value) s) (Ok more) refl (sym g.1) ∙ (λ j. bound prefix (if_filled (same j).value) (q j)),
        )

declared_again : (xs ys : List (At Valued)) (end : Scope) → AreEachSame Same xs ys → declared xs ≡ Ok end → declared ys ≡ Ok end
declared_again xs ys end all e =
    let k : (other : Scope) × (folded declare unbound ys ≡ Ok other) × (end ≡ other) = folds_again Same (λ (x y : Scope). x ≡ y) declare declared_step xs ys unbound unbound end refl all e in
    k.1 ∙ ap (λ (x : Scope). Ok x) (sym k.2)

-- ---- expanded names

bound_again : (left right : ℕ) (o : Option (Option (List ℕ))) (x : Option (List ℕ)) → or_unbound left o ≡ Ok x → or_unbound right o ≡ Ok x
bound_again left right None x e = absurd cc
bound_again left right (Some space) x e = e

space_again : (scope : Scope) (left right : ℕ) (p : List ℕ) (x : Option (List ℕ)) → space_of scope left p ≡ Ok x → space_of scope right p ≡ Ok x
space_again scope left right p x e = by_test (is_word (codes "xml") (Some p)) e
  where
    by_test : (b : Bool) → cond b (Ok (Some xml_space)) (or_unbound left (scope (Some p))) ≡ Ok x → cond b (Ok (Some xml_space)) (or_unbound right (scope (Some p))) ≡ Ok x
    by_test true e = e
    by_test false e = bound_again left right (scope (Some p)) x e

attribute_space_again : (scope : Scope) (left right : ℕ) (p : Option (List ℕ)) (x : Option (List ℕ)) → attribute_space scope left p ≡ Ok x → attribute_space scope right p ≡ Ok x
attribute_space_again scope left right None x e = e
attribute_space_again scope left right (Some p) x e = space_again scope left right p x e

element_space_again : (scope : Scope) (left right : ℕ) (p : Option (List ℕ)) (x : Option (List ℕ)) → element_space scope left p ≡ Ok x → element_space scope right p ≡ Ok x
element_space_again scope left right None x e = e
element_space_again scope left right (Some p) x e = space_again scope left right p x e

expanded_step : (scope : Scope) (s t : List (At Attribute)) (a b : At Valued) (more : List (At Attribute)) → AreEachSame Same s t → Same a b → expand scope s a ≡ Ok more
    → (other : List (At Attribute)) × (expand scope t b ≡ Ok other) × AreEachSame Same more other
expanded_step scope s t a b more q same e =
    by_prefix (declared_prefix b.v.name) (ap (λ (p : Option (Option (List ℕ))). with_expanded scope s p a) (ap (λ (v : Valued). declared_prefix v.name) (sym same)) ∙ e)
  where
    by_prefix : (p : Option (Option (List ℕ))) → with_expanded scope s p a ≡ Ok more → (other : List (At Attribute)) × (with_expanded scope t p b ≡ Ok other) × AreEachSame Same more other
    by_prefix (Some prefix) e = (t, refl, subst (λ (x : List (At Attribute)). AreEachSame Same x t) (ok_same s more (with_expanded scope s (Some prefix) a) refl e) q)
    by_prefix None e =
        let k = bind_ok (attribute_space scope a.left a.v.name.prefix) (λ space. Ok (s ++ named_in space a ∷ [])) more e in
        let space : attribute_space scope b.left b.v.name.prefix ≡ Ok k.0 =
        ap (λ (v : Valued). attribute_space scope b.left v.name.prefix) (sym same) ∙ attribute_space_again scope a.left b.left a.v.name.prefix k.0 k.1 in
        let made : with_named scope t b ≡ Ok (t ++ named_in k.0 b ∷ []) = rw space refl in (
          t ++ named_in k.0 b ∷ [],
          made,
          subst (λ (x : List (At Attribute)). AreEachSame Same x (t ++ named_in k.0 b ∷ [])) (ok_same (s ++ named_in k.0 a ∷ []) more (Ok (s ++ named_in k.0 a ∷ [])) refl k.2)
              (each_append Same s t (named_in k.0 a) (named_in k.0 b) q (λ j. record { name = record { space = k.0; local = (same j).name.local }; value = (same j).value })),
        )

expanded_again : (scope : Scope) (xs ys : List (At Valued)) (end : List (At Attribute)) → AreEachSame Same xs ys → expanded scope xs ≡ Ok end
    → (other : List (At Attribute)) × (expanded scope ys ≡ Ok other) × AreEachSame Same end other
expanded_again scope xs ys end all e = folds_again Same (AreEachSame Same) (expand scope) (expanded_step scope) xs ys [] [] end tt all e

-- ---- names that are not repeated

repeated_again : (met : FullName → Bool) (xs ys : List (At Attribute)) → AreEachSame Same xs ys → repeated met xs ≡ None → repeated met ys ≡ None
repeated_again met [] [] all e = refl
repeated_again met [] (y ∷ ys) all e = absurd all
repeated_again met (x ∷ xs) [] all e = absurd all
repeated_again met (x ∷ xs) (y ∷ ys) (first, all) e = by_test (met x.v.name) (met y.v.name) (ap (λ (v : Attribute). met v.name) first) e
    (λ f. ap (λ (v : Attribute). repeated (λ n. same_full_name v.name n || met n) ys) (sym first) ∙ repeated_again (λ n. same_full_name x.v.name n || met n) xs ys all f)
  where
    by_test : (a b : Bool) → a ≡ b → cond a (Some x.left) (repeated (λ n. same_full_name x.v.name n || met n) xs) ≡ None
        → (repeated (λ n. same_full_name x.v.name n || met n) xs ≡ None → repeated (λ n. same_full_name y.v.name n || met n) ys ≡ None)
        → cond b (Some y.left) (repeated (λ n. same_full_name y.v.name n || met n) ys) ≡ None
    by_test true b same e more = absurd cc
    by_test false true same e more = absurd cc
    by_test false false same e more = more e

distinct_none : (o : Option ℕ) (xs end : List (At Attribute)) → unrepeated o xs ≡ Ok end → (o ≡ None) × (xs ≡ end)
distinct_none None xs end e = (refl, ok_same xs end (unrepeated None xs) refl e)
distinct_none (Some left) xs end e = absurd cc

-- ---- a tag

-- how a tag comes to say what it says
record SaidBy (x : Said) (outer : Scope) (left : ℕ) (tag : Tag) : Type 0 where
  values : List (At Valued)
  own : Scope
  all : List (At Attribute)
  space : Option (List ℕ)
  values_are : valued tag.attributes ≡ Ok values
  own_is : declared values ≡ Ok own
  all_are : expanded (over own outer) values ≡ Ok all
  once : repeated (λ n. false) all ≡ None
  space_is : element_space (over own outer) left tag.name.prefix ≡ Ok space
  is : x ≡ record { own = own; name = record { space = space; local = tag.name.local }; attributes = all }

said_by : (outer : Scope) (left : ℕ) (tag : Tag) (x : Said) → said outer left tag ≡ Ok x → SaidBy x outer left tag
unfolding said
said_by outer left tag x e =
    let a = bind_ok (valued tag.attributes) (λ values. declared values >>= λ own. expanded (over own outer) values >>= λ all. distinct all >>= λ attributes. named outer own left tag.name attributes) x e in
    let b = bind_ok (declared a.0) (λ own. expanded (over own outer) a.0 >>= λ all. distinct all >>= λ attributes. named outer own left tag.name attributes) x a.2 in
    let c = bind_ok (expanded (over b.0 outer) a.0) (λ all. distinct all >>= λ attributes. named outer b.0 left tag.name attributes) x b.2 in
    by_all a.0 b.0 c.0 a.1 b.1 c.1 c.2
  where
    by_space : (values : List (At Valued)) (own : Scope) (all : List (At Attribute)) (space : Option (List ℕ)) → valued tag.attributes ≡ Ok values → declared values ≡ Ok own → expanded (over own outer) values ≡ Ok all
        → repeated (λ n. false) all ≡ None → element_space (over own outer) left tag.name.prefix ≡ Ok space
        → ◌≡◌ {A = Result Said Refusal} (Ok (record { own = own; name = record { space = space; local = tag.name.local }; attributes = all })) (Ok x) → SaidBy x outer left tag
    by_space values own all space vs os as_all once sp e = record {
      values = values;
      own = own;
      all = all;
      space = space;
      values_are = vs;
      own_is = os;
      all_are = as_all;
      once = once;
      space_is = sp;
      is = sym (ok_is {F = Refusal} (record { own = own; name = record { space = space; local = tag.name.local }; attributes = all }) x e);
    }

    by_attributes : (values : List (At Valued)) (own : Scope) (all attributes : List (At Attribute)) → valued tag.attributes ≡ Ok values → declared values ≡ Ok own → expanded (over own outer) values ≡ Ok all
        → distinct all ≡ Ok attributes → named outer own left tag.name attributes ≡ Ok x → SaidBy x outer left tag
    by_attributes values own all attributes vs os as_all e f =
        let u : (repeated (λ n. false) all ≡ None) × (all ≡ attributes) = distinct_none (repeated (λ n. false) all) all attributes e in
        let k = bind_ok (element_space (over own outer) left tag.name.prefix) (λ space. Ok (record { own = own; name = record { space = space; local = tag.name.local }; attributes = all })) x
        (ap (λ (zs : List (At Attribute)). named outer own left tag.name zs) u.1 ∙ f) in
        by_space values own all k.0 vs os as_all u.0 k.1 k.2

    by_all : (values : List (At Valued)) (own : Scope) (all : List (At Attribute)) → valued tag.attributes ≡ Ok values → declared values ≡ Ok own → expanded (over own outer) values ≡ Ok all
        → (distinct all >>= λ attributes. named outer own left tag.name attributes) ≡ Ok x → SaidBy x outer left tag
    by_all values own all vs os as_all e =
        let d = bind_ok (distinct all) (λ attributes. named outer own left tag.name attributes) x e in
        by_attributes values own all d.0 vs os as_all d.1 d.2

said_from : (outer own : Scope) (left : ℕ) (tag : Tag) (values : List (At Valued)) (all : List (At Attribute)) (space : Option (List ℕ)) → valued tag.attributes ≡ Ok values → declared values ≡ Ok own
    → expanded (over own outer) values ≡ Ok all → repeated (λ n. false) all ≡ None → element_space (over own outer) left tag.name.prefix ≡ Ok space
    → said outer left tag ≡ Ok (record { own = own; name = record { space = space; local = tag.name.local }; attributes = all })
unfolding said
said_from outer own left tag values all space vs os as_all once sp =
    let free : distinct all ≡ Ok all = ap (λ (o : Option ℕ). unrepeated o all) once in
    rw (vs, os, as_all, free, sp) refl

pub record SaidAgain (x : Said) (outer : Scope) (left : ℕ) (tag : Tag) : Type 0 where
  pub it : Said
  pub is : said outer left tag ≡ Ok it
  pub own : x.own ≡ it.own
  pub name : x.name ≡ it.name
  pub attributes : AreEachSame Same x.attributes it.attributes
  pub once : repeated (λ n. false) x.attributes ≡ None
  pub once_again : repeated (λ n. false) it.attributes ≡ None

again_by : (outer : Scope) (left right : ℕ) (tag other : Tag) (x : Said) → IsSameTag tag other → SaidBy x outer left tag → SaidAgain x outer right other
again_by outer left right tag other x (names, attributes, empties) k =
    let v : (vs : List (At Valued)) × (valued other.attributes ≡ Ok vs) × AreEachSame Same k.values vs = valued_again tag.attributes other.attributes k.values attributes k.values_are in
    let own : declared v.0 ≡ Ok k.own = declared_again k.values v.0 k.own v.2 k.own_is in
    let all : (as_all : List (At Attribute)) × (expanded (over k.own outer) v.0 ≡ Ok as_all) × AreEachSame Same k.all as_all = expanded_again (over k.own outer) k.values v.0 k.all v.2 k.all_are in
    let free : repeated (λ n. false) all.0 ≡ None = repeated_again (λ n. false) k.all all.0 all.2 k.once in
    let space : element_space (over k.own outer) right other.name.prefix ≡ Ok k.space =
    ap (λ (n : Name). element_space (over k.own outer) right n.prefix) (sym names) ∙ element_space_again (over k.own outer) left right tag.name.prefix k.space k.space_is in
    record {
      it = record { own = k.own; name = record { space = k.space; local = other.name.local }; attributes = all.0 };
      is = said_from outer k.own right other v.0 all.0 k.space v.1 own all.1 free space;
      own = ap (λ (z : Said). z.own) k.is;
      name = ap (λ (z : Said). z.name) k.is ∙ (λ j. record { space = k.space; local = (names j).local });
      attributes = subst (λ (z : Said). AreEachSame Same z.attributes all.0) (sym k.is) all.2;
      once = ap (λ (z : Said). repeated (λ n. false) z.attributes) k.is ∙ k.once;
      once_again = free;
    }

pub said_again : (outer : Scope) (left right : ℕ) (tag other : Tag) (x : Said) → IsSameTag tag other → said outer left tag ≡ Ok x → SaidAgain x outer right other
said_again outer left right tag other x same e = again_by outer left right tag other x same (said_by outer left tag x e)
