-- The attributes of a tag stay what they are where another text follows them, but for the places at which they stand.
use Rattle.std.proofs.Common.{◌≡◌, ℕ, Bool, true, List, [], ◌∷◌, ◌++◌, Option, Some, None, refl, sym, ap, ◌∙◌, subst, append_assoc}
use Rattle.laws.specs.Runs.{Bars}
use Rattle.xml_text.specs.Character.{passes}
use Rattle.xml_text.specs.Tokens.{At, Name, Reference, Entity, Decimal, Hexadecimal, Piece, Literal, Referred, Attribute}
use Rattle.xml_text.specs.Reading.{left_of, begins}
use Rattle.xml_text.specs.Tags.{mark_of, quoted_class}
use Rattle.xml_text.specs.Grammar.{IsRun, IsSpace, IsPlainName, IsNameOf, IsName, IsReference, AreEach, IsPiece, EndsPieces, IsValue, IsAttribute, IsSpacedAttribute, EndsAttributes, AreAttributes}
use Rattle.csl_laws.specs.Places.{AreEachSame, IsSamePiece, IsSameAttribute}

-- ---- the first character of a text

abbrev pub head : List ℕ → Option ℕ
head [] = None
head (c ∷ cs) = Some c

bars_same : (test : ℕ → Bool) (r s : List ℕ) → head r ≡ head s → Bars test r → Bars test s
bars_same test [] [] e b = tt
bars_same test [] (d ∷ s) e b = absurd cc
bars_same test (c ∷ r) [] e b = absurd cc
bars_same test (c ∷ r) (d ∷ s) e b = let same : d ≡ c = cc in ap test same ∙ b

begins_same : (class : _) (r s : List ℕ) → head r ≡ head s → begins class r ≡ begins class s
begins_same class [] [] e = refl
begins_same class [] (d ∷ s) e = absurd cc
begins_same class (c ∷ r) [] e = absurd cc
begins_same class (c ∷ r) (d ∷ s) e = let same : c ≡ d = cc in ap (passes class) same

pub begins_again : (class : _) (r s cs : List ℕ) → cs ≡ s → head s ≡ head r → begins class cs ≡ true → begins class r ≡ true
begins_again class r s cs is same begin = begins_same class r s (sym same) ∙ (ap (begins class) (sym is) ∙ begin)

pub heads : (w r s : List ℕ) → head r ≡ head s → head (w ++ r) ≡ head (w ++ s)
heads [] r s e = e
heads (c ∷ w) r s e = refl

-- ---- what stays before each text, or before each that begins as the one that followed

pub record Frees (R : List ℕ → List ℕ → Type 0) (cs rest : List ℕ) : Type 0 where
  pub w : List ℕ
  pub is : cs ≡ w ++ rest
  pub on : (r : List ℕ) → R (w ++ r) r

pub record Moves (R : List ℕ → List ℕ → Type 0) (cs rest : List ℕ) : Type 0 where
  pub w : List ℕ
  pub is : cs ≡ w ++ rest
  pub on : (r : List ℕ) → head rest ≡ head r → R (w ++ r) r

-- one after the other
pub record Then (R S : List ℕ → List ℕ → Type 0) (cs rest : List ℕ) : Type 0 where
  pub mid : List ℕ
  pub first : R cs mid
  pub second : S mid rest

-- something that is the same as x but for places
pub record Again (X : Type 0) (Same : X → X → Type 0) (I : List ℕ → X → List ℕ → Type 0) (x : X) (cs rest : List ℕ) : Type 0 where
  pub it : X
  pub same : Same x it
  pub stands : I cs it rest

abbrev pub Is : ℕ → List ℕ → List ℕ → Type 0
Is c cs rest = cs ≡ c ∷ rest

free_moves : (R : List ℕ → List ℕ → Type 0) (cs rest : List ℕ) → Frees R cs rest → Moves R cs rest
free_moves R cs rest f = record { w = f.w; is = f.is; on = λ r same. f.on r }

pub moves_as : (R S : List ℕ → List ℕ → Type 0) (cs rest : List ℕ) → ((u v : List ℕ) → R u v → S u v) → Moves R cs rest → Moves S cs rest
moves_as R S cs rest f m = record { w = m.w; is = m.is; on = λ r same. f (m.w ++ r) r (m.on r same) }

pub frees_as : (R S : List ℕ → List ℕ → Type 0) (cs rest : List ℕ) → ((u v : List ℕ) → R u v → S u v) → Frees R cs rest → Frees S cs rest
frees_as R S cs rest f m = record { w = m.w; is = m.is; on = λ r. f (m.w ++ r) r (m.on r) }

pub then_moves : (R S : List ℕ → List ℕ → Type 0) (cs a rest : List ℕ) → Moves R cs a → Moves S a rest → Moves (Then R S) cs rest
then_moves R S cs a rest m k = record {
  w = m.w ++ k.w;
  is = m.is ∙ (ap (λ (u : List ℕ). m.w ++ u) k.is ∙ sym (append_assoc m.w k.w rest));
  on = λ r same. record {
    mid = k.w ++ r;
    first = subst (λ (u : List ℕ). R u (k.w ++ r)) (sym (append_assoc m.w k.w r)) (m.on (k.w ++ r) (ap head k.is ∙ heads k.w rest r same));
    second = k.on r same;
  };
}

is_moves : (c : ℕ) (rest : List ℕ) → Moves (Is c) (c ∷ rest) rest
is_moves c rest = record { w = c ∷ []; is = refl; on = λ r same. refl }

-- after a character
after_frees : (R : List ℕ → List ℕ → Type 0) (c : ℕ) (cs a rest : List ℕ) → cs ≡ c ∷ a → Frees R a rest → Frees (Then (Is c) R) cs rest
after_frees R c cs a rest e f = record {
  w = c ∷ f.w;
  is = e ∙ ap (λ (u : List ℕ). c ∷ u) f.is;
  on = λ r. record { mid = f.w ++ r; first = refl; second = f.on r };
}

-- up to a word, which each text may follow
pub until : (R : List ℕ → List ℕ → Type 0) (c : ℕ) (word cs rest : List ℕ) → Moves R cs (c ∷ word ++ rest) → Frees (λ u v. R u (c ∷ word ++ v)) cs rest
until R c word cs rest m = record {
  w = m.w ++ (c ∷ word);
  is = m.is ∙ sym (append_assoc m.w (c ∷ word) rest);
  on = λ r. subst (λ (u : List ℕ). R u (c ∷ word ++ r)) (sym (append_assoc m.w (c ∷ word) r)) (m.on (c ∷ word ++ r) refl);
}

-- ---- names, white space and references

run_moves : (first class : _) (cs t rest : List ℕ) → IsRun first class cs t rest → Moves (λ u v. IsRun first class u t v) cs rest
run_moves first class cs t rest (e, b, all, bars) = record { w = t; is = e; on = λ r same. (refl, b, all, bars_same (passes class) rest r same bars) }

pub space_moves : (cs rest : List ℕ) → IsSpace cs rest → Moves IsSpace cs rest
space_moves cs rest (t, e, all, bars) = record { w = t; is = e; on = λ r same. (t, refl, all, bars_same _ rest r same bars) }

pub plain_moves : (t cs rest : List ℕ) → IsPlainName cs t rest → Moves (λ u v. IsPlainName u t v) cs rest
plain_moves t cs rest is = run_moves _ _ cs t rest is

name_of_moves : (prefix : Option (List ℕ)) (local cs rest : List ℕ) → IsNameOf prefix cs local rest → Moves (λ u v. IsNameOf prefix u local v) cs rest
name_of_moves None local cs rest (plain, colon) =
    let m : Moves (λ u v. IsPlainName u local v) cs rest = plain_moves local cs rest plain in
    record { w = m.w; is = m.is; on = λ r same. (m.on r same, bars_same _ rest r same colon) }
name_of_moves (Some prefix) local cs rest (a, first, second) =
    moves_as (Then (λ u v. IsPlainName u prefix v) (Then (Is 58) (λ u v. IsPlainName u local v))) (λ u v. IsNameOf (Some prefix) u local v) cs rest
    (λ u v k. (k.second.mid, subst (λ (z : List ℕ). IsPlainName u prefix z) k.second.first k.first, k.second.second))
    (then_moves (λ u v. IsPlainName u prefix v) (Then (Is 58) (λ u v. IsPlainName u local v)) cs (58 ∷ a) rest (plain_moves prefix cs (58 ∷ a) first)
    (then_moves (Is 58) (λ u v. IsPlainName u local v) (58 ∷ a) a rest (is_moves 58 a) (plain_moves local a rest second)))

pub name_moves : (n : Name) (cs rest : List ℕ) → IsName cs n rest → Moves (λ u v. IsName u n v) cs rest
name_moves n cs rest is = name_of_moves n.prefix n.local cs rest is

pub reference_frees : (x : Reference) (cs rest : List ℕ) → IsReference cs x rest → Frees (λ u v. IsReference u x v) cs rest
reference_frees (Entity name) cs rest is = until (λ u v. IsPlainName u name v) 59 [] cs rest (plain_moves name cs (59 ∷ rest) is)
reference_frees (Decimal digits) cs rest (a, e, (f, b, all, bars)) = record {
  w = 35 ∷ (digits ++ (59 ∷ []));
  is = e ∙ (ap (λ (u : List ℕ). 35 ∷ u) f ∙ ap (λ (u : List ℕ). 35 ∷ u) (sym (append_assoc digits (59 ∷ []) rest)));
  on = λ r. (digits ++ (59 ∷ r), ap (λ (u : List ℕ). 35 ∷ u) (append_assoc digits (59 ∷ []) r), (refl, b, all, bars));
}
reference_frees (Hexadecimal digits) cs rest (a, e, (f, b, all, bars)) = record {
  w = 35 ∷ 120 ∷ (digits ++ (59 ∷ []));
  is = e ∙ (ap (λ (u : List ℕ). 35 ∷ 120 ∷ u) f ∙ ap (λ (u : List ℕ). 35 ∷ 120 ∷ u) (sym (append_assoc digits (59 ∷ []) rest)));
  on = λ r. (digits ++ (59 ∷ r), ap (λ (u : List ℕ). 35 ∷ 120 ∷ u) (append_assoc digits (59 ∷ []) r), (refl, b, all, bars));
}

-- ---- one after the other

each_moves : {X : Type 0} (I : List ℕ → X → List ℕ → Type 0) (Ends : List ℕ → List ℕ → Type 0) (Same : X → X → Type 0)
    → ((x : X) (cs rest : List ℕ) → I cs x rest → Moves (Again X Same I x) cs rest) → ((cs rest : List ℕ) → Ends cs rest → Moves Ends cs rest)
    → (xs : List X) (cs rest : List ℕ) → AreEach I Ends cs xs rest → Moves (Again (List X) (AreEachSame Same) (AreEach I Ends) xs) cs rest
each_moves {X} I Ends Same one last [] cs rest is =
    moves_as Ends (Again (List X) (AreEachSame Same) (AreEach I Ends) []) cs rest (λ u v k. record { it = []; same = tt; stands = k }) (last cs rest is)
each_moves {X} I Ends Same one last (x ∷ xs) cs rest (a, first, more) =
    moves_as (Then (Again X Same I x) (Again (List X) (AreEachSame Same) (AreEach I Ends) xs)) (Again (List X) (AreEachSame Same) (AreEach I Ends) (x ∷ xs)) cs rest
    (λ u v k. record { it = k.first.it ∷ k.second.it; same = (k.first.same, k.second.same); stands = (k.mid, k.first.stands, k.second.stands) })
    (then_moves (Again X Same I x) (Again (List X) (AreEachSame Same) (AreEach I Ends) xs) cs a rest (one x cs a first) (each_moves I Ends Same one last xs a rest more))

-- ---- values and attributes

piece_moves : (quote : _) (p : Piece) (cs rest : List ℕ) → IsPiece quote cs p rest → Moves (Again Piece IsSamePiece (IsPiece quote) p) cs rest
piece_moves quote (Literal t) cs rest is =
    moves_as (λ u v. IsPiece quote u (Literal t) v) (Again Piece IsSamePiece (IsPiece quote) (Literal t)) cs rest (λ u v k. record { it = Literal t; same = refl; stands = k })
    (run_moves (quoted_class quote) (quoted_class quote) cs t rest is)
piece_moves quote (Referred x) cs rest (a, e, place, is) =
    let f : Frees (λ u v. IsReference u x.v v) a rest = reference_frees x.v a rest is in
    record {
      w = 38 ∷ f.w;
      is = e ∙ ap (λ (u : List ℕ). 38 ∷ u) f.is;
      on = λ r same. record { it = Referred (record { v = x.v; left = left_of (38 ∷ f.w ++ r) }); same = refl; stands = (f.w ++ r, refl, refl, f.on r) };
    }

ends_moves : (quote : _) (cs rest : List ℕ) → EndsPieces quote cs rest → Moves (EndsPieces quote) cs rest
ends_moves quote cs rest (e, bars) = record { w = []; is = e; on = λ r same. (refl, bars_same _ rest r same bars) }

value_frees : (ps : List Piece) (cs rest : List ℕ) → IsValue cs ps rest → Frees (Again (List Piece) (AreEachSame IsSamePiece) IsValue ps) cs rest
value_frees ps cs rest (quote, a, e, is) =
    let f : Frees (λ u v. Again (List Piece) (AreEachSame IsSamePiece) (AreEach (IsPiece quote) (EndsPieces quote)) ps u (mark_of quote ∷ v)) a rest =
    until (Again (List Piece) (AreEachSame IsSamePiece) (AreEach (IsPiece quote) (EndsPieces quote)) ps) (mark_of quote) [] a rest
    (each_moves (IsPiece quote) (EndsPieces quote) IsSamePiece (piece_moves quote) (ends_moves quote) ps a (mark_of quote ∷ rest) is) in
    record {
      w = mark_of quote ∷ f.w;
      is = e ∙ ap (λ (u : List ℕ). mark_of quote ∷ u) f.is;
      on = λ r. record { it = (f.on r).it; same = (f.on r).same; stands = (quote, f.w ++ r, refl, (f.on r).stands) };
    }

abbrev Named : At Attribute → List ℕ → List ℕ → Type 0
Named x u v = IsName u x.v.name v

abbrev Valued : At Attribute → List ℕ → List ℕ → Type 0
Valued x = Again (List Piece) (AreEachSame IsSamePiece) IsValue x.v.value

attribute_moves : (x : At Attribute) (cs rest : List ℕ) → IsAttribute cs x rest → Moves (Again (At Attribute) IsSameAttribute IsAttribute x) cs rest
attribute_moves x cs rest (b, c, d, place, name, before, after, value) =
    moves_as (Then (Named x) (Then IsSpace (Then (Is 61) (Then IsSpace (Valued x))))) (Again (At Attribute) IsSameAttribute IsAttribute x) cs rest
    (λ u v k. record {
      it = record { v = record { name = x.v.name; value = k.second.second.second.second.it }; left = left_of u };
      same = (refl, k.second.second.second.second.same);
      stands = (k.mid, k.second.second.mid, k.second.second.second.mid, refl, k.first, subst (IsSpace k.mid) k.second.second.first k.second.first, k.second.second.second.first, k.second.second.second.second.stands);
    })
    (then_moves (Named x) (Then IsSpace (Then (Is 61) (Then IsSpace (Valued x)))) cs b rest (name_moves x.v.name cs b name)
    (then_moves IsSpace (Then (Is 61) (Then IsSpace (Valued x))) b (61 ∷ c) rest (space_moves b (61 ∷ c) before)
    (then_moves (Is 61) (Then IsSpace (Valued x)) (61 ∷ c) c rest (is_moves 61 c)
    (then_moves IsSpace (Valued x) c d rest (space_moves c d after) (free_moves (Valued x) d rest (value_frees x.v.value d rest value))))))

spaced_moves : (x : At Attribute) (cs rest : List ℕ) → IsSpacedAttribute cs x rest → Moves (Again (At Attribute) IsSameAttribute IsSpacedAttribute x) cs rest
spaced_moves x cs rest (a, begin, space, is) =
    let m : Moves (Then IsSpace (Again (At Attribute) IsSameAttribute IsAttribute x)) cs rest =
    then_moves IsSpace (Again (At Attribute) IsSameAttribute IsAttribute x) cs a rest (space_moves cs a space) (attribute_moves x a rest is) in
    record {
      w = m.w;
      is = m.is;
      on = λ r same. record {
        it = (m.on r same).second.it;
        same = (m.on r same).second.same;
        stands = ((m.on r same).mid, begins_again _ (m.w ++ r) (m.w ++ rest) cs m.is (heads m.w rest r same) begin, (m.on r same).first, (m.on r same).second.stands);
      };
    }

ends_attributes_moves : (cs rest : List ℕ) → EndsAttributes cs rest → Moves EndsAttributes cs rest
ends_attributes_moves cs rest (space, bars) =
    let m : Moves IsSpace cs rest = space_moves cs rest space in
    record { w = m.w; is = m.is; on = λ r same. (m.on r same, bars_same _ rest r same bars) }

pub attributes_move : (xs : List (At Attribute)) (cs rest : List ℕ) → AreAttributes cs xs rest → Moves (Again (List (At Attribute)) (AreEachSame IsSameAttribute) AreAttributes xs) cs rest
attributes_move xs cs rest is = each_moves IsSpacedAttribute EndsAttributes IsSameAttribute spaced_moves ends_attributes_moves xs cs rest is
