-- What texts are made of, but for the places at which it stands.
use Rattle.std.specs.Prelude.{◌≡◌, List, [], ◌∷◌}
use Rattle.xml_text.specs.Tokens.{At, Name, Piece, Literal, Referred, Attribute, Tag, Token, Start, End, Characters, Refers, Section, Nothing}

-- lists with as many members, each as the one at its place
abbrev pub AreEachSame : {X : Type 0} → (X → X → Type 0) → List X → List X → Type 0
AreEachSame Same [] [] = Unit {0}
AreEachSame Same [] (y ∷ ys) = ⊥
AreEachSame Same (x ∷ xs) [] = ⊥
AreEachSame Same (x ∷ xs) (y ∷ ys) = Same x y × AreEachSame Same xs ys

abbrev pub IsSamePiece : Piece → Piece → Type 0
IsSamePiece (Literal t) (Literal u) = t ≡ u
IsSamePiece (Literal t) (Referred s) = ⊥
IsSamePiece (Referred r) (Literal u) = ⊥
IsSamePiece (Referred r) (Referred s) = r.v ≡ s.v

abbrev pub IsSameAttribute : At Attribute → At Attribute → Type 0
IsSameAttribute x y = (x.v.name ≡ y.v.name) × AreEachSame IsSamePiece x.v.value y.v.value

abbrev pub IsSameTag : Tag → Tag → Type 0
IsSameTag s t = (s.name ≡ t.name) × AreEachSame IsSameAttribute s.attributes t.attributes × (s.empty ≡ t.empty)

abbrev pub IsSameToken : Token → Token → Type 0
IsSameToken (Start s) k = (t : Tag) × (k ≡ Start t) × IsSameTag s t
IsSameToken (End n) k = (m : At Name) × (k ≡ End m) × (n.v ≡ m.v)
IsSameToken (Characters t) k = k ≡ Characters t
IsSameToken (Refers r) k = k ≡ Refers r
IsSameToken (Section t) k = k ≡ Section t
IsSameToken Nothing k = k ≡ Nothing

abbrev pub AreSameTokens : List (At Token) → List (At Token) → Type 0
AreSameTokens ts us = AreEachSame (λ (x : At Token) (y : At Token). IsSameToken x.v y.v) ts us
