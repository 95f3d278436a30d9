-- What the grammar relates, the reading functions read.
use Rattle.std.proofs.Common.{◌≡◌, ℕ, zero, suc, true, false, List, [], ◌∷◌, Ok, refl, sym, ap, ◌∙◌, inl, inr}
use Rattle.std.proofs.lemmas.Bool.{eq-eqb}
use Rattle.laws.specs.Characters.{ampersand, close_parenthesis, comma, colon, greater_than_sign, open_bracket, vertical_bar}
use Rattle.literature.specs.Tokens.{Token, Name, Sign, tokens}
use Rattle.literature.specs.Trees.{Tree, Any, Entry, one_or_alternatives, one_or_multi, with_attributes}
use Rattle.literature.specs.Reading.{Reading, taken, each_after, name_at, names_at, lists_at, listed_at, parted, alternatives_of, Level, parenthesised, unary_in, above, ancestry_in, level, selector_at, selector_of}
use Rattle.literature.specs.Grammar.{Spells, Bars, AreAfter, IsName, AreNames, AreLists, AreParted, Within, IsStar, IsType, IsInParentheses, IsLeftOut, IsUnaryWith, IsAboveWith, IsAncestryWith, within, IsSelector}
use Rattle.literature.proofs.ReadingRepeats.{Leaves, each_stops, each_goes_on, name_leaves, put}
use Rattle.literature.proofs.ReadingLevels.{names_leaves, LevelLeaves, level_leaves, unary_leaves}

-- what the relation relates is read
abbrev pub Again : {X : Type 0} → Spells X → Reading X → Type 0
Again {X} Is read = (ts rest : List Token) (x : X) → Is ts x rest → read ts ≡ Ok (x, rest)

-- a sign that stands first is taken
pub stands : (sign : ℕ) (ts : List Token) → taken sign (Sign sign ∷ ts) ≡ (true, ts)
stands sign ts = rw (eq-eqb sign sign refl) refl

-- a sign that does not stand first is not taken
pub barred : (sign : ℕ) (ts : List Token) → Bars sign ts → taken sign ts ≡ (false, ts)
barred sign [] bars = refl
barred sign (Name n ∷ ts) bars = refl
barred sign (Sign c ∷ ts) bars = rw bars refl

following-again : {X : Type 0} (sign : ℕ) (Is : Spells X) (read : Reading X) → Again Is read → Leaves read → (ts rest : List Token) (xs : List X) → AreAfter sign Is ts xs rest → each_after sign read ts ≡ Ok (xs, rest)
following-again sign Is read again fine ts rest [] (e, bars) = each_stops sign read ts rest (ap (taken sign) e ∙ barred sign rest bars)
following-again sign Is read again fine ts rest (x ∷ xs) (a, b, e, is, more) =
    each_goes_on sign read fine ts a b x (ap (taken sign) e ∙ stands sign a) (again a b x is) ∙ ap (put x) (following-again sign Is read again fine b rest xs more)

name-again : Again IsName name_at
name-again ts rest n is = rw is refl

names-again : Again AreNames names_at
unfolding names_at
names-again ts rest [] is = absurd is
names-again ts rest (n ∷ ns) (a, b, is, more, end) =
    rw (is, following-again comma IsName name_at name-again name_leaves a b ns more, end) refl

lists-again : Again AreLists lists_at
unfolding lists_at
lists-again ts rest names (lists, are, is) = rw (following-again open_bracket AreNames names_at names-again names_leaves ts rest lists are, is) refl

listed-again : (x y : Tree) (ts rest : List Token) (names : List (List ℕ)) → AreLists ts names rest → y ≡ with_attributes x names → listed_at x ts ≡ Ok (y, rest)
unfolding listed_at
listed-again x y ts rest names are is = rw (lists-again ts rest names are, is) refl

parted-again : (sign : ℕ) (join : Tree → List Tree → Tree) (Is : Spells Tree) (read : Reading Tree) → Again Is read → Leaves read → Again (AreParted sign join Is) (parted sign join read)
unfolding parted
parted-again sign join Is read again fine ts rest y (x, xs, a, first, others, is) = rw (again ts a x first, following-again sign Is read again fine a rest xs others, is) refl

-- the readings of a level read what may be spelled there
pub record ReadsAgain (w : Within) (l : Level) : Type 0 where
  pub unary : Again w.IsUnary l.unary
  pub ancestry : Again w.IsAncestry l.ancestry
  pub fine : LevelLeaves l

alternatives-again : (w : Within) (l : Level) → ReadsAgain w l → Again (AreParted vertical_bar one_or_alternatives w.IsAncestry) (alternatives_of l.ancestry)
alternatives-again w l r = parted-again vertical_bar one_or_alternatives w.IsAncestry l.ancestry r.ancestry r.fine.ancestry

star-again : (l : Level) (x y : Tree) (ts a rest : List Token) (names : List (List ℕ)) → IsStar ts x a → AreLists a names rest → y ≡ with_attributes x names → unary_in l ts ≡ Ok (y, rest)
unfolding unary_in
star-again l x y ts a rest names (e, any) are is = rw e (listed-again Any y a rest names are (is ∙ ap (λ z. with_attributes z names) any))

type-again : (l : Level) (x y : Tree) (ts a rest : List Token) (names : List (List ℕ)) → IsType ts x a → AreLists a names rest → y ≡ with_attributes x names → unary_in l ts ≡ Ok (y, rest)
unfolding unary_in
type-again l x y ts a rest names (n, t, e, bars, called, entry) are is =
    rw (e, barred colon a bars, called) (listed-again (Entry t) y a rest names are (is ∙ ap (λ z. with_attributes z names) entry))

parentheses-again : (w : Within) (l : Level) → ReadsAgain w l → (x y : Tree) (ts a rest : List Token) (names : List (List ℕ)) → IsInParentheses w ts x a → AreLists a names rest → y ≡ with_attributes x names
    → unary_in l ts ≡ Ok (y, rest)
unfolding unary_in parenthesised
parentheses-again w l r x y ts a rest names (b, e, inside) are is = rw (e, alternatives-again w l r b (Sign close_parenthesis ∷ a) x inside) (listed-again x y a rest names are is)

left_out-again : (l : Level) (x y : Tree) (ts a rest : List Token) (names : List (List ℕ)) → IsLeftOut ts x a → AreLists a names rest → y ≡ with_attributes x names → unary_in l ts ≡ Ok (y, rest)
unfolding unary_in
left_out-again l x y ts a rest names (b, e, same, any) are is =
    rw e (ap (listed_at Any) (sym e ∙ same) ∙ listed-again Any y a rest names are (is ∙ ap (λ z. with_attributes z names) any))

unary-again : (w : Within) (l : Level) → ReadsAgain w l → Again (IsUnaryWith w) (unary_in l)
unfolding unary_in
unary-again w l r ts rest y (inl (a, x, e, operand, is)) = rw (e, r.unary a rest x operand, is) refl
unary-again w l r ts rest y (inr (inl (n, a, x, e, operand, is))) = rw (e, r.unary a rest x operand, is) refl
unary-again w l r ts rest y (inr (inr (x, a, names, inl star, are, is))) = star-again l x y ts a rest names star are is
unary-again w l r ts rest y (inr (inr (x, a, names, inr (inl named_type), are, is))) = type-again l x y ts a rest names named_type are is
unary-again w l r ts rest y (inr (inr (x, a, names, inr (inr (inl inside)), are, is))) = parentheses-again w l r x y ts a rest names inside are is
unary-again w l r ts rest y (inr (inr (x, a, names, inr (inr (inr alone)), are, is))) = left_out-again l x y ts a rest names alone are is

above-again : (w : Within) (l : Level) → ReadsAgain w l → (x y : Tree) (ts rest : List Token) → IsAboveWith w x ts y rest → above l x (taken greater_than_sign ts) ≡ Ok (y, rest)
above-again w l r x y ts rest (inl (a, z, e, parents, is)) = rw (e, r.ancestry a rest z parents, is) refl
above-again w l r x y ts rest (inr (bars, same, is)) = rw (barred greater_than_sign ts bars, same, is) refl

ancestry-again : (w : Within) (l : Level) → ReadsAgain w l → Again (IsAncestryWith w) (ancestry_in l)
unfolding ancestry_in
ancestry-again w l r ts rest y (x, a, multi, parents) =
    rw (parted-again ampersand one_or_multi (IsUnaryWith w) (unary_in l) (unary-again w l r) (unary_leaves l r.fine) ts a x multi) (above-again w l r x y a rest parents)

level-again : (n : ℕ) → ReadsAgain (within n) (level n)
unfolding level
level-again zero = record { unary = λ ts rest x is. absurd is; ancestry = λ ts rest x is. absurd is; fine = level_leaves zero }
level-again (suc n) =
    let r = level-again n in
    record { unary = unary-again (within n) (level n) r; ancestry = ancestry-again (within n) (level n) r; fine = level_leaves (suc n) }

-- what the text spells is read
pub selector-again : (cs : List ℕ) (x : Tree) → IsSelector cs x → selector_of cs ≡ Ok x
unfolding selector_of selector_at
selector-again cs x (rest, is) = rw (alternatives-again (within 129) (level 129) (level-again 129) (tokens cs) rest x is) refl
