-- What the reading functions read, the grammar relates.
use Rattle.std.proofs.Common.{◌≡◌, ℕ, zero, suc, ◌<◌, ◌≤◌, Bool, true, false, cond, List, [], ◌∷◌, length, Option, Some, None, Result, Ok, Err, refl, ap, subst, inl, inr, eqb, arith}
use Rattle.std.proofs.lemmas.Bool.{eqb-true}
use Rattle.std.specs.List.{flat_map}
use Rattle.laws.specs.Characters.{exclamation_mark, ampersand, open_parenthesis, close_parenthesis, asterisk, comma, colon, greater_than_sign, open_bracket, close_bracket, vertical_bar}
use Rattle.laws.specs.Results.{◌>>=◌}
use Rattle.laws.proofs.Results.{bind_ok, ok_is, if_ok_at}
use Rattle.literature_values.specs.EntryTypes.{type_called}
use Rattle.literature.specs.Tokens.{Token, Name, Sign, tokens}
use Rattle.literature.specs.Trees.{Tree, Any, Entry, Not, Binding, Ancestry, one_or_alternatives, one_or_multi, with_attributes}
use Rattle.literature.specs.Reading.{Fault, MissingValue, Reading, taken, one_more, each_below, each_after, name_at, list_end, names_at, lists_at, listed_at, parted, alternatives_of, multi_of, Level, typed, named, closed, parenthesised, signed, unary_in, above, ancestry_in, level, selector_at, selector_of}
use Rattle.literature_values.specs.declared.entry_type.EntryType.{EntryType}
use Rattle.literature.specs.Grammar.{Spells, Bars, AreAfter, IsName, AreNames, AreLists, AreParted, Within, IsPrimary, IsUnaryWith, IsAboveWith, IsAncestryWith, within, IsSelector}
use Rattle.literature.proofs.ReadingRepeats.{Leaves, AtMost, taken_less, name_leaves, put}
use Rattle.literature.proofs.ReadingLevels.{names_leaves, LevelLeaves, level_leaves, unary_leaves}

-- what is read the relation relates
abbrev pub Takes : {X : Type 0} → Spells X → Reading X → Type 0
Takes {X} Is read = (ts : List Token) (p : X × List Token) → read ts ≡ Ok p → Is ts p.0 p.1

abbrev pair : Bool → List Token → Bool × List Token
pair b ts = (b, ts)

-- a sign that is taken stood first, and one that is not did not
abbrev IsTaken : ℕ → List Token → Bool × List Token → Type 0
IsTaken sign ts (true, rest) = ts ≡ Sign sign ∷ rest
IsTaken sign ts (false, rest) = Bars sign ts × (ts ≡ rest)

taken_is : (sign : ℕ) (ts : List Token) → IsTaken sign ts (taken sign ts)
taken_is sign [] = (tt, refl)
taken_is sign (Name n ∷ ts) = (tt, refl)
taken_is sign (Sign c ∷ ts) = by_test (eqb c sign) refl
  where
    by_test : (b : Bool) → eqb c sign ≡ b → IsTaken sign (Sign c ∷ ts) (cond b (true, ts) (false, Sign c ∷ ts))
    by_test true is = ap (λ (k : ℕ). Sign k ∷ ts) (eqb-true c sign is)
    by_test false is = (is, refl)

pub stood : (sign : ℕ) (ts rest : List Token) → taken sign ts ≡ (true, rest) → ts ≡ Sign sign ∷ rest
stood sign ts rest is = subst (IsTaken sign ts) is (taken_is sign ts)

pub did_not : (sign : ℕ) (ts rest : List Token) → taken sign ts ≡ (false, rest) → Bars sign ts × (ts ≡ rest)
did_not sign ts rest is = subst (IsTaken sign ts) is (taken_is sign ts)

-- of what is given the relation holds
given : {X : Type 0} (P : X × List Token → Type 0) (x : X) (rest : List Token) (p : X × List Token) → ◌≡◌ {A = Result (X × List Token) Fault} (Ok (x, rest)) (Ok p) → P (x, rest) → P p
given P x rest p e h = subst P (ok_is {F = Fault} (x, rest) p e) h

following-takes_below : {X : Type 0} (n sign : ℕ) (Is : Spells X) (read : Reading X) → Takes Is read → Leaves read → (ts : List Token) (p : List X × List Token) → length ts < n → each_below n sign read ts ≡ Ok p
    → AreAfter sign Is ts p.0 p.1
unfolding each_below
following-takes_below zero sign Is read takes fine ts p few e = absurd (omega arith)
following-takes_below {X} (suc n) sign Is read takes fine ts p few e = by_sign (λ rest q less is. following-takes_below n sign Is read takes fine rest q less is) (taken sign ts) refl e
  where
    Holds : List X × List Token → Type 0
    Holds q = AreAfter sign Is ts q.0 q.1

    by_sign : ((rest : List Token) (q : List X × List Token) → length rest < n → each_below n sign read rest ≡ Ok q → AreAfter sign Is rest q.0 q.1) → (t : Bool × List Token) → taken sign ts ≡ t
        → one_more read (each_below n sign read) t ≡ Ok p → Holds p
    by_sign more (false, rest) is d =
        let none = did_not sign ts rest is in
        given Holds [] rest p d (none.1, subst (Bars sign) none.1 none.0)
    by_sign more (true, rest) is d =
        let one = bind_ok (read rest) (λ x. put x.0 (each_below n sign read x.1)) p d in
        let others = bind_ok (each_below n sign read one.0.1) (λ q. Ok (one.0.0 ∷ q.0, q.1)) p one.2 in
        let fewer : length one.0.1 ≤ length rest = if_ok_at (AtMost (length rest)) (read rest) one.0 one.1 (fine rest) in
        let less : length one.0.1 < n = omega (arith, taken_less sign ts rest is) in
        given Holds (one.0.0 ∷ others.0.0) others.0.1 p others.2 (rest, one.0.1, stood sign ts rest is, takes rest one.0 one.1, more one.0.1 others.0 less others.1)

following-takes : {X : Type 0} (sign : ℕ) (Is : Spells X) (read : Reading X) → Takes Is read → Leaves read → Takes (AreAfter sign Is) (each_after sign read)
unfolding each_after
following-takes sign Is read takes fine ts p e = following-takes_below (suc (length ts)) sign Is read takes fine ts p (omega arith) e

name-takes : Takes IsName name_at
name-takes [] p e = absurd cc
name-takes (Name n ∷ ts) p e = given (λ q. IsName (Name n ∷ ts) q.0 q.1) n ts p e refl
name-takes (Sign c ∷ ts) p e = absurd cc

end-takes : (p : Bool × List Token) (rest : List Token) → list_end p ≡ Ok rest → p ≡ (true, rest)
end-takes (true, ts) rest e = ap (pair true) (ok_is {F = Fault} ts rest e)
end-takes (false, ts) rest e = absurd cc

names-takes : Takes AreNames names_at
unfolding names_at
names-takes ts p e =
    let first = bind_ok (name_at ts) (λ f. each_after comma name_at f.1 >>= λ others. list_end (taken close_bracket others.1) >>= λ rest. Ok (f.0 ∷ others.0, rest)) p e in
    let others = bind_ok (each_after comma name_at first.0.1) (λ o. list_end (taken close_bracket o.1) >>= λ rest. Ok (first.0.0 ∷ o.0, rest)) p first.2 in
    let end = bind_ok (list_end (taken close_bracket others.0.1)) (λ rest. Ok (first.0.0 ∷ others.0.0, rest)) p others.2 in
    given (λ q. AreNames ts q.0 q.1) (first.0.0 ∷ others.0.0) end.0 p end.2
    (first.0.1, others.0.1, name-takes ts first.0 first.1, following-takes comma IsName name_at name-takes name_leaves first.0.1 others.0 others.1, stood close_bracket others.0.1 end.0 (end-takes (taken close_bracket others.0.1) end.0 end.1))

lists-takes : Takes AreLists lists_at
unfolding lists_at
lists-takes ts p e =
    let lists = bind_ok (each_after open_bracket names_at ts) (λ l. Ok (flat_map (λ ns. ns) l.0, l.1)) p e in
    given (λ q. AreLists ts q.0 q.1) (flat_map (λ ns. ns) lists.0.0) lists.0.1 p lists.2 (lists.0.0, following-takes open_bracket AreNames names_at names-takes names_leaves ts lists.0 lists.1, refl)

-- the names of the lists after a tree
abbrev HasLists : Tree → Spells Tree
HasLists x ts y rest = (names : List (List ℕ)) × AreLists ts names rest × (y ≡ with_attributes x names)

listed-takes : (x : Tree) → Takes (HasLists x) (listed_at x)
unfolding listed_at
listed-takes x ts p e =
    let names = bind_ok (lists_at ts) (λ l. Ok (with_attributes x l.0, l.1)) p e in
    given (λ q. HasLists x ts q.0 q.1) (with_attributes x names.0.0) names.0.1 p names.2 (names.0.0, lists-takes ts names.0 names.1, refl)

parted-takes : (sign : ℕ) (join : Tree → List Tree → Tree) (Is : Spells Tree) (read : Reading Tree) → Takes Is read → Leaves read → Takes (AreParted sign join Is) (parted sign join read)
unfolding parted
parted-takes sign join Is read takes fine ts p e =
    let first = bind_ok (read ts) (λ f. each_after sign read f.1 >>= λ others. Ok (join f.0 others.0, others.1)) p e in
    let others = bind_ok (each_after sign read first.0.1) (λ o. Ok (join first.0.0 o.0, o.1)) p first.2 in
    given (λ q. AreParted sign join Is ts q.0 q.1) (join first.0.0 others.0.0) others.0.1 p others.2
    (first.0.0, others.0.0, first.0.1, takes ts first.0 first.1, following-takes sign Is read takes fine first.0.1 others.0 others.1, refl)

-- what the readings of a level read may be spelled there
pub record Spelled (w : Within) (l : Level) : Type 0 where
  pub unary : Takes w.IsUnary l.unary
  pub ancestry : Takes w.IsAncestry l.ancestry
  pub fine : LevelLeaves l

-- a primary and the lists after it
listed_of : (w : Within) (x : Tree) (ts a : List Token) (p : Tree × List Token) → IsPrimary w ts x a → listed_at x a ≡ Ok p → IsUnaryWith w ts p.0 p.1
listed_of w x ts a p primary e =
    let lists = listed-takes x a p e in
    inr (inr (x, a, lists.0, primary, lists.1, lists.2))

closed-takes : (w : Within) (x : Tree) (ts a : List Token) (p : Tree × List Token) (t : Bool × List Token) → taken close_parenthesis a ≡ t → ((rest : List Token) → a ≡ Sign close_parenthesis ∷ rest → IsPrimary w ts x rest) → closed x t ≡ Ok p
    → IsUnaryWith w ts p.0 p.1
closed-takes w x ts a p (true, rest) is primary e = listed_of w x ts rest p (primary rest (stood close_parenthesis a rest is)) e
closed-takes w x ts a p (false, rest) is primary e = absurd cc

parentheses-takes : (w : Within) (l : Level) → Spelled w l → (ts a : List Token) (p : Tree × List Token) → ts ≡ Sign open_parenthesis ∷ a → parenthesised l a ≡ Ok p → IsUnaryWith w ts p.0 p.1
unfolding parenthesised
parentheses-takes w l s ts a p round e =
    let inside = bind_ok (alternatives_of l.ancestry a) (λ x. closed x.0 (taken close_parenthesis x.1)) p e in
    let are = parted-takes vertical_bar one_or_alternatives w.IsAncestry l.ancestry s.ancestry s.fine.ancestry a inside.0 inside.1 in
    closed-takes w inside.0.0 ts inside.0.1 p (taken close_parenthesis inside.0.1) refl
    (λ rest close. inr (inr (inl (a, round, subst (λ r. AreParted vertical_bar one_or_alternatives w.IsAncestry a inside.0.0 r) close are)))) inside.2

typed-takes : (w : Within) (n : List ℕ) (ts a : List Token) (p : Tree × List Token) (o : Option EntryType) → ts ≡ Name n ∷ a → Bars colon a → type_called n ≡ o → typed n o a ≡ Ok p → IsUnaryWith w ts p.0 p.1
typed-takes w n ts a p None is bars called e = absurd cc
typed-takes w n ts a p (Some t) is bars called e = listed_of w (Entry t) ts a p (inr (inl (n, t, is, bars, called, refl))) e

named-takes : (w : Within) (l : Level) → Spelled w l → (n : List ℕ) (a : List Token) (p : Tree × List Token) (t : Bool × List Token) → taken colon a ≡ t → named l n t ≡ Ok p → IsUnaryWith w (Name n ∷ a) p.0 p.1
named-takes w l s n a p (true, b) is e =
    let operand = bind_ok (l.unary b) (λ x. Ok (Binding n x.0, x.1)) p e in
    given (λ q. IsUnaryWith w (Name n ∷ a) q.0 q.1) (Binding n operand.0.0) operand.0.1 p operand.2
    (inr (inl (n, b, operand.0.0, ap (λ (ts : List Token). Name n ∷ ts) (stood colon a b is), s.unary b operand.0 operand.1, refl)))
named-takes w l s n a p (false, b) is e =
    let none = did_not colon a b is in
    typed-takes w n (Name n ∷ a) b p (type_called n) (ap (λ (ts : List Token). Name n ∷ ts) none.1) (subst (Bars colon) none.1 none.0) refl e

signed-takes : (w : Within) (l : Level) → Spelled w l → (c : ℕ) (a : List Token) (p : Tree × List Token) → signed l c a ≡ Ok p → IsUnaryWith w (Sign c ∷ a) p.0 p.1
signed-takes w l s c a p e = by_tests (eqb c exclamation_mark) (eqb c asterisk) (eqb c open_bracket) (eqb c open_parenthesis) refl refl refl refl e
  where
    first : (k : ℕ) → eqb c k ≡ true → Sign c ∷ a ≡ Sign k ∷ a
    first k is = ap (λ (d : ℕ). Sign d ∷ a) (eqb-true c k is)

    by_tests : (no star list round : Bool) → eqb c exclamation_mark ≡ no → eqb c asterisk ≡ star → eqb c open_bracket ≡ list → eqb c open_parenthesis ≡ round
        → cond no (l.unary a >>= λ x. Ok (Not x.0, x.1)) (cond star (listed_at Any a) (cond list (listed_at Any (Sign c ∷ a)) (cond round (parenthesised l a) (Err MissingValue)))) ≡ Ok p
        → IsUnaryWith w (Sign c ∷ a) p.0 p.1
    by_tests true star list round is_no is_star is_list is_round d =
        let operand = bind_ok (l.unary a) (λ x. Ok (Not x.0, x.1)) p d in
        given (λ q. IsUnaryWith w (Sign c ∷ a) q.0 q.1) (Not operand.0.0) operand.0.1 p operand.2 (inl (a, operand.0.0, first exclamation_mark is_no, s.unary a operand.0 operand.1, refl))
    by_tests false true list round is_no is_star is_list is_round d = listed_of w Any (Sign c ∷ a) a p (inl (first asterisk is_star, refl)) d
    by_tests false false true round is_no is_star is_list is_round d = listed_of w Any (Sign c ∷ a) (Sign c ∷ a) p (inr (inr (inr (a, first open_bracket is_list, refl, refl)))) d
    by_tests false false false true is_no is_star is_list is_round d = parentheses-takes w l s (Sign c ∷ a) a p (first open_parenthesis is_round) d
    by_tests false false false false is_no is_star is_list is_round d = absurd cc

unary-takes : (w : Within) (l : Level) → Spelled w l → Takes (IsUnaryWith w) (unary_in l)
unfolding unary_in
unary-takes w l s [] p e = absurd cc
unary-takes w l s (Name n ∷ a) p e = named-takes w l s n a p (taken colon a) refl e
unary-takes w l s (Sign c ∷ a) p e = signed-takes w l s c a p e

above-takes : (w : Within) (l : Level) → Spelled w l → (x : Tree) (ts : List Token) (p : Tree × List Token) (t : Bool × List Token) → taken greater_than_sign ts ≡ t → above l x t ≡ Ok p → IsAboveWith w x ts p.0 p.1
above-takes w l s x ts p (true, a) is e =
    let parents = bind_ok (l.ancestry a) (λ z. Ok (Ancestry x z.0, z.1)) p e in
    given (λ q. IsAboveWith w x ts q.0 q.1) (Ancestry x parents.0.0) parents.0.1 p parents.2 (inl (a, parents.0.0, stood greater_than_sign ts a is, s.ancestry a parents.0 parents.1, refl))
above-takes w l s x ts p (false, a) is e =
    let none = did_not greater_than_sign ts a is in
    given (λ q. IsAboveWith w x ts q.0 q.1) x a p e (inr (none.0, none.1, refl))

ancestry-takes : (w : Within) (l : Level) → Spelled w l → Takes (IsAncestryWith w) (ancestry_in l)
unfolding ancestry_in
ancestry-takes w l s ts p e =
    let of = bind_ok (multi_of (unary_in l) ts) (λ x. above l x.0 (taken greater_than_sign x.1)) p e in
    (of.0.0, of.0.1, parted-takes ampersand one_or_multi (IsUnaryWith w) (unary_in l) (unary-takes w l s) (unary_leaves l s.fine) ts of.0 of.1, above-takes w l s of.0.0 of.0.1 p (taken greater_than_sign of.0.1) refl of.2)

level-takes : (n : ℕ) → Spelled (within n) (level n)
unfolding level
level-takes zero = record { unary = λ ts p e. absurd cc; ancestry = λ ts p e. absurd cc; fine = level_leaves zero }
level-takes (suc n) =
    let s = level-takes n in
    record { unary = unary-takes (within n) (level n) s; ancestry = ancestry-takes (within n) (level n) s; fine = level_leaves (suc n) }

-- what is read of the text, it spells
pub selector-takes : (cs : List ℕ) (x : Tree) → selector_of cs ≡ Ok x → IsSelector cs x
unfolding selector_of selector_at
selector-takes cs x e =
    let s = level-takes 129 in
    let whole = bind_ok (alternatives_of (level 129).ancestry (tokens cs)) (λ p. Ok p.0) x e in
    subst (IsSelector cs) (ok_is {F = Fault} whole.0.0 x whole.2)
    (whole.0.1, parted-takes vertical_bar one_or_alternatives (within 129).IsAncestry (level 129).ancestry s.ancestry s.fine.ancestry (tokens cs) whole.0 whole.1)
