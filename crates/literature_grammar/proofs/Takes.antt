-- What the machine goes through to the end of an expression, the grammar relates.
use Rattle.std.proofs.Common.{◌≡◌, ℕ, zero, suc, Bool, true, false, true≢false, cond, eqb, bytes_eq, List, [], ◌∷◌, map, Option, Some, is_none, codes, refl, sym, ap, ◌∙◌, subst, inl, inr}
use Rattle.std.proofs.lemmas.Bool.{eqb-true}
use Rattle.std.proofs.lemmas.Slice.Eq.{bytes_eq-Decides}
use Rattle.std.proofs.lemmas.Str.{chars-encodes}
use Rattle.std.specs.List.{flat_map, find}
use Rattle.std.specs.Str.{chars}
use Rattle.laws.specs.Characters.{exclamation_mark, ampersand, open_parenthesis, close_parenthesis, asterisk, comma, colon, greater_than_sign, open_bracket, close_bracket, vertical_bar}
use Rattle.literature_values.specs.EntryTypes.{type_name, is_called, entry_types, type_called}
use Rattle.literature_values.specs.declared.entry_type.EntryType.{EntryType}
use Rattle.literature_values.specs.declared.entry_type.EntryType.TheVariants.{Article}
use Rattle.literature.specs.Tokens.{Token, Name, Sign}
use Rattle.literature.specs.Trees.{Tree, Any, Entry, Not, Binding, Ancestry, one_or_alternatives, one_or_multi, with_attributes}
use Rattle.literature.specs.Grammar.{Bars, AreAfter, IsName, AreNames, AreLists, AreParted, IsUnaryWith, IsAboveWith, IsAncestryWith, within}
use Rattle.literature_grammar.specs.Refusals.{with_type, IsExpressionIn}
use Rattle.literature_grammar.proofs.Machine.{Place, operand, named, lists, before_name, after_name, Context, context, goes, refused, opens, after_primary, after_unary, after_multi, after_ancestry, after_alternatives, closes, inside, unclosed, accepts, then_accepts, start}

-- ---- the name of a type

abbrev article : List ℕ
article = codes "article"

article-characters : chars (codes "article") ≡ codes "article"
unfolding lib.Utf8.encode
article-characters = chars-encodes (codes "article") refl

bytes_same : (xs : List ℕ) → bytes_eq xs xs ≡ true
bytes_same xs = (bytes_eq-Decides xs xs).1 refl

called_itself : (t : EntryType) → is_called (chars (type_name t)) t ≡ true
called_itself t = rw bytes_same refl

article-called : is_called article Article ≡ true
article-called = ap (λ (cs : List ℕ). is_called cs Article) (sym article-characters) ∙ called_itself Article

article-is : type_called article ≡ Some Article
unfolding type_called
article-is = ap (λ (b : Bool). cond {A = Option EntryType} b (Some Article) (find (is_called article) (others entry_types))) article-called
  where
    others : List EntryType → List EntryType
    others [] = []
    others (t ∷ ts) = ts

-- ---- what stands after each part, up to the end

abbrev AfterAncestry : ℕ → (List Token → Type 0) → List Token → Type 0
AfterAncestry k End ts = (xs : List Tree) × (a : List Token) × AreAfter vertical_bar (IsAncestryWith (within k)) ts xs a × End a

abbrev AfterMulti : ℕ → ℕ → (List Token → Type 0) → List Token → Type 0
AfterMulti a k End ts = (b : List Token) × ((x : Tree) → (y : Tree) × IsAboveWith (within a) x ts y b) × AfterAncestry k End b

abbrev AfterUnary : ℕ → ℕ → (List Token → Type 0) → List Token → Type 0
AfterUnary a k End ts = (xs : List Tree) × (b : List Token) × AreAfter ampersand (IsUnaryWith (within a)) ts xs b × AfterMulti a k End b

abbrev AfterPrimary : ℕ → ℕ → (List Token → Type 0) → List Token → Type 0
AfterPrimary a k End ts = (ls : List (List (List ℕ))) × (b : List Token) × AreAfter open_bracket AreNames ts ls b × AfterUnary a k End b

-- after alternatives a parenthesis closes for each that is open
abbrev AfterAlternatives : List (ℕ × ℕ) → List Token → Type 0
AfterAlternatives [] ts = ts ≡ []
AfterAlternatives (o ∷ outer) ts = (a : List Token) × (ts ≡ Sign close_parenthesis ∷ a) × AfterPrimary o.0 o.1 (AfterAlternatives outer) a

abbrev UnaryLeft : Context → List Token → Type 0
UnaryLeft x ts = AfterUnary x.ancestry x.alternatives (AfterAlternatives x.outer) ts

abbrev PrimaryLeft : Context → List Token → Type 0
PrimaryLeft x ts = AfterPrimary x.ancestry x.alternatives (AfterAlternatives x.outer) ts

-- what the tokens from a place on are
abbrev Done : Place → Context → List Token → Type 0
Done (operand u) x ts = (y : Tree) × (a : List Token) × IsUnaryWith (within u) ts y a × UnaryLeft x a
Done (named u) x ts = (y : Tree) × (a : List Token) × IsUnaryWith (within u) (Name article ∷ ts) y a × UnaryLeft x a
Done lists x ts = PrimaryLeft x ts
Done before_name x ts = (ns : List (List ℕ)) × (a : List Token) × AreNames ts ns a × PrimaryLeft x a
Done after_name x ts = (ns : List (List ℕ)) × (a : List Token) × (b : List Token) × AreAfter comma IsName ts ns a × (a ≡ Sign close_bracket ∷ b) × PrimaryLeft x b

-- ---- parts that are left out

no_bar : (k : ℕ) (End : List Token → Type 0) (ts : List Token) → Bars vertical_bar ts → End ts → AfterAncestry k End ts
no_bar k End ts bars end = ([], ts, (refl, bars), end)

no_parents : (a k : ℕ) (End : List Token → Type 0) (ts : List Token) → Bars greater_than_sign ts → AfterAncestry k End ts → AfterMulti a k End ts
no_parents a k End ts bars left = (ts, (λ x. (x, inr (bars, refl, refl))), left)

no_ampersand : (a k : ℕ) (End : List Token → Type 0) (ts : List Token) → Bars ampersand ts → AfterMulti a k End ts → AfterUnary a k End ts
no_ampersand a k End ts bars left = ([], ts, (refl, bars), left)

no_list : (a k : ℕ) (End : List Token → Type 0) (ts : List Token) → Bars open_bracket ts → AfterUnary a k End ts → AfterPrimary a k End ts
no_list a k End ts bars left = ([], ts, (refl, bars), left)

-- ---- parts that are put together

-- unary expressions up to what follows an ancestry
record Ancestries (u k : ℕ) (End : List Token → Type 0) (ts : List Token) : Type 0 where
  tree : Tree
  rest : List Token
  ancestry : IsAncestryWith (within u) ts tree rest
  after : AfterAncestry k End rest

ancestries : (u k : ℕ) (End : List Token → Type 0) (ts : List Token) (y : Tree) (a : List Token) → IsUnaryWith (within u) ts y a → AfterUnary u k End a → Ancestries u k End ts
ancestries u k End ts y a is (xs, b, ands, (c, parents, left)) =
    let multi : Tree = one_or_multi y xs in
    record { tree = (parents multi).0; rest = c; ancestry = (multi, b, (y, xs, a, is, ands, refl), (parents multi).1); after = left }

-- and up to what follows alternatives
record Alternated (k : ℕ) (End : List Token → Type 0) (ts : List Token) : Type 0 where
  tree : Tree
  rest : List Token
  alternatives : AreParted vertical_bar one_or_alternatives (IsAncestryWith (within k)) ts tree rest
  after : End rest

alternated : (k : ℕ) (End : List Token → Type 0) (ts : List Token) (y : Tree) (a : List Token) → IsUnaryWith (within k) ts y a → AfterUnary k k End a → Alternated k End ts
alternated k End ts y a is left = of_ancestries (ancestries k k End ts y a is left)
  where
    by_parts : (r : Ancestries k k End ts) → AfterAncestry k End r.rest → Alternated k End ts
    by_parts r (zs, d, bars, end) = record { tree = one_or_alternatives r.tree zs; rest = d; alternatives = (r.tree, zs, r.rest, r.ancestry, bars, refl); after = end }

    of_ancestries : Ancestries k k End ts → Alternated k End ts
    of_ancestries r = by_parts r r.after

-- a primary and the lists after it
listed : (u : ℕ) (x : Context) (ts a : List Token) (y : Tree) → ((names : List (List ℕ)) (rest : List Token) → AreLists a names rest → IsUnaryWith (within u) ts (with_attributes y names) rest) → PrimaryLeft x a → Done (operand u) x ts
listed u x ts a y primary (ls, b, are, left) =
    let names : List (List ℕ) = flat_map (λ ns. ns) ls in
    (with_attributes y names, b, primary names b (ls, are, refl), left)

-- ---- one token

-- the machine does not go on
never : {X : Type 0} → false ≡ true → X
never e = absurd (true≢false (sym e))

module _ (ts us : List Token) (more : (q : Place) (y : Context) → accepts q y ts ≡ true → Done q y us) where
  sign-is : (c k : ℕ) → eqb c k ≡ true → ◌≡◌ {A = List Token} (Sign c ∷ us) (Sign k ∷ us)
  sign-is c k is = ap (λ (d : ℕ). Sign d ∷ us) (eqb-true c k is)

  -- a list, where one begins
  bracket : (x : Context) (c : ℕ) → eqb c open_bracket ≡ true → accepts before_name x ts ≡ true → PrimaryLeft x (Sign c ∷ us)
  bracket x c is e = by_parts (more before_name x e)
    where
      by_parts : Done before_name x us → PrimaryLeft x (Sign c ∷ us)
      by_parts (ns, a, names, (ls, b, are, left)) = (ns ∷ ls, b, (us, a, sign-is c open_bracket is, names, are), left)

  parents_of : (a k : ℕ) (outer : List (ℕ × ℕ)) (c : ℕ) → eqb c greater_than_sign ≡ true → then_accepts (opens a (λ b. goes (operand b) (context b k outer))) ts ≡ true → AfterMulti a k (AfterAlternatives outer) (Sign c ∷ us)
  parents_of zero k outer c is e = never e
  parents_of (suc v) k outer c is e = by_parts (more (operand v) (context v k outer) e)
    where
      of_ancestries : Ancestries v k (AfterAlternatives outer) us → AfterMulti (suc v) k (AfterAlternatives outer) (Sign c ∷ us)
      of_ancestries r = (r.rest, (λ x. (Ancestry x r.tree, inl (us, r.tree, sign-is c greater_than_sign is, r.ancestry, refl))), r.after)

      by_parts : Done (operand v) (context v k outer) us → AfterMulti (suc v) k (AfterAlternatives outer) (Sign c ∷ us)
      by_parts (y, a, unary, left) = of_ancestries (ancestries v k (AfterAlternatives outer) us y a unary left)

  alternative : (k : ℕ) (outer : List (ℕ × ℕ)) (c : ℕ) → eqb c vertical_bar ≡ true → accepts (operand k) (context k k outer) ts ≡ true → AfterAncestry k (AfterAlternatives outer) (Sign c ∷ us)
  alternative k outer c is e = by_parts (more (operand k) (context k k outer) e)
    where
      of_ancestries : (r : Ancestries k k (AfterAlternatives outer) us) → AfterAncestry k (AfterAlternatives outer) r.rest → AfterAncestry k (AfterAlternatives outer) (Sign c ∷ us)
      of_ancestries r (zs, d, bars, end) = (r.tree ∷ zs, d, (us, r.rest, sign-is c vertical_bar is, r.ancestry, bars), end)

      by_parts : Done (operand k) (context k k outer) us → AfterAncestry k (AfterAlternatives outer) (Sign c ∷ us)
      by_parts (y, a, unary, left) =
          let r = ancestries k k (AfterAlternatives outer) us y a unary left in
          of_ancestries r r.after

  closing : (outer : List (ℕ × ℕ)) (c : ℕ) → eqb c close_parenthesis ≡ true → then_accepts (closes outer) ts ≡ true → AfterAlternatives outer (Sign c ∷ us)
  closing [] c is e = never e
  closing (o ∷ outer) c is e = (us, sign-is c close_parenthesis is, more lists (context o.0 o.1 outer) e)

  and_then : (x : Context) (c : ℕ) → eqb c ampersand ≡ true → accepts (operand x.ancestry) x ts ≡ true → UnaryLeft x (Sign c ∷ us)
  and_then x c is e = by_parts (more (operand x.ancestry) x e)
    where
      by_parts : Done (operand x.ancestry) x us → UnaryLeft x (Sign c ∷ us)
      by_parts (y, a, unary, (xs, b, ands, left)) = (y ∷ xs, b, (us, a, sign-is c ampersand is, unary, ands), left)

  after_primary-takes : (x : Context) (c : ℕ) → then_accepts (after_primary x (Sign c)) ts ≡ true → PrimaryLeft x (Sign c ∷ us)
  after_primary-takes x c e = by_bracket (eqb c open_bracket) refl e
    where
      by_close : (b : Bool) → eqb c close_parenthesis ≡ b → then_accepts (cond b (closes x.outer) refused) ts ≡ true → AfterAlternatives x.outer (Sign c ∷ us)
      by_close true is d = closing x.outer c is d
      by_close false is d = never d

      by_bar : (b : Bool) → eqb c vertical_bar ≡ b → then_accepts (cond b (goes (operand x.alternatives) (context x.alternatives x.alternatives x.outer)) (after_alternatives x.outer (Sign c))) ts ≡ true
          → AfterAncestry x.alternatives (AfterAlternatives x.outer) (Sign c ∷ us)
      by_bar true is d = alternative x.alternatives x.outer c is d
      by_bar false is d = no_bar x.alternatives (AfterAlternatives x.outer) (Sign c ∷ us) is (by_close (eqb c close_parenthesis) refl d)

      by_above : (b : Bool) → eqb c greater_than_sign ≡ b → then_accepts (cond b (opens x.ancestry (λ a. goes (operand a) (context a x.alternatives x.outer))) (after_ancestry x.alternatives x.outer (Sign c))) ts ≡ true
          → AfterMulti x.ancestry x.alternatives (AfterAlternatives x.outer) (Sign c ∷ us)
      by_above true is d = parents_of x.ancestry x.alternatives x.outer c is d
      by_above false is d = no_parents x.ancestry x.alternatives (AfterAlternatives x.outer) (Sign c ∷ us) is (by_bar (eqb c vertical_bar) refl d)

      by_and : (b : Bool) → eqb c ampersand ≡ b → then_accepts (cond b (goes (operand x.ancestry) x) (after_multi x (Sign c))) ts ≡ true → UnaryLeft x (Sign c ∷ us)
      by_and true is d = and_then x c is d
      by_and false is d = no_ampersand x.ancestry x.alternatives (AfterAlternatives x.outer) (Sign c ∷ us) is (by_above (eqb c greater_than_sign) refl d)

      by_bracket : (b : Bool) → eqb c open_bracket ≡ b → then_accepts (cond b (goes before_name x) (after_unary x (Sign c))) ts ≡ true → PrimaryLeft x (Sign c ∷ us)
      by_bracket true is d = bracket x c is d
      by_bracket false is d = no_list x.ancestry x.alternatives (AfterAlternatives x.outer) (Sign c ∷ us) is (by_and (eqb c ampersand) refl d)

  negation : (u : ℕ) (x : Context) (c : ℕ) → eqb c exclamation_mark ≡ true → then_accepts (opens u (λ v. goes (operand v) x)) ts ≡ true → Done (operand u) x (Sign c ∷ us)
  negation zero x c is e = never e
  negation (suc v) x c is e = by_parts (more (operand v) x e)
    where
      by_parts : Done (operand v) x us → Done (operand (suc v)) x (Sign c ∷ us)
      by_parts (y, a, unary, left) = (Not y, a, inl (us, y, sign-is c exclamation_mark is, unary, refl), left)

  star : (u : ℕ) (x : Context) (c : ℕ) → eqb c asterisk ≡ true → accepts lists x ts ≡ true → Done (operand u) x (Sign c ∷ us)
  star u x c is e = listed u x (Sign c ∷ us) us Any (λ names rest are. inr (inr (Any, us, names, inl (sign-is c asterisk is, refl), are, refl))) (more lists x e)

  left_out : (u : ℕ) (x : Context) (c : ℕ) → eqb c open_bracket ≡ true → accepts before_name x ts ≡ true → Done (operand u) x (Sign c ∷ us)
  left_out u x c is e =
      listed u x (Sign c ∷ us) (Sign c ∷ us) Any (λ names rest are. inr (inr (Any, Sign c ∷ us, names, inr (inr (inr (us, sign-is c open_bracket is, refl, refl))), are, refl))) (bracket x c is e)

  round : (u : ℕ) (x : Context) (c : ℕ) → eqb c open_parenthesis ≡ true → then_accepts (inside u x) ts ≡ true → Done (operand u) x (Sign c ∷ us)
  round zero x c is e = never e
  round (suc v) x c is e = by_parts (more (operand v) (context v v ((x.ancestry, x.alternatives) ∷ x.outer)) e)
    where
      of_alternatives : (r : Alternated v (AfterAlternatives ((x.ancestry, x.alternatives) ∷ x.outer)) us) → AfterAlternatives ((x.ancestry, x.alternatives) ∷ x.outer) r.rest → Done (operand (suc v)) x (Sign c ∷ us)
      of_alternatives r (b, close, left) =
          let parted = subst (λ rest. AreParted vertical_bar one_or_alternatives (IsAncestryWith (within v)) us r.tree rest) close r.alternatives in
          listed (suc v) x (Sign c ∷ us) b r.tree (λ names rest are. inr (inr (r.tree, b, names, inr (inr (inl (us, sign-is c open_parenthesis is, parted))), are, refl))) left

      by_parts : Done (operand v) (context v v ((x.ancestry, x.alternatives) ∷ x.outer)) us → Done (operand (suc v)) x (Sign c ∷ us)
      by_parts (y, a, unary, left) =
          let r = alternated v (AfterAlternatives ((x.ancestry, x.alternatives) ∷ x.outer)) us y a unary left in
          of_alternatives r r.after

  operand-takes : (u : ℕ) (x : Context) (c : ℕ)
      → then_accepts (cond (eqb c exclamation_mark) (opens u (λ v. goes (operand v) x)) (cond (eqb c asterisk) (goes lists x) (cond (eqb c open_bracket) (goes before_name x) (cond (eqb c open_parenthesis) (inside u x) refused)))) ts ≡ true
      → Done (operand u) x (Sign c ∷ us)
  operand-takes u x c e = by_tests (eqb c exclamation_mark) (eqb c asterisk) (eqb c open_bracket) (eqb c open_parenthesis) refl refl refl refl e
    where
      by_tests : (negates stars opens_list opens_round : Bool) → eqb c exclamation_mark ≡ negates → eqb c asterisk ≡ stars → eqb c open_bracket ≡ opens_list → eqb c open_parenthesis ≡ opens_round
          → then_accepts (cond negates (opens u (λ v. goes (operand v) x)) (cond stars (goes lists x) (cond opens_list (goes before_name x) (cond opens_round (inside u x) refused)))) ts ≡ true
          → Done (operand u) x (Sign c ∷ us)
      by_tests true stars opens_list opens_round is1 is2 is3 is4 d = negation u x c is1 d
      by_tests false true opens_list opens_round is1 is2 is3 is4 d = star u x c is2 d
      by_tests false false true opens_round is1 is2 is3 is4 d = left_out u x c is3 d
      by_tests false false false true is1 is2 is3 is4 d = round u x c is4 d
      by_tests false false false false is1 is2 is3 is4 d = never d

  bound : (u : ℕ) (x : Context) (c : ℕ) → eqb c colon ≡ true → then_accepts (opens u (λ v. goes (operand v) x)) ts ≡ true → Done (named u) x (Sign c ∷ us)
  bound zero x c is e = never e
  bound (suc v) x c is e = by_parts (more (operand v) x e)
    where
      by_parts : Done (operand v) x us → Done (named (suc v)) x (Sign c ∷ us)
      by_parts (y, a, unary, left) = (Binding article y, a, inr (inl (article, us, y, ap (λ (ws : List Token). Name article ∷ ws) (sign-is c colon is), unary, refl)), left)

  named-takes : (u : ℕ) (x : Context) (c : ℕ) → then_accepts (cond (eqb c colon) (opens u (λ v. goes (operand v) x)) (after_primary x (Sign c))) ts ≡ true → Done (named u) x (Sign c ∷ us)
  named-takes u x c e = by_test (eqb c colon) refl e
    where
      by_test : (b : Bool) → eqb c colon ≡ b → then_accepts (cond b (opens u (λ v. goes (operand v) x)) (after_primary x (Sign c))) ts ≡ true → Done (named u) x (Sign c ∷ us)
      by_test true is d = bound u x c is d
      by_test false bars d =
          listed u x (Name article ∷ Sign c ∷ us) (Sign c ∷ us) (Entry Article) (λ names rest are. inr (inr (Entry Article, Sign c ∷ us, names, inr (inl (article, Article, refl, bars, article-is, refl)), are, refl)))
          (after_primary-takes x c d)

  name-takes : (x : Context) → accepts after_name x ts ≡ true → Done before_name x (Name article ∷ us)
  name-takes x e = by_parts (more after_name x e)
    where
      by_parts : Done after_name x us → Done before_name x (Name article ∷ us)
      by_parts (ns, a, b, commas, close, left) = (article ∷ ns, b, (us, a, refl, commas, close), left)

  comma-takes : (x : Context) (c : ℕ) → then_accepts (cond (eqb c comma) (goes before_name x) (cond (eqb c close_bracket) (goes lists x) refused)) ts ≡ true → Done after_name x (Sign c ∷ us)
  comma-takes x c e = by_tests (eqb c comma) (eqb c close_bracket) refl refl e
    where
      by_parts : eqb c comma ≡ true → Done before_name x us → Done after_name x (Sign c ∷ us)
      by_parts is ([], b, names, left) = absurd names
      by_parts is (n ∷ ns, b, (a, d, first, commas, close), left) = (n ∷ ns, d, b, (us, a, sign-is c comma is, first, commas), close, left)

      by_tests : (parts closes_list : Bool) → eqb c comma ≡ parts → eqb c close_bracket ≡ closes_list → then_accepts (cond parts (goes before_name x) (cond closes_list (goes lists x) refused)) ts ≡ true
          → Done after_name x (Sign c ∷ us)
      by_tests true closes_list is1 is2 d = by_parts is1 (more before_name x d)
      by_tests false true is1 is2 d = ([], Sign c ∷ us, us, (refl, is1), sign-is c close_bracket is2, more lists x d)
      by_tests false false is1 is2 d = never d

  token-takes : (p : Place) (x : Context) (t : Token) → accepts p x (t ∷ ts) ≡ true → Done p x (with_type t ∷ us)
  token-takes (operand u) x (Name n) e = more (named u) x e
  token-takes (operand u) x (Sign c) e = operand-takes u x c e
  token-takes (named u) x (Name n) e = never e
  token-takes (named u) x (Sign c) e = named-takes u x c e
  token-takes lists x (Name n) e = never e
  token-takes lists x (Sign c) e = after_primary-takes x c e
  token-takes before_name x (Name n) e = name-takes x e
  token-takes before_name x (Sign c) e = never e
  token-takes after_name x (Name n) e = never e
  token-takes after_name x (Sign c) e = comma-takes x c e

-- ---- all tokens

all_closed : (outer : List (ℕ × ℕ)) → is_none (unclosed outer) ≡ true → AfterAlternatives outer []
all_closed [] e = refl
all_closed (o ∷ outer) e = never e

nothing_left : (x : Context) → is_none (unclosed x.outer) ≡ true → PrimaryLeft x []
nothing_left x e =
    no_list x.ancestry x.alternatives (AfterAlternatives x.outer) [] tt
    (no_ampersand x.ancestry x.alternatives (AfterAlternatives x.outer) [] tt (no_parents x.ancestry x.alternatives (AfterAlternatives x.outer) [] tt (no_bar x.alternatives (AfterAlternatives x.outer) [] tt (all_closed x.outer e))))

end-takes : (p : Place) (x : Context) → accepts p x [] ≡ true → Done p x []
end-takes (operand u) x e = never e
end-takes (named u) x e = listed u x (Name article ∷ []) [] (Entry Article) (λ names rest are. inr (inr (Entry Article, [], names, inr (inl (article, Article, refl, tt, article-is, refl)), are, refl))) (nothing_left x e)
end-takes lists x e = nothing_left x e
end-takes before_name x e = never e
end-takes after_name x e = never e

takes : (ts : List Token) (p : Place) (x : Context) → accepts p x ts ≡ true → Done p x (map with_type ts)
takes [] p x e = end-takes p x e
takes (t ∷ ts) p x e = token-takes ts (map with_type ts) (λ q y. takes ts q y) p x t e

pub accepted-expression : (u : ℕ) (ts : List Token) → accepts (operand u) (start u) ts ≡ true → IsExpressionIn (suc u) ts
accepted-expression u ts e = by_parts (takes ts (operand u) (start u) e)
  where
    of_alternatives : Alternated u (AfterAlternatives []) (map with_type ts) → IsExpressionIn (suc u) ts
    of_alternatives r = (r.tree, subst (λ rest. AreParted vertical_bar one_or_alternatives (IsAncestryWith (within u)) (map with_type ts) r.tree rest) r.after r.alternatives)

    by_parts : Done (operand u) (start u) (map with_type ts) → IsExpressionIn (suc u) ts
    by_parts (y, a, unary, left) = of_alternatives (alternated u (AfterAlternatives []) (map with_type ts) y a unary left)
