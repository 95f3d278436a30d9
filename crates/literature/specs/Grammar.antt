-- The selector language as a grammar by cases on tokens. Each relation takes the tokens, what is spelled from the first of them on, and the
-- tokens that follow. Signs are characters.
use Rattle.std.specs.Prelude.{◌≡◌, ℕ, zero, suc, false, ◌==◌, List, [], ◌∷◌, Some, ◌⊎◌}
use Rattle.std.specs.List.{flat_map}
use Rattle.laws.specs.Characters.{exclamation_mark, ampersand, open_parenthesis, close_parenthesis, asterisk, comma, colon, greater_than_sign, open_bracket, close_bracket, vertical_bar}
use Rattle.literature_values.specs.EntryTypes.{type_called}
use Rattle.literature.specs.Tokens.{Token, Name, Sign, tokens}
use Rattle.literature.specs.Trees.{Tree, Any, Entry, Not, Binding, Ancestry, one_or_alternatives, one_or_multi, with_attributes}
use Rattle.literature_values.specs.declared.entry_type.EntryType.{EntryType}

-- tokens, what they spell, and the tokens that follow
abbrev pub Spells : Type 0 → Type 1
Spells X = List Token → X → List Token → Type 0

-- the sign does not stand first
abbrev pub Bars : ℕ → List Token → Type 0
Bars sign [] = Unit {0}
Bars sign (Name n ∷ ts) = Unit {0}
Bars sign (Sign c ∷ ts) = (c == sign) ≡ false

-- each after the sign, and no further sign after the last
abbrev pub AreAfter : {X : Type 0} → ℕ → Spells X → Spells (List X)
AreAfter sign Is ts [] rest = (ts ≡ rest) × Bars sign rest
AreAfter sign Is ts (x ∷ xs) rest = (a : List Token) × (b : List Token) × (ts ≡ Sign sign ∷ a) × Is a x b × AreAfter sign Is b xs rest

-- a name
abbrev pub IsName : Spells (List ℕ)
IsName ts n rest = ts ≡ Name n ∷ rest

-- after the bracket that begins a list: names parted by commas, and the bracket that ends it
abbrev pub AreNames : Spells (List (List ℕ))
AreNames ts [] rest = ⊥
AreNames ts (n ∷ ns) rest = (a : List Token) × (b : List Token) × IsName ts n a × AreAfter comma IsName a ns b × (b ≡ Sign close_bracket ∷ rest)

-- the names of all lists that stand here
abbrev pub AreLists : Spells (List (List ℕ))
AreLists ts names rest = (lists : List (List (List ℕ))) × AreAfter open_bracket AreNames ts lists rest × (names ≡ flat_map (λ ns. ns) lists)

-- one or more parted by the sign, joined to one
abbrev pub AreParted : ℕ → (Tree → List Tree → Tree) → Spells Tree → Spells Tree
AreParted sign join Is ts y rest = (x : Tree) × (xs : List Tree) × (a : List Token) × Is ts x a × AreAfter sign Is a xs rest × (y ≡ join x xs)

-- what may be spelled one level further in
pub record Within : Type 1 where
  pub IsUnary : Spells Tree
  pub IsAncestry : Spells Tree

-- a star
abbrev pub IsStar : Spells Tree
IsStar ts x rest = (ts ≡ Sign asterisk ∷ rest) × (x ≡ Any)

-- the name of a type, before no colon
abbrev pub IsType : Spells Tree
IsType ts x rest = (n : List ℕ) × (t : EntryType) × (ts ≡ Name n ∷ rest) × Bars colon rest × (type_called n ≡ Some t) × (x ≡ Entry t)

-- alternatives in parentheses
abbrev pub IsInParentheses : Within → Spells Tree
IsInParentheses inner ts x rest = (a : List Token) × (ts ≡ Sign open_parenthesis ∷ a) × AreParted vertical_bar one_or_alternatives inner.IsAncestry a x (Sign close_parenthesis ∷ rest)

-- nothing before a list: a star is meant
abbrev pub IsLeftOut : Spells Tree
IsLeftOut ts x rest = (a : List Token) × (ts ≡ Sign open_bracket ∷ a) × (ts ≡ rest) × (x ≡ Any)

-- a star, a type, a parenthesis, or nothing before a list
abbrev pub IsPrimary : Within → Spells Tree
IsPrimary inner ts x rest = IsStar ts x rest ⊎ (IsType ts x rest ⊎ (IsInParentheses inner ts x rest ⊎ IsLeftOut ts x rest))

-- a primary and the lists after it
abbrev pub IsListed : Within → Spells Tree
IsListed inner ts y rest = (x : Tree) × (a : List Token) × (names : List (List ℕ)) × IsPrimary inner ts x a × AreLists a names rest × (y ≡ with_attributes x names)

-- an exclamation mark and a unary expression
abbrev pub IsNot : Within → Spells Tree
IsNot inner ts y rest = (a : List Token) × (x : Tree) × (ts ≡ Sign exclamation_mark ∷ a) × inner.IsUnary a x rest × (y ≡ Not x)

-- a name, a colon and a unary expression
abbrev pub IsBinding : Within → Spells Tree
IsBinding inner ts y rest = (n : List ℕ) × (a : List Token) × (x : Tree) × (ts ≡ Name n ∷ Sign colon ∷ a) × inner.IsUnary a x rest × (y ≡ Binding n x)

-- a negation, a binding, or a primary with its lists
abbrev pub IsUnaryWith : Within → Spells Tree
IsUnaryWith inner ts y rest = IsNot inner ts y rest ⊎ (IsBinding inner ts y rest ⊎ IsListed inner ts y rest)

-- unary expressions parted by ampersands
abbrev pub IsMultiWith : Within → Spells Tree
IsMultiWith inner = AreParted ampersand one_or_multi (IsUnaryWith inner)

-- what parents are asked, or nothing
abbrev pub IsAboveWith : Within → Tree → Spells Tree
IsAboveWith inner x ts y rest = ((a : List Token) × (z : Tree) × (ts ≡ Sign greater_than_sign ∷ a) × inner.IsAncestry a z rest × (y ≡ Ancestry x z)) ⊎ (Bars greater_than_sign ts × (ts ≡ rest) × (y ≡ x))

-- one or more parted by ampersands, and what their parents are asked
abbrev pub IsAncestryWith : Within → Spells Tree
IsAncestryWith inner ts y rest = (x : Tree) × (a : List Token) × IsMultiWith inner ts x a × IsAboveWith inner x a y rest

-- what may be spelled where so many levels may be open
abbrev pub within : ℕ → Within
within zero = record { IsUnary = λ ts x rest. ⊥; IsAncestry = λ ts x rest. ⊥ }
within (suc n) = record { IsUnary = IsUnaryWith (within n); IsAncestry = IsAncestryWith (within n) }

-- alternatives from the first token on, with at most 128 levels open in them
abbrev pub IsExpression : Spells Tree
IsExpression = AreParted vertical_bar one_or_alternatives (within 129).IsAncestry

-- the longest expression at the text's start
abbrev pub IsSelector : List ℕ → Tree → Type 0
IsSelector cs x = (rest : List Token) × IsExpression (tokens cs) x rest
