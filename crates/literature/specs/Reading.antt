-- Reading a list of tokens from the left: the tree that the longest expression spells and the tokens after it, or the first fault that is
-- met. Signs are characters.
use Rattle.std.specs.Prelude.{ℕ, zero, suc, Bool, true, false, ◌==◌, List, [], ◌∷◌, length, if◌then◌else◌, Option, Some, None, Result, Ok, Err}
use Rattle.std.specs.List.{flat_map}
use Rattle.laws.specs.Characters.{exclamation_mark, ampersand, open_parenthesis, close_parenthesis, asterisk, comma, colon, greater_than_sign, open_bracket, close_bracket, vertical_bar}
use Rattle.laws.specs.Results.{◌>>=◌}
use Rattle.literature_values.specs.EntryTypes.{type_called}
use Rattle.literature.specs.Tokens.{Token, Name, Sign, tokens}
use Rattle.literature.specs.Trees.{Tree, Any, Entry, Not, Binding, Ancestry, one_or_alternatives, one_or_multi, with_attributes}
use Rattle.literature_values.specs.declared.entry_type.EntryType.{EntryType}

-- An operand is missing; a name is missing in a list; a name of a list is followed by neither a comma nor the end; a
-- parenthesis is not closed; a name is no type's; a 129th level would be open.
pub data Fault : Type 0 where
  MissingValue : Fault
  MalformedAttribute : Fault
  MissingComma : Fault
  UnbalancedParens : Fault
  UnknownEntryType : List ℕ → Fault
  TooDeep : Fault

-- something and the tokens after it, or a fault
abbrev pub Reading : Type 0 → Type 0
Reading X = List Token → Result (X × List Token) Fault

-- whether a sign stands first, and what follows it
abbrev pub taken : ℕ → List Token → Bool × List Token
taken sign [] = (false, [])
taken sign (Name n ∷ ts) = (false, Name n ∷ ts)
taken sign (Sign c ∷ ts) = if c == sign then (true, ts) else (false, Sign c ∷ ts)

-- after the sign one more and then the others, without the sign none
abbrev pub one_more : {X : Type 0} → Reading X → Reading (List X) → Bool × List Token → Result (List X × List Token) Fault
one_more read others (false, ts) = Ok ([], ts)
one_more read others (true, ts) = read ts >>= λ p. others p.1 >>= λ q. Ok (p.0 ∷ q.0, q.1)

-- the same of at most n signs
unfoldable pub each_below : {X : Type 0} → ℕ → ℕ → Reading X → Reading (List X)
each_below zero sign read ts = Ok ([], ts)
each_below (suc n) sign read ts = one_more read (each_below n sign read) (taken sign ts)

-- As often as the sign stands: what is read after it. Each sign is a token, so there are no more of them than tokens.
unfoldable pub each_after : {X : Type 0} → ℕ → Reading X → Reading (List X)
each_after sign read ts = each_below (suc (length ts)) sign read ts

-- a name of a list
abbrev pub name_at : Reading (List ℕ)
name_at (Name n ∷ ts) = Ok (n, ts)
name_at ts = Err MalformedAttribute

-- past the bracket that ends a list
abbrev pub list_end : Bool × List Token → Result (List Token) Fault
list_end (true, ts) = Ok ts
list_end (false, ts) = Err MissingComma

-- names parted by commas, up to the bracket
unfoldable pub names_at : Reading (List (List ℕ))
names_at ts = do
  first ← name_at ts
  others ← each_after comma name_at first.1
  rest ← list_end (taken close_bracket others.1)
  Ok (first.0 ∷ others.0, rest)

-- the names of the lists that stand here, each after its bracket
unfoldable pub lists_at : Reading (List (List ℕ))
lists_at ts = do
  lists ← each_after open_bracket names_at ts
  Ok (flat_map (λ names. names) lists.0, lists.1)

-- a tree with the lists after it
unfoldable pub listed_at : Tree → Reading Tree
listed_at x ts = do
  names ← lists_at ts
  Ok (with_attributes x names.0, names.1)

-- trees parted by a sign, joined to one
unfoldable pub parted : ℕ → (Tree → List Tree → Tree) → Reading Tree → Reading Tree
parted sign join read ts = do
  first ← read ts
  others ← each_after sign read first.1
  Ok (join first.0 others.0, others.1)

-- trees parted by bars
abbrev pub alternatives_of : Reading Tree → Reading Tree
alternatives_of read ts = parted vertical_bar one_or_alternatives read ts

-- trees parted by ampersands
abbrev pub multi_of : Reading Tree → Reading Tree
multi_of read ts = parted ampersand one_or_multi read ts

-- what a token that opens a level has read after it
pub record Level : Type 0 where
  pub unary : Reading Tree
  pub ancestry : Reading Tree

-- the type of a name, with the lists after it
abbrev pub typed : List ℕ → Option EntryType → Reading Tree
typed n None ts = Err (UnknownEntryType n)
typed n (Some t) ts = listed_at (Entry t) ts

-- a name before a colon binds what is read after it, another one is that of a type
abbrev pub named : Level → List ℕ → Bool × List Token → Result (Tree × List Token) Fault
named inner n (true, ts) = inner.unary ts >>= λ p. Ok (Binding n p.0, p.1)
named inner n (false, ts) = typed n (type_called n) ts

-- past the parenthesis that closes, and the lists after it
abbrev pub closed : Tree → Bool × List Token → Result (Tree × List Token) Fault
closed x (true, ts) = listed_at x ts
closed x (false, ts) = Err UnbalancedParens

-- what stands after an opening parenthesis, up to the one that closes it, and the lists after it
unfoldable pub parenthesised : Level → Reading Tree
parenthesised inner ts = do
  inside ← alternatives_of inner.ancestry ts
  closed inside.0 (taken close_parenthesis inside.1)

-- a sign with what it opens: ! and * and [ (a list alone is one after *) and (
abbrev pub signed : Level → ℕ → Reading Tree
signed inner c ts = if c == exclamation_mark then (inner.unary ts >>= λ p. Ok (Not p.0, p.1))
    else (if c == asterisk then listed_at Any ts
    else (if c == open_bracket then listed_at Any (Sign c ∷ ts)
    else (if c == open_parenthesis then parenthesised inner ts
    else Err MissingValue)))

-- a negation, a binding, or a star, a type or a parenthesis with the lists after it
unfoldable pub unary_in : Level → Reading Tree
unary_in inner [] = Err MissingValue
unary_in inner (Name n ∷ ts) = named inner n (taken colon ts)
unary_in inner (Sign c ∷ ts) = signed inner c ts

-- what the parents are asked, after its sign
abbrev pub above : Level → Tree → Bool × List Token → Result (Tree × List Token) Fault
above inner x (true, ts) = inner.ancestry ts >>= λ p. Ok (Ancestry x p.0, p.1)
above inner x (false, ts) = Ok (x, ts)

-- one or more parted by ampersands, and what their parents are asked
unfoldable pub ancestry_in : Level → Reading Tree
ancestry_in inner ts = do
  of ← multi_of (unary_in inner) ts
  above inner of.0 (taken greater_than_sign of.1)

-- what is read where so many levels may be open; where none may, the token that opens one is the fault
unfoldable pub level : ℕ → Level
level zero = record { unary = λ ts. Err TooDeep; ancestry = λ ts. Err TooDeep }
level (suc n) = record { unary = unary_in (level n); ancestry = ancestry_in (level n) }

-- the tree that tokens spell, with at most 128 levels open
unfoldable pub selector_at : Reading Tree
selector_at ts = alternatives_of (level 129).ancestry ts

-- the tree of a text; what follows the longest expression is passed over
unfoldable pub selector_of : List ℕ → Result Tree Fault
selector_of cs = selector_at (tokens cs) >>= λ p. Ok p.0
