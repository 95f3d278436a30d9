-- The name in a fault of a selector has no line feed, since it is one of the selector's tokens.
use Rattle.std.proofs.Common.{ℕ, zero, suc, Bool, true, false, cond, All, List, [], ◌∷◌, length, Option, Some, None, Ok, Err, codes, refl}
use Rattle.std.specs.Prelude.{◌==◌, IfErr, IfSome, MatchResult}
use Rattle.std.specs.Option.{option_map_or}
use Rattle.std.proofs.lemmas.List.Elements.{All-nil, All-cons, All-head, All-tail}
use Rattle.laws.specs.Characters.{exclamation_mark, ampersand, open_parenthesis, close_parenthesis, asterisk, comma, colon, greater_than_sign, open_bracket, close_bracket, vertical_bar}
use Rattle.laws.specs.Results.{◌>>=◌}
use Rattle.laws.specs.Runs.{prefix_of, after}
use Rattle.laws.specs.Text.{text}
use Rattle.laws.proofs.Runs.{all-prefix}
use Rattle.laws.proofs.Throughout.{bind_match}
use Rattle.texts.specs.Character.{passes}
use Rattle.texts.specs.declared.character.Class.TheVariants.{Blank}
use Rattle.literature_values.specs.EntryTypes.{type_called}
use Rattle.literature_values.specs.declared.entry_type.EntryType.{EntryType}
use Rattle.literature.specs.Errors.{fault_text}
use Rattle.literature.specs.Reading.{Fault, MissingValue, Reading, taken, one_more, each_below, each_after, name_at, list_end, names_at, lists_at, listed_at, parted, alternatives_of, multi_of, Level, typed, named, closed, parenthesised, signed, unary_in, above, ancestry_in, level, selector_at, selector_of}
use Rattle.literature.specs.Tokens.{Token, Name, Sign, is_name_character, is_sign, token_here, token_at, tokens_below, tokens}
use Rattle.literature.specs.Trees as trees
use Rattle.literature.specs.Trees.{Tree, Any, Entry, one_or_alternatives, one_or_multi}
use Rattle.biblatex.specs.Lines.{HasNoLineFeed}
use Rattle.biblatex.proofs.Lines.{append, passing, spelled}

abbrev TokenPlain : Token → Type 0
TokenPlain (Name n) = HasNoLineFeed (text n)
TokenPlain (Sign c) = Unit {0}

abbrev ArePlain : List Token → Type 0
ArePlain ts = All TokenPlain ts

abbrev pub FaultPlain : Fault → Type 0
FaultPlain f = HasNoLineFeed (fault_text f)

-- ---- tokens

name_plain : (cs : List ℕ) → HasNoLineFeed (text (prefix_of is_name_character cs))
name_plain cs = spelled (prefix_of is_name_character cs) (passing is_name_character (prefix_of is_name_character cs) refl (all-prefix is_name_character cs))

abbrev FirstPlain : Token × List ℕ → Type 0
FirstPlain p = TokenPlain p.0

here_plain : (cs : List ℕ) → IfSome (token_here cs) FirstPlain
here_plain [] = tt
here_plain (c ∷ cs) = by_class (is_name_character c) (is_sign c)
  where
    by_class : (name sign : Bool)
        → IfSome (cond name (Some (Name (prefix_of is_name_character (c ∷ cs)), after is_name_character (c ∷ cs))) (cond sign (Some (Sign c, cs)) None)) FirstPlain
    by_class true sign = name_plain (c ∷ cs)
    by_class false true = tt
    by_class false false = tt

token_plain : (cs : List ℕ) → IfSome (token_at cs) FirstPlain
unfolding token_at
token_plain cs = here_plain (after (passes Blank) cs)

below_plain : (n : ℕ) (cs : List ℕ) → ArePlain (tokens_below n cs)
unfolding tokens_below
below_plain zero cs = All-nil TokenPlain
below_plain (suc n) cs = by_token (λ ds. below_plain n ds) (token_at cs) (token_plain cs)
  where
    by_token : ((ds : List ℕ) → ArePlain (tokens_below n ds)) → (o : Option (Token × List ℕ)) → IfSome o FirstPlain → ArePlain (option_map_or (λ p. p.0 ∷ tokens_below n p.1) o [])
    by_token more None plain = All-nil TokenPlain
    by_token more (Some p) plain = All-cons TokenPlain p.0 (tokens_below n p.1) plain (more p.1)

tokens_plain : (cs : List ℕ) → ArePlain (tokens cs)
unfolding tokens
tokens_plain cs = below_plain (suc (length cs)) cs

-- ---- what leaves tokens of the same kind, or refuses by one of them

abbrev LeftPlain : {X : Type 0} → X × List Token → Type 0
LeftPlain p = ArePlain p.1

abbrev IsPlain : {X : Type 0} → Reading X → Type 0
IsPlain read = (ts : List Token) → ArePlain ts → MatchResult (read ts) LeftPlain FaultPlain

taken_plain : (sign : ℕ) (ts : List Token) → ArePlain ts → ArePlain (taken sign ts).1
taken_plain sign [] all = all
taken_plain sign (Name n ∷ ts) all = all
taken_plain sign (Sign c ∷ ts) all = by_sign (c == sign)
  where
    by_sign : (b : Bool) → ArePlain (cond {A = Bool × List Token} b (true, ts) (false, Sign c ∷ ts)).1
    by_sign true = All-tail TokenPlain (Sign c) ts all
    by_sign false = all

module _ {X : Type 0} where
  more_plain : (read : Reading X) (others : Reading (List X)) → IsPlain read → IsPlain others → (p : Bool × List Token) → ArePlain p.1 → MatchResult (one_more read others p) LeftPlain FaultPlain
  more_plain read others plain rest (false, ts) all = all
  more_plain read others plain rest (true, ts) all =
      bind_match LeftPlain LeftPlain FaultPlain (read ts) _ (plain ts all) (λ p left.
      bind_match LeftPlain LeftPlain FaultPlain (others p.1) _ (rest p.1 left) (λ q end. end))

  each_below_plain : (n sign : ℕ) (read : Reading X) → IsPlain read → IsPlain (each_below n sign read)
  unfolding each_below
  each_below_plain zero sign read plain ts all = all
  each_below_plain (suc n) sign read plain ts all = more_plain read (each_below n sign read) plain (each_below_plain n sign read plain) (taken sign ts) (taken_plain sign ts all)

  each_after_plain : (sign : ℕ) (read : Reading X) → IsPlain read → IsPlain (each_after sign read)
  unfolding each_after
  each_after_plain sign read plain ts all = each_below_plain (suc (length ts)) sign read plain ts all

-- ---- lists of names

name_at_plain : IsPlain name_at
name_at_plain [] all = refl
name_at_plain (Name n ∷ ts) all = All-tail TokenPlain (Name n) ts all
name_at_plain (Sign c ∷ ts) all = refl

list_end_plain : (p : Bool × List Token) → ArePlain p.1 → MatchResult (list_end p) ArePlain FaultPlain
list_end_plain (true, ts) all = all
list_end_plain (false, ts) all = refl

names_plain : IsPlain names_at
unfolding names_at
names_plain ts all =
    bind_match LeftPlain LeftPlain FaultPlain (name_at ts) _ (name_at_plain ts all) (λ first left.
    bind_match LeftPlain LeftPlain FaultPlain (each_after comma name_at first.1) _ (each_after_plain comma name_at name_at_plain first.1 left) (λ others more.
    bind_match ArePlain LeftPlain FaultPlain (list_end (taken close_bracket others.1)) _ (list_end_plain (taken close_bracket others.1) (taken_plain close_bracket others.1 more)) (λ rest end. end)))

lists_plain : IsPlain lists_at
unfolding lists_at
lists_plain ts all = bind_match LeftPlain LeftPlain FaultPlain (each_after open_bracket names_at ts) _ (each_after_plain open_bracket names_at names_plain ts all) (λ lists left. left)

listed_plain : (x : Tree) → IsPlain (listed_at x)
unfolding listed_at
listed_plain x ts all = bind_match LeftPlain LeftPlain FaultPlain (lists_at ts) _ (lists_plain ts all) (λ names left. left)

-- ---- trees

parted_plain : (sign : ℕ) (join : Tree → List Tree → Tree) (read : Reading Tree) → IsPlain read → IsPlain (parted sign join read)
unfolding parted
parted_plain sign join read plain ts all =
    bind_match LeftPlain LeftPlain FaultPlain (read ts) _ (plain ts all) (λ first left.
    bind_match LeftPlain LeftPlain FaultPlain (each_after sign read first.1) _ (each_after_plain sign read plain first.1 left) (λ others end. end))

record LevelPlain (inner : Level) : Type 0 where
  pub unary : IsPlain inner.unary
  pub ancestry : IsPlain inner.ancestry

typed_plain : (n : List ℕ) → HasNoLineFeed (text n) → (o : Option EntryType) → IsPlain (typed n o)
typed_plain n plain None ts all = append (codes "unknown entry type ") (text n) refl plain
typed_plain n plain (Some t) ts all = listed_plain (Entry t) ts all

closed_plain : (x : Tree) (p : Bool × List Token) → ArePlain p.1 → MatchResult (closed x p) LeftPlain FaultPlain
closed_plain x (true, ts) all = listed_plain x ts all
closed_plain x (false, ts) all = refl

module _ (inner : Level) (plain : LevelPlain inner) where
  named_plain : (n : List ℕ) → HasNoLineFeed (text n) → (p : Bool × List Token) → ArePlain p.1 → MatchResult (named inner n p) LeftPlain FaultPlain
  named_plain n name (true, ts) all = bind_match LeftPlain LeftPlain FaultPlain (inner.unary ts) _ (plain.unary ts all) (λ p left. left)
  named_plain n name (false, ts) all = typed_plain n name (type_called n) ts all

  parenthesised_plain : IsPlain (parenthesised inner)
  unfolding parenthesised
  parenthesised_plain ts all =
      bind_match LeftPlain LeftPlain FaultPlain (alternatives_of inner.ancestry ts) _ (parted_plain vertical_bar one_or_alternatives inner.ancestry plain.ancestry ts all) (λ inside left.
      closed_plain inside.0 (taken close_parenthesis inside.1) (taken_plain close_parenthesis inside.1 left))

  signed_plain : (c : ℕ) → IsPlain (signed inner c)
  signed_plain c ts all = by_sign (c == exclamation_mark) (c == asterisk) (c == open_bracket) (c == open_parenthesis)
    where
      by_sign : (negates star list opens : Bool)
          → MatchResult (cond negates (inner.unary ts >>= λ p. Ok (trees.Not p.0, p.1)) (cond star (listed_at Any ts) (cond list (listed_at Any (Sign c ∷ ts)) (cond opens (parenthesised inner ts) (Err MissingValue))))) LeftPlain FaultPlain
      by_sign true star list opens = bind_match LeftPlain LeftPlain FaultPlain (inner.unary ts) _ (plain.unary ts all) (λ p left. left)
      by_sign false true list opens = listed_plain Any ts all
      by_sign false false true opens = listed_plain Any (Sign c ∷ ts) (All-cons TokenPlain (Sign c) ts tt all)
      by_sign false false false true = parenthesised_plain ts all
      by_sign false false false false = refl

  unary_plain : IsPlain (unary_in inner)
  unfolding unary_in
  unary_plain [] all = refl
  unary_plain (Name n ∷ ts) all = named_plain n (All-head TokenPlain (Name n) ts all) (taken colon ts) (taken_plain colon ts (All-tail TokenPlain (Name n) ts all))
  unary_plain (Sign c ∷ ts) all = signed_plain c ts (All-tail TokenPlain (Sign c) ts all)

  above_plain : (x : Tree) (p : Bool × List Token) → ArePlain p.1 → MatchResult (above inner x p) LeftPlain FaultPlain
  above_plain x (true, ts) all = bind_match LeftPlain LeftPlain FaultPlain (inner.ancestry ts) _ (plain.ancestry ts all) (λ p left. left)
  above_plain x (false, ts) all = all

  ancestry_plain : IsPlain (ancestry_in inner)
  unfolding ancestry_in
  ancestry_plain ts all =
      bind_match LeftPlain LeftPlain FaultPlain (multi_of (unary_in inner) ts) _ (parted_plain ampersand one_or_multi (unary_in inner) unary_plain ts all) (λ of left.
      above_plain of.0 (taken greater_than_sign of.1) (taken_plain greater_than_sign of.1 left))

level_plain : (n : ℕ) → LevelPlain (level n)
unfolding level
level_plain zero = record { unary = λ ts all. refl; ancestry = λ ts all. refl }
level_plain (suc n) = record { unary = unary_plain (level n) (level_plain n); ancestry = ancestry_plain (level n) (level_plain n) }

whole_plain : IsPlain selector_at
unfolding selector_at
whole_plain ts all = parted_plain vertical_bar one_or_alternatives (level 129).ancestry (level_plain 129).ancestry ts all

abbrev Whatever : {A : Type 0} → A → Type 0
Whatever x = Unit {0}

pub selector_plain : (cs : List ℕ) → IfErr (selector_of cs) FaultPlain
unfolding selector_of
selector_plain cs = bind_match LeftPlain Whatever FaultPlain (selector_at (tokens cs)) _ (whole_plain (tokens cs) (tokens_plain cs)) (λ p left. tt)
