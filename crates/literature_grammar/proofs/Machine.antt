-- A machine that goes through an expression token by token, and stops at the first token that may not stand there. It does not ask whether
-- a name is that of a type.
use Rattle.std.proofs.Common.{ℕ, zero, suc, Bool, false, cond, eqb, List, [], ◌∷◌, Option, Some, None, is_none, Result, Ok, Err}
use Rattle.laws.specs.Characters.{exclamation_mark, ampersand, open_parenthesis, close_parenthesis, asterisk, comma, colon, greater_than_sign, open_bracket, close_bracket, vertical_bar}
use Rattle.literature.specs.Tokens.{Token, Name, Sign}
use Rattle.literature.specs.Reading.{Fault, MissingValue, MalformedAttribute, MissingComma, UnbalancedParens, TooDeep}

-- Before an operand, or after a name that may be bound, with so many levels that may still be opened; after a primary or a list; in a list,
-- before a name or after one.
pub data Place : Type 0 where
  operand : ℕ → Place
  named : ℕ → Place
  lists : Place
  before_name : Place
  after_name : Place

-- the levels that may be opened in the ancestry that is read and in the alternatives around it, and the same of each parenthesis around them
pub record Context : Type 0 where
  pub ancestry : ℕ
  pub alternatives : ℕ
  pub outer : List (ℕ × ℕ)

abbrev pub context : ℕ → ℕ → List (ℕ × ℕ) → Context
context a k outer = record { ancestry = a; alternatives = k; outer = outer }

abbrev pub State : Type 0
State = Place × Context

-- A token leads to a place, or it opens a level too many, or it may not stand there.
pub data Answer : Type 0 where
  goes : Place → Context → Answer
  deep : Answer
  refused : Answer

-- where a token opens a level
abbrev pub opens : ℕ → (ℕ → Answer) → Answer
opens zero next = deep
opens (suc u) next = next u

-- one answer where a sign stands, and another where it does not
abbrev pub if_sign : ℕ → Token → Answer → Answer → Answer
if_sign sign (Name n) here other = other
if_sign sign (Sign c) here other = cond (eqb c sign) here other

abbrev pub closes : List (ℕ × ℕ) → Answer
closes [] = refused
closes (o ∷ outer) = goes lists (context o.0 o.1 outer)

abbrev pub after_alternatives : List (ℕ × ℕ) → Token → Answer
after_alternatives outer t = if_sign close_parenthesis t (closes outer) refused

abbrev pub after_ancestry : ℕ → List (ℕ × ℕ) → Token → Answer
after_ancestry k outer t = if_sign vertical_bar t (goes (operand k) (context k k outer)) (after_alternatives outer t)

abbrev pub after_multi : Context → Token → Answer
after_multi x t = if_sign greater_than_sign t (opens x.ancestry (λ a. goes (operand a) (context a x.alternatives x.outer))) (after_ancestry x.alternatives x.outer t)

abbrev pub after_unary : Context → Token → Answer
after_unary x t = if_sign ampersand t (goes (operand x.ancestry) x) (after_multi x t)

abbrev pub after_primary : Context → Token → Answer
after_primary x t = if_sign open_bracket t (goes before_name x) (after_unary x t)

-- what stands in a parenthesis that is opened
abbrev pub inside : ℕ → Context → Answer
inside u x = opens u (λ v. goes (operand v) (context v v ((x.ancestry, x.alternatives) ∷ x.outer)))

abbrev pub at_operand : ℕ → Context → Token → Answer
at_operand u x (Name n) = goes (named u) x
at_operand u x (Sign c) = cond (eqb c exclamation_mark) (opens u (λ v. goes (operand v) x)) (cond (eqb c asterisk) (goes lists x) (cond (eqb c open_bracket) (goes before_name x) (cond (eqb c open_parenthesis) (inside u x) refused)))

abbrev pub at_named : ℕ → Context → Token → Answer
at_named u x t = if_sign colon t (opens u (λ v. goes (operand v) x)) (after_primary x t)

abbrev pub at_name : Context → Token → Answer
at_name x (Name n) = goes after_name x
at_name x (Sign c) = refused

abbrev pub at_list_end : Context → Token → Answer
at_list_end x t = if_sign close_bracket t (goes lists x) refused

abbrev pub at_comma : Context → Token → Answer
at_comma x t = if_sign comma t (goes before_name x) (at_list_end x t)

abbrev pub step : Place → Context → Token → Answer
step (operand u) x t = at_operand u x t
step (named u) x t = at_named u x t
step lists x t = after_primary x t
step before_name x t = at_name x t
step after_name x t = at_comma x t

-- What is missing where the tokens end, and where one may not stand; nothing is where no parenthesis is open after a primary or a list.
abbrev pub unclosed : List (ℕ × ℕ) → Option Fault
unclosed [] = None
unclosed (o ∷ outer) = Some UnbalancedParens

abbrev pub missing : Place → Context → Option Fault
missing (operand u) x = Some MissingValue
missing (named u) x = unclosed x.outer
missing lists x = unclosed x.outer
missing before_name x = Some MalformedAttribute
missing after_name x = Some MissingComma

-- what follows a step, or the same for each that does not go on
abbrev pub gone : {A : Type 0} → Answer → A → (Place → Context → A) → A
gone (goes p x) other more = more p x
gone deep other more = other
gone refused other more = other

-- whether the tokens lead to the end of an expression
abbrev pub accepts : Place → Context → List Token → Bool
accepts p x [] = is_none (missing p x)
accepts p x (t ∷ ts) = gone (step p x t) false (λ q y. accepts q y ts)

-- the same after a step
abbrev pub then_accepts : Answer → List Token → Bool
then_accepts r ts = gone r false (λ q y. accepts q y ts)

-- where the machine is after the tokens
abbrev pub reached : Place → Context → List Token → Option State
reached p x [] = Some (p, x)
reached p x (t ∷ ts) = gone (step p x t) None (λ q y. reached q y ts)

-- the fault of the tokens, or none; what may not follow an expression is passed over
abbrev pub Verdict : Type 0
Verdict = Result (Unit {0}) Fault

abbrev pub ended : Option Fault → Verdict
ended None = Ok tt
ended (Some f) = Err f

abbrev pub continued : Answer → Option Fault → (Place → Context → Verdict) → Verdict
continued (goes p x) lack more = more p x
continued deep lack more = Err TooDeep
continued refused lack more = ended lack

abbrev pub verdict : Place → Context → List Token → Verdict
verdict p x [] = ended (missing p x)
verdict p x (t ∷ ts) = continued (step p x t) (missing p x) (λ q y. verdict q y ts)

-- where an expression begins in which so many levels may be opened
abbrev pub start : ℕ → Context
start u = context u u []
