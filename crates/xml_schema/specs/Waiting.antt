-- Elements that are still to be looked at: the contents of open elements, the innermost first.
use Rattle.std.specs.Prelude.{◌≡◌, ℕ, ◌+◌, List, [], ◌∷◌, ◌++◌, flat_map, Option}
use Rattle.std.specs.Option.{option_or}
use Rattle.xml_tree.specs.Trees.{Element, Tagged, Content, Last, Next}
use Rattle.xml_schema.specs.Faults.{Fault, content_faults, first_of}
use Rattle.xml_schema.specs.Tables.{Rule, Schema}

-- a content in an element of that rule
pub record Waiting : Type 0 where
  pub rule : Rule
  pub content : Content

abbrev pub waits : Rule → Content → Waiting
waits rule content = record { rule = rule; content = content }

-- content without its last text
abbrev pub bare : Content → Content
bare (Last t) = Last []
bare (Next t e c) = Next t e (bare c)

-- what is in an element that has to be as the rule says, without its last text
abbrev pub inside : Rule → Element → Waiting
inside rule (Tagged left name attributes content) = waits rule (bare content)

-- all faults of what is still to be looked at
abbrev pub waiting_faults : Schema → List Waiting → List Fault
waiting_faults s ws = flat_map (λ (w : Waiting). content_faults s w.rule w.content) ws

abbrev mutual
  -- how many steps looking at an element may take
  pub weight : Element → ℕ
  weight (Tagged left name attributes content) = content_weight content + 2

  -- the same of all elements of a content
  pub content_weight : Content → ℕ
  content_weight (Last t) = 0
  content_weight (Next t e c) = weight e + content_weight c

-- the same of all that waits, where taking up one content is a step of its own
abbrev pub waiting_weight : List Waiting → ℕ
waiting_weight [] = 0
waiting_weight (w ∷ ws) = content_weight w.content + 1 + waiting_weight ws

-- A fault that was found, or else the first of what waits now, is the first of these faults and of what waited.
abbrev pub IsFirst : Schema → Option Fault → List Waiting → List Fault → List Waiting → Type 0
IsFirst s found new fs old = option_or found (first_of (waiting_faults s new)) ≡ first_of (fs ++ waiting_faults s old)
