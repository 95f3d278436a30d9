-- All faults of a style or of a locale: those of the schema, and those that no table says, which are of macros and of a citation that is not
-- there. They come in the order of their places, each at the start-tag of what it blames; at one place those of the schema come first.
use Rattle.std.specs.Prelude.{ℕ, nat_lt, Bool, false, ◌&&◌, ◌||◌, List, [], ◌∷◌, ◌++◌, map, codes, if◌then◌else◌, is_none, Option, Some, None}
use Rattle.std.specs.Option.{option_to_list}
use Rattle.std.specs.Str.{bytes_eq}
use Rattle.laws.specs.Text.{text}
use Rattle.xml_tree.specs.Trees.{Element, Tagged, Content, Last, Next}
use Rattle.xml_schema.specs.Faults as schema
use Rattle.xml_schema.specs.Faults.{left_at, name_of}
use Rattle.xml_schema.specs.Placing.{fault_left}
use Rattle.csl_schema.specs.Faults.{csl_faults}
use Rattle.csl_words.specs.Looking.{attribute, text_of}
use Rattle.csl_words.specs.Elements.{is_called, part_called, content_in}
use Rattle.csl_locales.specs.Called.{called}
use Rattle.csl_locales.specs.Sets.{is_one_of}
use Rattle.csl_locales.specs.Words.{is_passed}
use Rattle.csl_styles.specs.Information.{parent_of}

-- What is wrong with an element: what the schema says; a style without a parent has no citation; a macro before it has its name; it calls a
-- macro that is not there.
pub data Wrong : Type 0 where
  BySchema : schema.Wrong → Wrong
  NoCitation : Wrong
  SecondMacro : Wrong
  UnknownMacro : Wrong

-- what is wrong, and where the start-tag begins
pub record Fault : Type 0 where
  pub left : ℕ
  pub wrong : Wrong

abbrev pub fault : ℕ → Wrong → Fault
fault left wrong = record { left = left; wrong = wrong }

-- a fault by the schema
abbrev pub by_schema : schema.Fault → Fault
by_schema f = fault f.left (BySchema f.wrong)

-- the name of a macro, in bytes
abbrev pub macro_name : Element → List ℕ
macro_name e = text (text_of (codes "name") e)

-- the names of the macros of a style
abbrev pub macro_names : Element → List (List ℕ)
macro_names root = map macro_name (called (codes "macro") root)

-- the macro that an element calls, a text or a key, if it calls one
abbrev pub called_macro : Element → Option (List ℕ)
called_macro e = if is_called (codes "text") (name_of e) || is_called (codes "key") (name_of e) then attribute (codes "macro") e else None

-- a call of a macro that is not known, at its place
abbrev pub unknown_at : (List ℕ → Bool) → ℕ → Option (List ℕ) → Option Fault
unknown_at known left None = None
unknown_at known left (Some name) = if known (text name) then None else Some (fault left UnknownMacro)

abbrev pub call_fault : (List ℕ → Bool) → Element → Option Fault
call_fault known e = unknown_at known (left_at e) (called_macro e)

abbrev mutual
  -- all calls of macros that are not known, by an element and by those in it
  pub call_faults : (List ℕ → Bool) → Element → List Fault
  call_faults known (Tagged left n attributes content) = if is_passed n then [] else option_to_list (call_fault known (Tagged left n attributes content)) ++ calls_in known content

  pub calls_in : (List ℕ → Bool) → Content → List Fault
  calls_in known (Last t) = []
  calls_in known (Next t e c) = call_faults known e ++ calls_in known c

-- an element is a macro
abbrev pub is_macro : Element → Bool
is_macro e = is_called (codes "macro") (name_of e)

-- a macro whose name one before it has
abbrev pub second_fault : (List ℕ → Bool) → Element → Option Fault
second_fault earlier e = if is_macro e && earlier (macro_name e) then Some (fault (left_at e) SecondMacro) else None

-- the names that macros have, with that of one more element if it is a macro
abbrev pub with_name : (List ℕ → Bool) → Element → List ℕ → Bool
with_name earlier e name = (is_macro e && bytes_eq (macro_name e) name) || earlier name

-- all faults of an element in a style by its macros: whose names are known, and which macros before it have
abbrev pub child_faults : (List ℕ → Bool) → (List ℕ → Bool) → Element → List Fault
child_faults known earlier e = option_to_list (second_fault earlier e) ++ call_faults known e

abbrev pub macro_faults : (List ℕ → Bool) → (List ℕ → Bool) → Content → List Fault
macro_faults known earlier (Last t) = []
macro_faults known earlier (Next t e c) = child_faults known earlier e ++ macro_faults known (with_name earlier e) c

-- a style without a parent has no citation
abbrev pub lacks_citation : Element → Bool
lacks_citation root = is_none (parent_of root) && is_none (part_called (codes "citation") root)

abbrev pub citation_fault : Element → Option Fault
citation_fault root = if lacks_citation root then Some (fault (left_at root) NoCitation) else None

-- all faults of a style that no table says
abbrev pub style_faults : Element → List Fault
style_faults root = option_to_list (citation_fault root) ++ macro_faults (is_one_of (macro_names root)) (λ name. false) (content_in root)

-- a locale has none
abbrev pub own_faults : Element → List Fault
own_faults root = if is_called (codes "style") (name_of root) then style_faults root else []

-- a fault before those of one list, where those of the other come by their places
abbrev pub before : Fault → (List Fault → List Fault) → List Fault → List Fault
before f others [] = f ∷ others []
before f others (g ∷ gs) = if nat_lt f.left g.left then g ∷ before f others gs else f ∷ others (g ∷ gs)

-- two lists as one, by their places, of which the earlier one is that where more of the text is left
abbrev pub merged : List Fault → List Fault → List Fault
merged [] gs = gs
merged (f ∷ fs) gs = before f (merged fs) gs

-- the one of two faults that comes first, the first of them at one place
abbrev pub earlier_of : Option Fault → Option Fault → Option Fault
earlier_of None g = g
earlier_of (Some f) None = Some f
earlier_of (Some f) (Some g) = if nat_lt f.left g.left then Some g else Some f

-- all faults of a style or of a locale
abbrev pub faults : Element → List Fault
faults root = merged (map by_schema (csl_faults root)) (own_faults root)

-- where that is wrong with the element whose start-tag begins at that place of a text
abbrev pub wrong_left : List ℕ → Wrong → ℕ → ℕ
wrong_left t (BySchema wrong) left = fault_left t wrong left
wrong_left t NoCitation left = left
wrong_left t SecondMacro left = left
wrong_left t UnknownMacro left = left

-- a fault of a tree, at its place in the text: text where it begins, all else at a start-tag
abbrev pub placed_in : List ℕ → Fault → Fault
placed_in t f = fault (wrong_left t f.wrong f.left) f.wrong
