-- What is handed down from node to node, and what each leaves after it.
use Rattle.std.specs.Prelude.{ℕ, Bool, false, ◌||◌, List, [], ◌∷◌, ◌++◌, if◌then◌else◌, Option, None}
use Rattle.rendering_people.specs.Properties.{Properties}
use Rattle.rendering_page.specs.Pages.{Page, Manner, empty_page}
use Rattle.rendering_page.specs.Pieces.{Piece, append_pieces}
use Rattle.rendering_names.specs.Around.{NamesAround}
use Rattle.rendering_style.specs.Nodes.{NamesNode}
use Rattle.rendering_taxonomy.specs.Variables.{is_among}
use Rattle.rendering_context.specs.Contexts.{Context}
use Rattle.rendering_taxonomy.specs.declared.variable.NameVariable.{NameVariable}
use Rattle.rendering_taxonomy.specs.declared.variable.Variable.{Variable}

-- What is printed of a layout: all; the names of a variable alone; all but the names of authors; the first date, year suffixes and
-- locators; year suffixes and locators alone. In a published style the names of a variable alone have no affixes of the nodes round them,
-- and where they are left out nothing stands for them.
pub data SpecialForm : Type 0 where
  whole : SpecialForm
  author_only : NameVariable → SpecialForm
  without_author : SpecialForm
  first_date_only : SpecialForm
  suffix_only : SpecialForm
  authors_alone : NameVariable → SpecialForm
  without_names : NameVariable → SpecialForm

-- What is handed down: how texts are appended, whether quotes are inner ones, what stands between the children of the group around, the
-- options for names of the layout and the style, or of a key, whether a substitute for names is printed, what is printed of the layout, and
-- the names whose substitute the nodes stand in, be it in groups and branches, but not in macros that it calls.
pub record NodeSetting : Type 0 where
  pub manner : Manner
  pub inside_quotes : Bool
  pub delimiter : Option (List ℕ)
  pub options : NamesAround
  pub in_substitute : Bool
  pub form : SpecialForm
  pub outer_names : Option NamesNode

-- which identifiers were printed
pub record Used : Type 0 where
  pub label : Bool
  pub number : Bool

-- What was appended, whether the first date was, the variables that are not printed again, whether the test `disambiguate` was
-- evaluated, what was printed of the first names by their options, which identifiers were printed, whether the style is a published one,
-- and the variables that substitutes printed in it.
pub record State : Type 0 where
  pub page : Page
  pub has_date : Bool
  pub suppressed : List Variable
  pub met_disambiguate : Bool
  pub names : Option Properties
  pub used : Used
  pub is_published : Bool
  pub printed : List Variable

-- the state before anything was appended
abbrev pub begun : State
begun = record {
  page = empty_page;
  has_date = false;
  suppressed = [];
  met_disambiguate = false;
  names = None;
  used = record { label = false; number = false };
  is_published = false;
  printed = [];
}

-- pieces are appended
abbrev pub append : Context → List Piece → State → State
append c ps st = record st { page = append_pieces c.quotes ps st.page }

-- the state once the test `disambiguate` was evaluated, or not
abbrev pub noted : Bool → State → State
noted met st = record st { met_disambiguate = st.met_disambiguate || met }

-- a variable beside those that are not printed again
abbrev pub with_variable : List Variable → Variable → List Variable
with_variable vs v = if is_among vs v then vs else vs ++ v ∷ []

-- a variable that a substitute printed is not printed again: at once, or in a published style once the substitute stands
abbrev pub with_printed : Variable → State → State
with_printed v st =
    if st.is_published
    then record st { printed = with_variable st.printed v }
    else record st { suppressed = with_variable st.suppressed v }

-- once a substitute stands, what was printed in it is not printed again
abbrev pub standing : State → State
standing st = if st.is_published then record st { suppressed = st.printed } else st
