-- What holds of all that nodes print.
use Rattle.std.specs.Prelude.{◌≡◌, Bool, true, false, [], Contains, None}
use Rattle.rendering_tree.specs.Laws.{is_nested}
use Rattle.rendering_entries.specs.Answers.{Answers}
use Rattle.rendering_style.specs.Nodes.{GroupNode, Nodes, group, node, no_nodes}
use Rattle.rendering_context.specs.Contexts.{Context}
use Rattle.rendering_leaves.specs.NodeSettings.{NodeSetting, State}
use Rattle.rendering_context.specs.Answering.{no_answer, answer_of, asked_for}
use Rattle.rendering_nodes.specs.Content.{contents}
use Rattle.rendering_nodes.specs.Named.{AreAlike, as_printed, joined_named, always_named, named, has_words}
use Rattle.rendering_taxonomy.specs.declared.date.LongShortForm.{LongShortForm}
use Rattle.rendering_taxonomy.specs.declared.variable.Variable.{Variable}
use Rattle.rendering_taxonomy.specs.declared.variable.Variable.TheVariants as variables

-- what is appended to a properly nested page leaves it so
abbrev pub ContentsAreNested : Type 0
ContentsAreNested = (c : Context) (s : NodeSetting) (first : Bool) (xs : Nodes) (st : State) → is_nested st.page.tokens ≡ true → is_nested (contents c s first xs st).page.tokens ≡ true

-- a variable has no answer in any form
abbrev pub HasNoAnswer : Context → Variable → Type 0
HasNoAnswer c (variables.Name v) = c.answers.people v ≡ []
HasNoAnswer c (variables.Date v) = c.answers.date v ≡ None
HasNoAnswer c v = (form : LongShortForm) → answer_of c form (asked_for c v) ≡ no_answer

-- A group without words of its own, none of whose variables has an answer, adds nothing to any page.
abbrev pub UnansweredGroupsAddNothing : Type 0
UnansweredGroupsAddNothing =
    (c : Context) (s : NodeSetting) (first : Bool) (g : GroupNode) (xs : Nodes) (st : State)
    → has_words xs ≡ false → ((v : Variable) → Contains (named xs).variables v → HasNoAnswer c v)
    → (contents c s first (node (group g xs) no_nodes) st).page ≡ st.page

-- what another entry would answer
abbrev pub with_answers : Answers → Context → Context
with_answers a c = record c { answers = a }

-- Entries that answer alike to all that nodes name, and to what every style names, print alike: in a published style where numbers and
-- pages were written alike too.
abbrev pub AlikeEntriesPrintAlike : Type 0
AlikeEntriesPrintAlike =
    (a b : Answers) (c : Context) (s : NodeSetting) (first : Bool) (xs : Nodes) (st : State)
    → AreAlike (as_printed c.is_published (joined_named always_named (named xs))) a b
    → contents (with_answers a c) s first xs st ≡ contents (with_answers b c) s first xs st
