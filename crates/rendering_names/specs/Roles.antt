-- Editors who are the translators too, and are printed once.
use Rattle.std.specs.Prelude.{Bool, false, ◌&&◌, ◌||◌, List, find, if◌then◌else◌, Option, Some}
use Rattle.std.specs.List.{list_any}
use Rattle.std.specs.Option.{option_map}
use Rattle.std.specs.Cmp.Lexicographic.{pointwise}
use Rattle.literature_values.specs.PersonViews.{Named}
use Rattle.rendering_style.specs.Nodes.{NamesNode}
use Rattle.rendering_taxonomy.specs.Variables.{is_name_variable}
use Rattle.rendering_tree.specs.Metas.{Answered, is_person}
use Rattle.rendering_taxonomy.specs.declared.term.OtherTerm.TheVariants as others
use Rattle.rendering_taxonomy.specs.declared.term.Term.{Term}
use Rattle.rendering_taxonomy.specs.declared.term.Term.TheVariants as terms
use Rattle.rendering_taxonomy.specs.declared.variable.NameVariable.{NameVariable}
use Rattle.rendering_taxonomy.specs.declared.variable.NameVariable.TheVariants as roles
use Rattle.rendering_taxonomy.specs.declared.variable.Variable.TheVariants as variables

-- whether a variable is that of editors or of translators
abbrev pub is_role : NameVariable → Bool
is_role v = is_name_variable roles.Editor v || is_name_variable roles.Translator v

-- the people of a variable, where it has some
abbrev pub people_with : NameVariable → List Answered → Option (List Named)
people_with v people =
    option_map (λ (a : Answered). a.0) (find (λ (a : Answered). is_name_variable v a.1) people)

-- whether there are two lists of people, and these are the same
abbrev pub are_one : Option (List Named) → Option (List Named) → Bool
are_one (Some ps) (Some qs) = pointwise is_person ps qs
are_one ps qs = false

-- a names node as it prints these people: once, where it may and they are editors and translators
abbrev pub merging : NamesNode → List Answered → NamesNode
merging h people =
    let are_both =
    are_one (people_with roles.Editor people) (people_with roles.Translator people) in
    record h { merges_editor_translator = h.merges_editor_translator && are_both }

-- the term of the label of a name variable: of those who are printed once it is another one
abbrev pub label_term : NamesNode → NameVariable → Term
label_term h v =
    if h.merges_editor_translator && is_role v
    then terms.Other others.EditorTranslator
    else terms.Variable (variables.Name v)

-- whether the people of a variable are left out, as those before it have them in their other role
abbrev pub is_left_out : NamesNode → List Answered → NameVariable → Bool
is_left_out h before v =
    h.merges_editor_translator && (is_role v && list_any (λ (a : Answered). is_role a.1) before)
