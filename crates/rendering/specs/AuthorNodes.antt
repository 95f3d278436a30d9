-- When nodes are the one for authors.
use Rattle.std.specs.Prelude.{Bool, true, false, not, ◌&&◌, List, [], ◌∷◌, is_none}
use Rattle.laws.specs.Text.{is_filled}
use Rattle.rendering_taxonomy.specs.Formats.{Changes}
use Rattle.rendering_style.specs.Nodes.{Look, NamesNode, Node, names, no_nodes}
use Rattle.rendering_taxonomy.specs.declared.variable.NameVariable.{NameVariable}
use Rattle.rendering_taxonomy.specs.declared.variable.NameVariable.TheVariants as name

-- whether nothing is specified for the look of characters
abbrev pub says_no_change : Changes → Bool
says_no_change c = is_none c.font_style && is_none c.font_variant && is_none c.font_weight && is_none c.text_decoration && is_none c.vertical_align

-- whether nothing is specified in a look
abbrev pub says_no_look : Look → Bool
says_no_look l = says_no_change l.formatting && not (is_filled l.prefix) && not (is_filled l.suffix) && is_none l.display

-- whether only the authors are meant
abbrev pub are_authors : List NameVariable → Bool
are_authors (name.Author ∷ []) = true
are_authors vs = false

-- whether a node is for the authors and says nothing of them
abbrev pub is_author_node : NamesNode → Bool
is_author_node h =
    are_authors h.variables && is_none h.name && is_none h.et_al && is_none h.label && not h.label_is_first && is_none h.delimiter && says_no_look h.look
    && not h.merges_editor_translator

-- whether nodes are this one alone, with no substitute for the authors
abbrev pub is_made : List Node → Bool
is_made (names h no_nodes ∷ []) = is_author_node h
is_made xs = false
