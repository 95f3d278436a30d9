-- Whether a list is in its normal form, child by child.
use Rattle.std.specs.Prelude.{Bool, false, not, ◌&&◌, Option, Some, None}
use Rattle.rendering_taxonomy.specs.Formats.{looks_like}
use Rattle.rendering_taxonomy.specs.declared.formatting.Formatting.{Formatting}
use Rattle.rendering_tree.specs.Laws.{begins_alike, is_normal}
use Rattle.rendering_tree.specs.Trees.{Child, Children, Text}

-- how a child looks, if it is a text
abbrev pub text_look : Child → Option Formatting
text_look (Text f cs) = Some f
text_look x = None

-- whether a child would join the text before it, of which the look is given if there is one
abbrev pub joins_after : Option Formatting → Child → Bool
joins_after (Some f) (Text g cs) = looks_like f g
joins_after before x = false

-- whether a list is in its normal form, and its first child does not join the text before it
abbrev pub is_normal_after : Option Formatting → Children → Bool
is_normal_after None xs = is_normal xs
is_normal_after (Some f) xs = not (begins_alike f xs) && is_normal xs
