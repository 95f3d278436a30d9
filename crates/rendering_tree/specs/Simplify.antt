-- What is appended to a list.
use Rattle.std.specs.Prelude.{◌≡◌, ℕ, Bool, true, false, List, ◌++◌, if◌then◌else◌}
use Rattle.rendering_taxonomy.specs.Formats.{looks_like}
use Rattle.rendering_taxonomy.specs.declared.formatting.Formatting.{Formatting}
use Rattle.rendering_tree.specs.Laws.{is_normal_child, is_normal}
use Rattle.rendering_tree.specs.Tokens.{Token}
use Rattle.rendering_tree.specs.Trees.{Child, Children, Text, nothing, before, flat}

-- whether a child is no text, and in its normal form
abbrev pub is_whole : Child → Bool
is_whole (Text f cs) = false
is_whole x = is_normal_child x

-- the last child and a text after it; they are joined where they look alike
abbrev pub text_after : Child → Formatting → List ℕ → Children
text_after (Text g ds) f cs = if looks_like g f then before (Text g (ds ++ cs)) nothing else before (Text g ds) (before (Text f cs) nothing)
text_after x f cs = before x (before (Text f cs) nothing)

-- Tokens were appended to a list, so that a list in its normal form stays in it.
pub record Puts (ts : List Token) (old new : Children) : Type 0 where
  pub tokens : flat new ≡ ts ++ flat old
  pub normal : is_normal old ≡ true → is_normal new ≡ true
