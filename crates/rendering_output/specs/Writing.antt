-- How what is printed is written: as a list of tags and texts, properly nested, and each of these in plain text or in HTML.
use Rattle.std.specs.Prelude.{ℕ, Bool, true, false, not, ◌==◌, ◌||◌, List, [], ◌∷◌, ◌++◌, if◌then◌else◌, Option, Some, None, codes}
use Rattle.std.specs.Borrow.{Bor}
use Rattle.std.specs.Fmt.{WritesInCalls}
use Rattle.std.specs.List.{flat_map}
use Rattle.std.specs.Str.{chars}
use Rattle.laws.specs.Characters.{line_feed, space, double_quote, ampersand, less_than_sign, greater_than_sign}
use Rattle.laws.specs.Text.{text}
use Rattle.rendering_output.specs.declared.writing.BufWriteFormat.{BufWriteFormat}
use Rattle.rendering_output.specs.declared.writing.BufWriteFormat.TheVariants as formats
use Rattle.rendering_taxonomy.specs.Formats.{plain, looks_like}
use Rattle.rendering_taxonomy.specs.declared.formatting.Display.{Display}
use Rattle.rendering_taxonomy.specs.declared.formatting.Display.TheVariants as displays
use Rattle.rendering_taxonomy.specs.declared.formatting.FontStyle.{FontStyle}
use Rattle.rendering_taxonomy.specs.declared.formatting.FontStyle.TheVariants as styles
use Rattle.rendering_taxonomy.specs.declared.formatting.FontVariant.{FontVariant}
use Rattle.rendering_taxonomy.specs.declared.formatting.FontVariant.TheVariants as variants
use Rattle.rendering_taxonomy.specs.declared.formatting.FontWeight.{FontWeight}
use Rattle.rendering_taxonomy.specs.declared.formatting.FontWeight.TheVariants as weights
use Rattle.rendering_taxonomy.specs.declared.formatting.TextDecoration.{TextDecoration}
use Rattle.rendering_taxonomy.specs.declared.formatting.TextDecoration.TheVariants as decorations
use Rattle.rendering_taxonomy.specs.declared.formatting.VerticalAlign.{VerticalAlign}
use Rattle.rendering_taxonomy.specs.declared.formatting.VerticalAlign.TheVariants as aligns
use Rattle.rendering_taxonomy.specs.declared.formatting.Formatting.{Formatting}

-- a text, or where something begins or ends: characters that look so, an element with a display, a link to an address
pub data Tag : Type 0 where
  words : List ℕ → Tag
  span : Formatting → Tag
  end_span : Tag
  div : Display → Tag
  end_div : Display → Tag
  anchor : List ℕ → Tag
  end_anchor : Tag

-- a text, between tags where its formatting is not the default
abbrev pub spanned : Formatting → List ℕ → List Tag
spanned f cs = if looks_like f plain then words cs ∷ [] else span f ∷ words cs ∷ end_span ∷ []

-- what an element contains, between tags where it has a display
abbrev pub divided : Option Display → List Tag → List Tag
divided None inside = inside
divided (Some d) inside = div d ∷ inside ++ end_div d ∷ []

-- where an element begins, and where it ends
abbrev pub begun : Option Display → List Tag
begun None = []
begun (Some d) = div d ∷ []

abbrev pub ended : Option Display → List Tag
ended None = []
ended (Some d) = end_div d ∷ []

-- a text that leads to an address
abbrev pub linked : Formatting → List ℕ → List ℕ → List Tag
linked f cs url = anchor url ∷ spanned f cs ++ end_anchor ∷ []

-- a line feed before and after a block
abbrev pub line_break : Display → List ℕ
line_break displays.Block = line_feed ∷ []
line_break d = []

-- plain text has no tags
abbrev pub plain_tag : Tag → List ℕ
plain_tag (words cs) = cs
plain_tag (div d) = line_break d
plain_tag (end_div d) = line_break d
plain_tag t = []

-- four characters are written by their names
abbrev pub escaped_character : ℕ → List ℕ
escaped_character c =
    if c == ampersand then codes "&amp;" else (if c == less_than_sign then codes "&lt;" else (if c == greater_than_sign then codes "&gt;" else (if c == double_quote then codes "&quot;" else c ∷ [])))

-- the characters that have such a name, and those that are written as they are
abbrev pub has_name : ℕ → Bool
has_name c = c == ampersand || c == less_than_sign || c == greater_than_sign || c == double_quote

abbrev pub stands_as_it_is : ℕ → Bool
stands_as_it_is c = not (has_name c)

-- a text with these characters by their names
abbrev pub escaped : List ℕ → List ℕ
escaped cs = flat_map escaped_character cs

-- what is declared for the style of a font, where it is not the default
abbrev pub style_declared : FontStyle → List (List ℕ)
style_declared styles.Normal = []
style_declared styles.Italic = codes "font-style: italic;" ∷ []
style_declared styles.Oblique = codes "font-style: oblique;" ∷ []

-- what is declared for the variant
abbrev pub variant_declared : FontVariant → List (List ℕ)
variant_declared variants.Normal = []
variant_declared variants.SmallCaps = codes "font-variant: small-caps;" ∷ []

-- what is declared for the weight
abbrev pub weight_declared : FontWeight → List (List ℕ)
weight_declared weights.Normal = []
weight_declared weights.Bold = codes "font-weight: bold;" ∷ []
weight_declared weights.Light = codes "font-weight: lighter;" ∷ []

-- what is declared for the decoration
abbrev pub decoration_declared : TextDecoration → List (List ℕ)
decoration_declared decorations.None = []
decoration_declared decorations.Underline = codes "text-decoration: underline;" ∷ []

-- what is declared for the position on the line
abbrev pub align_declared : VerticalAlign → List (List ℕ)
align_declared aligns.None = []
align_declared aligns.Sup = codes "vertical-align: super;" ∷ []
align_declared aligns.Sub = codes "vertical-align: sub;" ∷ []

-- the declarations of a formatting, in order
abbrev pub declarations : Formatting → List (List ℕ)
declarations f =
    style_declared f.font_style
    ++ variant_declared f.font_variant
    ++ weight_declared f.font_weight
    ++ decoration_declared f.text_decoration
    ++ align_declared f.vertical_align

-- with one space between them
abbrev pub spaced : List (List ℕ) → List ℕ
spaced [] = []
spaced (d ∷ []) = d
spaced (d ∷ e ∷ ds) = d ++ space ∷ spaced (e ∷ ds)

-- a declaration, where there is one
abbrev pub declared : Option (Bor (List ℕ)) → List (List ℕ)
declared None = []
declared (Some d) = chars d.now ∷ []

-- declarations after others or as the first, with one space between all
abbrev pub spaced_after : Bool → List (List ℕ) → List ℕ
spaced_after true ds = flat_map (λ d. space ∷ d) ds
spaced_after false ds = spaced ds

-- texts and addresses are escaped
abbrev pub html_tag : Tag → List ℕ
html_tag (words cs) = escaped cs
html_tag (span f) = codes "<span style=\"" ++ spaced (declarations f) ++ codes "\">"
html_tag end_span = codes "</span>"
html_tag (div d) = codes "<div>"
html_tag (end_div d) = codes "</div>"
html_tag (anchor url) = codes "<a href=\"" ++ escaped url ++ codes "\">"
html_tag end_anchor = codes "</a>"

-- what a format makes of a tag
abbrev pub tag_text : BufWriteFormat → Tag → List ℕ
tag_text formats.Plain = plain_tag
tag_text formats.Html = html_tag

-- some calls of `write_str` took the writer from w to v, and wrote the characters together
abbrev pub WritesCharacters : {W : Type 0} → (W → List ℕ → W → Type 0) → W → List ℕ → W → Type 0
WritesCharacters took w cs v = WritesInCalls took w (text cs) v

-- what is written of the characters ds after v is, with what took the writer from w to v, written of cs
abbrev pub LeavesEscaped : {W : Type 0} → (W → List ℕ → W → Type 0) → W → List ℕ → W → List ℕ → Type 0
LeavesEscaped took w cs v ds = (u : _) → WritesCharacters took v (escaped ds) u → WritesCharacters took w (escaped cs) u

-- some calls of `write_str` took the writer from w to v, and wrote what the format makes of the tags
abbrev pub WritesTags : {W : Type 0} → (W → List ℕ → W → Type 0) → BufWriteFormat → W → List Tag → W → Type 0
WritesTags took format w ts v = WritesCharacters took w (flat_map (tag_text format) ts) v

-- each tag is closed by its own end, and none is left open: those that are open stand before the others, the last first
pub data Open : Type 0 where
  open_span : Open
  open_div : Open
  open_anchor : Open

-- an end closes what was opened last, and what follows goes on with the others
abbrev pub closes : Open → List Open → (List Open → Type 0) → Type 0
closes open_span (open_span ∷ os) others = others os
closes open_div (open_div ∷ os) others = others os
closes open_anchor (open_anchor ∷ os) others = others os
closes o os others = ⊥

-- tags after what is open are properly nested
abbrev pub AreNested : List Tag → List Open → Type 0
AreNested [] [] = Unit {0}
AreNested [] (o ∷ os) = ⊥
AreNested (words cs ∷ ts) os = AreNested ts os
AreNested (span f ∷ ts) os = AreNested ts (open_span ∷ os)
AreNested (div d ∷ ts) os = AreNested ts (open_div ∷ os)
AreNested (anchor url ∷ ts) os = AreNested ts (open_anchor ∷ os)
AreNested (end_span ∷ ts) os = closes open_span os (AreNested ts)
AreNested (end_div d ∷ ts) os = closes open_div os (AreNested ts)
AreNested (end_anchor ∷ ts) os = closes open_anchor os (AreNested ts)
