-- What a style names, and why entries that answer alike to it print alike.
use Rattle.std.specs.Prelude.{◌≡◌, ℕ, List, Option, Some, None}
use Rattle.rendering_entries.specs.Answers.{Answers}
use Rattle.rendering_style.specs.Styles.{Bibliography, Style}
use Rattle.rendering_context.specs.Cites.{CiteProperties}
use Rattle.rendering_nodes.specs.Named.{Named, AreAlike, as_printed, joined_named, always_named, named, none_named}
use Rattle.rendering_context.specs.Contexts.{StyleContext}
use Rattle.rendering.specs.Purposes.{layout_nodes, citation, bibliography, is_published}
use Rattle.rendering_taxonomy.specs.declared.cite.CitePurpose.{CitePurpose}
use Rattle.rendering_taxonomy.specs.declared.cite.CollapseVerdict.{CollapseVerdict}

-- what the layout of a bibliography names, where there is one
abbrev pub named_in_bibliography : Style → Option Bibliography → Named
named_in_bibliography s None = none_named
named_in_bibliography s (Some b) = named (layout_nodes s b.layout)

-- what stands in the layouts of a style and in the macros that they reach, and what every style names
abbrev pub layouts_named : Style → Named
layouts_named s =
    joined_named always_named (joined_named (named (layout_nodes s s.citation.layout))
    (named_in_bibliography s s.bibliography))

-- the same, where it counts how numbers and pages were written if the style is a published one
abbrev pub style_named : Style → Named
style_named s = as_printed (is_published s) (layouts_named s)

-- this holds of all answers that are alike to these in what a style names
abbrev pub ForAlikeAnswers : Style → Answers → (Answers → Type 0) → Type 0
ForAlikeAnswers style answers P = (others : Answers) → AreAlike (style_named style) answers others → P others

-- cites of entries that answer alike give one tree with the same facts
abbrev pub AlikeCitesAreOne : Type 0
AlikeCitesAreOne =
    (x : StyleContext) (a b : Answers) (p : CiteProperties) (locale : Option (List ℕ)) (purpose : Option CitePurpose) (verdict : Option CollapseVerdict)
    → AreAlike (style_named x.style) a b → citation x a p locale purpose verdict ≡ citation x b p locale purpose verdict

-- items of a bibliography of entries that answer alike give one tree with the same facts
abbrev pub AlikeItemsAreOne : Type 0
AlikeItemsAreOne =
    (x : StyleContext) (a b : Answers) (p : CiteProperties) (locale : Option (List ℕ))
    → AreAlike (style_named x.style) a b → bibliography x a p locale ≡ bibliography x b p locale
