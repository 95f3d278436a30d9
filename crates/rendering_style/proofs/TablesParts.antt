-- Whether the parts of a style fit, by its tables.
use Rattle.std.proofs.Common.{◌≡◌, ℕ, Bool, true, false, ◌&&◌, leb, List, map, Option, Some, None, string_bytes, refl, sym, ap, ◌∙◌}
use Rattle.std.specs.Global.{Global}
use Rattle.std.specs.Prelude.{String}
use Rattle.std.specs.BTreeMap.{BTreeMap}
use Rattle.std.specs.List.{list_all}
use Rattle.std.proofs.lemmas.List.Folds.{list_all-map}
use Rattle.std.specs.Option.{option_map, option_map_or}
use Rattle.rendering_style.specs.Nodes.{nodes_of}
use Rattle.rendering_style.specs.Styles as styles
use Rattle.rendering_style.specs.Opening.{style_fits}
use Rattle.rendering_style.specs.Levels.{levels}
use Rattle.rendering_style.specs.Tables.{IsIndex, AreHeights, height_of}
use Rattle.rendering_style.specs.Views.{macro_view, macros_view, nodes_view, bibliography_layout_view, style_parts_view}
use Rattle.rendering_style.specs.declared.parts.Bibliography.{Bibliography}
use Rattle.rendering_style.specs.declared.parts.Macro.{Macro}
use Rattle.rendering_style.specs.declared.parts.StyleParts.{StyleParts}
use Rattle.rendering_style.proofs.OpeningAnswers.{style_by_heights}
use Rattle.rendering_style.proofs.TablesHeights.{heights_same}

of_bibliography : (height : List ℕ → ℕ) (o : Option Bibliography)
    → option_map_or (λ (b : styles.Bibliography). leb (levels height (nodes_of b.layout.nodes)) 200) (option_map bibliography_layout_view o) true ≡ option_map_or (λ (b : Bibliography). leb (levels height (nodes_view b.layout.nodes.items)) 200) o true
of_bibliography height None = refl
of_bibliography height (Some b) = refl

-- whether they fit, in the words of the code
pub parts_fit : (table : BTreeMap (String Global) ℕ) (p : StyleParts) (heights : List ℕ) → IsIndex table (macros_view p) → AreHeights heights (macros_view p)
    → style_fits (style_parts_view p) ≡ (leb (levels (height_of table heights) (nodes_view p.citation.layout.nodes.items)) 200
    && option_map_or (λ (b : Bibliography). leb (levels (height_of table heights) (nodes_view b.layout.nodes.items)) 200) p.bibliography true
    && list_all (λ (m : Macro). leb (height_of table heights (string_bytes m.name)) 200) p.macros.items)
parts_fit table p heights told h =
    style_by_heights (style_parts_view p) heights h
    ∙ (ap (λ (height : List ℕ → ℕ). leb (levels height (nodes_view p.citation.layout.nodes.items)) 200
    && option_map_or (λ (b : styles.Bibliography). leb (levels height (nodes_of b.layout.nodes)) 200) (option_map bibliography_layout_view p.bibliography) true
    && list_all (λ (m : styles.Macro). leb (height m.name) 200) (map macro_view p.macros.items)) (sym (heights_same table (macros_view p) heights told))
    ∙ (λ i. leb (levels (height_of table heights) (nodes_view p.citation.layout.nodes.items)) 200 && of_bibliography (height_of table heights) p.bibliography i
    && list_all-map (λ (m : styles.Macro). leb (height_of table heights m.name) 200) macro_view p.macros.items i))

-- the answer where all that is asked before is true, and where one of it is not
pub all_fit : (s a b c r : Bool) → s ≡ (a && b && c) → a ≡ true → b ≡ true → r ≡ c → r ≡ s
all_fit s a b c r e p q h = h ∙ sym (e ∙ (λ i. p i && q i && c))

pub second_does_not : (s a b c : Bool) → s ≡ (a && b && c) → a ≡ true → b ≡ false → false ≡ s
second_does_not s a b c e p q = sym (e ∙ (λ i. p i && q i && c))

pub first_does_not : (s a b c : Bool) → s ≡ (a && b && c) → a ≡ false → false ≡ s
first_does_not s a b c e p = sym (e ∙ (λ i. p i && b && c))
