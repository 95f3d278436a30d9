-- What is equal: values with one index in their list are one, and `==` says so.
use Rattle.std.proofs.Common.{◌≡◌, ℕ, zero, suc, Bool, ◌==◌, ◌&&◌, List, [], ◌∷◌, get_or, refl, sym, ap, ◌∙◌, rules}
use denote.Enum.Bare.{same_true, true_same}
use Rattle.std.specs.Bool.{Decides}
use Rattle.std.proofs.lemmas.Bool.Decides.{Decides-eqb, Decides-like, Decides-and}
use Rattle.rendering_taxonomy.specs.Formats.{style_index, variant_index, weight_index, decoration_index, align_index, looks_like}
use Rattle.rendering_taxonomy.specs.Variables.{name_index, is_name_variable}
use Rattle.rendering_taxonomy.specs.declared.formatting.FontStyle.{FontStyle}
use Rattle.rendering_taxonomy.specs.declared.formatting.FontStyle.TheVariants as styles
use Rattle.rendering_taxonomy.specs.declared.formatting.FontVariant.{FontVariant}
use Rattle.rendering_taxonomy.specs.declared.formatting.FontVariant.TheVariants as variants
use Rattle.rendering_taxonomy.specs.declared.formatting.FontWeight.{FontWeight}
use Rattle.rendering_taxonomy.specs.declared.formatting.FontWeight.TheVariants as weights
use Rattle.rendering_taxonomy.specs.declared.formatting.TextDecoration.{TextDecoration}
use Rattle.rendering_taxonomy.specs.declared.formatting.TextDecoration.TheVariants as decorations
use Rattle.rendering_taxonomy.specs.declared.formatting.VerticalAlign.{VerticalAlign}
use Rattle.rendering_taxonomy.specs.declared.formatting.VerticalAlign.TheVariants as aligns
use Rattle.rendering_taxonomy.specs.declared.formatting.Formatting.{Formatting}
use Rattle.rendering_taxonomy.specs.declared.variable.NameVariable.{NameVariable}
use Rattle.rendering_taxonomy.specs.declared.variable.NameVariable.TheVariants as name
use Rattle.rendering_taxonomy.specs.contracts.formatting.FontStyle.{the_type as style_type}
use Rattle.rendering_taxonomy.specs.contracts.formatting.FontStylePartialEq.TheImpl as style
use Rattle.rendering_taxonomy.specs.contracts.formatting.FontVariant.{the_type as variant_type}
use Rattle.rendering_taxonomy.specs.contracts.formatting.FontVariantPartialEq.TheImpl as variant
use Rattle.rendering_taxonomy.specs.contracts.formatting.FontWeight.{the_type as weight_type}
use Rattle.rendering_taxonomy.specs.contracts.formatting.FontWeightPartialEq.TheImpl as weight
use Rattle.rendering_taxonomy.specs.contracts.formatting.TextDecoration.{the_type as decoration_type}
use Rattle.rendering_taxonomy.specs.contracts.formatting.TextDecorationPartialEq.TheImpl as decoration
use Rattle.rendering_taxonomy.specs.contracts.formatting.VerticalAlign.{the_type as align_type}
use Rattle.rendering_taxonomy.specs.contracts.formatting.VerticalAlignPartialEq.TheImpl as align
use Rattle.rendering_taxonomy.specs.contracts.formatting.FormattingPartialEq.TheImpl as formatting
use Rattle.rendering_taxonomy.specs.contracts.formatting.Display.{the_type as display_type}
use Rattle.rendering_taxonomy.specs.contracts.formatting.DisplayPartialEq.TheImpl as display
use Rattle.rendering_taxonomy.specs.contracts.variable.NameVariable.{the_type as name_type}
use Rattle.rendering_taxonomy.specs.contracts.variable.NameVariablePartialEq.TheImpl as names
use Rattle.rendering_taxonomy.specs.declared.formatting.Display.{Display}

-- where each index leads back to its value, one index is one value
pub Decides-indices : {A : Type 0} (index : A → ℕ) (value : ℕ → A) → ((a : A) → value (index a) ≡ a) → (a b : A) → Decides (index a == index b) (a ≡ b)
Decides-indices index value back a b = Decides-like (index a == index b) (λ e. sym (back a) ∙ ap value e ∙ back b) (ap index) (Decides-eqb (index a) (index b))

abbrev style_at : ℕ → FontStyle
style_at zero = styles.Normal
style_at (suc zero) = styles.Italic
style_at (suc (suc n)) = styles.Oblique

style_back : (s : FontStyle) → style_at (style_index s) ≡ s
style_back styles.Normal = refl
style_back styles.Italic = refl
style_back styles.Oblique = refl

abbrev variant_at : ℕ → FontVariant
variant_at zero = variants.Normal
variant_at (suc n) = variants.SmallCaps

variant_back : (v : FontVariant) → variant_at (variant_index v) ≡ v
variant_back variants.Normal = refl
variant_back variants.SmallCaps = refl

abbrev weight_at : ℕ → FontWeight
weight_at zero = weights.Normal
weight_at (suc zero) = weights.Bold
weight_at (suc (suc n)) = weights.Light

weight_back : (w : FontWeight) → weight_at (weight_index w) ≡ w
weight_back weights.Normal = refl
weight_back weights.Bold = refl
weight_back weights.Light = refl

abbrev decoration_at : ℕ → TextDecoration
decoration_at zero = decorations.None
decoration_at (suc n) = decorations.Underline

decoration_back : (d : TextDecoration) → decoration_at (decoration_index d) ≡ d
decoration_back decorations.None = refl
decoration_back decorations.Underline = refl

abbrev align_at : ℕ → VerticalAlign
align_at zero = aligns.None
align_at (suc zero) = aligns.Sup
align_at (suc (suc n)) = aligns.Sub

align_back : (a : VerticalAlign) → align_at (align_index a) ≡ a
align_back aligns.None = refl
align_back aligns.Sup = refl
align_back aligns.Sub = refl

abbrev names_in_order : List NameVariable
names_in_order =
    name.Author ∷ name.Chair ∷ name.CollectionEditor ∷ name.Compiler ∷ name.Composer ∷ name.ContainerAuthor ∷ name.Contributor ∷ name.Curator
    ∷ name.Director ∷ name.Editor ∷ name.EditorTranslator ∷ name.EditorialDirector ∷ name.ExecutiveProducer ∷ name.Guest ∷ name.Host
    ∷ name.Illustrator ∷ name.Interviewer ∷ name.Narrator ∷ name.Organizer ∷ name.OriginalAuthor ∷ name.Performer ∷ name.Producer ∷ name.Recipient
    ∷ name.ReviewedAuthor ∷ name.ScriptWriter ∷ name.SeriesCreator ∷ name.Translator ∷ []

abbrev name_at : ℕ → NameVariable
name_at n = get_or names_in_order n name.Translator

name_back : (v : NameVariable) → name_at (name_index v) ≡ v
name_back name.Author = refl
name_back v = refl

-- one fact and another
both : {b c : Bool} {P R : Type 0} → Decides b P → Decides c R → Decides (b && c) (P × R)
both {b} {c} d e = Decides-and b c d e

-- what looks alike is one
pub Decides-looks_like : (f g : Formatting) → Decides (looks_like f g) (f ≡ g)
Decides-looks_like f g =
    Decides-like (looks_like f g)
    (λ e i. record { font_style = e.0.0.0.0 i; font_variant = e.0.0.0.1 i; font_weight = e.0.0.1 i; text_decoration = e.0.1 i; vertical_align = e.1 i })
    (λ e. ((((ap (λ (h : Formatting). h.font_style) e, ap (λ (h : Formatting). h.font_variant) e), ap (λ (h : Formatting). h.font_weight) e), ap (λ (h : Formatting). h.text_decoration) e), ap (λ (h : Formatting). h.vertical_align) e))
    (both (both (both (both
    (Decides-indices style_index style_at style_back f.font_style g.font_style)
    (Decides-indices variant_index variant_at variant_back f.font_variant g.font_variant))
    (Decides-indices weight_index weight_at weight_back f.font_weight g.font_weight))
    (Decides-indices decoration_index decoration_at decoration_back f.text_decoration g.text_decoration))
    (Decides-indices align_index align_at align_back f.vertical_align g.vertical_align))

pub Decides-is_name_variable : (v w : NameVariable) → Decides (is_name_variable v w) (v ≡ w)
Decides-is_name_variable v w = Decides-indices name_index name_at name_back v w

-- `==` of plain values
pub Decides-names : (v w : NameVariable) → Decides (names.ghosts.eq v w) (v ≡ w)
Decides-names v w = (same_true name_type (search rules) v w, true_same name_type v w)

pub Decides-displays : (d e : Display) → Decides (display.ghosts.eq d e) (d ≡ e)
Decides-displays d e = (same_true display_type (search rules) d e, true_same display_type d e)

Decides-styles : (a b : FontStyle) → Decides (style.ghosts.eq a b) (a ≡ b)
Decides-styles a b = (same_true style_type (search rules) a b, true_same style_type a b)

Decides-variants : (a b : FontVariant) → Decides (variant.ghosts.eq a b) (a ≡ b)
Decides-variants a b = (same_true variant_type (search rules) a b, true_same variant_type a b)

Decides-weights : (a b : FontWeight) → Decides (weight.ghosts.eq a b) (a ≡ b)
Decides-weights a b = (same_true weight_type (search rules) a b, true_same weight_type a b)

Decides-decorations : (a b : TextDecoration) → Decides (decoration.ghosts.eq a b) (a ≡ b)
Decides-decorations a b = (same_true decoration_type (search rules) a b, true_same decoration_type a b)

Decides-aligns : (a b : VerticalAlign) → Decides (align.ghosts.eq a b) (a ≡ b)
Decides-aligns a b = (same_true align_type (search rules) a b, true_same align_type a b)

-- `==` of formattings
pub Decides-formattings : (f g : Formatting) → Decides (formatting.ghosts.eq f g) (f ≡ g)
Decides-formattings f g =
    Decides-like (formatting.ghosts.eq f g)
    (λ e i. record { font_style = e.0 i; font_variant = e.1.0 i; font_weight = e.1.1.0 i; text_decoration = e.1.1.1.0 i; vertical_align = e.1.1.1.1 i })
    (λ e. (ap (λ (h : Formatting). h.font_style) e, (ap (λ (h : Formatting). h.font_variant) e, (ap (λ (h : Formatting). h.font_weight) e, (ap (λ (h : Formatting). h.text_decoration) e, ap (λ (h : Formatting). h.vertical_align) e)))))
    (both (Decides-styles f.font_style g.font_style)
    (both (Decides-variants f.font_variant g.font_variant)
    (both (Decides-weights f.font_weight g.font_weight)
    (both (Decides-decorations f.text_decoration g.text_decoration)
    (Decides-aligns f.vertical_align g.vertical_align)))))
