-- Trees are the same exactly where they are equal.
use Rattle.std.proofs.Common.{◌≡◌, ℕ, Bool, true, false, zero, suc, ◌==◌, ◌&&◌, true≢false, refl, sym, ap, Option, Some, None}
use Rattle.std.specs.Bool.{Decides}
use Rattle.std.specs.Cmp.Lexicographic.{bytes_decides, pointwise, pointwise_decides}
use Rattle.std.specs.Option.{option_eq}
use Rattle.std.specs.Str.{bytes_eq}
use Rattle.std.proofs.lemmas.Bool.Decides.{Decides-eqb, Decides-like, Decides-and}
use Rattle.literature_values.specs.PersonViews.{Named}
use Rattle.rendering_taxonomy.specs.declared.formatting.Display.{Display}
use Rattle.rendering_taxonomy.specs.declared.formatting.Display.TheVariants as displays
use Rattle.rendering_taxonomy.proofs.Indices.{Decides-indices, Decides-looks_like, Decides-is_name_variable}
use Rattle.rendering_taxonomy.specs.Formats.{looks_like}
use Rattle.rendering_taxonomy.specs.Variables.{is_name_variable}
use Rattle.rendering_tree.specs.Metas.{Answered, Meta, Names, NameVariableOf, Name, Entry, Date, Text, Number, Label, CitationNumber, CitationLabel, is_person, is_answered, is_meta}
use Rattle.rendering_tree.specs.Same.{display_index, is_display, is_child, are_children, is_element, SameTreesAreOne, SameElementsAreOne}
use Rattle.rendering_tree.specs.Trees as trees
use Rattle.rendering_tree.specs.Trees.{Child, Children, Elem, Markup, Link, Transparent, nothing, before, Element}

abbrev display_at : ℕ → Display
display_at zero = displays.Block
display_at (suc zero) = displays.LeftMargin
display_at (suc (suc zero)) = displays.RightInline
display_at (suc (suc (suc n))) = displays.Indent

display_back : (d : Display) → display_at (display_index d) ≡ d
display_back displays.Block = refl
display_back displays.LeftMargin = refl
display_back displays.RightInline = refl
display_back displays.Indent = refl

pub Decides-is_display : (d e : Display) → Decides (is_display d e) (d ≡ e)
Decides-is_display d e = Decides-indices display_index display_at display_back d e

-- one fact and another
both : {b c : Bool} {P R : Type 0} → Decides b P → Decides c R → Decides (b && c) (P × R)
both {b} {c} d e = Decides-and b c d e

-- one thing is no other
never : {P : Type 0} → (P → ⊥) → Decides false P
never apart = (λ h. absurd (true≢false (sym h)), λ p. absurd (apart p))

always : {P : Type 0} → P → Decides true P
always p = (λ h. p, λ q. refl)

-- options are the same where what is in them is
pub Decides-option : {X : Type 0} (same : X → X → Bool) → ((x y : X) → Decides (same x y) (x ≡ y)) → (o p : Option X) → Decides (option_eq same o p) (o ≡ p)
Decides-option same d None None = always refl
Decides-option same d None (Some y) = never (λ e. cc)
Decides-option same d (Some x) None = never (λ e. cc)
Decides-option same d (Some x) (Some y) = Decides-like (same x y) (ap (λ z. Some z)) (λ e. cc) (d x y)

pub Decides-is_person : (p q : Named) → Decides (is_person p q) (p ≡ q)
Decides-is_person p q =
    Decides-like (is_person p q)
    (λ e i. record { name = e.0.0.0 i; given_name = e.0.0.1 i; prefix = e.0.1 i; suffix = e.1 i })
    (λ e. (((ap (λ (n : Named). n.name) e, ap (λ (n : Named). n.given_name) e), ap (λ (n : Named). n.prefix) e), ap (λ (n : Named). n.suffix) e))
    (both (both (both (bytes_decides p.name q.name)
    (Decides-option bytes_eq bytes_decides p.given_name q.given_name))
    (Decides-option bytes_eq bytes_decides p.prefix q.prefix))
    (Decides-option bytes_eq bytes_decides p.suffix q.suffix))

pub Decides-is_answered : (a b : Answered) → Decides (is_answered a b) (a ≡ b)
Decides-is_answered a b =
    Decides-like (is_answered a b) (λ e i. (e.0 i, e.1 i)) (λ e. (ap (λ (c : Answered). c.0) e, ap (λ (c : Answered). c.1) e))
    (both (pointwise_decides Decides-is_person a.0 b.0) (Decides-is_name_variable a.1 b.1))

-- what two elements stand for
pub Decides-is_meta : (m n : Meta) → Decides (is_meta m n) (m ≡ n)
Decides-is_meta (Names a) (Names b) = Decides-like (pointwise is_answered a b) (ap Names) (λ e. cc) (pointwise_decides Decides-is_answered a b)
Decides-is_meta (NameVariableOf v) (NameVariableOf w) = Decides-like (is_name_variable v w) (ap NameVariableOf) (λ e. cc) (Decides-is_name_variable v w)
Decides-is_meta (Name v m) (Name w n) = Decides-like (is_name_variable v w && m == n) (λ e i. Name (e.0 i) (e.1 i)) (λ e. (cc, cc)) (both (Decides-is_name_variable v w) (Decides-eqb m n))
Decides-is_meta (Entry m) (Entry n) = Decides-like (m == n) (ap Entry) (λ e. cc) (Decides-eqb m n)
Decides-is_meta Date Date = always refl
Decides-is_meta Text Text = always refl
Decides-is_meta Number Number = always refl
Decides-is_meta Label Label = always refl
Decides-is_meta CitationNumber CitationNumber = always refl
Decides-is_meta CitationLabel CitationLabel = always refl
Decides-is_meta m n = never (λ e. cc)

abbrev same_display : Option Display → Option Display → Bool
same_display d e = option_eq is_display d e

Decides-display : (d e : Option Display) → Decides (same_display d e) (d ≡ e)
Decides-display d e = Decides-option is_display Decides-is_display d e

abbrev same_meta : Option Meta → Option Meta → Bool
same_meta m n = option_eq is_meta m n

Decides-meta : (m n : Option Meta) → Decides (same_meta m n) (m ≡ n)
Decides-meta m n = Decides-option is_meta Decides-is_meta m n

mutual
  pub Decides-is_child : (x y : Child) → Decides (is_child x y) (x ≡ y)
  Decides-is_child (trees.Text f cs) (trees.Text g ds) =
      Decides-like (looks_like f g && bytes_eq cs ds) (λ e i. trees.Text (e.0 i) (e.1 i)) (λ e. (cc, cc)) (both (Decides-looks_like f g) (bytes_decides cs ds))
  Decides-is_child (Elem d m xs) (Elem e n ys) =
      Decides-like (same_display d e && same_meta m n && are_children xs ys) (λ h i. Elem (h.0.0 i) (h.0.1 i) (h.1 i)) (λ h. ((cc, cc), cc))
      (both (both (Decides-display d e) (Decides-meta m n)) (Decides-are_children xs ys))
  Decides-is_child (Markup cs) (Markup ds) = Decides-like (bytes_eq cs ds) (ap Markup) (λ e. cc) (bytes_decides cs ds)
  Decides-is_child (Link f cs url) (Link g ds other) =
      Decides-like (looks_like f g && bytes_eq cs ds && bytes_eq url other) (λ e i. Link (e.0.0 i) (e.0.1 i) (e.1 i)) (λ e. ((cc, cc), cc))
      (both (both (Decides-looks_like f g) (bytes_decides cs ds)) (bytes_decides url other))
  Decides-is_child (Transparent f n) (Transparent g k) =
      Decides-like (looks_like f g && n == k) (λ e i. Transparent (e.0 i) (e.1 i)) (λ e. (cc, cc)) (both (Decides-looks_like f g) (Decides-eqb n k))
  Decides-is_child x y = never (λ e. cc)

  pub Decides-are_children : (xs ys : Children) → Decides (are_children xs ys) (xs ≡ ys)
  Decides-are_children nothing nothing = always refl
  Decides-are_children (before x xs) (before y ys) =
      Decides-like (is_child x y && are_children xs ys) (λ e i. before (e.0 i) (e.1 i)) (λ e. (cc, cc)) (both (Decides-is_child x y) (Decides-are_children xs ys))
  Decides-are_children xs ys = never (λ e. cc)

pub Decides-is_element : (e f : Element) → Decides (is_element e f) (e ≡ f)
Decides-is_element e f =
    Decides-like (is_element e f)
    (λ h i. record { display = h.0.0 i; meta = h.0.1 i; children = h.1 i })
    (λ h. ((ap (λ (g : Element). g.display) h, ap (λ (g : Element). g.meta) h), ap (λ (g : Element). g.children) h))
    (both (both (Decides-display e.display f.display) (Decides-meta e.meta f.meta)) (Decides-are_children e.children f.children))

pub trees_are_one : SameTreesAreOne
trees_are_one xs ys = Decides-are_children xs ys

pub elements_are_one : SameElementsAreOne
elements_are_one e f = Decides-is_element e f
