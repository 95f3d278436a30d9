-- Values of the code are equal exactly where their views are.
use Rattle.std.specs.Global.{Global}
use Rattle.std.proofs.Common.{◌≡◌, ℕ, zero, suc, ◌+◌, ◌≤◌, Bool, true, false, ◌&&◌, ◌==◌, List, [], ◌∷◌, map, Vec, refl, sym, ap, ◌∙◌, string_eq, true≢false, arith, rules}
use Rattle.std.specs.Bool.{Decides}
use Rattle.std.specs.Cmp.Lexicographic.{pointwise}
use Rattle.std.specs.Option.{option_eq, option_map}
use Rattle.std.proofs.lemmas.Bool.Decides.{Decides-and, Decides-at, Decides-eqb}
use Rattle.laws.specs.Equality.{Shows}
use Rattle.laws.specs.Text.{characters}
use Rattle.laws.proofs.Equality.{Decides-moved, Decides-never, Shows-strings, Shows-options, Shows-options_themselves, Shows-lists, Shows-pairs}
use Rattle.literature_values.specs.PersonViews.{Named, person_view}
use Rattle.literature_values.specs.declared.person.Person.{Person}
use Rattle.literature_values.specs.contracts.person.PersonPartialEq.TheImpl as one_person
use Rattle.literature_values.proofs.Equality.{Shows-Person}
use Rattle.rendering_taxonomy.proofs.Indices.{Decides-names, Decides-displays, Decides-formattings}
use Rattle.rendering_taxonomy.specs.contracts.formatting.DisplayPartialEq.TheImpl as display
use Rattle.rendering_taxonomy.specs.contracts.formatting.FormattingPartialEq.TheImpl as formatting
use Rattle.rendering_taxonomy.specs.contracts.variable.NameVariablePartialEq.TheImpl as variable
use Rattle.rendering_taxonomy.specs.declared.variable.NameVariable.{NameVariable}
use Rattle.rendering_tree.specs.Metas as metas
use Rattle.rendering_tree.specs.Metas.{Meta, Answered}
use Rattle.rendering_tree.specs.Trees as trees
use Rattle.rendering_tree.specs.Trees.{Child, Children, Element, nothing, before}
use Rattle.rendering_tree.specs.Views.{answered_view, meta_view, formatted_view, child_view, children_view, tree_view, element_view}
use Rattle.rendering_tree.specs.contracts.element.FormattedPartialEq.TheImpl as formatted
use Rattle.rendering_tree.specs.contracts.element.ElemMetaPartialEq.TheImpl as meta
use Rattle.rendering_tree.specs.contracts.element.ElemChildPartialEq.TheImpl as part
use Rattle.rendering_tree.specs.contracts.element.ElemChildPartialEq.TheImpl.Laws as part_laws
use Rattle.rendering_tree.specs.contracts.element.ElemPartialEq.TheImpl as elem
use Rattle.rendering_tree.specs.contracts.element.ElemPartialEq.TheImpl.Laws as elem_laws
use Rattle.rendering_tree.specs.contracts.element.ElemChildrenPartialEq.TheImpl as list
use Rattle.rendering_tree.specs.contracts.element.ElemChildrenPartialEq.TheImpl.Laws as list_laws
use Rattle.rendering_tree.specs.declared.element.Elem.{Elem}
use Rattle.rendering_tree.specs.declared.element.ElemMeta.TheVariants as kinds
use Rattle.rendering_tree.specs.declared.element.ElemChildren.{ElemChildren}
use Rattle.rendering_tree.specs.declared.element.ElemChild.{ElemChild, out-ElemChild, roll-ElemChild, roll-out-ElemChild, the_lemmas}
use Rattle.rendering_tree.specs.declared.element.ElemChild.TheOpen.{ElemChild-F}
use Rattle.rendering_tree.specs.declared.element.ElemChild.TheVariants as parts

-- one fact and another
both : {b c : Bool} {P R : Type 0} → Decides b P → Decides c R → Decides (b && c) (P × R)
both {b} {c} d e = Decides-and b c d e

-- two tests that decide the same answer the same
pub agreed : {P : Type 0} (b c : Bool) → Decides b P → Decides c P → b ≡ c
agreed true true d e = refl
agreed true false d e = sym (e.1 (d.0 refl))
agreed false true d e = d.1 (e.0 refl)
agreed false false d e = refl

-- a text with its formatting
Shows-Formatted : Shows formatted.ghosts.eq formatted_view
Shows-Formatted t u =
    Decides-moved (formatted.ghosts.eq t u) (both (Shows-strings t.text u.text) (Decides-formattings t.formatting u.formatting))
    (λ e i. (e.1 i, e.0 i)) (λ e. (ap (λ p. p.1) e, ap (λ p. p.0) e))

abbrev same_people : Vec Person Global → Vec Person Global → Bool
same_people v w = pointwise one_person.ghosts.eq v.items w.items

abbrev people : Vec Person Global → List Named
people v = map person_view v.items

Shows-people : Shows same_people people
Shows-people v w = Shows-lists one_person.ghosts.eq person_view Shows-Person v.items w.items

abbrev same_answered : Vec Person Global × NameVariable → Vec Person Global × NameVariable → Bool
same_answered p q = same_people p.0 q.0 && variable.ghosts.eq p.1 q.1

Shows-answered : Shows same_answered answered_view
Shows-answered p q = Shows-pairs same_people people variable.ghosts.eq (λ v. v) Shows-people Decides-names p q

-- the people of a names node
abbrev names_of : Meta → List Answered
names_of (metas.Names a) = a
names_of m = []

-- what an element stands for
pub Shows-ElemMeta : Shows meta.ghosts.eq meta_view
Shows-ElemMeta (kinds.Names v) (kinds.Names w) =
    Decides-moved (pointwise same_answered v.items w.items) (Shows-lists same_answered answered_view Shows-answered v.items w.items) (ap metas.Names) (ap names_of)
Shows-ElemMeta (kinds.NameVariable v) (kinds.NameVariable w) = Decides-moved (variable.ghosts.eq v w) (Decides-names v w) (ap metas.NameVariableOf) (λ e. cc)
Shows-ElemMeta (kinds.Name v m) (kinds.Name w n) =
    Decides-moved (variable.ghosts.eq v w && m == n) (both (Decides-names v w) (Decides-eqb m n)) (λ e i. metas.Name (e.0 i) (e.1 i)) (λ e. (cc, cc))
Shows-ElemMeta (kinds.Entry m) (kinds.Entry n) = Decides-moved (m == n) (Decides-eqb m n) (ap metas.Entry) (λ e. cc)
Shows-ElemMeta kinds.Date kinds.Date = (λ h. refl, λ e. refl)
Shows-ElemMeta kinds.Text kinds.Text = (λ h. refl, λ e. refl)
Shows-ElemMeta kinds.Number kinds.Number = (λ h. refl, λ e. refl)
Shows-ElemMeta kinds.Label kinds.Label = (λ h. refl, λ e. refl)
Shows-ElemMeta kinds.CitationNumber kinds.CitationNumber = (λ h. refl, λ e. refl)
Shows-ElemMeta kinds.CitationLabel kinds.CitationLabel = (λ h. refl, λ e. refl)
Shows-ElemMeta m n = Decides-never (λ e. cc)

-- one level of a child
abbrev Level : Type 0
Level = ElemChild-F ElemChild Elem ElemChildren

abbrev viewed : Level → Child
viewed (ElemChild-F.Text t) = trees.Text t.formatting (characters t.text)
viewed (ElemChild-F.Elem e) = trees.Elem e.display (option_map meta_view e.meta) (tree_view e.children)
viewed (ElemChild-F.Markup s) = trees.Markup (characters s)
viewed (ElemChild-F.Link t url) = trees.Link t.formatting (characters t.text) (characters url)
viewed (ElemChild-F.Transparent n f) = trees.Transparent f n

view_is : (u : Level) → child_view (roll-ElemChild u) ≡ viewed u
view_is (ElemChild-F.Text t) = search (rules, the_lemmas)
view_is (ElemChild-F.Elem e) = search (rules, the_lemmas)
view_is (ElemChild-F.Markup s) = search (rules, the_lemmas)
view_is (ElemChild-F.Link t url) = search (rules, the_lemmas)
view_is (ElemChild-F.Transparent n f) = search (rules, the_lemmas)

abbrev same : Level → Level → Bool
same (ElemChild-F.Text t) (ElemChild-F.Text u) = formatted.ghosts.eq t u
same (ElemChild-F.Elem e) (ElemChild-F.Elem f) = elem.ghosts.eq e f
same (ElemChild-F.Markup s) (ElemChild-F.Markup t) = string_eq s t
same (ElemChild-F.Link t url) (ElemChild-F.Link u other) = formatted.ghosts.eq t u && string_eq url other
same (ElemChild-F.Transparent m f) (ElemChild-F.Transparent n g) = m == n && formatting.ghosts.eq f g
same u w = false

rolled : (e : Elem) → roll-ElemChild (ElemChild-F.Elem e) ≡ parts.Elem e
unfolding roll-ElemChild denote.Hole.Carrier.roll
rolled e = refl

same_levels : (e f : Elem) → part_laws.unfolded (parts.Elem e) (parts.Elem f) ≡ elem.ghosts.eq e f
same_levels e f = search (rules, the_lemmas)

same_elements : (e f : Elem) → part.ghosts.eq (roll-ElemChild (ElemChild-F.Elem e)) (roll-ElemChild (ElemChild-F.Elem f)) ≡ elem.ghosts.eq e f
same_elements e f = (λ i. part.ghosts.eq (rolled e i) (rolled f i)) ∙ part_laws.is (parts.Elem e) (parts.Elem f) ∙ same_levels e f

same_is : (u w : Level) → part.ghosts.eq (roll-ElemChild u) (roll-ElemChild w) ≡ same u w
unfolding out-ElemChild denote.Hole.Carrier.out roll-ElemChild denote.Hole.Carrier.roll
same_is (ElemChild-F.Text t) (ElemChild-F.Text u) = part_laws.is (roll-ElemChild (ElemChild-F.Text t)) (roll-ElemChild (ElemChild-F.Text u))
same_is (ElemChild-F.Elem e) (ElemChild-F.Elem f) = same_elements e f
same_is (ElemChild-F.Markup s) (ElemChild-F.Markup t) = part_laws.is (roll-ElemChild (ElemChild-F.Markup s)) (roll-ElemChild (ElemChild-F.Markup t))
same_is (ElemChild-F.Link t url) (ElemChild-F.Link u other) = part_laws.is (roll-ElemChild (ElemChild-F.Link t url)) (roll-ElemChild (ElemChild-F.Link u other))
same_is (ElemChild-F.Transparent m f) (ElemChild-F.Transparent n g) =
    part_laws.is (roll-ElemChild (ElemChild-F.Transparent m f)) (roll-ElemChild (ElemChild-F.Transparent n g))
same_is u w = part_laws.is (roll-ElemChild u) (roll-ElemChild w)

-- how much a tree contains
abbrev mutual
  size : Child → ℕ
  size (trees.Text f cs) = 1
  size (trees.Elem d m xs) = suc (sizes xs)
  size (trees.Markup cs) = 1
  size (trees.Link f cs url) = 1
  size (trees.Transparent f n) = 1

  sizes : Children → ℕ
  sizes nothing = 0
  sizes (before x xs) = size x + sizes xs

is_one : (x : Child) → 1 ≤ size x
is_one (trees.Text f cs) = omega arith
is_one (trees.Elem d m xs) = omega arith
is_one (trees.Markup cs) = omega arith
is_one (trees.Link f cs url) = omega arith
is_one (trees.Transparent f n) = omega arith

abbrev is_some : Children → Bool
is_some nothing = false
is_some (before x xs) = true

abbrev first_or : Child → Children → Child
first_or x nothing = x
first_or x (before y ys) = y

abbrev others : Children → Children
others nothing = nothing
others (before y ys) = ys

-- what is decided of each child is decided of lists of them
decided_each : (n : ℕ) → ((x y : ElemChild) → size (child_view x) ≤ n → Decides (part.ghosts.eq x y) (child_view x ≡ child_view y))
    → (xs ys : List ElemChild) → sizes (children_view xs) ≤ n → Decides (pointwise part.ghosts.eq xs ys) (children_view xs ≡ children_view ys)
decided_each n one [] [] h = (λ e. refl, λ e. refl)
decided_each n one [] (y ∷ ys) h = Decides-never (λ e. true≢false (sym (ap is_some e)))
decided_each n one (x ∷ xs) [] h = Decides-never (λ e. true≢false (ap is_some e))
decided_each n one (x ∷ xs) (y ∷ ys) h =
    Decides-moved (part.ghosts.eq x y && pointwise part.ghosts.eq xs ys) (both (one x y (omega (arith, h))) (decided_each n one xs ys (omega (arith, h))))
    (λ p i. before (p.0 i) (p.1 i)) (λ p. (ap (first_or (child_view x)) p, ap others p))

abbrev same_displays : Elem → Elem → Bool
same_displays e f = option_eq display.ghosts.eq e.display f.display

abbrev same_metas : Elem → Elem → Bool
same_metas e f = option_eq meta.ghosts.eq e.meta f.meta

-- the parts of an element
decided_parts : (e f : Elem) → Decides (pointwise part.ghosts.eq e.children.0.items f.children.0.items) (tree_view e.children ≡ tree_view f.children)
    → Decides (elem.ghosts.eq e f) ((tree_view e.children ≡ tree_view f.children) × ((e.display ≡ f.display) × (option_map meta_view e.meta ≡ option_map meta_view f.meta)))
decided_parts e f d =
    Decides-at (elem.ghosts.eq e f) (list.ghosts.eq e.children f.children && (same_displays e f && same_metas e f)) (elem_laws.is e f)
    (both (Decides-at (list.ghosts.eq e.children f.children) (pointwise part.ghosts.eq e.children.0.items f.children.0.items) (list_laws.is e.children f.children) d)
    (both (Shows-options_themselves display.ghosts.eq Decides-displays e.display f.display) (Shows-options meta.ghosts.eq meta_view Shows-ElemMeta e.meta f.meta)))

-- one level of a child, where what is in it is decided
decided_level : (n : ℕ) → ((x y : ElemChild) → size (child_view x) ≤ n → Decides (part.ghosts.eq x y) (child_view x ≡ child_view y))
    → (u w : Level) → size (viewed u) ≤ suc n → Decides (same u w) (viewed u ≡ viewed w)
decided_level n one (ElemChild-F.Text t) (ElemChild-F.Text u) h =
    Decides-moved (formatted.ghosts.eq t u) (Shows-Formatted t u) (ap (λ p. trees.Text p.0 p.1)) (λ e i. (fcc e i, ccs e i)) where
      fcc : trees.Text t.formatting (characters t.text) ≡ trees.Text u.formatting (characters u.text) → t.formatting ≡ u.formatting
      fcc e = cc

      ccs : trees.Text t.formatting (characters t.text) ≡ trees.Text u.formatting (characters u.text) → characters t.text ≡ characters u.text
      ccs e = cc
decided_level n one (ElemChild-F.Elem e) (ElemChild-F.Elem f) h =
    Decides-moved (elem.ghosts.eq e f) (decided_parts e f (decided_each n one e.children.0.items f.children.0.items (omega (arith, h))))
    (λ p i. trees.Elem (p.1.0 i) (p.1.1 i) (p.0 i)) (λ p. (cc, (cc, cc)))
decided_level n one (ElemChild-F.Markup s) (ElemChild-F.Markup t) h = Decides-moved (string_eq s t) (Shows-strings s t) (ap trees.Markup) (λ e. cc)
decided_level n one (ElemChild-F.Link t url) (ElemChild-F.Link u other) h =
    Decides-moved (formatted.ghosts.eq t u && string_eq url other) (both (Shows-Formatted t u) (Shows-strings url other))
    (λ p i. trees.Link (p.0 i).0 (p.0 i).1 (p.1 i)) (λ e. (linked e, cc)) where
      linked : trees.Link t.formatting (characters t.text) (characters url) ≡ trees.Link u.formatting (characters u.text) (characters other) → formatted_view t ≡ formatted_view u
      linked e = let f : t.formatting ≡ u.formatting = cc in let cs : characters t.text ≡ characters u.text = cc in λ i. (f i, cs i)
decided_level n one (ElemChild-F.Transparent m f) (ElemChild-F.Transparent k g) h =
    Decides-moved (m == k && formatting.ghosts.eq f g) (both (Decides-eqb m k) (Decides-formattings f g)) (λ p i. trees.Transparent (p.1 i) (p.0 i)) (λ e. (cc, cc))
decided_level n one u w h = Decides-never (λ e. cc)

child_is : (x : ElemChild) → child_view x ≡ viewed (out-ElemChild x)
child_is x = ap child_view (sym (roll-out-ElemChild x)) ∙ view_is (out-ElemChild x)

eq_is : (x y : ElemChild) → part.ghosts.eq x y ≡ same (out-ElemChild x) (out-ElemChild y)
eq_is x y = (λ i. part.ghosts.eq (sym (roll-out-ElemChild x) i) (sym (roll-out-ElemChild y) i)) ∙ same_is (out-ElemChild x) (out-ElemChild y)

-- of children that contain so much
decided : (n : ℕ) (x y : ElemChild) → size (child_view x) ≤ n → Decides (part.ghosts.eq x y) (child_view x ≡ child_view y)
decided zero x y h = let own = is_one (child_view x) in absurd (omega (arith, own, h))
decided (suc n) x y h =
    let up = ap size (child_is x) in
    Decides-at (part.ghosts.eq x y) (same (out-ElemChild x) (out-ElemChild y)) (eq_is x y)
    (Decides-moved (same (out-ElemChild x) (out-ElemChild y)) (decided_level n (decided n) (out-ElemChild x) (out-ElemChild y) (omega (arith, up, h)))
    (λ e. child_is x ∙ e ∙ sym (child_is y)) (λ e. sym (child_is x) ∙ e ∙ child_is y))

pub Shows-ElemChild : Shows part.ghosts.eq child_view
Shows-ElemChild x y = decided (size (child_view x)) x y (omega arith)

decided_children : (xs ys : List ElemChild) → Decides (pointwise part.ghosts.eq xs ys) (children_view xs ≡ children_view ys)
decided_children xs ys = decided_each (sizes (children_view xs)) (λ x y h. Shows-ElemChild x y) xs ys (omega arith)

pub Shows-ElemChildren : Shows list.ghosts.eq tree_view
Shows-ElemChildren a b =
    Decides-at (list.ghosts.eq a b) (pointwise part.ghosts.eq a.0.items b.0.items) (list_laws.is a b) (decided_children a.0.items b.0.items)

pub Shows-Elem : Shows elem.ghosts.eq element_view
Shows-Elem e f =
    Decides-moved (elem.ghosts.eq e f) (decided_parts e f (decided_children e.children.0.items f.children.0.items))
    (λ p i. record { display = p.1.0 i; meta = p.1.1 i; children = p.0 i })
    (λ p. (ap (λ (g : Element). g.children) p, (ap (λ (g : Element). g.display) p, ap (λ (g : Element). g.meta) p)))
