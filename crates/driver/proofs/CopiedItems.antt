-- What is held of items decides their fields and keys.
use Rattle.std.proofs.Common.{◌≡◌, List, [], ◌∷◌, ℕ, map, Option, Some, None, refl, sym, ap, ◌∙◌}
use Rattle.std.specs.Option.{option_and_then, option_map}
use Rattle.rendering_tree.specs.Trees.{Element}
use Rattle.rendering_tree.specs.Views.{child_view}
use Rattle.rendering_tree.specs.declared.element.ElemChild.{ElemChild}
use Rattle.driver_bibliography.specs.Items.{Fields}
use Rattle.driver.specs.RenderedViews.{HeldItem, element_if, held_item_view, item_fields_view, key_view}
use Rattle.driver.specs.declared.rendered.BibliographyItem.{BibliographyItem}

abbrev fields_held : HeldItem → Fields
fields_held h = record { first_field = option_and_then element_if h.first_field; content = h.content }

first_held : (o : Option ElemChild) → option_and_then (λ x. element_if (child_view x)) o ≡ option_and_then element_if (option_map child_view o)
first_held None = refl
first_held (Some x) = refl

fields_are : (is : List BibliographyItem) → map item_fields_view is ≡ map fields_held (map held_item_view is)
fields_are [] = refl
fields_are (i ∷ is) = λ j. record { first_field = first_held i.first_field j; content = (item_fields_view i).content } ∷ fields_are is j

keys_are : (is : List BibliographyItem) → map key_view is ≡ map (λ (h : HeldItem). h.key) (map held_item_view is)
keys_are [] = refl
keys_are (i ∷ is) = ap (λ (ks : List (List ℕ)). key_view i ∷ ks) (keys_are is)

pub same_fields : (is js : List BibliographyItem) → map held_item_view is ≡ map held_item_view js → map item_fields_view is ≡ map item_fields_view js
same_fields is js same = fields_are is ∙ (ap (map fields_held) same ∙ sym (fields_are js))

pub same_keys : (is js : List BibliographyItem) → map held_item_view is ≡ map held_item_view js → map key_view is ≡ map key_view js
same_keys is js same = keys_are is ∙ (ap (map (λ (h : HeldItem). h.key)) same ∙ sym (keys_are js))
