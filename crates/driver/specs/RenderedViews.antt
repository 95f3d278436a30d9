-- What a driver gives, without where it lies in memory.
use Rattle.std.specs.Prelude.{ℕ, List, map, string_bytes, Option, Some, None}
use Rattle.std.specs.Int.NonZero.{non_zero_i16_get}
use Rattle.std.specs.Option.{option_and_then, option_map}
use Rattle.rendering_tree.specs.Trees.{Child, Children, Element, Elem, Link, Markup, Text, Transparent}
use Rattle.rendering_tree.specs.Views.{child_view, tree_view}
use Rattle.driver_bibliography.specs.Items.{Fields}
use Rattle.driver.specs.Finish as finish
use Rattle.driver.specs.declared.rendered.BibliographyItem.{BibliographyItem}
use Rattle.driver.specs.declared.rendered.Rendered.{Rendered}
use Rattle.driver.specs.declared.rendered.RenderedBibliography.{RenderedBibliography}
use Rattle.driver.specs.declared.rendered.RenderedCitation.{RenderedCitation}

-- an element, where a child is one
abbrev pub element_if : Child → Option Element
element_if (Elem d m xs) = Some (record { display = d; meta = m; children = xs })
element_if (Text f cs) = None
element_if (Markup cs) = None
element_if (Link f cs url) = None
element_if (Transparent f n) = None

-- an item of a bibliography
abbrev pub item_fields_view : BibliographyItem → Fields
item_fields_view i = record { first_field = option_and_then (λ x. element_if (child_view x)) i.first_field; content = tree_view i.content }

-- the bytes of its key
abbrev pub key_view : BibliographyItem → List ℕ
key_view i = string_bytes i.key

-- all that an item holds: the bytes of its key, its first field, where there is one, and the rest
pub record HeldItem : Type 0 where
  pub key : List ℕ
  pub first_field : Option Child
  pub content : Children

abbrev pub held_item_view : BibliographyItem → HeldItem
held_item_view i = record { key = key_view i; first_field = option_map child_view i.first_field; content = tree_view i.content }

-- a citation
abbrev pub rendered_citation_view : RenderedCitation → finish.Citation
rendered_citation_view c = record { note_number = c.note_number; tree = tree_view c.citation }

-- a bibliography
abbrev pub rendered_bibliography_view : RenderedBibliography → finish.RenderedBibliography
rendered_bibliography_view b = record {
  hanging_indent = b.hanging_indent;
  second_field_align = b.second_field_align;
  line_spacing = non_zero_i16_get b.line_spacing;
  entry_spacing = b.entry_spacing;
  items = map item_fields_view b.items.items;
}

-- the bytes of the keys of its items
abbrev pub keys_view : RenderedBibliography → List (List ℕ)
keys_view b = map key_view b.items.items

-- citations and bibliography
abbrev pub rendered_view : Rendered → finish.Rendered
rendered_view r = record { bibliography = option_map rendered_bibliography_view r.bibliography; citations = map rendered_citation_view r.citations.items }
