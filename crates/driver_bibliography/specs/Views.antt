-- What the code reads and makes, as plain data.
use Rattle.std.specs.Prelude.{◌≡◌, ℕ, Bool, List, [], ◌∷◌, map, Option, is_some}
use Rattle.std.specs.Borrow.{Bor}
use Rattle.std.specs.Option.{option_map, unwrap_or}
use Rattle.laws.specs.Text.{spelled}
use Rattle.rendering_tree.specs.Trees.{Child, Children, Elem, Element, simplified}
use Rattle.rendering_tree.specs.Views.{element_view, tree_view}
use Rattle.driver_bibliography.specs.Items as items
use Rattle.driver_bibliography.specs.Substitution.{Printed, Repeated, none_of_them, all_of_them, lists_of_them, first_of_them, with_names_before, is_some_name, lists_replaced, names_replaced, repeated, text_alone, text_for}
use Rattle.rendering_taxonomy.specs.declared.style.SubsequentAuthorSubstituteRule.{SubsequentAuthorSubstituteRule}
use Rattle.rendering_tree.specs.declared.element.Elem.{Elem as ElemOf}
use Rattle.driver_bibliography.specs.declared.fields.ItemFields.{ItemFields}
use Rattle.driver_bibliography.specs.declared.fields.PrintedItem.{PrintedItem}
use Rattle.driver_bibliography.specs.declared.repeats.Repetition.{Repetition}
use Rattle.driver_bibliography.specs.declared.repeats.Repetition.TheVariants as repeats

-- elements that are lent
abbrev pub borrowed_elements_view : List (Bor ElemOf) → List Element
borrowed_elements_view es = map (λ e. element_view e.now) es

-- an element that may be lent
abbrev pub lent_element_view : Option (Bor ElemOf) → Option Element
lent_element_view e = option_map (λ f. element_view f.now) e

-- a text that may be lent
abbrev pub spelled_if : Option (Bor (List ℕ)) → Option (List ℕ)
spelled_if t = option_map spelled t

-- whether an element stands for a single name
abbrev pub is_single : Element → Bool
is_single e = is_some_name e.meta

-- an element among children
abbrev pub as_child : Element → Child
as_child e = Elem e.display e.meta e.children

-- what a text stands for
abbrev pub repeated_view : Repetition → Repeated
repeated_view repeats.Nothing = none_of_them
repeated_view repeats.All = all_of_them
repeated_view repeats.Lists = lists_of_them
repeated_view (repeats.First n) = first_of_them n

-- an item in fields
abbrev pub fields_view : ItemFields → items.Fields
fields_view f = record { first_field = option_map (λ e. element_view e) f.first_field; content = tree_view f.content }

-- what is printed of an item
abbrev pub printed_view : PrintedItem → Printed
printed_view p = record { tree = tree_view p.tree; names = option_map (λ e. element_view e) p.names }

-- what of the names of each item repeats those before them
abbrev pub repeats_after : Bool → SubsequentAuthorSubstituteRule → Option Element → List Printed → List Repeated
repeats_after alone rule last ps = map (λ q. repeated alone rule q.0 q.1.names) (with_names_before last ps)

-- what names contain in which a text stands for what is repeated
abbrev pub children_for : List ℕ → Repeated → Children → Children
children_for text none_of_them xs = xs
children_for text all_of_them xs = text_alone text
children_for text lists_of_them xs = lists_replaced (text_alone text) xs
children_for text (first_of_them n) xs = (names_replaced (text_alone text) xs n).0

-- items in each of which a text stands for what is repeated
abbrev pub all_changed : List ℕ → List Repeated → List Printed → List Children
all_changed text [] ps = []
all_changed text (r ∷ rs) [] = []
all_changed text (r ∷ rs) (p ∷ ps) = simplified (text_for text r p.tree) ∷ all_changed text rs ps

-- What was changed is what was wanted, where there was something to change, and all is as it was where there was not.
pub record Changes {X : Type 0} (wanted : Option X) (old new : X) (found : Bool) : Type 0 where
  pub as_found : found ≡ is_some wanted
  pub as_wanted : new ≡ unwrap_or wanted old
