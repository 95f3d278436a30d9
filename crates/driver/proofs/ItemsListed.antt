-- Items of a bibliography are as many as what is printed of them.
use Rattle.std.proofs.Common.{◌≡◌, ℕ, Bool, List, [], ◌∷◌, length, map, suc, refl, sym, ap, ◌∙◌, Option, Some, None}
use Rattle.std.specs.Option.{option_or}
use Rattle.std.proofs.lemmas.List.{length-map}
use Rattle.rendering_tree.specs.Trees.{Element}
use Rattle.rendering_style.specs.Styles.{Bibliography}
use Rattle.rendering_taxonomy.specs.declared.style.SubsequentAuthorSubstituteRule.{SubsequentAuthorSubstituteRule}
use Rattle.driver_bibliography.specs.Items.{all_substituted, fields_by, items_of}
use Rattle.driver_bibliography.specs.Substitution.{Printed, substituted, with_names_before}
use Rattle.driver_bibliography.specs.Views.{fields_view, printed_view}
use Rattle.driver_bibliography.specs.declared.fields.ItemFields.{ItemFields}
use Rattle.driver_bibliography.specs.declared.fields.PrintedItem.{PrintedItem}

before_long : (last : Option Element) (items : List Printed) → length (with_names_before last items) ≡ length items
before_long last [] = refl
before_long last (item ∷ items) = ap suc (before_long (option_or item.names last) items)

substituted_long : (alone : Bool) (rule : SubsequentAuthorSubstituteRule) (text : Option (List ℕ)) (items : List Printed) → length (all_substituted alone rule text items) ≡ length items
substituted_long alone rule None items = length-map items (λ p. p.tree)
substituted_long alone rule (Some text) items = length-map (with_names_before None items) (substituted alone rule text) ∙ before_long None items

pub items_long : (b : Bibliography) (items : List Printed) → length (items_of b items) ≡ length items
items_long b items = length-map (all_substituted b.substitutes_names_alone b.substitute_rule b.substitute items) (fields_by b.second_field_align) ∙ substituted_long b.substitutes_names_alone b.substitute_rule b.substitute items

-- the same of items that were made
pub fields_long : (b : Bibliography) (fields : List ItemFields) (items : List PrintedItem) → map fields_view fields ≡ items_of b (map printed_view items) → length fields ≡ length items
fields_long b fields items e = sym (length-map fields fields_view) ∙ ap length e ∙ items_long b (map printed_view items) ∙ length-map items printed_view
