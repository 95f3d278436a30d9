-- The items of a bibliography from what the style gives of each.
use Rattle.std.specs.Prelude.{ℕ, Bool, List, map, Option, Some, None}
use Rattle.rendering_tree.specs.Trees.{Children, Element, Parted, parted, simplified}
use Rattle.rendering_style.specs.Styles.{Bibliography}
use Rattle.driver_bibliography.specs.Substitution.{Printed, substituted, with_names_before}
use Rattle.rendering_taxonomy.specs.declared.style.SecondFieldAlign.{SecondFieldAlign}
use Rattle.rendering_taxonomy.specs.declared.style.SubsequentAuthorSubstituteRule.{SubsequentAuthorSubstituteRule}

-- An item: its first field, where the second one is aligned, and all else.
pub record Fields : Type 0 where
  pub first_field : Option Element
  pub content : Children

-- the items, with the text instead of repeated names where the style has such a text; whether it stands for names alone
abbrev pub all_substituted : Bool → SubsequentAuthorSubstituteRule → Option (List ℕ) → List Printed → List Children
all_substituted alone rule None ps = map (λ p. p.tree) ps
all_substituted alone rule (Some text) ps = map (substituted alone rule text) (with_names_before None ps)

-- an item without the first element that stands for something, which is its first field
abbrev pub fields_of : Children → Parted → Fields
fields_of tree None = record { first_field = None; content = tree }
fields_of tree (Some (e, others)) = record { first_field = Some e; content = simplified others }

-- an item in fields
abbrev pub fields_by : Option SecondFieldAlign → Children → Fields
fields_by None tree = record { first_field = None; content = tree }
fields_by (Some align) tree = fields_of tree (parted tree)

-- The items of a bibliography from what is printed of each.
abbrev pub items_of : Bibliography → List Printed → List Fields
items_of b ps = map (fields_by b.second_field_align) (all_substituted b.substitutes_names_alone b.substitute_rule b.substitute ps)
