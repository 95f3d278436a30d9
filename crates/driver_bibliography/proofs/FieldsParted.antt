-- First fields that are taken out.
use Rattle.std.proofs.Common.{◌≡◌, Bool, true≢false, List, [], ◌∷◌, ◌++◌, append_assoc, append-nil, length, map, refl, sym, ap, ◌∙◌, Option, Some, None, is_some, suc, Vec, Result, Ok, Err}
use Rattle.std.specs.Global.{Global}
use Rattle.std.specs.Prelude.{IfOk}
use Rattle.std.specs.Option.{option_or}
use Rattle.std.proofs.lemmas.List.{length-map, map-append}
use Rattle.rendering_tree.specs.Parting.{taken, left}
use Rattle.rendering_tree.specs.Trees.{Children, Element, Parted, simplified}
use Rattle.rendering_tree.specs.Views.{tree_view}
use Rattle.rendering_tree.specs.declared.element.ElemChildren.{ElemChildren}
use Rattle.driver_bibliography.specs.Items.{Fields, fields_by, fields_of}
use Rattle.driver_bibliography.specs.Views.{fields_view, printed_view, repeated_view, repeats_after}
use Rattle.driver_bibliography.specs.Substitution.{Printed}
use Rattle.driver_bibliography.specs.declared.fields.PrintedItem.{PrintedItem}
use Rattle.driver_bibliography.specs.declared.fields.ItemFields.{ItemFields}
use Rattle.driver_bibliography.specs.declared.repeats.Repetition.{Repetition}
use Rattle.rendering_taxonomy.specs.declared.style.SecondFieldAlign.{SecondFieldAlign}
use Rattle.rendering_taxonomy.specs.declared.style.SubsequentAuthorSubstituteRule.{SubsequentAuthorSubstituteRule}

-- something holds of each item
pub repeats_long : (alone : Bool) (rule : SubsequentAuthorSubstituteRule) (last : Option Element) (items : List Printed) → length (repeats_after alone rule last items) ≡ length items
repeats_long alone rule last [] = refl
repeats_long alone rule last (item ∷ items) = ap suc (repeats_long alone rule (option_or item.names last) items)

-- items that were parted, and those that are left to be
pub fields_go_on : (align : Option SecondFieldAlign) (items new : List ItemFields) (x : ElemChildren) (y : ItemFields) (rest whole : List ElemChildren) (all : List Fields) → whole ≡ x ∷ rest
    → map fields_view items ++ map (fields_by align) (map tree_view whole) ≡ all → fields_view y ≡ fields_by align (tree_view x) → new ≡ items ++ y ∷ [] → map fields_view new ++ map (fields_by align) (map tree_view rest) ≡ all
fields_go_on align items new x y rest whole all split h says e =
    ap (λ fs. map fields_view fs ++ map (fields_by align) (map tree_view rest)) e
    ∙ ap (λ fs. fs ++ map (fields_by align) (map tree_view rest)) (map-append fields_view items (y ∷ []))
    ∙ append_assoc (map fields_view items) (fields_view y ∷ []) (map (fields_by align) (map tree_view rest))
    ∙ ap (λ f. map fields_view items ++ f ∷ map (fields_by align) (map tree_view rest)) says
    ∙ ap (λ xs. map fields_view items ++ map (fields_by align) (map tree_view xs)) (sym split)
    ∙ h

pub fields_end : (align : Option SecondFieldAlign) (items : List ItemFields) (whole : List ElemChildren) (all : List Fields) → whole ≡ [] → map fields_view items ++ map (fields_by align) (map tree_view whole) ≡ all → map fields_view items ≡ all
fields_end align items whole all none h = sym (append-nil (map fields_view items)) ∙ ap (λ xs. map fields_view items ++ map (fields_by align) (map tree_view xs)) (sym none) ∙ h

-- what holds of items holds of as many
pub as_many : (alone : Bool) (rule : SubsequentAuthorSubstituteRule) (rs : List Repetition) (items : List PrintedItem) → map repeated_view rs ≡ repeats_after alone rule None (map printed_view items) → length rs ≡ length items
as_many alone rule rs items e = sym (length-map rs repeated_view) ∙ ap length e ∙ repeats_long alone rule None (map printed_view items) ∙ length-map items printed_view

-- the same of items that were made
pub made_as : {E : Type 0} (r : Result (Vec ElemChildren Global) E) (before after : List Children) → before ≡ after → IfOk r (λ v. map tree_view v.items ≡ before) → IfOk r (λ v. map tree_view v.items ≡ after)
made_as (Ok v) before after e p = p ∙ e
made_as (Err d) before after e p = tt

-- an item of which nothing was taken out
pub whole_item : (whole now : Children) (p : Parted) → None ≡ taken p → now ≡ left p whole → record { first_field = None; content = now } ≡ fields_of whole p
whole_item whole now None e l = ap (λ t. record { first_field = None; content = t }) l
whole_item whole now (Some (f, others)) e l = absurd (true≢false (sym (ap is_some e)))

-- an item of which an element was taken out
pub parted_item : (whole content now : Children) (e : Element) (p : Parted) → Some e ≡ taken p → now ≡ left p whole → content ≡ simplified now → record { first_field = Some e; content = content } ≡ fields_of whole p
parted_item whole content now e None t l s = absurd (true≢false (ap is_some t))
parted_item whole content now e (Some (f, others)) t l s = λ k. record { first_field = t k; content = (s ∙ ap simplified l) k }
