-- The order of keys.
use Rattle.std.proofs.Common.{◌≡◌, List, map, refl, sym, ap, ◌∙◌}
use Rattle.std.proofs.Math.Path.{fun_ext}
use Rattle.std.specs.Cmp.Derive.Mapped.{lex_map}
use Rattle.std.specs.Cmp.Lexicographic.{slice_cmp}
use Rattle.std.specs.declared.cmp.Ordering.{Ordering}
use Rattle.rendering_sorting.specs.Keys.{key_cmp, part_cmp, value_cmp}
use Rattle.rendering_sorting.specs.Views.{part_view, value_view}
use Rattle.rendering_sorting.specs.contracts.key.SortPartOrd.TheImpl as parts_order
use Rattle.rendering_sorting.specs.contracts.key.SortValueOrd.TheImpl as values_order
use Rattle.rendering_sorting.specs.declared.key.SortPart.{SortPart}
use Rattle.rendering_sorting.specs.declared.key.SortPart.TheVariants as parts
use Rattle.rendering_sorting.specs.declared.key.SortValue.{SortValue}
use Rattle.rendering_sorting.specs.declared.key.SortValue.TheVariants as values

-- values are compared as their views are
values_compare : (v w : SortValue) → values_order.cmp-value.it v w ≡ value_cmp (value_view v) (value_view w)
values_compare (values.Numbers ms) (values.Numbers ns) = refl
values_compare (values.Numbers ms) (values.Text c) = refl
values_compare (values.Text b) (values.Numbers ns) = refl
values_compare (values.Text b) (values.Text c) = refl

-- so are values in a direction
parts_compare : (p q : SortPart) → parts_order.cmp-value.it p q ≡ part_cmp (part_view p) (part_view q)
parts_compare (parts.Ascending v) (parts.Ascending w) = values_compare v w
parts_compare (parts.Ascending v) (parts.Descending w) = refl
parts_compare (parts.Ascending v) parts.Absent = refl
parts_compare (parts.Descending v) (parts.Ascending w) = refl
parts_compare (parts.Descending v) (parts.Descending w) = values_compare w.0 v.0
parts_compare (parts.Descending v) parts.Absent = refl
parts_compare parts.Absent (parts.Ascending w) = refl
parts_compare parts.Absent (parts.Descending w) = refl
parts_compare parts.Absent parts.Absent = refl

-- and keys
pub keys_compare : (ps qs : List SortPart) → slice_cmp parts_order.cmp-value.it ps qs ≡ key_cmp (map part_view ps) (map part_view qs)
keys_compare ps qs =
    let alike : parts_order.cmp-value.it ≡ (λ p q. part_cmp (part_view p) (part_view q)) = fun_ext (λ p. fun_ext (λ q. parts_compare p q)) in
    ap (λ (cmp : SortPart → SortPart → Ordering). slice_cmp cmp ps qs) alike ∙ sym (lex_map part_view part_cmp ps qs)
