use Rattle.std.proofs.Common.{Vec, Global, sym, ap, ◌∙◌}
use Rattle.biblatex_text.specs.declared.spanned.Spanned.{Spanned}
use Rattle.biblatex_content.specs.declared.chunk.Chunk.{Chunk}
use Rattle.biblatex_fields.specs.Value.{Value, field_value_view}
use Rattle.biblatex_suppliers.proofs.apart.if_same.Goals as goal

abbrev viewed : Vec (Spanned Chunk) Global → Value
viewed v = field_value_view v.items

pub returns : goal.returns
returns c =
    sym (ap field_value_view c.as_slice.ensures.value)
    ∙ (c.are_same.ensures c.if-not-are_same.false ∙ (ap field_value_view c.as_slice-2.ensures.value ∙ (ap viewed c.as_ref.ensures ∙ sym (ap viewed c.in_ok-clone.ensures.cases))))
