use Rattle.std.proofs.Common.{Vec, Global, sym, ap, ◌∙◌}
use Rattle.biblatex_text.specs.declared.spanned.Spanned.{Spanned}
use Rattle.biblatex_content.specs.declared.chunk.Chunk.{Chunk}
use Rattle.biblatex_fields.specs.Value.{field_value_view}
use Rattle.biblatex_suppliers.proofs.apart.learned.Goals as goal

pub returns : goal.returns
returns c = sym (ap (λ (v : Vec (Spanned Chunk) Global). field_value_view v.items) c.in_ok-held.ensures.ok ∙ c.in_ok-copied_value.ensures)
