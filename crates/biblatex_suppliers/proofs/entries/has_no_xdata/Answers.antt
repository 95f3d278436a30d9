use Rattle.std.proofs.Common.{Bool, not, List, Option, Some, None, true, false, ◌≡◌, Bor, Vec, Global, option_map, codes, sym, ap, ◌∙◌}
use Rattle.std.specs.Bool.{OnTrue}
use Rattle.std.specs.Option.{is_some}
use Rattle.biblatex_text.specs.declared.spanned.Spanned.{Spanned}
use Rattle.biblatex_content.specs.declared.chunk.Chunk.{Chunk}
use Rattle.biblatex_fields.specs.Value.{Value, field_value_view}
use Rattle.biblatex_fields.specs.Fields.{value_named}
use Rattle.biblatex_entries.specs.Entries.{Source}
use Rattle.biblatex_suppliers.specs.Written.{beside, with_shared}
use Rattle.biblatex_suppliers.specs.Suppliers.{written_of}
use Rattle.biblatex_suppliers.specs.declared.shared.Shared.{Shared}
use Rattle.biblatex_suppliers.proofs.WrittenEntries.{written_there}
use Rattle.biblatex_suppliers.proofs.entries.has_no_xdata.Goals as goal

-- what was not found is not there
absent : (b : Bool) (r : Option (Bor (Vec (Spanned Chunk) Global))) (o : Option Value) → is_some r ≡ not b → option_map (λ (v : Bor (Vec (Spanned Chunk) Global)). field_value_view v.now.items) r ≡ o → OnTrue b (o ≡ None)
absent true None o is found = sym found
absent true (Some v) o is found = absurd cc
absent false r o is found = tt

pub returns-in-Some : goal.returns-in-Some
returns-in-Some c =
    let e = c.in-Some.entry.now in
    let n = c.args.number in
    absent c.is_none.result c.written_in.result _ c.is_none.ensures
    (c.written_in.ensures
    ∙ (ap (λ (ss : List Shared). value_named (codes "xdata") (with_shared e.fields ss)) c.beside.ensures
    ∙ (ap (λ (vs : List (Vec Shared Global)). value_named (codes "xdata") (with_shared e.fields (beside vs n))) c.as_slice.ensures.value
    ∙ sym (ap (λ (o : Option Source). written_of o (codes "xdata")) (written_there c.args.entries.now n e (sym c.in-Some.ensures))))))
