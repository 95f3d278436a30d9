use Rattle.std.proofs.Common.{List, Option, Vec, Global, sym, ap, ◌∙◌}
use Rattle.biblatex_entries.specs.Entries.{Source, source_view}
use Rattle.biblatex_inheritance.specs.Resolved.{own}
use Rattle.biblatex_suppliers.specs.FieldNames.{field_name}
use Rattle.biblatex_suppliers.specs.Written.{beside, entry_with}
use Rattle.biblatex_suppliers.specs.Suppliers.{own_of}
use Rattle.biblatex_suppliers.specs.declared.shared.Shared.{Shared}
use Rattle.biblatex_suppliers.proofs.WrittenEntries.{written_there, written_nowhere}
use Rattle.biblatex_suppliers.proofs.written.own_value.Goals as goal

pub returns-in-Some : goal.returns-in-Some
returns-in-Some c =
    let n = c.args.number in
    let e = source_view c.in-Some.entry.now in
    let name = field_name c.args.name in
    c.own_in.ensures
    ∙ (ap (own (entry_with e c.beside.result.now)) c.text.ensures
    ∙ (ap (λ (ss : List Shared). own (entry_with e ss) name) c.beside.ensures
    ∙ (ap (λ (vs : List (Vec Shared Global)). own (entry_with e (beside vs n)) name) c.as_slice.ensures.value
    ∙ sym (ap (λ (o : Option Source). own_of o name) (written_there c.args.entries.now n c.in-Some.entry.now (sym c.in-Some.ensures))))))

pub returns-in-None : goal.returns-in-None
returns-in-None c = sym (ap (λ (o : Option Source). own_of o (field_name c.args.name)) (written_nowhere c.args.entries.now c.args.number (sym c.in-None.ensures)))
