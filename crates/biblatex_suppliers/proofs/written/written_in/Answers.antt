use Rattle.std.proofs.Common.{Option, sym, ap, ◌∙◌}
use Rattle.biblatex_fields.specs.Fields.{value_named}
use Rattle.biblatex_fields.specs.Value.{Value}
use Rattle.biblatex_inherited_fields.specs.Offered.{first}
use Rattle.biblatex_suppliers.proofs.WrittenEntries.{shared_found}
use Rattle.biblatex_suppliers.proofs.written.written_in.Goals as goal

pub returns-in-Some : goal.returns-in-Some
returns-in-Some c =
    let fs = c.args.entry.now.fields in
    ap (λ (o : Option Value). first o (value_named c.args.name.now fs)) c.in-Some.ensures ∙ sym (shared_found fs c.args.shared.now c.args.name.now)

pub returns-in-None : goal.returns-in-None
returns-in-None c =
    let fs = c.args.entry.now.fields in
    c.get.ensures ∙ (ap (λ (o : Option Value). first o (value_named c.args.name.now fs)) c.in-None.ensures ∙ sym (shared_found fs c.args.shared.now c.args.name.now))
