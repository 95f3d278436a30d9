use Rattle.std.proofs.Common.{ℕ, List, Option, Some, None, bytes_eq, sym, ap, subst, ◌∙◌}
use Rattle.std.specs.Prelude.{if◌then◌else◌}
use Rattle.std.proofs.lemmas.Result.{on_ok_weaker}
use Rattle.biblatex_fields.specs.Fields.{value_named}
use Rattle.biblatex_fields.specs.Value.{Value}
use Rattle.biblatex_inherited_fields.specs.Offered.{first}
use Rattle.biblatex_inherited_fields.specs.Views.{PassesOn}
use Rattle.biblatex_suppliers.specs.FieldNames.{field_name}
use Rattle.biblatex_suppliers.specs.Suppliers.{supplied, seen}
use Rattle.biblatex_suppliers.specs.Written.{written_view}
use Rattle.biblatex_suppliers.proofs.PassingAsked.{nothing_under}
use Rattle.biblatex_suppliers.proofs.made.put_seen.Goals as goal

pub returns-in-Some : goal.returns-in-Some
returns-in-Some c =
    let es = written_view c.args.entries.now in
    on_ok_weaker c.put_supplied.result (λ passes q.
    subst (λ (n : List ℕ). PassesOn c.args.fields.now c.put_supplied.new.fields (λ p. if bytes_eq p n then Some (supplied es c.in-Some.supplier) else None)) c.text.ensures passes q
    ∙ ap (λ (o : Option Value). first (value_named q c.args.fields.now) (if bytes_eq q (field_name c.args.wanted) then o else None)) c.in-Some.ensures) c.put_supplied.ensures

pub returns-in-None : goal.returns-in-None
returns-in-None c = λ q.
    nothing_under (value_named q c.args.fields.now) (seen (written_view c.args.entries.now) c.args.supplies.now c.args.number (field_name c.args.wanted)) (bytes_eq q (field_name c.args.wanted)) (sym c.in-None.ensures)
