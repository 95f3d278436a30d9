use Rattle.std.proofs.Common.{ℕ, List, Some, None, bytes_eq, subst}
use Rattle.std.specs.Prelude.{if◌then◌else◌}
use Rattle.std.proofs.lemmas.Result.{on_ok_weaker}
use Rattle.biblatex_inherited_fields.specs.Views.{PassesOn}
use Rattle.biblatex_suppliers.specs.Suppliers.{supplied}
use Rattle.biblatex_suppliers.specs.Written.{written_view}
use Rattle.biblatex_suppliers.proofs.made.put_inherited.Goals as goal

pub returns : goal.returns
returns c =
    on_ok_weaker c.put_supplied.result (λ passes.
    subst (λ (n : List ℕ). PassesOn c.args.fields.now c.put_supplied.new.fields (λ q. if bytes_eq q n then Some (supplied (written_view c.args.entries.now) c.args.inherited.now.supplier) else None)) c.text.ensures passes)
    c.put_supplied.ensures
