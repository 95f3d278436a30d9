use Rattle.std.proofs.Common.{List, Option, Vec, Global, sym, ap, ◌∙◌}
use Rattle.std.proofs.lemmas.Result.{IfOk-weaker}
use Rattle.biblatex_fields.specs.Fields.{value_named}
use Rattle.biblatex_entries.specs.Entries.{Source}
use Rattle.biblatex_inheritance.specs.Resolved.{without_xdata}
use Rattle.biblatex_inheritance.specs.Views.{table_view}
use Rattle.biblatex_suppliers.specs.Written.{beside, with_shared}
use Rattle.biblatex_suppliers.specs.Suppliers.{own_of}
use Rattle.biblatex_suppliers.specs.declared.shared.Shared.{Shared}
use Rattle.biblatex_suppliers.proofs.WrittenEntries.{written_there, written_nowhere}
use Rattle.biblatex_suppliers.proofs.made.own_fields.Goals as goal

pub returns-in-Some : goal.returns-in-Some
returns-in-Some c =
    let n = c.args.number in
    let e = c.in-Some.entry.now in
    IfOk-weaker c.copied_fields.result _ _
    (λ f table q.
    table q
    ∙ (ap (λ (ss : List Shared). without_xdata (table_view (with_shared e.fields ss)) q) c.beside.ensures
    ∙ (ap (λ (vs : List (Vec Shared Global)). without_xdata (table_view (with_shared e.fields (beside vs n))) q) c.as_slice.ensures.value
    ∙ sym (ap (λ (o : Option Source). own_of o q) (written_there c.args.entries.now n e (sym c.in-Some.ensures)))))) c.copied_fields.ensures

pub returns-in-None : goal.returns-in-None
returns-in-None c = λ q. ap (value_named q) c.new.ensures ∙ sym (ap (λ (o : Option Source). own_of o q) (written_nowhere c.args.entries.now c.args.number (sym c.in-None.ensures)))
