use Rattle.std.proofs.Common.{List, Option, None, bytes_eq, codes, sym, ap, ◌∙◌}
use Rattle.std.specs.Prelude.{if◌then◌else◌}
use Rattle.biblatex_fields.specs.Fields.{Named, value_named}
use Rattle.biblatex_fields.specs.Value.{Value}
use Rattle.biblatex_inherited_fields.specs.Offered.{first}
use Rattle.biblatex_suppliers.specs.Written.{shared_named}
use Rattle.biblatex_suppliers.proofs.WrittenEntries.{shared_found}
use Rattle.biblatex_suppliers.proofs.made.copied_fields.Goals as goal

pub returns : goal.returns
returns c = λ q.
    let fs = c.args.from.now in
    let ss = c.args.shared.now in
    c.remove.ensures.found q
    ∙ ap (λ (x : Option Value). if bytes_eq q (codes "xdata") then None else x)
    (c.in_ok-copy_all.ensures q
    ∙ (ap (λ (x : Option Value). first x (value_named q fs))
    (c.in_ok-copy_shared.ensures q ∙ ap (λ (gs : List Named). first (value_named q gs) (shared_named q ss)) c.new-fields.ensures)
    ∙ sym (shared_found fs ss q)))
