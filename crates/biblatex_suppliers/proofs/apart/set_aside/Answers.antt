use Rattle.std.proofs.Common.{List, refl, sym, subst}
use Rattle.biblatex_entries.specs.Entries.{source_view}
use Rattle.biblatex_suppliers.specs.Written.{IsSetAside}
use Rattle.biblatex_suppliers.specs.declared.shared.Shared.{Shared}
use Rattle.biblatex_suppliers.proofs.apart.set_aside.Goals as goal

pub loop-pair-init : goal.loop-pair-init
loop-pair-init c =
    let e = source_view c.args.entry.now in
    subst (λ (ss : List Shared). IsSetAside e e ss) (sym c.new-shared.ensures.items) (record { whole = refl; same = refl })

pub loop-pair-preserved : goal.loop-pair-preserved
loop-pair-preserved c = c.in_ok-set_pair_aside.ensures (source_view c.args.entry.now) c.loop-pair.invariant

pub returns : goal.returns
returns c = c.loop-pair.invariant
