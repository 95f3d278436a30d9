use Rattle.std.proofs.Common.{List, append-nil, sym, ap, ◌∙◌}
use Rattle.biblatex.specs.declared.indices.NamedIndex.{NamedIndex}
use Rattle.biblatex.specs.Indices.{names_in}
use Rattle.biblatex.proofs.NamingOrder.{name_last}
use Rattle.biblatex.proofs.naming.append_names.Goals as goal

pub loop-name-init : goal.loop-name-init
loop-name-init c = sym (append-nil (names_in c.args.names.now.items))

pub loop-name-preserved : goal.loop-name-preserved
loop-name-preserved c =
    ap (λ (ns : List NamedIndex). names_in ns) c.in_ok-push.ensures.items ∙ name_last c.loop-name.names.items c.new.result (names_in c.args.names.now.items) c.loop-name.yielded c.in-Some.name c.args.index c.new.ensures c.loop-name.invariant
