use Rattle.std.proofs.Common.{Some, refl}
use Rattle.std.proofs.lemmas.Result.{on_ok_weaker}
use Rattle.laws.specs.Text.{spelled}
use Rattle.xml_tree.specs.Views.{space_view}
use Rattle.xml_tree.proofs.Bound.{default_bound, some_bound}
use Rattle.xml_tree.proofs.bindings.Bindings.bind.Goals as goal

pub returns-in-Some : goal.returns-in-Some
returns-in-Some c =
    let old = c.args.self.now in
    rw c.in-Some.is (on_ok_weaker c.bind_prefix.result
    (λ h. some_bound old (record { default_space = old.default_space; prefixes = c.bind_prefix.new.prefixes }) (spelled c.in-Some.prefix) (space_view c.args.space) refl h)
    c.bind_prefix.ensures)

pub returns-in-None : goal.returns-in-None
returns-in-None c =
    let old = c.args.self.now in
    rw c.in-None.is (default_bound old (record { default_space = Some c.args.space; prefixes = old.prefixes }) c.args.space refl refl)
