use Rattle.std.proofs.Common.{sym, ap, ◌∙◌}
use Rattle.std.specs.Prelude.{if◌then◌else◌}
use Rattle.rendering_leaves.specs.NodeSettings.{authors_alone, whole}
use Rattle.rendering_nodes.proofs.style_walk.Walk.alone_unless.Goals as goal

pub returns-then-holds_names_of : goal.returns-then-holds_names_of
returns-then-holds_names_of c =
    ap (λ b. if b then whole else authors_alone c.args.variable) (sym c.if-holds_names_of.true ∙ c.holds_names_of.ensures)

pub returns-else-holds_names_of : goal.returns-else-holds_names_of
returns-else-holds_names_of c =
    ap (λ b. if b then whole else authors_alone c.args.variable) (sym c.if-holds_names_of.false ∙ c.holds_names_of.ensures)
