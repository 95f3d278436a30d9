use Rattle.std.proofs.Common.{sym, ◌∙◌}
use Rattle.rendering_style.proofs.TablesBinding.{bound}
use Rattle.rendering_style.proofs.calls.bind.Goals as goal

pub returns : goal.returns
returns c =
    bound c.args.table.now c.insert.new.self c.in_ok-from_str.field-0 c.args.name.now c.args.index c.in_ok-from_str.ensures.ok (sym c.contains_key.ensures ∙ c.if-contains_key.false) c.in_ok-insert.ensures.updates
