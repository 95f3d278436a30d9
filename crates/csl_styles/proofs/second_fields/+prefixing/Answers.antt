use Rattle.std.proofs.Common.{rules}
use Rattle.std.proofs.lemmas.Result.{on_ok_weaker}
use Rattle.std.specs.Str.{chars}
use Rattle.rendering_style.specs.declared.node.Node.{the_lemmas}
use Rattle.csl_styles.proofs.Prefixed.{group_prefixed}
use Rattle.csl_styles.proofs.second_fields.+prefixing.Goals as goal

pub prefix_node-returns-in-Group : goal.prefix_node-returns-in-Group
prefix_node-returns-in-Group t c =
    on_ok_weaker c.prefix_group.result
    (λ both. group_prefixed (chars c.args.prefix.now) c.args.node.now c.in-Group.group _ c.in-Group.children _ c.prefix_group.new.children c.prefix_group.new.look c.in-Group.is c.in-Group.group-is c.in-Group.children-is
    (search (rules, the_lemmas, c.in-Group.is)) both.0 both.1)
    c.prefix_group.ensures
