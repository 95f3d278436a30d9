use Rattle.std.proofs.Common.{string_bytes}
use Rattle.std.proofs.lemmas.Result.{IfOk-weaker}
use Rattle.std.proofs.lemmas.Str.{IsUtf8-string_bytes}
use Rattle.laws.proofs.Text.{chars-text}
use Rattle.rendering_tree.specs.Views.{tree_view}
use Rattle.rendering_tree.specs.Writing.{plain_text}
use Rattle.driver_names.proofs.printed.plain_text.Goals as goal

pub returns : goal.returns
returns c =
    IfOk-weaker c.to_string.result _ _ (λ s e. chars-text (string_bytes s) (plain_text (tree_view c.args.tree.now)) (IsUtf8-string_bytes s) e) c.to_string.ensures.ok
