use Rattle.std.proofs.Common.{◌≡◌, sym, ◌∙◌}
use Rattle.std.specs.Prelude.{string_bytes}
use Rattle.std.specs.Str.{chars}
use Rattle.std.proofs.lemmas.Str.{encodes-chars}
use Rattle.std.proofs.lemmas.Result.{IfOk-weaker}
use Rattle.laws.specs.Text.{text}
use Rattle.texts.proofs.growing.owned.Goals as goal

pub returns-clause-spelled : goal.returns-clause-spelled
returns-clause-spelled c =
    IfOk-weaker c.from_str.result _ (λ s. string_bytes s ≡ text (chars c.args.text.now)) (λ s e. e ∙ sym (encodes-chars c.args.text.now c.utf8.text)) c.from_str.ensures.ok
