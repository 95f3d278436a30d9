use Rattle.std.proofs.Common.{◌≡◌, [], ◌∷◌, ◌++◌, rules, ◌∙◌}
use Rattle.std.specs.Prelude.{OnOk, string_bytes, codes}
use Rattle.std.proofs.lemmas.Result.{on_ok_weaker}
use Rattle.laws.specs.Characters.{line_feed}
use Rattle.interop.specs.Views.{fault_view}
use Rattle.cite_command.specs.Program.{fault_message}
use Rattle.cite_command.proofs.ProgramLines.{put_three}
use Rattle.cite_command.proofs.program.push_fault.Goals as goal

pub returns : goal.returns
returns c =
    let last : OnOk c.push.result (string_bytes c.push.new.self ≡ string_bytes c.push_message.new.written ++ line_feed ∷ []) = search rules in
    let before : string_bytes c.push_message.new.written ≡ (string_bytes c.args.written.now ++ codes "cite: ") ++ fault_message (fault_view c.args.found.now) = search rules in
    on_ok_weaker c.push.result (λ e. e ∙ ((λ i. before i ++ line_feed ∷ []) ∙ put_three (string_bytes c.args.written.now) (codes "cite: ") (fault_message (fault_view c.args.found.now)) (line_feed ∷ []))) last
