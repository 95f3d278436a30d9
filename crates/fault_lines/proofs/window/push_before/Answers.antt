use Rattle.std.proofs.Common.{◌≡◌, ◌-◌, drop, length, rules}
use Rattle.std.specs.Str.{chars}
use Rattle.std.proofs.lemmas.Result.{on_ok_weaker}
use Rattle.laws.specs.Text.{characters}
use Rattle.source_positions.specs.Position.{line_characters}
use Rattle.fault_lines.specs.Windows.{side}
use Rattle.fault_lines.proofs.WindowsCut.{before_put}
use Rattle.fault_lines.proofs.window.push_before.Goals as goal

pub returns : goal.returns
returns c =
    let cs = line_characters c.args.bytes.now in
    let counted : c.char_count-count.result ≡ length cs = search rules in
    let past : chars c.past_characters.result.now ≡ drop (c.char_count-count.result - side) cs = search rules in
    on_ok_weaker c.push_first.result
    (λ put. before_put (characters c.args.line.now) (characters c.push_left_out.new.line) (characters c.push_first.new.line) (chars c.past_characters.result.now) cs c.char_count-count.result counted past c.in_ok-push_left_out.ensures put)
    c.push_first.ensures
