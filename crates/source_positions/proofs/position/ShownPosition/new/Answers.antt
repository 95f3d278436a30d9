use Rattle.std.proofs.Common.{◌≡◌, ◌++◌, rules}
use Rattle.std.specs.Prelude.{string_bytes}
use Rattle.std.proofs.lemmas.Str.{IsUtf8-string_bytes}
use Rattle.laws.specs.Text.{characters}
use Rattle.source_positions.specs.Position.{line_before, line_after, shown_line}
use Rattle.source_positions.proofs.PositionLines.{spelled}
use Rattle.source_positions.proofs.position.ShownPosition.new.Goals as goal

pub returns-clause-line : goal.returns-clause-line
returns-clause-line c =
    let shows : characters c.push_bytes.new.line ≡ shown_line (line_before c.args.source.now c.args.at) ++ shown_line (line_after c.args.source.now c.args.at) = search rules in
    spelled (string_bytes c.push_bytes.new.line) (shown_line (line_before c.args.source.now c.args.at) ++ shown_line (line_after c.args.source.now c.args.at)) (IsUtf8-string_bytes c.push_bytes.new.line) shows
