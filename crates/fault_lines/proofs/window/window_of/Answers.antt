use Rattle.std.proofs.Common.{◌≡◌, ◌++◌, rules}
use Rattle.std.specs.Prelude.{string_bytes}
use Rattle.std.proofs.lemmas.Str.{IsUtf8-string_bytes}
use Rattle.laws.specs.Text.{characters}
use Rattle.source_positions.proofs.PositionLines.{spelled}
use Rattle.fault_lines.specs.Windows.{before_at, after_at}
use Rattle.fault_lines.proofs.window.window_of.Goals as goal

pub returns-clause-line : goal.returns-clause-line
returns-clause-line c =
    let source = c.args.source.now in
    let at = c.args.place.at in
    let shows : characters c.push_after.new.line ≡ before_at source at ++ after_at source at = search rules in
    spelled (string_bytes c.push_after.new.line) (before_at source at ++ after_at source at) (IsUtf8-string_bytes c.push_after.new.line) shows
