use Rattle.std.proofs.Common.{◌≡◌, ◌++◌, replicate}
use Rattle.laws.specs.Characters.{em_dash}
use Rattle.laws.specs.Text.{characters}
use Rattle.biblatex_content.proofs.ordinary.push_dashes.Given as goal

abbrev pub invariant-loop : goal.invariant-loop
invariant-loop l = characters l.text ≡ characters l.fn.text ++ replicate l.counter em_dash
