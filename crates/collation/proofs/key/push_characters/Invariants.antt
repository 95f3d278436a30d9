use Rattle.std.proofs.Common.{◌≡◌, drop}
use Rattle.collation.specs.Keys.{with_characters}
use Rattle.collation.specs.Views.{begun_view}
use Rattle.collation.proofs.key.push_characters.Given as goal

abbrev pub invariant-loop-c : goal.invariant-loop-c
invariant-loop-c l = with_characters (begun_view l.key) (drop l.c-index l.characters) ≡ with_characters (begun_view l.fn.key) l.characters
