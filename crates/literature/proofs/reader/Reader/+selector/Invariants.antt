use Rattle.std.proofs.Common.{◌≡◌, ◌+◌, ◌*◌, map, length}
use Rattle.laws.specs.Characters.{ampersand, vertical_bar}
use Rattle.literature.specs.Reading.{each_after, unary_in, level}
use Rattle.literature.specs.Views.{left, tree_view}
use Rattle.literature.proofs.ReadingRepeats.{prepended}
use Rattle.literature.proofs.reader.Reader.+selector.Given as goal

abbrev pub decreases-unary : goal.decreases-unary
decreases-unary l = 8 * l.levels

abbrev pub decreases-ancestry : goal.decreases-ancestry
decreases-ancestry l = 8 * l.levels

abbrev pub decreases-alternatives : goal.decreases-alternatives
decreases-alternatives l = 8 * l.levels + 1

abbrev pub decreases-parenthesised : goal.decreases-parenthesised
decreases-parenthesised l = 8 * l.levels + 2

abbrev pub decreases-named : goal.decreases-named
decreases-named l = 8 * l.levels + 2

abbrev pub decreases-unary_in : goal.decreases-unary_in
decreases-unary_in l = 8 * l.levels + 3

abbrev pub decreases-multi : goal.decreases-multi
decreases-multi l = 8 * l.levels + 4

abbrev pub decreases-ancestry_in : goal.decreases-ancestry_in
decreases-ancestry_in l = 8 * l.levels + 5

abbrev pub invariant-alternatives-loop-alloc : goal.invariant-alternatives-loop-alloc
invariant-alternatives-loop-alloc l = record { first : tree_view l.first ≡ tree_view l.initial.first; reads : prepended (map tree_view l.others.items) (each_after vertical_bar (level l.levels).ancestry (left l.self)) ≡ each_after vertical_bar (level l.levels).ancestry (left l.initial.self) }

abbrev pub decreases-alternatives-loop-alloc : goal.decreases-alternatives-loop-alloc
decreases-alternatives-loop-alloc l = length (left l.self)

abbrev pub invariant-multi-loop-alloc : goal.invariant-multi-loop-alloc
invariant-multi-loop-alloc l = record { first : tree_view l.first ≡ tree_view l.initial.first; reads : prepended (map tree_view l.others.items) (each_after ampersand (unary_in (level l.levels)) (left l.self)) ≡ each_after ampersand (unary_in (level l.levels)) (left l.initial.self) }

abbrev pub decreases-multi-loop-alloc : goal.decreases-multi-loop-alloc
decreases-multi-loop-alloc l = length (left l.self)
