use Rattle.std.proofs.Common.{◌≡◌, ◌++◌, map, length}
use Rattle.std.specs.Vec.Iter.{into_iter_items, into_iter_len}
use Rattle.biblatex_lists.specs.Views.{named_view}
use Rattle.literature_entries.specs.Views.{people_view}
use Rattle.interop_people.specs.People.{person_of}
use Rattle.interop_people.proofs.people.people_of.Given as goal

abbrev pub invariant-loop-person : goal.invariant-loop-person
invariant-loop-person l = record {
  same : people_view l.all.items ++ map person_of (map named_view (into_iter_items l.person-iterator)) ≡ map person_of (map named_view l.fn.read.items);
  long : into_iter_len l.person-iterator ≡ length (into_iter_items l.person-iterator);
}
