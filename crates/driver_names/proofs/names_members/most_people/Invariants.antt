use Rattle.std.proofs.Common.{◌≡◌, map, max, drop, length}
use Rattle.std.specs.Prelude.{fold}
use Rattle.driver_names.specs.NamesViews.{members_view}
use Rattle.driver_names.proofs.names_members.most_people.Given as goal

abbrev pub invariant-loop-member : goal.invariant-loop-member
invariant-loop-member l = fold max l.most (map (λ m. length m.people) (members_view (drop l.member-index l.members))) ≡ fold max 0 (map (λ m. length m.people) (members_view l.members))
