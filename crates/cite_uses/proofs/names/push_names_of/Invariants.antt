use Rattle.std.proofs.Common.{◌≡◌, ◌++◌, drop, map}
use Rattle.cite_markers.specs.Views.{cite_view}
use Rattle.cite_uses.specs.Alike.{names_of, now_of}
use Rattle.cite_uses.proofs.names.push_names_of.Given as goal

abbrev pub invariant-loop-cite : goal.invariant-loop-cite
invariant-loop-cite l = map now_of l.names.items ++ names_of (map cite_view (drop l.cite-index l.cites)) ≡ map now_of l.initial.names.items ++ names_of (map cite_view l.cites)
