use Rattle.std.proofs.Common.{◌≡◌, ◌++◌, map, take}
use Rattle.xml_tree.specs.Views.{element_view}
use Rattle.csl_features.specs.Features.{features_by}
use Rattle.csl_features.specs.Views.{feature_view, row_view}
use Rattle.csl_features.proofs.asking.push_by.Given as goal

abbrev pub invariant-loop-row : goal.invariant-loop-row
invariant-loop-row l = map feature_view l.found.items ≡ map feature_view l.initial.found.items ++ features_by (element_view l.element) (map row_view (take l.row-index l.rows))
