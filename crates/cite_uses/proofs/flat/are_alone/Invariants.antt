use Rattle.std.proofs.Common.{◌≡◌}
use Rattle.std.specs.List.{list_all}
use Rattle.biblatex.specs.Fields.{named_fields_view}
use Rattle.cite_uses.specs.Flattened.{is_alone}
use Rattle.cite_uses.proofs.flat.are_alone.Given as goal

abbrev pub invariant-loop-name : goal.invariant-loop-name
invariant-loop-name l = list_all (is_alone l.fields) (named_fields_view l.name-iterator) ≡ list_all (is_alone l.fields) l.fields
