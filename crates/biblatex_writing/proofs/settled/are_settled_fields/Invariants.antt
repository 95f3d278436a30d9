use Rattle.std.proofs.Common.{◌≡◌}
use Rattle.std.specs.List.{list_all}
use Rattle.biblatex_fields.specs.Fields.{named_fields_view}
use Rattle.biblatex_writing.specs.Settled.{is_settled_field}
use Rattle.biblatex_writing.proofs.settled.are_settled_fields.Given as goal

abbrev pub invariant-loop-name : goal.invariant-loop-name
invariant-loop-name l = list_all is_settled_field (named_fields_view l.name-iterator) ≡ list_all is_settled_field l.fields
