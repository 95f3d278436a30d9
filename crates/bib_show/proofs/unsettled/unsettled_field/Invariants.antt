use Rattle.std.proofs.Common.{◌≡◌, None}
use Rattle.std.specs.Option.{option_map}
use Rattle.biblatex.specs.Fields.{named_fields_view}
use Rattle.bib_show.specs.Unsettled.{unsettled_field}
use Rattle.bib_show.specs.Views.{borrowed_field_view}
use Rattle.bib_show.proofs.unsettled.unsettled_field.Given as goal

abbrev pub invariant-loop-name : goal.invariant-loop-name
invariant-loop-name l = unsettled_field (option_map borrowed_field_view l.found) (named_fields_view l.name-iterator) ≡ unsettled_field None l.fields
