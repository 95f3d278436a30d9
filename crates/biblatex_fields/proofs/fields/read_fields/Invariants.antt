use Rattle.std.proofs.Common.{◌≡◌, [], map, drop}
use Rattle.biblatex_text.specs.Views.{field_view}
use Rattle.biblatex_fields.specs.Fields.{fields_after}
use Rattle.biblatex_fields.proofs.fields.read_fields.Given as goal

abbrev pub invariant-loop-pair : goal.invariant-loop-pair
invariant-loop-pair l = fields_after l.abbreviations l.read (map field_view (drop l.pair-index l.entry.fields.items)) ≡ fields_after l.abbreviations [] (map field_view l.entry.fields.items)
