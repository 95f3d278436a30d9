use Rattle.std.proofs.Common.{◌≡◌, ◌++◌, string_bytes, flat_map}
use Rattle.biblatex.specs.Fields.{named_fields_view}
use Rattle.bib_show.specs.Shown.{shown_field}
use Rattle.bib_show.proofs.shown.push_fields.Given as goal

abbrev pub invariant-loop-name : goal.invariant-loop-name
invariant-loop-name l = string_bytes l.out ++ flat_map shown_field (named_fields_view l.name-iterator) ≡ string_bytes l.fn.out ++ flat_map shown_field l.fields
