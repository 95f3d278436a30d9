use Rattle.std.proofs.Common.{◌≡◌, List, map, take}
use Rattle.biblatex_text.specs.Raw.{Field}
use Rattle.biblatex_text.specs.Views.{piece_view}
use Rattle.biblatex_fields.specs.Abbreviations.{references_of}
use Rattle.biblatex_fields.specs.Views.{IsIndex}
use Rattle.biblatex_fields.proofs.references.references_of.Given as goal

abbrev pub invariant-loop-raw : goal.invariant-loop-raw
invariant-loop-raw l = (ds : List Field) → IsIndex l.table ds → l.found.items ≡ references_of ds (map piece_view (take l.raw-index l.raws))
