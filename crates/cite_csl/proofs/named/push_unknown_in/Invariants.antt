use Rattle.std.proofs.Common.{◌≡◌, ◌++◌, chars, drop, flat_map, map}
use denote.Shadow.{shadow}
use denote.Text.{Utf8}
use Rattle.fault_lines.specs.Views.{IsIn, lines_view}
use Rattle.cite_markers.specs.Views.{cite_view}
use Rattle.cite_csl.specs.Names.{name_lines, names_in}
use Rattle.cite_csl.specs.Views.{cited_view}
use Rattle.cite_csl_styles.specs.Views.{source_view}
use Rattle.cite_csl.proofs.named.push_unknown_in.Given as goal

abbrev pub invariant-loop-cite : goal.invariant-loop-cite
invariant-loop-cite l = (lines_view l.lines ++ flat_map (name_lines (source_view l.file) (cited_view l.works)) (names_in (map cite_view (drop l.cite-index l.cites)) (chars l.rest))
    ≡ lines_view l.initial.lines ++ flat_map (name_lines (source_view l.file) (cited_view l.works)) (names_in (map cite_view l.cites) (chars l.text))) × shadow (Utf8 l.rest) × IsIn l.file.bytes.now l.lines
