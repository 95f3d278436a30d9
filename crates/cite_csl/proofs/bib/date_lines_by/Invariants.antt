use Rattle.std.proofs.Common.{◌≡◌, ◌++◌, drop, flat_map, map}
use Rattle.biblatex.specs.RawViews.{entry_view}
use Rattle.interop.specs.Views.{fault_view}
use Rattle.cite_csl_styles.specs.JoinedFaults.{IsAmong, lines_view}
use Rattle.cite_csl_styles.specs.Views.{sources_view}
use Rattle.cite_csl.specs.Works.{date_lines}
use Rattle.cite_csl.proofs.bib.date_lines_by.Given as goal

abbrev pub invariant-loop-fault : goal.invariant-loop-fault
invariant-loop-fault l = record {
  lines : lines_view l.lines ++ flat_map (date_lines (sources_view l.files) (map entry_view l.entries)) (map fault_view (drop l.fault-index l.faults))
      ≡ flat_map (date_lines (sources_view l.files) (map entry_view l.entries)) (map fault_view l.faults);
  place : IsAmong (sources_view l.files) l.lines;
}
