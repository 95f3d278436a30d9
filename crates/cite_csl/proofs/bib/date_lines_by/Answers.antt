use Rattle.std.proofs.Common.{◌≡◌, ◌++◌, ◌+◌, ℕ, List, Option, drop, flat_map, map, codes, sym, ap, ◌∙◌, append_assoc}
use Rattle.biblatex.specs.RawViews.{entry_view}
use Rattle.interop.specs.Views.{fault_view}
use Rattle.cite_requests.proofs.StepsAfter.{at_item}
use Rattle.cite_csl_styles.specs.JoinedFaults.{lines_view}
use Rattle.cite_csl_styles.specs.Views.{sources_view}
use Rattle.cite_csl.specs.Works.{date_lines, key_lines}
use Rattle.cite_csl.proofs.bib.date_lines_by.Goals as goal

pub loop-fault-preserved : goal.loop-fault-preserved
loop-fault-preserved c =
    let fs = sources_view c.args.files.now in
    let lines = date_lines fs (map entry_view c.args.entries.now) in
    let i = c.loop-fault.fault-index in
    let xs = c.args.faults.now in
    let before = lines_view c.loop-fault.lines in
    let f = fault_view c.fault-item.result in
    let rest = flat_map lines (map fault_view (drop (i + 1) xs)) in
    let cut = at_item (λ ys. before ++ flat_map lines (map fault_view ys)) xs i c.fault-item.result c.loop-fault-test.true c.fault-item.is in
    let said : lines_view c.push_date_lines.new.lines ≡ before ++ lines f =
    c.in_ok-push_date_lines.ensures.lines ∙ ap (λ (at : Option ℕ). before ++ key_lines fs (codes "unreadable " ++ f.field) at) (c.in_ok-places.ensures f.key) in
    record {
      lines = ap (λ (bs : List ℕ). bs ++ rest) said ∙ (append_assoc before (lines f) rest ∙ (sym cut ∙ c.loop-fault.invariant.lines));
      place = c.in_ok-push_date_lines.ensures.place;
    }
