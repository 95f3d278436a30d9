use Rattle.std.proofs.Common.{◌≡◌, ◌≢◌, [], List, ap, ◌++◌, ◌∙◌, map, codes, length, arith}
use Rattle.std.specs.Vec.{vec_len}
use Rattle.std.proofs.lemmas.Grind.{common_steps}
use Rattle.interop_values.specs.Values.{values}
use Rattle.interop_values.specs.Readings.{ReadDate, own_date, date_under}
use Rattle.interop.specs.Bridge.{fault_in}
use Rattle.interop.specs.declared.error.FieldFault.{FieldFault}
use Rattle.interop.specs.Views.{fault_view, dates_of}
use Rattle.interop.proofs.LibraryFaults.{some}
use Rattle.interop.proofs.LibraryLists.{four_after}
use Rattle.interop.proofs.dates.read_dates.Goals as goal

pub returns : goal.returns
returns c =
    let key = c.args.key.now in
    let v = values c.args.fields.now in
    let f1 = c.date_or_fault.new.faults.items in
    let f2 = c.date_or_fault-2.new.faults.items in
    let f3 = c.date_or_fault-3.new.faults.items in
    let f4 = c.date_or_fault-4.new.faults.items in
    let is_some : f4 ≢ [] = λ e.
    let none : vec_len c.date_or_fault-4.new.faults ≡ 0 = c.date_or_fault-4.new.faults.ok.0 ∙ ap length e in
    absurd (grind (arith, common_steps)) in
    some f4 _ (dates_of v) (four_after []
    (fault_in key (codes "date") (own_date v))
    (fault_in key (codes "eventdate") (date_under (codes "eventdate") v))
    (fault_in key (codes "origdate") (date_under (codes "origdate") v))
    (fault_in key (codes "urldate") (date_under (codes "urldate") v))
    (map fault_view f1) (map fault_view f2) (map fault_view f3) (map fault_view f4)
    (c.in_ok-own.ensures.faults ∙ (ap (λ (fs : List FieldFault). map fault_view fs ++ fault_in key (codes "date") c.in_ok-own_date.field-0) c.new-faults.ensures.items ∙ ap (λ (r : ReadDate). fault_in key (codes "date") r) c.in_ok-own_date.ensures))
    (c.in_ok-event.ensures.faults ∙ ap (λ (r : ReadDate). map fault_view f1 ++ fault_in key (codes "eventdate") r) c.in_ok-date_under.ensures)
    (c.in_ok-original.ensures.faults ∙ ap (λ (r : ReadDate). map fault_view f2 ++ fault_in key (codes "origdate") r) c.in_ok-date_under-2.ensures)
    (c.in_ok-visited.ensures.faults ∙ ap (λ (r : ReadDate). map fault_view f3 ++ fault_in key (codes "urldate") r) c.in_ok-date_under-3.ensures))
    is_some
