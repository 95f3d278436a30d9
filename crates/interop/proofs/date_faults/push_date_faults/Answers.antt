use Rattle.std.proofs.Common.{◌≡◌, ◌++◌, ℕ, List, map, append-nil, ap, string_bytes, sym, ◌∙◌}
use Rattle.std.proofs.lemmas.Result.{on_ok_weaker}
use Rattle.interop_values.specs.Values.{values}
use Rattle.interop.specs.Bridge.{Fault, faults_of}
use Rattle.interop.specs.Views.{dates_of, fault_view}
use Rattle.interop.proofs.LibraryFaults.{all_refused, none}
use Rattle.interop.proofs.date_faults.push_date_faults.Goals as goal

pub returns-in-Ok : goal.returns-in-Ok
returns-in-Ok c =
    let v = values c.args.read.now.fields in
    let before = map fault_view c.args.faults.now.items in
    let same : faults_of c.as_str.result.now v ≡ faults_of (string_bytes c.args.read.now.key) v = ap (λ (k : List ℕ). faults_of k v) c.as_str.ensures.value in
    sym (append-nil before) ∙ ap (λ (fs : List Fault). before ++ fs) (sym (none (faults_of c.as_str.result.now v) (dates_of v) c.in-Ok.field-0 c.in-Ok.ensures) ∙ same)

pub returns-in-Err-Fields : goal.returns-in-Err-Fields
returns-in-Err-Fields c =
    let v = values c.args.read.now.fields in
    let before = map fault_view c.args.faults.now.items in
    let found = map fault_view c.in-Err-Fields.found.items in
    let same : faults_of c.as_str.result.now v ≡ faults_of (string_bytes c.args.read.now.key) v = ap (λ (k : List ℕ). faults_of k v) c.as_str.ensures.value in
    let refused : faults_of c.as_str.result.now v ≡ found = all_refused found (faults_of c.as_str.result.now v) (dates_of v) (rw c.in-Err-Fields.field-0-is at c.in-Err-Fields.ensures) in
    on_ok_weaker c.push_all.result (λ e. e ∙ ap (λ (fs : List Fault). before ++ fs) (sym refused ∙ same)) c.push_all.ensures
