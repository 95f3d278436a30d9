-- A fault of a file names the key of an entry, and a field that is read as a date.
use Rattle.std.proofs.Common.{ℕ, not, All, List, [], ◌∷◌, Some, None, Ok, Err, codes}
use Rattle.std.specs.Prelude.{IfErr}
use Rattle.std.proofs.lemmas.List.Elements.{All-nil, All-cons, All-append, All-filter}
use Rattle.laws.proofs.Throughout.{all-flat_map}
use Rattle.biblatex_dates.specs.declared.error.TypeErrorKind.{TypeErrorKind}
use Rattle.biblatex_entries.specs.Entries.{Source}
use Rattle.biblatex_entries.specs.TypeNames.{written_type}
use Rattle.interop_values.specs.Values.{Values, values}
use Rattle.interop_values.specs.Readings.{ReadDate, own_date, date_under}
use Rattle.interop.specs.declared.error.DateField.{DateField}
use Rattle.interop.specs.declared.error.DateField.TheVariants as dates
use Rattle.interop.specs.DateFields.{field_name}
use Rattle.interop.specs.Bridge.{Fault, fault_in, faults_of, unless_faulty}
use Rattle.interop.specs.Library.{is_xdata, works_in, all_faults, all_works, put_after, library_of}

-- what holds of a fault of any kind of a date under this key
abbrev pub HoldsOfFaults : (Fault → Type 0) → List ℕ → Type 0
HoldsOfFaults Q key = (field : DateField) (kind : TypeErrorKind) → Q (record { key = key; field = field_name field; kind = kind })

one_date : (Q : Fault → Type 0) (key : List ℕ) (field : DateField) (d : ReadDate) → HoldsOfFaults Q key → All Q (fault_in key (field_name field) d)
one_date Q key field None holds = All-nil Q
one_date Q key field (Some (Ok d)) holds = All-nil Q
one_date Q key field (Some (Err kind)) holds = All-cons Q (record { key = key; field = field_name field; kind = kind }) [] (holds field kind) (All-nil Q)

one_entry : (Q : Fault → Type 0) (key : List ℕ) (v : Values) → HoldsOfFaults Q key → All Q (faults_of key v)
one_entry Q key v holds =
    All-append Q (fault_in key (codes "date") (own_date v)) _ (one_date Q key dates.Date (own_date v) holds)
    (All-append Q (fault_in key (codes "eventdate") (date_under (codes "eventdate") v)) _ (one_date Q key dates.EventDate (date_under (codes "eventdate") v) holds)
    (All-append Q (fault_in key (codes "origdate") (date_under (codes "origdate") v)) _ (one_date Q key dates.OrigDate (date_under (codes "origdate") v) holds)
    (one_date Q key dates.UrlDate (date_under (codes "urldate") v) holds)))

abbrev OfKey : (Fault → Type 0) → Source → Type 0
OfKey Q e = HoldsOfFaults Q e.key

all_entries : (Q : Fault → Type 0) (es : List Source) → All (OfKey Q) es → All Q (all_faults es)
all_entries Q es all =
    all-flat_map (OfKey Q) Q (λ (e : Source). faults_of e.key (values e.fields)) (λ e holds. one_entry Q e.key (values e.fields) holds) (works_in es)
    (All-filter (λ (e : Source). not (is_xdata (written_type e.entry_type))) (OfKey Q) es all)

refused_by : {W : Type 0} (Q : Fault → Type 0) (faults : List Fault) (w : W) → All Q faults → IfErr (unless_faulty faults w) (All Q)
refused_by Q [] w all = tt
refused_by Q (f ∷ fs) w all = all

-- all faults for which a file has no library
pub library_faults : (Q : Fault → Type 0) (es : List Source) → All (λ (e : Source). HoldsOfFaults Q e.key) es → IfErr (library_of es) (All Q)
library_faults Q es all = refused_by Q (all_faults es) (put_after [] (all_works es)) (all_entries Q es all)
