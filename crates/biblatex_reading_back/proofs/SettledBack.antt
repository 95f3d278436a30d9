-- Settled entries are read back.
use Rattle.std.proofs.Common.{◌≡◌, ℕ, true, not, ◌&&◌, List, [], ◌∷◌, map, bytes_eq, None, Ok, refl, sym, subst}
use Rattle.std.specs.List.{AllByRecursion, list_all, list_any}
use Rattle.std.specs.Str.{chars, IsUtf8, all_scalars}
use Rattle.biblatex_content.specs.Styled.{plain}
use Rattle.biblatex_content.specs.Verbatim.{is_verbatim_name}
use Rattle.biblatex_content.proofs.Tests.{first_of_two, second_of_two, not_true}
use Rattle.biblatex_fields.specs.Fields.{Named, AreInOrder}
use Rattle.biblatex_entries.specs.Entries.{Source}
use Rattle.biblatex_entries.specs.TypeNames.{written_type}
use Rattle.biblatex_grammar.proofs.Laws.{held-read}
use Rattle.biblatex_meaning.specs.Reading.{nothing_loaded}
use Rattle.biblatex_meaning.specs.Resolved.{TextMeans}
use Rattle.biblatex_meaning.proofs.ResolvedUnique.{one_meaning}
use Rattle.biblatex_writing.specs.FieldNames.{other_names, written_name}
use Rattle.biblatex_writing.specs.Settled.{is_lowered_identifier, naming_fields, is_settled_field, is_settled_key, is_settled_type, is_settled_entry, have_distinct_keys, is_settled}
use Rattle.biblatex_writing.specs.SettledContent.{is_settled_content}
use Rattle.biblatex_writing.specs.Texts.{IsText}
use Rattle.biblatex_writing.specs.Written.{in_written_order, written_file}
use Rattle.biblatex_reading_back.specs.ReadingBack.{AreReadBack, ReadsBack}
use Rattle.biblatex_reading_back.specs.Spelled.{IsField, IsEntry, file_of}
use Rattle.biblatex_reading_back.proofs.BalancedContents.{content_balanced}
use Rattle.biblatex_reading_back.proofs.EntriesBack.{NamesNone, IsWrittenEntry, IsAlone, entries_read}
use Rattle.biblatex_reading_back.proofs.FieldsBack.{plain_field, IsWrittenField}
use Rattle.biblatex_reading_back.proofs.FilesSpelled.{plain_entry, IsSpelled, file_characters, file_utf8}
use Rattle.biblatex_reading_back.proofs.MeaningBack.{meant}
use Rattle.biblatex_reading_back.proofs.NamesBack.{written_has, written_read}
use Rattle.biblatex_reading_back.proofs.OrderBack.{all_ordered}
use Rattle.biblatex_reading_back.proofs.SpelledEntries.{file_held}
use Rattle.biblatex_reading_back.proofs.TypesBack.{written_type_read, other_kind}

-- a settled field, with what holds of the name that it is written under
record IsFineField (f : Named) : Type 0 where
  pub written : IsWrittenField f
  pub alone : NamesNone (written_name f.0)
  pub utf8 : IsUtf8 (written_name f.0)
  pub spelled : IsField (plain_field f)
  pub scalars : all_scalars (plain f.1.text) ≡ true

fine_field : (f : Named) → IsUtf8 f.0 → all_scalars (plain f.1.text) ≡ true → is_settled_field f ≡ true → IsFineField f
fine_field f utf8 scalars settled =
    let none = list_any (bytes_eq f.0) naming_fields in
    let named = is_lowered_identifier (chars f.0) in
    let content = is_settled_content (is_verbatim_name f.0) f.1.text in
    let front = first_of_two (not none && named) content settled in
    let name = second_of_two (not none) named front in
    let inside = second_of_two (not none && named) content settled in
    let read = written_read f.0 utf8 name in
    record {
      written = record { utf8 = utf8; name = name; content = inside };
      alone = written_has NamesNone other_names f.0 (refl, (refl, (refl, (refl, (refl, (refl, (refl, (refl, tt)))))))) (not_true none (first_of_two (not none) named front));
      utf8 = read.utf8;
      spelled = record { name = read.identifier; content = content_balanced (is_verbatim_name f.0) f.1.text inside };
      scalars = scalars;
    }

fine_fields : (fs : List Named) → AllByRecursion (λ f. IsUtf8 f.0) fs → AllByRecursion (λ f. all_scalars (plain f.1.text) ≡ true) fs → list_all is_settled_field fs ≡ true → AllByRecursion IsFineField fs
fine_fields [] utf8 scalars settled = tt
fine_fields (f ∷ fs) utf8 scalars settled =
    (fine_field f utf8.0 scalars.0 (first_of_two (is_settled_field f) (list_all is_settled_field fs) settled), fine_fields fs utf8.1 scalars.1 (second_of_two (is_settled_field f) (list_all is_settled_field fs) settled))

-- what follows of each
each : (P Q : Named → Type 0) (fs : List Named) → ((f : Named) → P f → Q f) → AllByRecursion P fs → AllByRecursion Q fs
each P Q [] then all = tt
each P Q (f ∷ fs) then all = (then f all.0, each P Q fs then all.1)

spelled_fields : (fs : List Named) → AllByRecursion IsFineField fs → AllByRecursion IsField (map plain_field fs)
spelled_fields [] all = tt
spelled_fields (f ∷ fs) all = (all.0.spelled, spelled_fields fs all.1)

-- a settled entry
record IsFineEntry (e : Source) : Type 0 where
  pub written : IsWrittenEntry e
  pub spelled : IsSpelled e
  pub entry : IsEntry (plain_entry e)

fine_entry : (e : Source) → IsText e → is_settled_entry e ≡ true → IsFineEntry e
fine_entry e text settled =
    let key = is_settled_key (chars e.key) in
    let typed = is_settled_type e.entry_type in
    let fields = list_all is_settled_field e.fields in
    let front = first_of_two (key && typed) fields settled in
    let fs = in_written_order e.fields in
    let all = all_ordered IsFineField e.fields (fine_fields e.fields text.fields.0 text.fields.1 (second_of_two (key && typed) fields settled)) in
    let type_read = written_type_read e.entry_type text.entry_type (second_of_two key typed front) in
    record {
      written = record {
        key = text.key;
        entry_type = type_read;
        fields = each IsFineField IsWrittenField fs (λ f fine. fine.written) all;
        alone = each IsFineField (λ f. NamesNone (written_name f.0)) fs (λ f fine. fine.alone) all;
      };
      spelled = record {
        kind = type_read.name.utf8;
        key = text.key;
        names = each IsFineField (λ f. IsUtf8 (written_name f.0)) fs (λ f fine. fine.utf8) all;
        contents = each IsFineField (λ f. all_scalars (plain f.1.text) ≡ true) fs (λ f fine. fine.scalars) all;
      };
      entry = record {
        kind = type_read.name.identifier;
        other = other_kind (written_type e.entry_type).name type_read.name type_read.entry;
        key = first_of_two key typed front;
        fields = spelled_fields fs all;
      };
    }

fine_entries : (es : List Source) → AllByRecursion IsText es → list_all is_settled_entry es ≡ true → AllByRecursion IsFineEntry es
fine_entries [] text settled = tt
fine_entries (e ∷ es) text settled =
    (fine_entry e text.0 (first_of_two (is_settled_entry e) (list_all is_settled_entry es) settled), fine_entries es text.1 (second_of_two (is_settled_entry e) (list_all is_settled_entry es) settled))

all_of : (P : Source → Type 0) (es : List Source) → ((e : Source) → IsFineEntry e → P e) → AllByRecursion IsFineEntry es → AllByRecursion P es
all_of P [] then all = tt
all_of P (e ∷ es) then all = (then e all.0, all_of P es then all.1)

spelled_entries : (es : List Source) → AllByRecursion IsFineEntry es → AllByRecursion IsEntry (map plain_entry es)
spelled_entries [] all = tt
spelled_entries (e ∷ es) all = (all.0.entry, spelled_entries es all.1)

-- no key has a meaning yet
nothing_known : (es : List Source) → AllByRecursion (λ e. nothing_loaded.listed.index e.key ≡ None) es
nothing_known [] = tt
nothing_known (e ∷ es) = (refl, nothing_known es)

pub reads_back : (es : List Source) → is_settled es ≡ true → AllByRecursion IsText es → ReadsBack (written_file es) es
reads_back es settled text =
    let distinct = first_of_two (have_distinct_keys es) (list_all is_settled_entry es) settled in
    let all = fine_entries es text (second_of_two (have_distinct_keys es) (list_all is_settled_entry es) settled) in
    let plains = map plain_entry es in
    let file = file_held plains (spelled_entries es all) in
    let read = entries_read (record { definitions = []; flags = [] }) nothing_loaded es file.raw.entries (all_of IsWrittenEntry es (λ e fine. fine.written) all) file.says.entries distinct (nothing_known es) in
    let spelled = all_of IsSpelled es (λ e fine. fine.spelled) all in
    let characters = file_characters es spelled in
    let alone = subst (AllByRecursion IsAlone) (sym read.whole) read.alone in
    let sorted = subst (AllByRecursion (λ e. AreInOrder e.fields)) (sym read.whole) read.sorted in
    let means = subst (λ (cs : List ℕ). TextMeans cs (Ok read.loaded.listed)) (sym characters) (meant (file_of plains) file.raw read.loaded (held-read (file_of plains) file.raw file.held) file.says.none read.read alone sorted) in
    record {
      utf8 = file_utf8 es spelled;
      file = read.loaded.listed;
      meant = means;
      only = λ answer other. one_meaning (chars (written_file es)) answer (Ok read.loaded.listed) other means;
      entries = subst (AreReadBack es) (sym read.whole) read.back;
    }
