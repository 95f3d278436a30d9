-- A bib text and its rewriting have the same verdicts.
use Rattle.std.proofs.Common.{◌≡◌, ℕ, Bool, true, false, cond, List, [], ◌∷◌, Result, Ok, Err, codes, refl, sym, ap, subst, ◌∙◌}
use Rattle.std.specs.List.{AllByRecursion}
use Rattle.std.specs.Str.{all_scalars, bytes_eq, chars, is_utf8, IsUtf8}
use Rattle.std.proofs.lemmas.Str.{IsUtf8-from_is_utf8, is_utf8-from_IsUtf8, scalars-chars}
use Rattle.laws.proofs.Results.{ok_is}
use Rattle.biblatex.specs.Listed.{Listed}
use Rattle.biblatex.specs.Entries.{Source}
use Rattle.biblatex.specs.Fields.{Named, without_field}
use Rattle.biblatex.specs.Reading as reading
use Rattle.biblatex.specs.Resolved.{TextMeans}
use Rattle.biblatex_writing.specs.Flat.{flat}
use Rattle.biblatex_content.specs.Styled.{plain}
use Rattle.biblatex_writing.specs.Texts.{IsText}
use Rattle.biblatex_writing.specs.Written.{written_file}
use Rattle.biblatex_reading_back.specs.ReadingBack.{ReadsBack}
use Rattle.biblatex_reading_back.proofs.SettledBack.{reads_back}
use Rattle.biblatex_laws.proofs.FilesText.{file_is_text}
use Rattle.literature_entries.specs.EntriesData.{EntryData}
use Rattle.interop.specs.Bridge.{Fault}
use Rattle.interop.specs.Library.{library_of}
use Rattle.interop_roads.proofs.FlatAlike.{flat_library}
use Rattle.interop_roads.proofs.ReadBackAlike.{back_library}
use Rattle.cite_requests.specs.Stages.{Refusal, IsRead, IsReadIf, bib_refused, library_stage, refused_as, works_from}
use Rattle.cite.specs.Verdict.{Task, IsVerdict, verdict}
use Rattle.cite.proofs.VerdictsUnique.{one_verdict}
use Rattle.cite.specs.Roads.{RewritingHasTheSameVerdicts, rewritten}
use Rattle.cite.proofs.NamesAreKeys.{names_are_keys}
use Rattle.cite.proofs.WorksAlike.{no_aliases, none_back, verdicts_same}

-- a bib text that is read is a text, and has a meaning
record IsMeant (bib : List ℕ) (file : Listed) : Type 0 where
  pub utf8 : is_utf8 bib ≡ true
  pub means : TextMeans (chars bib) (Ok file)

meant : (bib : List ℕ) (file : Listed) → IsRead bib (Ok file) → IsMeant bib file
meant bib file is = by (is_utf8 bib) refl is
  where
    at : (m : Result Listed reading.Refusal) → TextMeans (chars bib) m → Ok file ≡ refused_as bib_refused m → TextMeans (chars bib) (Ok file)
    at (Ok f) means e = subst (λ (x : Listed). TextMeans (chars bib) (Ok x)) (sym (ok_is {F = Refusal} file f e)) means
    at (Err r) means e = absurd cc

    by : (b : Bool) → is_utf8 bib ≡ b → IsReadIf b bib (Ok file) → IsMeant bib file
    by false utf8 e = absurd cc
    by true utf8 (m, means, e) = record { utf8 = utf8; means = at m means e }

-- what holds of all fields holds of those without `crossref`
all_without : (P : Named → Type 0) (fs : List Named) → AllByRecursion P fs → AllByRecursion P (without_field (codes "crossref") fs)
all_without P [] all = tt
all_without P (f ∷ fs) all = by (bytes_eq (codes "crossref") f.0) (all_without P fs all.1)
  where
    by : (b : Bool) → AllByRecursion P (without_field (codes "crossref") fs) → AllByRecursion P (cond b fs (f ∷ without_field (codes "crossref") fs))
    by true more = all.1
    by false more = (all.0, more)

flat_text : (es : List Source) → AllByRecursion IsText es → AllByRecursion IsText (flat es)
flat_text [] all = tt
flat_text (e ∷ es) all = (
  record { key = all.0.key; entry_type = all.0.entry_type; fields = (all_without (λ f. IsUtf8 f.0) e.fields all.0.fields.0, all_without (λ f. all_scalars (plain f.1.text) ≡ true) e.fields all.0.fields.1) },
  flat_text es all.1,
)

-- one verdict of each
module _ (bib other : List ℕ) (task : Task) (a : Result (List ℕ) Refusal) (own : IsVerdict bib task a) (too : IsVerdict other task a) where
  there : (answer : Result (List ℕ) Refusal) → IsVerdict bib task answer → IsVerdict other task answer
  there answer is = subst (IsVerdict other task) (one_verdict bib task a answer own is) too

pub same_verdicts : RewritingHasTheSameVerdicts
same_verdicts bib file task h answer =
    let first = meant bib file h.read in
    let fine = file_is_text (chars bib) file (scalars-chars bib (IsUtf8-from_is_utf8 bib first.utf8)) first.means in
    let es = flat file.entries in
    let back : ReadsBack (written_file es) es = reads_back es h.settled (flat_text file.entries fine) in
    let other = rewritten file in
    let means : IsRead other (Ok back.file) = subst (λ (b : Bool). IsReadIf b other (Ok back.file)) (sym (is_utf8-from_IsUtf8 other back.utf8)) (Ok back.file, back.meant, refl) in
    let libraries : library_of file.entries ≡ library_of back.file.entries = sym (back_library es back.file.entries back.entries h.apart ∙ flat_library file.entries) in
    let one : verdict (library_stage file) task ≡ verdict (library_stage back.file) task =
    verdicts_same file back.file back.entries
    (names_are_keys file (no_aliases file.entries h.settled) (chars bib) first.means)
    (names_are_keys back.file (none_back es back.file.entries h.settled h.apart back.entries) (chars other) back.meant)
    (library_of file.entries) task
    ∙ ap (λ (found : Result (List EntryData) (List Fault)). verdict (works_from back.file found) task) libraries in
    let own : IsVerdict bib task (verdict (library_stage file) task) = (library_stage file, (Ok file, h.read, refl), refl) in
    let too : IsVerdict other task (verdict (library_stage file) task) = (library_stage back.file, (Ok back.file, means, refl), one) in
    (there bib other task (verdict (library_stage file) task) own too answer, there other bib task (verdict (library_stage file) task) too own answer)
