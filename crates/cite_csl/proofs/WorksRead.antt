-- What the works of bib texts are, which are read as one, and the lines where they are refused.
use Rattle.std.proofs.Common.{◌≡◌, ℕ, Bool, true, List, Result, Ok, Err, refl, sym, ap, subst, ◌∙◌}
use Rattle.std.specs.Str.{chars, IsUtf8, is_utf8}
use Rattle.std.specs.Str.Lossy.{utf8_valid_len}
use lib.Chars.{codes}
use Rattle.std.proofs.lemmas.Str.{is_utf8-from_IsUtf8, IsUtf8-from_is_utf8}
use Rattle.std.proofs.lemmas.Bool.{false_from_ne_true}
use Rattle.biblatex.specs.Listed.{Listed}
use Rattle.biblatex.specs.Reading as reading
use Rattle.biblatex.specs.Resolved.{TextMeans}
use Rattle.biblatex_writing.specs.Settled.{have_distinct_keys}
use Rattle.interop.specs.Bridge.{Fault}
use Rattle.interop.specs.Library.{library_of}
use Rattle.literature_entries.specs.EntriesData.{EntryData}
use Rattle.cite_requests.specs.Cited.{library_from, works_of}
use Rattle.cite_requests.specs.Stages.{IsRead, IsReadIf, bib_not_utf8, bib_refused, library_stage, refused_as, works_from}
use Rattle.cite_requests.specs.Works.{Works}
use Rattle.cite_requests.proofs.KeysDistinct.{read_distinct}
use Rattle.cite_csl_styles.specs.Sources.{SourceFile, joined, lines_at}
use Rattle.cite_csl_styles.specs.Stages.{Lines}
use Rattle.cite_csl.specs.Works.{AreWorks, all_date_lines, bib_lines, refused_at, said_by, typographic_stage}

-- what a text means is what its bytes are read as
is_read : (t : List ℕ) (meaning : Result Listed reading.Refusal) → IsUtf8 t → TextMeans (chars t) meaning → IsRead t (refused_as bib_refused meaning)
is_read t meaning utf8 means =
    subst (λ (b : Bool). IsReadIf b t (refused_as bib_refused meaning)) (sym (is_utf8-from_IsUtf8 t utf8)) (meaning, means, refl)

not_read : (bytes : List ℕ) → (IsUtf8 bytes → ⊥) → IsRead bytes (Err bib_not_utf8)
not_read bytes bad =
    subst (λ (b : Bool). IsReadIf b bytes (Err bib_not_utf8)) (sym (false_from_ne_true (is_utf8 bytes) (λ t. bad (IsUtf8-from_is_utf8 bytes t)))) refl

pub keys_distinct : (t : List ℕ) (file : Listed) → IsUtf8 t → TextMeans (chars t) (Ok file) → have_distinct_keys file.entries ≡ true
keys_distinct t file utf8 means = read_distinct t file (is_read t (Ok file) utf8 means)

-- entries all of whose dates can be read, and others
pub dates_read : (fs : List SourceFile) (file : Listed) → library_of file.entries ≡ Ok (library_from file.entries) → said_by (bib_lines fs) (library_stage file) ≡ Ok (works_of file)
dates_read fs file is = ap (λ (r : Result (List EntryData) (List Fault)). said_by (bib_lines fs) (works_from file r)) is

pub dates_refused : (fs : List SourceFile) (t : List ℕ) (file : Listed) (faults : List Fault) → t ≡ joined fs → library_of file.entries ≡ Err faults
    → said_by (bib_lines fs) (library_stage file) ≡ Err (all_date_lines fs t faults)
dates_refused fs t file faults whole is =
    ap (λ (r : Result (List EntryData) (List Fault)). said_by (bib_lines fs) (works_from file r)) is ∙ ap (λ (s : List ℕ). Err (all_date_lines fs s faults)) (sym whole)

module _ (fs : List SourceFile) (t : List ℕ) (whole : t ≡ joined fs) where
  -- the works of a text that is read
  pub works_given : (file : Listed) (answer : Result Works Lines) → IsUtf8 t → TextMeans (chars t) (Ok file) → said_by (bib_lines fs) (typographic_stage file) ≡ answer → AreWorks fs answer
  works_given file answer utf8 means is =
      (Ok file, subst (λ (s : List ℕ). IsRead s (Ok file)) whole (is_read t (Ok file) utf8 means), sym is)

  -- a text that is no bibliography
  pub text_refused : (r : reading.Refusal) → IsUtf8 t → TextMeans (chars t) (Err r) → AreWorks fs (Err (refused_at fs r.start r.reason))
  text_refused r utf8 means =
      (Err (bib_refused r), subst (λ (s : List ℕ). IsRead s (Err (bib_refused r))) whole (is_read t (Err r) utf8 means), refl)

  -- bytes that are no text
  pub bytes_refused : (at : ℕ) → (IsUtf8 t → ⊥) → at ≡ utf8_valid_len t → AreWorks fs (Err (lines_at fs at (codes "not UTF-8")))
  bytes_refused at bad is = (
    Err bib_not_utf8,
    subst (λ (s : List ℕ). IsRead s (Err bib_not_utf8)) whole (not_read t bad),
    ap (λ (n : ℕ). Err (lines_at fs n (codes "not UTF-8"))) (is ∙ ap utf8_valid_len whole),
  )
