-- What a run writes and says.
use Rattle.std.specs.Prelude.{◌≡◌, ℕ, Bool, true, List, [], ◌∷◌, ◌++◌, map, if◌then◌else◌, is_ok, false, Result, Ok, Err}
use Rattle.std.specs.Option.{option_or}
use Rattle.std.specs.Str.{chars}
use Rattle.laws.specs.Results.{◌>>=◌}
use Rattle.laws.specs.Text.{text, is_filled}
use Rattle.biblatex.specs.Listed.{Listed}
use Rattle.biblatex_typography.specs.Typography.{typographic_file}
use Rattle.literature.specs.Trees.{Tree}
use Rattle.rendering_locale.specs.Locales.{Locale}
use Rattle.rendering_context.specs.Contexts.{StyleContext}
use Rattle.driver.specs.Finish.{Rendered}
use Rattle.cite_markers.specs.Document.{Piece}
use Rattle.cite_output.specs.Output.{output_text}
use Rattle.cite_requests.specs.Refusals.{refusal_text}
use Rattle.cite_requests.specs.Stages.{Refusal, section_stage, IsRead}
use Rattle.cite_requests.specs.Works.{Works}
use Rattle.cite.specs.Verdict.{Task, verdict, IsVerdict}
use Rattle.cite_order.specs.Order.{Setting, has_keys, rendered_in_order}
use Rattle.cite_csl_command.specs.Command.{Asked}
use Rattle.cite_csl.specs.Names.{pieces_of, rendered_lines}
use Rattle.cite_csl_styles.specs.FeatureLines.{feature_lines, term_lines}
use Rattle.cite_csl_styles.specs.Sheets.{Sheet, IsSheet, AreLocales, sorting_of}
use Rattle.cite_csl_styles.specs.Sources.{Reads, SourceFile, AreRead, file_at, files_at, joined, line}
use Rattle.cite_csl_styles.specs.Stages.{Lines, Then, Gives}
use Rattle.cite_csl.specs.Works.{AreWorks, said_by, typographic_stage}

-- the paths that are asked for: the style, the locales, the bib texts, the document
abbrev pub paths : Asked → List (List ℕ)
paths a = a.style ∷ (a.locales ++ (a.bibs ++ a.document ∷ []))

-- the language that is asked for, or else that of a dependent style
abbrev pub context_in : Asked → Sheet → List Locale → StyleContext
context_in a s locales = record { style = s.style; locale = option_or a.lang s.lang; locale_files = locales }

-- with the style as it prints for sorting
abbrev pub setting_in : Asked → Sheet → List Locale → Setting
setting_in a s locales = record { context = context_in a s locales; sorting = sorting_of s }

-- the selectors of the sections, or a line for the first that is none
abbrev pub sections_in : List (List ℕ) → Result (List Tree) Lines
sections_in sections = said_by (λ (r : Refusal). line (refusal_text r)) (section_stage sections)

abbrev pub sections_of : Asked → Result (List Tree) Lines
sections_of a = sections_in (map chars a.sections)

-- a style that asks for what is not carried out is refused, where that is asked for
abbrev pub strict : Bool → Sheet → Result Sheet Lines
strict is_strict s = if is_strict then (if is_filled (feature_lines s) then Err (feature_lines s) else Ok s) else Ok s

-- citations and bibliography
abbrev pub rendered_of : Asked → SourceFile → Setting → Works → List Piece → Result Rendered Lines
rendered_of a d setting works pieces = said_by (rendered_lines d works pieces) (rendered_in_order works setting (map chars a.sections) pieces)

-- the output for the pieces of a document
abbrev pub output_for : Asked → SourceFile → Setting → Works → List Piece → Result (List ℕ) Lines
output_for a d setting works pieces = rendered_of a d setting works pieces >>= λ rendered. Ok (text (output_text a.format pieces rendered))

-- the output for a document
abbrev pub output_of : Asked → SourceFile → Setting → Works → Result (List ℕ) Lines
output_of a d setting works = pieces_of d >>= λ pieces. output_for a d setting works pieces

-- the output in a style and with locales: the bib texts are read, then the document
abbrev pub IsOutputIn : Reads → Asked → Setting → Result (List ℕ) Lines → Type 0
IsOutputIn read a setting = Then (AreWorks (files_at read a.bibs)) (λ (works : Works). Gives (output_of a (file_at read a.document) setting works))

-- what is said of a style besides: what is not carried out, and then the terms that it prints and no locale has
abbrev pub told_of : Asked → Sheet → List Locale → Lines
told_of a s locales = feature_lines s ++ term_lines s (option_or a.lang s.lang) locales

-- what is written, and what is said besides
pub record Made : Type 0 where
  pub output : List ℕ
  pub told : Lines

abbrev pub made : Asked → Sheet → List Locale → List ℕ → Made
made a s locales output = record { output = output; told = told_of a s locales }

-- the output in a style, whose locales are read first, and what is said besides
abbrev pub IsOutput : Reads → Asked → Sheet → Result Made Lines → Type 0
IsOutput read a s =
    Then (AreLocales s.words (files_at read a.locales)) (λ (locales : List Locale).
    Then (IsOutputIn read a (setting_in a s locales)) (λ (output : List ℕ).
    Gives (Ok (made a s locales output))))

-- what a run comes to in a style that is found
abbrev pub IsMadeIn : Reads → Asked → Sheet → Result Made Lines → Type 0
IsMadeIn read a found =
    Then (Gives (strict a.is_strict found)) (λ (s : Sheet).
    IsOutput read a s)

-- what a run comes to whose files are read
abbrev pub IsMadeOf : Reads → Asked → Result Made Lines → Type 0
IsMadeOf read a =
    Then (IsSheet read a.style) (λ (found : Sheet).
    IsMadeIn read a found)

-- What a run comes to, or the lines that say why it comes to nothing: all files are read, and then the style, the locales, the bib texts, the
-- document and its names; the first that is refused says all of its faults.
abbrev pub IsMade : Reads → Asked → Result Made Lines → Type 0
IsMade read a =
    Then (AreRead read (paths a)) (λ _.
    IsMadeOf read a)

-- the sections are selectors, and the run comes to something of which this holds
abbrev pub Serves : Reads → Asked → (Made → Type 0) → Type 0
Serves read a P = (m : Made) × (is_ok (sections_of a) ≡ true) × IsMade read a (Ok m) × P m

abbrev pub ServesOutput : Reads → Asked → (List ℕ → Type 0) → Type 0
ServesOutput read a P = Serves read a (λ (m : Made). P m.output)

-- why a run comes to nothing: a section is no selector; or else what the files say
abbrev pub IsCommandFault : Asked → Lines → Type 0
IsCommandFault a lines = sections_of a ≡ Err lines

abbrev pub IsFault : Reads → Asked → Lines → Type 0
IsFault read a lines = (is_ok (sections_of a) ≡ true) × IsMade read a (Err lines)

-- What is written in a style without sort keys is what `cite` writes for the entries of the bib texts as one, in that style and with those
-- locales, where the texts of the entries are as LaTeX prints them; and what it writes for the bib texts themselves, where they are so already.
abbrev pub task_in : Reads → Asked → StyleContext → Task
task_in read a context = record { document = (file_at read a.document).bytes; context = context; sections = map chars a.sections; format = a.format }

abbrev pub IsTypographicVerdict : List ℕ → Task → Result (List ℕ) Refusal → Type 0
IsTypographicVerdict bib task answer =
    (read : Result Listed Refusal) × IsRead bib read
    × (answer ≡ verdict (read >>= typographic_stage) task)

-- the entries of a bib text are as LaTeX prints them
abbrev pub AreTypographic : List ℕ → Type 0
AreTypographic bib = (file : Listed) → IsRead bib (Ok file) → typographic_file file ≡ file

-- the bib texts as one, and what is asked for beside them
abbrev pub bib_text : Reads → Asked → List ℕ
bib_text read a = joined (files_at read a.bibs)

abbrev pub task_by : Reads → Asked → Sheet → List Locale → Task
task_by read a s locales = task_in read a (context_in a s locales)

-- what is written in a style without sort keys is both
abbrev pub IsCiteVerdict : List ℕ → Task → Result (List ℕ) Refusal → Type 0
IsCiteVerdict bib task answer =
    IsTypographicVerdict bib task answer × (AreTypographic bib → IsVerdict bib task answer)

pub record IsCiteOutput (read : Reads) (a : Asked) (output : List ℕ) : Type 0 where
  pub sheet : Sheet
  pub locales : List Locale
  pub is_sheet : IsSheet read a.style (Ok sheet)
  pub are_locales : AreLocales sheet.words (files_at read a.locales) (Ok locales)
  pub is_verdict : has_keys sheet.style ≡ false
      → IsCiteVerdict (bib_text read a) (task_by read a sheet locales) (Ok output)
