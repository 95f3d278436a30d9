-- What the program serves and says.
use Rattle.std.specs.Global.{Global}
use Rattle.std.specs.Prelude.{◌≡◌, ℕ, Bool, true, false, List, [], ◌∷◌, ◌++◌, map, Option, Some, None, is_ok, Result, Ok, Err, String, string_bytes, codes, if◌then◌else◌}
use Rattle.std.specs.List.{flat_map}
use Rattle.std.specs.Option.{ok_or}
use Rattle.std.specs.Str.{bytes_eq}
use Rattle.std.specs.Borrow.{Bor}
use Rattle.laws.specs.Results.{◌>>=◌}
use Rattle.laws.specs.Text.{spelled}
use Rattle.programs.specs.Files.{Outcome}
use Rattle.programs.specs.Programs as programs
use Rattle.programs.specs.declared.files.ReadFault.TheVariants.{Memory, Unreadable}
use Rattle.interop.specs.Bridge.{Fault}
use Rattle.interop.specs.Views.{fault_view}
use Rattle.rendering_output.specs.declared.writing.BufWriteFormat.{BufWriteFormat}
use Rattle.rendering_output.specs.declared.writing.BufWriteFormat.TheVariants.{Plain, Html}
use Rattle.cite_styles.specs.English.{english}
use Rattle.rendering_style.specs.Styles.{Style}
use Rattle.cite_styles.specs.Styles.{numeric, author_date, note}
use Rattle.cite_requests.specs.Answers.{Writes}
use Rattle.cite_requests.specs.Refusals.{refusal_text, error_text}
use Rattle.cite_requests.specs.Requests.{context_of}
use Rattle.cite_requests.specs.Stages.{Refusal, fields_refused}
use Rattle.cite.specs.Verdict.{Task, IsVerdict}
use Rattle.cite_requests.specs.declared.error.CiteError.{CiteError}
use Rattle.cite_requests.specs.declared.error.CiteError.TheVariants as errors
use Rattle.cite_command.specs.declared.program.RunFault.{RunFault}
use Rattle.cite_command.specs.declared.program.RunFault.TheVariants as faults

-- What reading gave for each path is a function of the path.
abbrev pub Reads : Type 0
Reads = List ℕ → Outcome

-- the style of a name, and the format of a name
abbrev pub style_named : List ℕ → Option Style
style_named name =
    if bytes_eq name (codes "numeric") then Some numeric
    else (if bytes_eq name (codes "author-date") then Some author_date
    else (if bytes_eq name (codes "note") then Some note
    else None))

abbrev pub format_named : List ℕ → Option BufWriteFormat
format_named name = if bytes_eq name (codes "plain") then Some Plain else (if bytes_eq name (codes "html") then Some Html else None)

-- what words ask for: a style and a format, the paths of a bib text and of a document, and sections as characters
pub record Job : Type 0 where
  pub style : Style
  pub format : BufWriteFormat
  pub bib : List ℕ
  pub document : List ℕ
  pub sections : List (List ℕ)

-- the message for words that ask for nothing
abbrev pub usage_text : List ℕ
usage_text = codes "usage: cite STYLE FORMAT BIB DOC [SECTION ..]"

abbrev pub style_text : List ℕ → List ℕ
style_text name = codes "unknown style " ++ name

abbrev pub format_text : List ℕ → List ℕ
format_text name = codes "unknown format " ++ name

-- what four words and further ones ask for; an unknown style is reported before an unknown format
abbrev pub job_with : List ℕ → List ℕ → List ℕ → List ℕ → List (List ℕ) → Result Job (List ℕ)
job_with style format bib document sections = do
  s ← ok_or (style_named style) (style_text style)
  f ← ok_or (format_named format) (format_text format)
  Ok (record { style = s; format = f; bib = bib; document = document; sections = sections })

-- what words ask for, or the message where they ask for nothing
abbrev pub job_of : List (Bor (List ℕ)) → Result Job (List ℕ)
job_of [] = Err usage_text
job_of (style ∷ []) = Err usage_text
job_of (style ∷ format ∷ []) = Err usage_text
job_of (style ∷ format ∷ bib ∷ []) = Err usage_text
job_of (style ∷ format ∷ bib ∷ document ∷ sections) = job_with style.now format.now bib.now document.now (map spelled sections)

-- the paths of the files that words ask for
abbrev pub asked_if : Bool → Bor (List ℕ) → Bor (List ℕ) → List (Bor (List ℕ))
asked_if true bib document = bib ∷ document ∷ []
asked_if false bib document = []

abbrev pub asked : List (Bor (List ℕ)) → List (Bor (List ℕ))
asked [] = []
asked (style ∷ []) = []
asked (style ∷ format ∷ []) = []
asked (style ∷ format ∷ bib ∷ []) = []
asked (style ∷ format ∷ bib ∷ document ∷ sections) = asked_if (is_ok (job_of (style ∷ format ∷ bib ∷ document ∷ sections))) bib document

-- the task of a job with the bytes of its document
abbrev pub task_in : Job → List ℕ → Task
task_in job document = record { document = document; context = context_of job.style english; sections = job.sections; format = job.format }

-- both files were read, and there is an output to be written of their bytes, of which this holds
abbrev pub ServesBytes : Job → Outcome → Outcome → (List ℕ → Type 0) → Type 0
ServesBytes job (Ok bib) (Ok document) P = Writes (IsVerdict bib (task_in job document)) P
ServesBytes job (Ok bib) (Err fault) P = ⊥
ServesBytes job (Err fault) document P = ⊥

-- words ask for a job, and there is an output to be written of its files, of which this holds
abbrev pub ServesJob : Reads → Result Job (List ℕ) → (List ℕ → Type 0) → Type 0
ServesJob read (Ok job) P = ServesBytes job (read job.bib) (read job.document) P
ServesJob read (Err message) P = ⊥

-- Words ask for a job, and there is an output of its files, of which this holds.
abbrev pub Serves : Reads → List (Bor (List ℕ)) → (List ℕ → Type 0) → Type 0
Serves read words P = ServesJob read (job_of words) P

-- a line: `cite: `, the message, a line feed
abbrev pub line : List ℕ → List ℕ
line message = programs.line (codes "cite") message

-- the message for a field that cannot be read: its entry's key and its name; each has a line
abbrev pub fault_message : Fault → List ℕ
fault_message f = codes "fields: " ++ (f.key ++ (codes ": " ++ f.field))

abbrev pub fault_lines : List Fault → List ℕ
fault_lines faults = flat_map (λ f. line (fault_message f)) faults

-- the message for a refusal
abbrev pub refusal_message : Refusal → List ℕ
refusal_message (fields_refused faults) = fault_lines faults
refusal_message other = line (refusal_text other)

-- the message for a file that cannot be read
abbrev pub path_text : List ℕ → List ℕ
path_text path = codes "cannot read " ++ path

-- Why a file is not served, and the message for it: it cannot be read. Where memory ran out, that is the message.
abbrev pub CannotRead : Outcome → List ℕ → List ℕ → Type 0
CannotRead (Ok bytes) path message = ⊥
CannotRead (Err Memory) path message = ⊥
CannotRead (Err Unreadable) path message = message ≡ line (path_text path)

-- Why bytes are not served: their verdict is a refusal.
abbrev pub IsRefused : List ℕ → Task → List ℕ → Type 0
IsRefused bib task message = (refusal : Refusal) × IsVerdict bib task (Err refusal) × (message ≡ refusal_message refusal)

-- Why a job is not served: the first file cannot be read; or it was read, and the second cannot be; or both were, and are refused.
abbrev pub IsBytesFault : Job → Outcome → Outcome → List ℕ → Type 0
IsBytesFault job (Err fault) d message = CannotRead (Err fault) job.bib message
IsBytesFault job (Ok b) (Err fault) message = CannotRead (Err fault) job.document message
IsBytesFault job (Ok b) (Ok d) message = IsRefused b (task_in job d) message

-- Why words are not served, and the message for it: they ask for no job, or it is not served.
abbrev pub IsJobFault : Reads → Result Job (List ℕ) → List ℕ → Type 0
IsJobFault read (Ok job) message = IsBytesFault job (read job.bib) (read job.document) message
IsJobFault read (Err text) message = message ≡ line text

abbrev pub IsFault : Reads → List (Bor (List ℕ)) → List ℕ → Type 0
IsFault read words message = IsJobFault read (job_of words) message

-- the text of a fault in the program
abbrev pub fault_text : RunFault → List ℕ
fault_text faults.Usage = usage_text
fault_text (faults.Style style) = style_text style.now
fault_text (faults.Format format) = format_text format.now
fault_text (faults.Path path) = path_text path.now
fault_text faults.Memory = codes "out of memory"

-- the message for it
abbrev pub message_of : RunFault → List ℕ
message_of fault = line (fault_text fault)

-- the message where `cite` refuses: of fields that cannot be read each in a line, of another error its text
abbrev pub error_message : CiteError → List ℕ
error_message (errors.Fields found) = fault_lines (map fault_view found.items)
error_message other = line (error_text other)

-- what is said where lines were made, or there was no memory for them
abbrev pub said : {E : Type 0} → Result (String Global) E → List ℕ
said (Ok lines) = string_bytes lines
said (Err error) = programs.no_memory (codes "cite")

-- there was no memory, or the output was not taken whole, or it is one of these faults
abbrev pub IsReason : (List ℕ → Type 0) → programs.Served → ℕ → ℕ → List ℕ → Type 0
IsReason Faults Served failed_before failed_after message = programs.IsReason (codes "cite") Faults Served failed_before failed_after message
