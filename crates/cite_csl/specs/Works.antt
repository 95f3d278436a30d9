-- The bib texts, which are read as one, and what is said where they are refused.
use Rattle.std.specs.Prelude.{◌≡◌, ℕ, ◌==◌, List, [], ◌++◌, codes, if◌then◌else◌, Option, Some, None, flat_map, Result, Ok, Err}
use Rattle.std.specs.List.{find}
use Rattle.std.specs.Option.{option_map}
use Rattle.std.specs.Str.{bytes_eq, chars}
use Rattle.std.specs.Str.Lossy.{utf8_valid_len}
use Rattle.laws.specs.Text.{text}
use Rattle.laws.specs.Results.{◌>>=◌}
use Rattle.biblatex.specs.Raw.{At, Entry, Raw}
use Rattle.biblatex.specs.Items.{raw_of}
use Rattle.biblatex.specs.Fault as raw
use Rattle.biblatex.specs.Errors.{reason_text}
use Rattle.biblatex.specs.Listed.{Listed}
use Rattle.biblatex.specs.Reading.{Reason, duplicate_key}
use Rattle.biblatex_typography.specs.Typography.{typographic_file}
use Rattle.interop.specs.Bridge.{Fault}
use Rattle.cite_requests.specs.Stages.{Refusal, bib_not_utf8, bib_refused, fields_refused, library_stage, IsRead}
use Rattle.cite_requests.specs.Refusals.{refusal_text}
use Rattle.cite_requests.specs.Works.{Works}
use Rattle.cite_csl_styles.specs.Sources.{SourceFile, line, joined, lines_at}
use Rattle.cite_csl_styles.specs.Stages.{Lines}

-- the entries of a text as they are written
abbrev pub written_entries : Result Raw (raw.Fault × ℕ) → List (At Entry)
written_entries (Ok r) = r.entries
written_entries (Err f) = []

-- the byte at which the key of the first entry of that key begins, if there is one
abbrev pub key_place : List ℕ → List (At Entry) → Option ℕ
key_place key es = option_map (λ (e : At Entry). e.v.key.start) (find (λ (e : At Entry). bytes_eq (text e.v.key.v) key) es)

abbrev pub place_in : List ℕ → List ℕ → Option ℕ
place_in key t = key_place key (written_entries (raw_of (chars t)))

-- lines at the key of the first entry that has it
abbrev pub key_lines : List SourceFile → List ℕ → Option ℕ → Lines
key_lines fs why None = line why
key_lines fs why (Some at) = lines_at fs at why

-- the first place of a key that another entry has too, which an alias may be
abbrev pub first_lines : List SourceFile → List ℕ → ℕ → Option ℕ → Lines
first_lines fs key second None = []
first_lines fs key second (Some at) = if at == second then [] else lines_at fs at (codes "first entry of the key " ++ key)

-- what is said of the second place of a key besides: where the first one is
abbrev pub besides : List SourceFile → ℕ → Reason → Lines
besides fs at (duplicate_key key) = first_lines fs key at (place_in key (joined fs))
besides fs at other = []

abbrev pub refused_at : List SourceFile → ℕ → Reason → Lines
refused_at fs at reason = lines_at fs at (reason_text reason) ++ besides fs at reason

-- lines for a date that cannot be read, at the key of its entry
abbrev pub date_lines : List SourceFile → List (At Entry) → Fault → Lines
date_lines fs es f = key_lines fs (codes "unreadable " ++ f.field) (key_place f.key es)

abbrev pub all_date_lines : List SourceFile → List ℕ → List Fault → Lines
all_date_lines fs t faults = flat_map (date_lines fs (written_entries (raw_of (chars t)))) faults

-- lines for the refusal of the bib texts
abbrev pub bib_lines : List SourceFile → Refusal → Lines
bib_lines fs bib_not_utf8 = lines_at fs (utf8_valid_len (joined fs)) (codes "not UTF-8")
bib_lines fs (bib_refused r) = refused_at fs r.start r.reason
bib_lines fs (fields_refused faults) = all_date_lines fs (joined fs) faults
bib_lines fs other = line (refusal_text other)

-- what a stage gives, or lines for its refusal
abbrev pub said_by : {X : Type 0} → (Refusal → Lines) → Result X Refusal → Result X Lines
said_by lines (Ok x) = Ok x
said_by lines (Err refusal) = Err (lines refusal)

-- the works of a file whose texts are as LaTeX prints them
abbrev pub typographic_stage : Listed → Result Works Refusal
typographic_stage file = library_stage (typographic_file file)

-- the works of the bib texts
abbrev pub AreWorks : List SourceFile → Result Works Lines → Type 0
AreWorks fs answer =
    (read : Result Listed Refusal) × IsRead (joined fs) read
    × (answer ≡ said_by (bib_lines fs) (read >>= typographic_stage))
