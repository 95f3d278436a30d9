-- What the program writes and says.
use Rattle.std.specs.Prelude.{◌≡◌, ℕ, Bool, true, false, ◌||◌, ◌⊎◌, List, [], ◌∷◌, ◌++◌, Option, Some, None, is_some, Ok, Err, codes, string_bytes, if◌then◌else◌}
use Rattle.std.specs.Str.{bytes_eq, chars, is_utf8}
use Rattle.std.specs.Borrow.{Bor}
use Rattle.programs.specs.Files.{Outcome}
use Rattle.programs.specs.Programs.{line, no_memory, not_written}
use Rattle.programs.specs.declared.files.ReadFault.TheVariants.{Memory, Unreadable}
use Rattle.biblatex.specs.Listed.{Listed}
use Rattle.biblatex.specs.Resolved.{TextMeans}
use Rattle.biblatex_writing.specs.Flat.{flat}
use Rattle.biblatex_writing.specs.Settled.{is_settled}
use Rattle.biblatex_writing.specs.Written.{written_file}
use Rattle.bib_show.specs.Shown.{shown, AreAllInOrder}
use Rattle.bib_show.specs.Refusals.{IsSourceFault}
use Rattle.bib_show.specs.Unsettled.{IsUnsettled}
use Rattle.bib_show.specs.declared.program.Form.{Form}
use Rattle.bib_show.specs.declared.program.Form.TheVariants as forms
use Rattle.bib_show.specs.declared.program.RunFault.{RunFault}
use Rattle.bib_show.specs.declared.program.RunFault.TheVariants as faults

-- an option is a word that asks for a text of the program's own, or for another form of a file's entries, and names no file
abbrev pub help_text : List ℕ
help_text =
    codes "usage: bib_show [--flat] FILE\n"
    ++ codes "       bib_show --help | --version\n"
    ++ codes "\n"
    ++ codes "Shows the entries of the BibLaTeX file FILE, their references resolved: for each\n"
    ++ codes "entry a line with its type and its key, and a line for each of its fields. With\n"
    ++ codes "--flat it writes them as a BibLaTeX file without crossref and xdata, if none has\n"
    ++ codes "aliases (ids) and each field reads back. Of a file that is refused it shows the\n"
    ++ codes "line and the column of the first fault.\n"
    ++ codes "\n"
    ++ codes "Exit status: 0 if everything was written to standard output, else 1; then\n"
    ++ codes "standard error says why.\n"

abbrev pub version_text : List ℕ
version_text = codes "bib_show 0.1.0\n"

abbrev pub information : List ℕ → Option (List ℕ)
information word = if bytes_eq word (codes "--help") then Some help_text else (if bytes_eq word (codes "--version") then Some version_text else None)

-- the option by which a file's entries are written as a file without references
abbrev pub is_flat : List ℕ → Bool
is_flat word = bytes_eq word (codes "--flat")

abbrev pub is_option : List ℕ → Bool
is_option word = is_flat word || is_some (information word)

-- the paths of the files that words ask for: the one word, unless it is an option; or the one after `--flat`
abbrev pub asked : List (Bor (List ℕ)) → List (Bor (List ℕ))
asked [] = []
asked (word ∷ []) = if is_option word.now then [] else word ∷ []
asked (word ∷ path ∷ []) = if is_flat word.now then path ∷ [] else []
asked (word ∷ path ∷ more ∷ words) = []

-- what is shown of a text that means entries: those entries, their references resolved, their fields in the order of names
pub record IsShownOf (source output : List ℕ) : Type 0 where
  pub resolved : Listed
  pub is_text : is_utf8 source ≡ true
  pub means : TextMeans (chars source) (Ok resolved)
  pub in_order : AreAllInOrder resolved.entries
  pub output_is : output ≡ shown resolved.entries

-- what is written of a text that means entries: these without references, as a file, where they are settled
pub record IsFlatOf (source output : List ℕ) : Type 0 where
  pub resolved : Listed
  pub is_text : is_utf8 source ≡ true
  pub means : TextMeans (chars source) (Ok resolved)
  pub settled : is_settled (flat resolved.entries) ≡ true
  pub output_is : output ≡ written_file (flat resolved.entries)

abbrev pub IsOutputOf : Form → List ℕ → List ℕ → Type 0
IsOutputOf forms.Shown source output = IsShownOf source output
IsOutputOf forms.Flat source output = IsFlatOf source output

-- What is to be written: of a file that was read, its bytes in the form; for a word, the text that it asks for, or else what is shown of the
-- file at that path; for words, that of the one, or the file at the second one after `--flat`.
abbrev pub IsFileOutput : Form → Outcome → List ℕ → Type 0
IsFileOutput form (Ok source) output = IsOutputOf form source output
IsFileOutput form (Err fault) output = ⊥

abbrev pub IsWordOutput : Option (List ℕ) → Outcome → List ℕ → Type 0
IsWordOutput (Some text) read output = output ≡ text
IsWordOutput None read output = IsFileOutput forms.Shown read output

abbrev pub IsLoneOutput : Bool → Option (List ℕ) → Outcome → List ℕ → Type 0
IsLoneOutput true text read output = ⊥
IsLoneOutput false text read output = IsWordOutput text read output

abbrev pub IsFlatOutput : Bool → Outcome → List ℕ → Type 0
IsFlatOutput true read output = IsFileOutput forms.Flat read output
IsFlatOutput false read output = ⊥

abbrev pub IsOutput : (List ℕ → Outcome) → List (Bor (List ℕ)) → List ℕ → Type 0
IsOutput read [] output = ⊥
IsOutput read (word ∷ []) output = IsLoneOutput (is_flat word.now) (information word.now) (read word.now) output
IsOutput read (word ∷ path ∷ []) output = IsFlatOutput (is_flat word.now) (read path.now) output
IsOutput read (word ∷ path ∷ more ∷ words) output = ⊥

-- some output is to be written, and this holds of it
abbrev pub Serves : (List ℕ → Outcome) → List (Bor (List ℕ)) → (List ℕ → Type 0) → Type 0
Serves read words P = (output : List ℕ) × IsOutput read words output × P output

abbrev pub usage : List ℕ
usage = line (codes "bib_show") (codes "usage: bib_show [--flat] FILE")

-- bytes that are refused; or a text whose entries are not written without references, since they would not read back
abbrev pub IsUnsettledIn : Form → List ℕ → List ℕ → List ℕ → Type 0
IsUnsettledIn forms.Shown path source message = ⊥
IsUnsettledIn forms.Flat path source message = IsUnsettled path source message

abbrev pub IsFaultOf : Form → List ℕ → List ℕ → List ℕ → Type 0
IsFaultOf form path source message = IsSourceFault path source message ⊎ IsUnsettledIn form path source message

-- Why nothing is to be written, and the message for it: a file cannot be read, or there is no such form of its bytes; an option alone is no
-- fault, but `--flat` is; there is neither one word nor `--flat` and another one. Where memory ran out, that is the message.
abbrev pub IsFileFault : Form → List ℕ → Outcome → List ℕ → Type 0
IsFileFault form path (Ok source) message = IsFaultOf form path source message
IsFileFault form path (Err Unreadable) message = message ≡ line (codes "bib_show") (codes "cannot read " ++ path)
IsFileFault form path (Err Memory) message = ⊥

abbrev pub IsWordFault : Option (List ℕ) → List ℕ → Outcome → List ℕ → Type 0
IsWordFault (Some text) path read message = ⊥
IsWordFault None path read message = IsFileFault forms.Shown path read message

abbrev pub IsLoneFault : Bool → Option (List ℕ) → List ℕ → Outcome → List ℕ → Type 0
IsLoneFault true text path read message = message ≡ usage
IsLoneFault false text path read message = IsWordFault text path read message

abbrev pub IsFlatFault : Bool → List ℕ → Outcome → List ℕ → Type 0
IsFlatFault true path read message = IsFileFault forms.Flat path read message
IsFlatFault false path read message = message ≡ usage

abbrev pub IsFault : (List ℕ → Outcome) → List (Bor (List ℕ)) → List ℕ → Type 0
IsFault read [] message = message ≡ usage
IsFault read (word ∷ []) message = IsLoneFault (is_flat word.now) (information word.now) word.now (read word.now) message
IsFault read (word ∷ path ∷ []) message = IsFlatFault (is_flat word.now) path.now (read path.now) message
IsFault read (word ∷ path ∷ more ∷ words) message = message ≡ usage

-- the message for a fault in the program
abbrev pub message_of : RunFault → List ℕ
message_of faults.Usage = usage
message_of (faults.Path path) = line (codes "bib_show") (codes "cannot read " ++ path.now)
message_of faults.Memory = no_memory (codes "bib_show")
message_of faults.Write = not_written (codes "bib_show")
message_of (faults.Refused lines) = string_bytes lines
