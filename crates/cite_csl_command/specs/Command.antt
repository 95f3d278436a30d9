-- The command line: which options there are, and what words ask for.
use Rattle.std.specs.Prelude.{ℕ, Bool, true, List, [], ◌++◌, codes, if◌then◌else◌, Option, Some, None, unwrap_or, Result, Ok}
use Rattle.std.specs.Option.{ok_or}
use Rattle.std.specs.Str.{bytes_eq}
use Rattle.laws.specs.Results.{◌>>=◌}
use Rattle.clap.specs.Words.{App, Rule, Row, new_app, new_rule, with_rule, first_of, all_of, one_of, matches_of}
use Rattle.clap.specs.declared.builder.action.ArgAction.TheVariants.{Set, Append, SetTrue}
use Rattle.programs.specs.Programs as programs
use Rattle.rendering_output.specs.declared.writing.BufWriteFormat.{BufWriteFormat}
use Rattle.rendering_output.specs.declared.writing.BufWriteFormat.TheVariants.{Plain, Html}

-- What words ask for: the paths of a style, of locales, of bib texts and of a document; the language that is asked for; the format; the
-- sections; and whether a style is refused that asks for what is not carried out.
pub record Asked : Type 0 where
  pub style : List ℕ
  pub locales : List (List ℕ)
  pub lang : Option (List ℕ)
  pub format : BufWriteFormat
  pub bibs : List (List ℕ)
  pub sections : List (List ℕ)
  pub is_strict : Bool
  pub document : List ℕ

-- an option with a value; one that may be given several times; a flag
abbrev pub valued : List ℕ → Rule
valued name = record (new_rule name) { long = Some name; action = Some Set }

abbrev pub repeated : List ℕ → Rule
repeated name = record (new_rule name) { long = Some name; action = Some Append }

abbrev pub flag : List ℕ → Rule
flag name = record (new_rule name) { long = Some name; action = Some SetTrue }

-- one that must be there
abbrev pub needed : Rule → Rule
needed r = record r { required = true }

-- what help calls a value
abbrev pub shown : Rule → Rule
shown r = record r { value_names = 1 }

-- the command, which has a version
abbrev pub versioned : App → App
versioned a = record a { top = record a.top { has_version = true } }

-- the path of the document
abbrev pub document : Rule
document = shown (needed (record (new_rule (codes "document")) { action = Some Set }))

-- the options that name files, and those that say what is written
abbrev pub with_files : App → App
with_files a =
    with_rule (with_rule (with_rule (with_rule a (needed (shown (valued (codes "style"))))) (shown (repeated (codes "locale")))) (needed (shown (repeated (codes "bib"))))) document

abbrev pub with_choices : App → App
with_choices a = with_rule (with_rule (with_rule (with_rule a (shown (valued (codes "lang")))) (shown (valued (codes "to")))) (shown (repeated (codes "section")))) (flag (codes "strict"))

abbrev pub cite_csl_app : App
cite_csl_app = with_choices (with_files (versioned (new_app (codes "cite_csl"))))

-- the format of a name; plain where none is said
abbrev pub format_named : List ℕ → Option BufWriteFormat
format_named name = if bytes_eq name (codes "plain") then Some Plain else (if bytes_eq name (codes "html") then Some Html else None)

abbrev pub format_text : List ℕ → List ℕ
format_text name = programs.line (codes "cite_csl") (codes "unknown format " ++ name)

abbrev pub format_in : Option (List ℕ) → Result BufWriteFormat (List ℕ)
format_in None = Ok Plain
format_in (Some name) = ok_or (format_named name) (format_text name)

-- the values of an option
abbrev pub values : List ℕ → List Row → List (List ℕ)
values id rows = unwrap_or (all_of id rows) []

abbrev pub value : List ℕ → List Row → List ℕ
value id rows = unwrap_or (first_of id rows) []

-- a flag is given
abbrev pub is_given : List ℕ → List Row → Bool
is_given id rows = bytes_eq (unwrap_or (one_of id rows) []) (codes "true")

-- what the matches of the command ask for in a format
abbrev pub asked_with : List Row → BufWriteFormat → Asked
asked_with rows format = record {
  style = value (codes "style") rows;
  locales = values (codes "locale") rows;
  lang = first_of (codes "lang") rows;
  format = format;
  bibs = values (codes "bib") rows;
  sections = values (codes "section") rows;
  is_strict = is_given (codes "strict") rows;
  document = value (codes "document") rows;
}

-- what they ask for, or the line for an unknown format
abbrev pub asked_in : List Row → Result Asked (List ℕ)
asked_in rows = format_in (first_of (codes "to") rows) >>= λ format. Ok (asked_with rows format)

-- what the words of a command line ask for, the name of the program first
abbrev pub asked_by : List (List ℕ) → Result Asked (List ℕ)
asked_by words = asked_in (matches_of cite_csl_app words)
