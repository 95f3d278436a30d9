-- The style that is asked for, and its locales.
use Rattle.std.specs.Prelude.{◌≡◌, ◌⊎◌, ℕ, Bool, true, false, not, ◌==◌, List, [], ◌∷◌, ◌++◌, codes, if◌then◌else◌, Option, Some, None, is_some, option_and_then, unwrap_or, Result, Ok, Err}
use Rattle.std.specs.List.{slice_split}
use Rattle.std.specs.Str.{chars, is_utf8}
use Rattle.std.specs.Str.Lossy.{utf8_valid_len}
use Rattle.laws.specs.Characters.{slash}
use Rattle.xml_tree.specs.Trees.{Element, Content, Last, Next}
use Rattle.xml_tree.specs.Grammar.{Spells}
use Rattle.xml_schema.specs.Faults.{left_at}
use Rattle.rendering_locale.specs.Locales.{Locale}
use Rattle.rendering_style.specs.Styles.{Style}
use Rattle.fault_lines.specs.Messages.{fault_lines}
use Rattle.csl_locales.specs.Locales.{locale}
use Rattle.csl_styles.specs.Faults.{faults}
use Rattle.csl_styles.specs.Files.{Csl, Dependent, Independent, Localized, meaning}
use Rattle.csl_styles.specs.Information.{parent_address}
use Rattle.csl_words.specs.Elements.{content_in, part_called}
use Rattle.csl_words.specs.Looking.{says}
use Rattle.csl_styles.specs.Reading.{Refusal, IsAnswered, IsRefused}
use Rattle.csl_features.specs.Features.{Feature, features}
use Rattle.sorting_styles.specs.Styles.{sorting_style}
use Rattle.cite_styles.specs.English.{english}
use Rattle.cite_csl_styles.specs.CslLines.{refusal_text, refusal_left}
use Rattle.cite_csl_styles.specs.Sources.{Reads, SourceFile, file_at, is_unreadable, lines_left}
use Rattle.cite_csl_styles.specs.Stages.{Lines, Then, Gives, Each}

-- what a file of CSL was found to be: the root of its tree, and its meaning
pub record Found : Type 0 where
  pub file : SourceFile
  pub root : Element
  pub means : Csl

-- a file means something: it spells a tree without a fault that means it, and its style is not refused
pub record IsFound (f : Found) : Type 0 where
  pub is_text : is_utf8 f.file.bytes ≡ true
  pub spelled : Spells f.root (chars f.file.bytes)
  pub sound : faults f.root ≡ []
  pub meant : meaning f.root ≡ f.means
  pub answered : IsAnswered f.means None

-- a file means nothing: its bytes are no text, or that is refused
pub record IsTextRefused (file : SourceFile) (lines : Lines) : Type 0 where
  pub refusal : Refusal
  pub is_text : is_utf8 file.bytes ≡ true
  pub refused : IsRefused (chars file.bytes) refusal
  pub said : lines ≡ lines_left file (refusal_left refusal) (refusal_text refusal)

abbrev pub IsNoText : SourceFile → Lines → Type 0
IsNoText file lines = (is_utf8 file.bytes ≡ false) × (lines ≡ fault_lines file.path file.bytes (utf8_valid_len file.bytes) (codes "not UTF-8"))

abbrev pub IsCslRead : SourceFile → Result Found Lines → Type 0
IsCslRead file (Ok f) = (f.file ≡ file) × IsFound f
IsCslRead file (Err lines) = IsNoText file lines ⊎ IsTextRefused file lines

-- the root of a file: its text spells it, and it has no fault, whatever it means; the file may mean nothing
abbrev pub IsRootOf : SourceFile → Result Element Lines → Type 0
IsRootOf file (Ok x) = (is_utf8 file.bytes ≡ true) × Spells x (chars file.bytes) × (faults x ≡ [])
IsRootOf file (Err lines) = IsNoText file lines ⊎ IsTextRefused file lines

-- A style that is found: where it was read; the words of terms that no list has; the language that a dependent style is for. What it asks for and
-- is not carried out is by its tree.
pub record Sheet : Type 0 where
  pub file : SourceFile
  pub root : Element
  pub words : List (List ℕ)
  pub style : Style
  pub lang : Option (List ℕ)

-- whether the particles of names go behind given names where names are sorted: unless the style says that they never do
abbrev pub demotes : Element → Bool
demotes root = not (says (codes "demote-non-dropping-particle") (codes "never") root)

-- the style by which the keys of a style print
abbrev pub sorting_of : Sheet → Style
sorting_of s = sorting_style (demotes s.root) s.style

-- lines at the start-tag of the root
abbrev pub root_lines : Found → List ℕ → Lines
root_lines f why = lines_left f.file (left_at f.root) why

-- the directory of a path: what stands up to its last slash
abbrev pub directory_after : List ℕ → List (List ℕ) → List ℕ
directory_after part [] = []
directory_after part (p ∷ ps) = part ++ (slash ∷ directory_after p ps)

abbrev pub directory_of : List (List ℕ) → List ℕ
directory_of [] = []
directory_of (p ∷ ps) = directory_after p ps

abbrev pub directory : List ℕ → List ℕ
directory path = directory_of (slice_split (λ b. b == slash) path)

-- where the parent of a dependent style may lie: beside it, or one folder up
abbrev pub beside : List ℕ → List ℕ → List ℕ
beside path name = directory path ++ (name ++ codes ".csl")

abbrev pub above : List ℕ → List ℕ → List ℕ
above path name = directory path ++ (codes "../" ++ (name ++ codes ".csl"))

abbrev pub Paths : Type 0
Paths = List ℕ × List ℕ

-- where the parent of a file may lie, if it is a dependent style
abbrev pub parents_by : List ℕ → Csl → Option Paths
parents_by path (Dependent name lang) = Some (beside path name, above path name)
parents_by path (Independent words s) = None
parents_by path (Localized words l) = None

abbrev pub parents_of : Found → Option Paths
parents_of f = parents_by f.file.path f.means

abbrev pub parents_if : Result Found Lines → Option Paths
parents_if (Ok f) = parents_of f
parents_if (Err lines) = None

-- the first of them that can be read
abbrev pub readable : Reads → Paths → Option (List ℕ)
readable read ps = if is_unreadable (read ps.0) then (if is_unreadable (read ps.1) then None else Some ps.1) else Some ps.0

-- where the link to the parent begins
abbrev pub link_in : Content → Option ℕ
link_in (Last t) = None
link_in (Next t e c) = if is_some (parent_address e) then Some (left_at e) else link_in c

abbrev pub parent_left : Element → ℕ
parent_left root = unwrap_or (option_and_then (λ (info : Element). link_in (content_in info)) (part_called (codes "info") root)) (left_at root)

abbrev pub orphan_text : List ℕ → List ℕ
orphan_text name = codes "the parent style " ++ (name ++ codes " is neither beside it nor one folder up")

abbrev pub orphan_lines : SourceFile → Element → List ℕ → Lines
orphan_lines file root name = lines_left file (parent_left root) (orphan_text name)

-- the style of a file that has one by itself, for the language of a dependent style, if there is one
abbrev pub own_sheet : Option (List ℕ) → Found → Csl → Result Sheet Lines
own_sheet lang f (Independent words s) = Ok (record { file = f.file; root = f.root; words = words; style = s; lang = lang })
own_sheet lang f (Dependent parent default) = Err (root_lines f (codes "a dependent style is no parent"))
own_sheet lang f (Localized words l) = Err (root_lines f (codes "a locale is no style"))

-- the style of a parent that lies at this path, or that is not there
abbrev pub IsParentAt : Reads → SourceFile → Element → List ℕ → Option (List ℕ) → Option (List ℕ) → Result Sheet Lines → Type 0
IsParentAt read file root name lang None answer = answer ≡ Err (orphan_lines file root name)
IsParentAt read file root name lang (Some path) answer = Then (IsCslRead (file_at read path)) (λ (p : Found). Gives (own_sheet lang p p.means)) answer

-- the style of a file: its own, or that of its parent
abbrev pub IsSheetOf : Reads → Found → Csl → Result Sheet Lines → Type 0
IsSheetOf read f (Dependent name lang) answer = IsParentAt read f.file f.root name lang (readable read (beside f.file.path name, above f.file.path name)) answer
IsSheetOf read f (Independent words s) answer = answer ≡ own_sheet None f (Independent words s)
IsSheetOf read f (Localized words l) answer = answer ≡ own_sheet None f (Localized words l)

-- the style at a path
abbrev pub IsSheet : Reads → List ℕ → Result Sheet Lines → Type 0
IsSheet read path = Then (IsCslRead (file_at read path)) (λ (f : Found). IsSheetOf read f f.means)

-- where the parent of the style at a path may lie: nowhere where that is not one of CSL
abbrev pub ParentsAt : Reads → List ℕ → Option Paths → Type 0
ParentsAt read path ps = (found : Result Found Lines) × IsCslRead (file_at read path) found × (ps ≡ parents_if found)

-- a locale by the words of a style; nothing else is one
abbrev pub locale_in : List (List ℕ) → Found → Csl → Result Locale Lines
locale_in words f (Localized own l) = Ok (locale words f.root)
locale_in words f (Independent own s) = Err (root_lines f (codes "a style is no locale"))
locale_in words f (Dependent parent default) = Err (root_lines f (codes "a style is no locale"))

abbrev pub IsLocale : List (List ℕ) → SourceFile → Result Locale Lines → Type 0
IsLocale words file = Then (IsCslRead file) (λ (f : Found). Gives (locale_in words f f.means))

-- all locales; English where none is asked for
abbrev pub AreLocales : List (List ℕ) → List SourceFile → Result (List Locale) Lines → Type 0
AreLocales words [] answer = answer ≡ Ok (english ∷ [])
AreLocales words (f ∷ fs) answer = Each (IsLocale words) (f ∷ fs) answer

-- what a style asks for and is not carried out
abbrev pub features_in : Sheet → List Feature
features_in s = features s.root
