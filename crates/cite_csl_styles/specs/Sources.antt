-- Files that were read, and lines that say why a text is refused at one of its bytes.
use Rattle.std.specs.Prelude.{ℕ, ◌+◌, ◌-◌, nat_lt, Bool, true, false, List, [], ◌∷◌, ◌++◌, length, map, flat_map, codes, if◌then◌else◌, Result, Ok, Err, ◌≡◌, ⊤}
use Rattle.std.specs.List.{list_any}
use Rattle.laws.specs.Characters.{line_feed}
use Rattle.laws.specs.Text.{is_filled}
use Rattle.programs.specs.Files.{Outcome}
use Rattle.programs.specs.Programs as programs
use Rattle.programs.specs.declared.files.ReadFault.TheVariants.{Memory, Unreadable}
use Rattle.fault_lines.specs.Messages.{fault_lines}
use Rattle.cite_csl_styles.specs.Stages.{Lines}

-- a line: the name of the program, what it says
abbrev pub line : List ℕ → Lines
line message = programs.line (codes "cite_csl") message

-- what reading gave for each path is a function of the path
abbrev pub Reads : Type 0
Reads = List ℕ → Outcome

-- a path and the bytes of its file
pub record SourceFile : Type 0 where
  pub path : List ℕ
  pub bytes : List ℕ

abbrev pub bytes_in : Outcome → List ℕ
bytes_in (Ok bytes) = bytes
bytes_in (Err fault) = []

abbrev pub file_at : Reads → List ℕ → SourceFile
file_at read path = record { path = path; bytes = bytes_in (read path) }

abbrev pub files_at : Reads → List (List ℕ) → List SourceFile
files_at read paths = map (file_at read) paths

-- a file that cannot be read, and one for which memory ran out
abbrev pub is_unreadable : Outcome → Bool
is_unreadable (Ok bytes) = false
is_unreadable (Err Unreadable) = true
is_unreadable (Err Memory) = false

abbrev pub lacks_memory : Outcome → Bool
lacks_memory (Ok bytes) = false
lacks_memory (Err Unreadable) = false
lacks_memory (Err Memory) = true

-- whether a file can be read, where memory did not run out
abbrev pub IsReadable : Outcome → Bool → Type 0
IsReadable (Ok bytes) b = b ≡ true
IsReadable (Err Unreadable) b = b ≡ false
IsReadable (Err Memory) b = ⊥

-- a line for each path that cannot be read
abbrev pub unread_line : Reads → List ℕ → Lines
unread_line read path = if is_unreadable (read path) then line (codes "cannot read " ++ path) else []

abbrev pub unread_lines : Reads → List (List ℕ) → Lines
unread_lines read paths = flat_map (unread_line read) paths

-- all of them were read, or these lines say which were not
abbrev pub AreRead : Reads → List (List ℕ) → Result ⊤ Lines → Type 0
AreRead read paths answer = (list_any (λ (p : List ℕ). lacks_memory (read p)) paths ≡ false)
    × (answer ≡ (if is_filled (unread_lines read paths) then Err (unread_lines read paths) else Ok tt))

-- lines that say why a file is refused where so many of its bytes are left
abbrev pub lines_left : SourceFile → ℕ → List ℕ → Lines
lines_left f left why = fault_lines f.path f.bytes (length f.bytes - left) why

-- the bytes of a file, and a line feed where another one follows
abbrev pub part_of : SourceFile → Bool → List ℕ
part_of f goes_on = f.bytes ++ (if goes_on then line_feed ∷ [] else [])

-- files that are read as one: their bytes one after the other, with a line feed between
abbrev pub joined : List SourceFile → List ℕ
joined [] = []
joined (f ∷ []) = f.bytes
joined (f ∷ g ∷ fs) = f.bytes ++ line_feed ∷ joined (g ∷ fs)

-- Lines that say why such a text is refused at a byte: in the file that has it, or that ends there.
abbrev pub lines_at : List SourceFile → ℕ → List ℕ → Lines
lines_at [] at why = line why
lines_at (f ∷ []) at why = fault_lines f.path f.bytes at why
lines_at (f ∷ g ∷ fs) at why = if nat_lt (length f.bytes) at then lines_at (g ∷ fs) (at - (length f.bytes + 1)) why else fault_lines f.path f.bytes at why
