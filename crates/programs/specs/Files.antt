-- Files that were read.
use Rattle.std.specs.Global.{Global}
use Rattle.std.specs.Prelude.{◌≡◌, ℕ, List, [], ◌∷◌, map, if◌then◌else◌, Vec, Result, Ok, Err}
use Rattle.std.specs.Str.{bytes_eq}
use Rattle.std.specs.Borrow.{Bor}
use Rattle.programs.specs.declared.files.ReadFault.{ReadFault}
use Rattle.programs.specs.declared.files.ReadFault.TheVariants.{Unreadable}
use Rattle.programs.specs.declared.files.FileRead.{FileRead}

-- what reading gave: the bytes of a file, or why it was not read
abbrev pub Outcome : Type 0
Outcome = Result (List ℕ) ReadFault

-- a path, and what reading its file gave
pub record File : Type 0 where
  pub path : List ℕ
  pub outcome : Outcome

abbrev pub outcome_view : Result (Vec ℕ Global) ReadFault → Outcome
outcome_view (Ok bytes) = Ok bytes.items
outcome_view (Err fault) = Err fault

abbrev pub file_view : FileRead → File
file_view f = record { path = f.path.now; outcome = outcome_view f.bytes }

-- what reading gave for a path: that of its first file; where there is none, it cannot be read
abbrev pub outcome_at : List File → List ℕ → Outcome
outcome_at [] path = Err Unreadable
outcome_at (f ∷ fs) path = if bytes_eq f.path path then f.outcome else outcome_at fs path

abbrev pub read_at : List FileRead → List ℕ → Outcome
read_at files path = outcome_at (map file_view files) path

-- the bytes that are given are those, or the fault is
abbrev pub IsRead : Result (Bor (List ℕ)) ReadFault → Outcome → Type 0
IsRead (Ok bytes) outcome = outcome ≡ Ok bytes.now
IsRead (Err fault) outcome = outcome ≡ Err fault
