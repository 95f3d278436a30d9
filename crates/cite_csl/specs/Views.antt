-- What the code has, without where it lies in memory.
use Rattle.std.specs.Prelude.{◌≡◌, ℕ, Bool, List, Option, string_bytes}
use Rattle.std.specs.Borrow.{Bor}
use Rattle.std.specs.BTreeMap.{BTreeMap, get_by}
use Rattle.std.specs.BTreeSet.{BTreeSet}
use Rattle.std.specs.Cmp.Lexicographic.{slice_cmp}
use Rattle.std.specs.Ordering.{nat_cmp}
use Rattle.biblatex.specs.Bibliographies.{listed_view}
use Rattle.biblatex.specs.Raw.{At, Entry}
use Rattle.interop.specs.Views.{library_view}
use Rattle.cite_output.specs.Pieces.{output_of}
use Rattle.cite_requests.specs.Cited.{works_of}
use Rattle.cite_requests.specs.Views.{has}
use Rattle.cite_requests.specs.Works as works
use Rattle.cite_csl.specs.Run as run
use Rattle.cite_csl.specs.Works.{key_place}
use Rattle.cite_csl.specs.declared.entries.Entries.{Entries}
use Rattle.cite_csl.specs.declared.making.Made.{Made}
use Rattle.cite_csl.specs.declared.named.Works.{Works}

-- the works of bib texts that were read
abbrev pub works_view : Entries → works.Works
works_view e = works_of (listed_view e.file)

-- the entries of a file with the library of those that are needed
abbrev pub cited_view : Works → works.Works
cited_view w = record { file = listed_view w.entries.now.file; library = library_view w.library.now }

abbrev pub made_view : Made → run.Made
made_view m = record { output = output_of m.output; told = string_bytes m.told }

-- a set of texts has one that is the same
abbrev pub has_key : BTreeSet (Bor (List ℕ)) → List ℕ → Bool
has_key keys t = has keys (record { ref_ptr = (0, 0); now = t })

-- what is kept for a key
abbrev pub kept_at : BTreeMap (Bor (List ℕ)) ℕ → List ℕ → Option ℕ
kept_at places key = get_by (λ k. slice_cmp nat_cmp key k.now) places

-- for each key of entries it is kept where it begins at the first entry that has it
abbrev pub ArePlaces : BTreeMap (Bor (List ℕ)) ℕ → List (At Entry) → Type 0
ArePlaces places entries = (key : List ℕ) → kept_at places key ≡ key_place key entries
