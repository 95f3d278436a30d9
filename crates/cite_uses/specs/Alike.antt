-- When a document has to do with alike works in two BibLaTeX files.
use Rattle.std.specs.Prelude.{◌≡◌, ◌<◌, ◌≤◌, ℕ, List, map, filter_map, Contains, Option, Some, None, Result, Ok}
use Rattle.std.specs.Borrow.{Bor}
use Rattle.std.specs.List.{AllByRecursion}
use Rattle.biblatex.specs.Bibliographies.{listed_view}
use Rattle.biblatex.specs.Listed.{Listed}
use Rattle.literature_entries.specs.EntriesData.{EntryData}
use Rattle.literature.specs.Holding.{holds_at}
use Rattle.literature.specs.Trees.{Tree}
use Rattle.literature.specs.Views.{selector_view}
use Rattle.interop.specs.Library.{key_of}
use Rattle.interop.specs.Views.{library_view}
use Rattle.rendering_entries.specs.Library.{answers_of}
use Rattle.rendering_nodes.specs.Named.{Named, AreAlike}
use Rattle.rendering_style.specs.Styles.{Style}
use Rattle.rendering.specs.Alike.{style_named}
use Rattle.rendering_alike.specs.Naming.{names_view}
use Rattle.cite_markers.specs.Document.{Piece}
use Rattle.cite_markers.specs.Marker.{Cite}
use Rattle.laws.specs.Text.{text}
use Rattle.cite_requests.specs.Markers.{names_cited}
use Rattle.cite_requests.specs.Stages.{Refusal, AreWorksOf, document_stage, section_stage}
use Rattle.cite.specs.Verdict.{Task, IsVerdict}
use Rattle.cite_requests.specs.Works as specs
use Rattle.cite_requests.specs.Works.{meaning}
use Rattle.cite_uses.specs.declared.alike.Asked.{Asked}
use Rattle.cite_uses.specs.declared.alike.Works.{Works}

-- a file that was read, and its library
abbrev pub works_view : Works → specs.Works
works_view w = record { file = listed_view w.file.now; library = library_view w.library.now }

-- the variables and kinds of which works are asked
abbrev pub asked_names : Asked → Named
asked_names a = names_view a.names.now

-- the selectors of the sections that may choose them
abbrev pub asked_selectors : Asked → List Tree
asked_selectors a = map selector_view a.sections.now

-- what a reference points to
abbrev pub now_of : Bor (List ℕ) → List ℕ
now_of k = k.now

-- the names of cites
abbrev pub names_of : List Cite → List (List ℕ)
names_of cites = map (λ c. text c.name) cites

-- Two works have one key, answer alike in all forms to what is named, and are chosen by the same selectors.
pub record AreAlikeWorks (named : Named) (selectors : List Tree) (work other : EntryData) : Type 0 where
  pub key : key_of work ≡ key_of other
  pub answers : AreAlike named (answers_of work) (answers_of other)
  pub sections : (s : Tree) → Contains selectors s → holds_at s work ≡ holds_at s other

-- a name means a work that is alike to this one
abbrev pub MeansAlikeTo : Named → List Tree → EntryData → specs.Works → List ℕ → Type 0
MeansAlikeTo named selectors work w name = (other : EntryData) × (meaning name w ≡ Some other) × AreAlikeWorks named selectors work other

-- a name means such works in two files
abbrev pub MeansAlikeWorks : Named → List Tree → specs.Works → specs.Works → List ℕ → Type 0
MeansAlikeWorks named selectors v w name = (work : EntryData) × (meaning name v ≡ Some work) × MeansAlikeTo named selectors work w name

-- each of these names does
abbrev pub MeanAlikeWorks : Named → List Tree → specs.Works → specs.Works → List (List ℕ) → Type 0
MeanAlikeWorks named selectors v w names = AllByRecursion (MeansAlikeWorks named selectors v w) names

-- the indices of the entries that a name means in both files, where it means one in both
abbrev pub both_indices : Option ℕ → Option ℕ → Option (ℕ × ℕ)
both_indices (Some i) (Some j) = Some (i, j)
both_indices (Some i) None = None
both_indices None o = None

-- the same of each of some names
abbrev pub indices_of : Listed → Listed → List (List ℕ) → List (ℕ × ℕ)
indices_of file other names = filter_map (λ n. both_indices (file.index n) (other.index n)) names

-- of two entries the one that stands first in one file does not stand last in the other
abbrev pub AreInOneOrder : List (ℕ × ℕ) → Type 0
AreInOneOrder ps = (p q : ℕ × ℕ) → Contains ps p → Contains ps q → p.0 < q.0 → p.1 ≤ q.1

-- Each name in the cites of a document means works in both files that are alike to a style and to selectors, and the entries that the names
-- mean stand in one order.
pub record HaveAlikeWorks (style : Style) (selectors : List Tree) (v w : specs.Works) (pieces : List Piece) : Type 0 where
  pub names : MeanAlikeWorks (style_named style) selectors v w (names_cited pieces)
  pub order : AreInOneOrder (indices_of v.file w.file (names_cited pieces))

-- the sections of a task are these, where they can be read
abbrev pub AskFor : List Tree → List (List ℕ) → Type 0
AskFor selectors sections = (read : List Tree) → section_stage sections ≡ Ok read → read ≡ selectors

-- Bib texts that come to these works give a document of these pieces the same output, or refuse it at the same stage with the same fault, in
-- the style and with the sections, whatever else is asked.
abbrev pub GiveOneVerdict : Style → List Tree → specs.Works → specs.Works → List Piece → Type 0
GiveOneVerdict style selectors v w pieces =
    (bib other : List ℕ) (task : Task) (answer : Result (List ℕ) Refusal)
    → AreWorksOf bib (Ok v) → AreWorksOf other (Ok w) → document_stage task.document ≡ Ok pieces
    → task.context.style ≡ style → AskFor selectors task.sections
    → IsVerdict bib task answer → IsVerdict other task answer
