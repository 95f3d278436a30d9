-- Bib texts that say the same of all that a document reaches are alike for it.
use Rattle.std.proofs.Common.{◌≡◌, ℕ, List, sym, ◌∙◌}
use Rattle.std.specs.Prelude.{Contains}
use Rattle.std.specs.List.{AllByRecursion}
use Rattle.std.specs.Str.{chars}
use Rattle.std.proofs.lemmas.List.Elements.{All-contains_itself, All-weaker, recursion_from_All}
use Rattle.biblatex.specs.Listed.{Listed, entry_named}
use Rattle.biblatex_laws.specs.Files.{IsFileOf}
use Rattle.biblatex_laws.specs.Reached.{MeansTheSame, SayTheSameOf}
use Rattle.biblatex_laws.proofs.LoadedKeys.{AreApart, heads_apart, loaded_apart}
use Rattle.biblatex_laws.proofs.ReachedAlike.{alike_there}
use Rattle.cite_requests.specs.Markers.{names_cited}
use Rattle.cite.specs.Verdict.{Task}
use Rattle.cite_requests.specs.Works.{Works, MeansOneWork}
use Rattle.cite.proofs.SameMarkers.{same_alike, same_markers as markers_same}
use Rattle.cite_laws.specs.Local.{AreRead, ReachedEntriesDecide}
use Rattle.cite_laws.proofs.WorksMeant.{meaning_is, works_same}

pub file_apart : (cs : List ℕ) (file resolved : Listed) → IsFileOf cs file resolved → AreApart resolved.entries
file_apart cs file resolved h =
    heads_apart file.entries resolved.entries (sym h.resolves.heads) (loaded_apart h.glossary h.raw.entries (record { listed = file; keys = h.keys }) h.entries)

module _ (bib other : List ℕ) (task : Task) (r : AreRead bib other task) (same : SayTheSameOf (names_cited r.asked.pieces) r.file r.other_file) where
  abbrev one : Works
  one = r.first.works

  abbrev two : Works
  two = r.second.works

  one_work : (name : List ℕ) → Contains (names_cited r.asked.pieces) name → MeansOneWork one two name
  one_work name has =
      let means : MeansTheSame one.file two.file name =
      alike_there (names_cited r.asked.pieces) r.file r.other_file one.file two.file r.loaded.resolves r.other_loaded.resolves same name (0, has) in
      meaning_is bib one r.first.read (file_apart (chars bib) r.file one.file r.loaded) name
      ∙ works_same (entry_named name one.file) (entry_named name two.file) means
      ∙ sym (meaning_is other two r.second.read (file_apart (chars other) r.other_file two.file r.other_loaded) name)

  each_work : AllByRecursion (MeansOneWork one two) (names_cited r.asked.pieces)
  each_work =
      let names : List (List ℕ) = names_cited r.asked.pieces in
      recursion_from_All (MeansOneWork one two) names (All-weaker (Contains names) (MeansOneWork one two) one_work names (All-contains_itself names))

  pub same_markers : r.first.markers ≡ r.second.markers
  same_markers = markers_same bib other task r.asked r.first r.second each_work

pub reached_decide : ReachedEntriesDecide
reached_decide bib other task r same order = same_alike bib other task r.asked r.first r.second (each_work bib other task r same) order
