-- Works that a library lists, and entries whose works it lists.
use Rattle.std.proofs.Common.{◌≡◌, All, List, [], ◌∷◌, ◌++◌, map, filter, sym, ap, subst, ◌∙◌}
use Rattle.std.proofs.lemmas.List.Elements.{All-nil, All-cons, All-head, All-tail, All-append}
use Rattle.literature_entries.specs.EntriesData.{EntryData, entry_view}
use Rattle.literature_entries.specs.declared.entry.Entry.{Entry}
use Rattle.literature_entries.specs.contracts.entry.EntryPartialEq.TheImpl as entry
use Rattle.literature.specs.Trees.{Tree}
use Rattle.driver_requests.specs.CitedEntries.{once}
use Rattle.cite_requests.specs.Sections.{chosen}
use Rattle.cite_requests.specs.Works.{is_same}
use Rattle.cite_requests.proofs.EntriesIndices.{AreListedWorks, same_is}
use Rattle.cite_requests.proofs.KeyLists.{once_mapped}
use Rattle.cite.proofs.DocumentAsked.{chosen_works_listed}
use Rattle.cite_order.specs.Listed.{IsListed, AreListed}
use Rattle.cite_order.proofs.OnceAgreed.{once_agrees}

module _ (library : List EntryData) where
  -- both ways to say that works are listed
  pub listed_each : (ws : List EntryData) → AreListed library ws → AreListedWorks library ws
  listed_each [] h = tt
  listed_each (w ∷ ws) h = (All-head (IsListed library) w ws h, listed_each ws (All-tail (IsListed library) w ws h))

  pub listed_all : (ws : List EntryData) → AreListedWorks library ws → AreListed library ws
  listed_all [] h = All-nil (IsListed library)
  listed_all (w ∷ ws) h = All-cons (IsListed library) w ws h.0 (listed_all ws h.1)

  -- the work of an entry is listed
  abbrev pub IsListedEntry : Entry → Type 0
  IsListedEntry e = IsListed library (entry_view e)

  pub entries_listed : (es : List Entry) → AreListed library (map entry_view es) → All IsListedEntry es
  entries_listed [] h = All-nil IsListedEntry
  entries_listed (e ∷ es) h =
      All-cons IsListedEntry e es (All-head (IsListed library) (entry_view e) (map entry_view es) h) (entries_listed es (All-tail (IsListed library) (entry_view e) (map entry_view es) h))

  -- entries once each are works once each
  pub once_viewed : (es : List Entry) → All IsListedEntry es → map entry_view (once entry.ghosts.eq es) ≡ once is_same (map entry_view es)
  once_viewed es h =
      ap (map entry_view) (once_agrees IsListedEntry entry.ghosts.eq (λ a b. is_same (entry_view a) (entry_view b)) (λ a b p q. same_is library a b p q) es h) ∙ once_mapped entry_view is_same es

  -- the works that selectors choose of listed ones are listed
  pub chosen_listed : (selectors : List Tree) (ws : List EntryData) → AreListed library ws → AreListed library (chosen selectors ws)
  chosen_listed selectors ws h = listed_all (chosen selectors ws) (chosen_works_listed library selectors ws (listed_each ws h))
