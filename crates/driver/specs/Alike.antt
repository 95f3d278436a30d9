-- A document whose entries have other answers, and what its styles name of entries.
use Rattle.std.specs.Prelude.{ℕ, All, List, [], ◌∷◌, map}
use Rattle.std.specs.List.{flat_map}
use Rattle.rendering_entries.specs.Answers.{Answers}
use Rattle.rendering_nodes.specs.Named.{AreAlike, Named, joined_named}
use Rattle.rendering.specs.Alike.{style_named}
use Rattle.driver_requests.specs.Requests.{Item, Request}
use Rattle.driver_rounds.specs.Documents.{Document}

-- an item whose entry has the answers of its index
abbrev pub item_with : {P : Type 0} → (ℕ → Answers) → Item P → Item P
item_with answers i = record i { entry = record i.entry { answers = answers i.entry.index } }

-- a request whose entries have the answers of their indices
abbrev pub request_with : {P : Type 0} → (ℕ → Answers) → Request P → Request P
request_with answers r = record r { items = map (item_with answers) r.items }

-- The document where the entry at each index has these answers.
abbrev pub document_with : {P : Type 0} → (ℕ → Answers) → Document P → Document P
document_with answers d = record d { requests = map (request_with answers) d.requests }

-- what the styles of requests name
abbrev pub requests_named : {P : Type 0} → Named → List (Request P) → Named
requests_named named [] = named
requests_named named (r ∷ rs) = joined_named (style_named r.context.style) (requests_named named rs)

-- what any of the styles names
abbrev pub document_named : {P : Type 0} → Document P → Named
document_named d = requests_named (style_named d.bibliography_context.style) d.requests

-- the entry of an item answers alike to the answers of its index, in what is named
abbrev pub HasAlike : {P : Type 0} → Named → (ℕ → Answers) → Item P → Type 0
HasAlike named answers i = AreAlike named i.entry.answers (answers i.entry.index)

-- The answers at the index of each entry are alike to those that it has in a document, in what any of the styles names.
abbrev pub AreAlikeIn : {P : Type 0} → Document P → (ℕ → Answers) → Type 0
AreAlikeIn d answers = All (HasAlike (document_named d) answers) (flat_map (λ r. r.items) d.requests)
