-- Where the chunks of all fields are joined, they still are once an entry is resolved.
use Rattle.std.proofs.Common.{◌≡◌, ℕ, ◌<◌, Bool, true, false, List, [], ◌∷◌, ◌++◌, length, get_or, slice_get, set, Option, Some, None, option_map, ◌⊎◌, inl, inr, bytes_eq, codes, sym, subst}
use Rattle.std.specs.Prelude.{IfSome, if◌then◌else◌}
use Rattle.std.specs.List.{AllByRecursion}
use Rattle.std.proofs.lemmas.Option.{slice_get-map, slice_get-get_or}
use Rattle.biblatex_fields.specs.Fields.{value_named, IsJoined, AreJoined}
use Rattle.biblatex_entries.specs.Entries.{Source, source_view, sources_view, HaveJoinedFields}
use Rattle.biblatex_entries.specs.declared.entry.Entry.{Entry}
use Rattle.biblatex_inheritance.specs.Resolved.{Offer, own, resolved}
use Rattle.biblatex_inheritance.specs.Views.{IsTable, offer_in, offers_in}
use Rattle.biblatex_inheritance.proofs.ResolvedJoined.{IsJoinedTable, joined_resolved}
use Rattle.biblatex_inheritance.proofs.SolutionOrder.{number_is}
use Rattle.biblatex_inheritance.proofs.SolutionSteps.{slice_get-set_other, slice_get-set_same}

-- the same of entries in memory
abbrev IsJoinedEntry : Option Entry → Type 0
IsJoinedEntry o = IfSome o (λ e. AreJoined e.fields)

abbrev AreJoinedEntries : List Entry → Type 0
AreJoinedEntries es = (i : ℕ) → IsJoinedEntry (slice_get es i)

in_memory : (es : List Entry) → HaveJoinedFields (sources_view es) → AreJoinedEntries es
in_memory es all i = by_entry (slice_get es i) (subst (λ (o : Option Source). IfSome o (λ e. AreJoined e.fields)) (slice_get-map source_view es i) (all i))
  where
    by_entry : (o : Option Entry) → IfSome (option_map source_view o) (λ e. AreJoined e.fields) → IsJoinedEntry o
    by_entry None one = tt
    by_entry (Some e) one = one

from_memory : (es : List Entry) → AreJoinedEntries es → HaveJoinedFields (sources_view es)
from_memory es all i = subst (λ (o : Option Source). IfSome o (λ e. AreJoined e.fields)) (sym (slice_get-map source_view es i)) (by_entry (slice_get es i) (all i))
  where
    by_entry : (o : Option Entry) → IsJoinedEntry o → IfSome (option_map source_view o) (λ e. AreJoined e.fields)
    by_entry None one = tt
    by_entry (Some e) one = one

-- the values that references have to offer are joined
joined_offers : (es : List Entry) (rs : List ℕ) → AreJoinedEntries es → AllByRecursion (λ (o : Offer). IsJoinedTable o.fields) (offers_in es rs)
joined_offers es [] all = tt
joined_offers es (r ∷ rs) all = by_entry (slice_get es r) (all r) (joined_offers es rs all)
  where
    by_entry : (o : Option Entry) → IsJoinedEntry o → AllByRecursion (λ (o : Offer). IsJoinedTable o.fields) (offers_in es rs) → AllByRecursion (λ (o : Offer). IsJoinedTable o.fields) (offer_in r o ++ offers_in es rs)
    by_entry None one others = others
    by_entry (Some e) one others = (one, others)

joined_own : (e : Entry) → AreJoined e.fields → IsJoinedTable (own (source_view e))
joined_own e joined name = by_test (bytes_eq name (codes "xdata"))
  where
    by_test : (b : Bool) → IsJoined (if b then None else value_named name e.fields)
    by_test true = tt
    by_test false = joined name

joined_set : (old : List Entry) (n : ℕ) (rs : List ℕ) (d : Entry) → n < length old → IsTable d.fields (resolved (source_view (get_or old n d)) (offers_in old rs)) → AreJoinedEntries old → AreJoinedEntries (set old n d)
joined_set old n rs d low table all i = by_index (number_is i n)
  where
    there : AreJoined (get_or old n d).fields
    there = subst IsJoinedEntry (slice_get-get_or old n d low) (all n)

    fields : AreJoined d.fields
    fields name = subst IsJoined (sym (table name)) (joined_resolved (source_view (get_or old n d)) (offers_in old rs) (joined_own (get_or old n d) there) (joined_offers old rs all) name)

    by_index : (i ≡ n) ⊎ (i ≡ n → ⊥) → IsJoinedEntry (slice_get (set old n d) i)
    by_index (inl same) = subst (λ (k : ℕ). IsJoinedEntry (slice_get (set old n d) k)) (sym same) (subst IsJoinedEntry (sym (slice_get-set_same old n d low)) fields)
    by_index (inr apart) = subst IsJoinedEntry (sym (slice_get-set_other old n i d apart)) (all i)

-- with one more entry resolved, the chunks of all are still joined
pub joined_more : (old new : List Entry) (n : ℕ) (rs : List ℕ) (d : Entry) → n < length old → new ≡ set old n d → IsTable d.fields (resolved (source_view (get_or old n d)) (offers_in old rs)) → HaveJoinedFields (sources_view old)
    → HaveJoinedFields (sources_view new)
joined_more old new n rs d low is table all = from_memory new (subst AreJoinedEntries (sym is) (joined_set old n rs d low table (in_memory old all)))
