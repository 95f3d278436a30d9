-- Keys that are the same.
use Rattle.std.specs.Prelude.{◌≡◌, ℕ, Bool, List, count_by}
use Rattle.std.specs.Borrow.{Bor}
use Rattle.std.specs.BTreeMap.{BTreeMap}
use Rattle.std.specs.Map.{lookup}
use Rattle.std.specs.Option.{unwrap_or}
use Rattle.driver_requests.specs.Indices.{index_in}
use Rattle.driver_names.specs.declared.same_keys.Tally.{Tally}
use Rattle.driver_names.specs.declared.same_keys.Tally.TheVariants as tallies

-- how often a map says that a key occurs
abbrev pub counted : {K : Type 0} → (K → K → Bool) → BTreeMap K ℕ → K → ℕ
counted same counts key = unwrap_or (lookup (same key) counts.entries) 0

-- a map has the index of each key among some
abbrev pub IsIndex : {K : Type 0} → (K → K → Bool) → BTreeMap (Bor K) ℕ → List K → Type 0
IsIndex {K} same index ks = (k : Bor K) → lookup (λ (o : Bor K). same k.now o.now) index.entries ≡ index_in (same k.now) ks

-- how often a tally says that a key occurs
abbrev pub tallied : {K : Type 0} → (K → K → Bool) → Tally K → K → ℕ
tallied same (tallies.Few keys) key = count_by (same key) keys.items
tallied same (tallies.Many counts) key = counted same counts key

-- a tally says how often each key occurs
abbrev pub IsTally : {K : Type 0} → (K → K → Bool) → Tally K → List K → Type 0
IsTally {K} same tally keys = (q : K) → tallied same tally q ≡ count_by (same q) keys
