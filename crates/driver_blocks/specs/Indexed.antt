-- Blocks under the keys of their names; the flag says whether cites are gathered by the text.
use Rattle.std.specs.Global.{Global}
use Rattle.std.specs.Prelude.{◌≡◌, ℕ, ◌+◌, Bool, false, List, [], ◌∷◌, if◌then◌else◌, Option, None, Vec, String}
use Rattle.std.specs.BTreeMap.{BTreeMap, get_by_text}
use Rattle.std.specs.Option.{option_map, option_map_or}
use Rattle.std.specs.Str.{bytes_eq}
use Rattle.driver_blocks.specs.Blocks.{Gathered}
use Rattle.driver_blocks.specs.Key.{names_key}

-- the key of the names of a cite, where it prints names
abbrev pub key_of_names : {X : Type 0} → Bool → Gathered X → Option (List ℕ)
key_of_names by_text x = option_map (names_key by_text) x.names

-- the key of the names of the first cite of a block
abbrev pub block_key : {X : Type 0} → Bool → List (Gathered X) → Option (List ℕ)
block_key by_text [] = None
block_key by_text (x ∷ xs) = key_of_names by_text x

-- whether the names of a block have this key
abbrev pub has_key : {X : Type 0} → Bool → List ℕ → List (Gathered X) → Bool
has_key by_text q b = option_map_or (bytes_eq q) (block_key by_text b) false

-- the indices of blocks whose names have this key, where the first block has that number
abbrev pub indices_of : {X : Type 0} → Bool → List ℕ → ℕ → List (List (Gathered X)) → List ℕ
indices_of by_text q n [] = []
indices_of by_text q n (b ∷ bs) =
    let others = indices_of by_text q (n + 1) bs in
    if has_key by_text q b then n ∷ others else others

-- the indices under a key
abbrev pub under : BTreeMap (String Global) (Vec ℕ Global) → List ℕ → List ℕ
under table q = option_map_or (λ (v : Vec ℕ Global). v.items) (get_by_text table q) []

-- a map has under each key the indices of the blocks whose names have it
abbrev pub IsIndex :
    {X : Type 0} → Bool → BTreeMap (String Global) (Vec ℕ Global) → List (List (Gathered X)) → Type 0
IsIndex by_text table bs = (q : List ℕ) → under table q ≡ indices_of by_text q 0 bs
