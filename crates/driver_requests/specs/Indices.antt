-- Indices of entries, while they are read one after the other.
use Rattle.std.specs.Prelude.{◌≡◌, ◌<◌, ℕ, Bool, true, length, get_or, nat_eq, nat_lt, if◌then◌else◌, List, [], ◌∷◌, ◌++◌, fold, map, Vec, Option, Some, None}
use Rattle.std.specs.List.{list_any, position_or_len}

-- entries with one appended, unless it is there
abbrev pub pushed : {T : Type 0} → (T → T → Bool) → List T → T → List T
pushed same es e = if list_any (same e) es then es else es ++ e ∷ []

-- entries with others appended one after the other, each unless it is there
abbrev pub grown : {T : Type 0} → (T → T → Bool) → List T → List T → List T
grown same es more = fold (pushed same) es more

-- indices with one appended that is below the count, unless it is there
abbrev pub put_last : ℕ → List ℕ → ℕ → List ℕ
put_last count es index = if nat_lt index count then pushed nat_eq es index else es

-- the index of the first that passes, where one does
abbrev pub index_in : {T : Type 0} → (T → Bool) → List T → Option ℕ
index_in test es = if list_any test es then Some (position_or_len test es) else None

-- indices, request by request
abbrev pub runs : {A : Type 0} → List (Vec ℕ A) → List (List ℕ)
runs {A} vs = map (λ (v : Vec ℕ A). v.items) vs

-- the indices of entries among some
abbrev pub indices_in : {T : Type 0} → (T → T → Bool) → List T → List T → List ℕ
indices_in same all es = map (λ e. position_or_len (same e) all) es

-- a list says of each index below its length whether it is among some
abbrev pub AreMarked : List Bool → List ℕ → Type 0
AreMarked stands indices = (q : ℕ) → q < length stands → get_or stands q true ≡ list_any (nat_eq q) indices
