-- The works that entries are part of, and questions asked of one entry after the other.
use Rattle.std.specs.Prelude.{◌≡◌, ℕ, zero, suc, max, List, [], ◌∷◌, ◌++◌, map, Option, Some, None}
use Rattle.std.specs.List.{flat_map}
use Rattle.std.specs.Borrow.{Bor}
use Rattle.std.specs.Option.{option_or}
use Rattle.literature_entries.specs.Views.{parents}
use Rattle.literature_entries.specs.declared.entry.Entry.{Entry, fold-Entry}

abbrev pub highest : List ℕ → ℕ
highest [] = 0
highest (n ∷ ns) = max n (highest ns)

-- how many levels there are from an entry up: its own and those of its parents
abbrev pub height : Entry → ℕ
height e = fold-Entry ℕ (λ f. suc (highest f.parents.items)) e

-- how many levels there are from entries up
abbrev pub levels : List Entry → ℕ
levels es = highest (map height es)

-- so many levels: the entries, then their parents, those of the first before those of the second
abbrev pub level_by_level : ℕ → List Entry → List Entry
level_by_level zero es = []
level_by_level (suc n) es = es ++ level_by_level n (flat_map parents es)

-- entries and their ancestors, by depth and then by path
abbrev pub upwards : List Entry → List Entry
upwards es = level_by_level (levels es) es

-- an entry's ancestors, by depth and then by path
abbrev pub ancestors : Entry → List Entry
ancestors e = upwards (parents e)

module _ {F T : Type 0} where
  -- an answer ends the questions, where there is none the others are asked
  abbrev pub Ends : Option T → F → (Option T → F → Type 0) → Option T → F → Type 0
  Ends None g others answer last = others answer last
  Ends (Some x) g others answer last = (answer ≡ Some x) × (last ≡ g)

  module _ (step : F → Bor Entry → Option T → F → Type 0) where
    -- A closure is asked of each of the entries, in order, up to its first answer; last is its state then.
    abbrev pub Asks : F → List Entry → Option T → F → Type 0
    Asks f [] answer last = (answer ≡ None) × (last ≡ f)
    Asks f (e ∷ es) answer last = (b : Bor Entry) × (o : Option T) × (g : F) × (b.now ≡ e) × step f b o g × Ends o g (Asks g es) answer last

    -- the same from one state on, whichever is the last
    pub record AsksFrom (f : F) (es : List Entry) (answer : Option T) : Type 0 where
      pub last : F
      pub asked : Asks f es answer last

-- what a look at the entries finds first
abbrev pub first_of : {V : Type 0} → (Entry → Option V) → List Entry → Option V
first_of look [] = None
first_of look (e ∷ es) = option_or (look e) (first_of look es)
