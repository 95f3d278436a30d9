-- Stages, each of which gives something or lines that say why it does not.
use Rattle.std.specs.Prelude.{◌≡◌, ℕ, List, [], ◌∷◌, ◌++◌, flat_map, filter_map, option_to_list, if◌then◌else◌, Option, Some, None, Result, Ok, Err}
use Rattle.laws.specs.Text.{is_filled}

-- what is said
abbrev pub Lines : Type 0
Lines = List ℕ

-- what may be answered
abbrev pub Wanted : Type 0 → Type 1
Wanted X = Result X Lines → Type 0

-- what is answered after a stage: what its lines say, or what the next one answers
abbrev pub After : {X Y : Type 0} → Result X Lines → (X → Result Y Lines → Type 0) → Result Y Lines → Type 0
After (Ok x) next answer = next x answer
After (Err lines) next answer = answer ≡ Err lines

-- a stage and the next one
abbrev pub Then : {X Y : Type 0} → (Result X Lines → Type 0) → (X → Result Y Lines → Type 0) → Result Y Lines → Type 0
Then {X} stage next answer = (made : Result X Lines) × stage made × After made next answer

-- a stage that answers just this
abbrev pub Gives : {X : Type 0} → Result X Lines → Result X Lines → Type 0
Gives r answer = answer ≡ r

-- what a stage gives, and its lines
abbrev pub given : {X : Type 0} → Result X Lines → Option X
given (Ok x) = Some x
given (Err lines) = None

abbrev pub lines_in : {X : Type 0} → Result X Lines → Lines
lines_in (Ok x) = []
lines_in (Err lines) = lines

-- what several stages give, or all of their lines
abbrev pub lines_of : {X : Type 0} → List (Result X Lines) → Lines
lines_of {X} made = flat_map (λ (r : Result X Lines). lines_in r) made

abbrev pub gathered : {X : Type 0} → List (Result X Lines) → Result (List X) Lines
gathered {X} made = if is_filled (lines_of made) then Err (lines_of made) else Ok (filter_map (λ (r : Result X Lines). given r) made)

-- a stage for each of a list
abbrev pub AreMade : {X Y : Type 0} → (X → Result Y Lines → Type 0) → List X → List (Result Y Lines) → Type 0
AreMade stage [] [] = Unit {0}
AreMade stage [] (r ∷ rs) = ⊥
AreMade stage (x ∷ xs) [] = ⊥
AreMade stage (x ∷ xs) (r ∷ rs) = stage x r × AreMade stage xs rs

abbrev pub Each : {X Y : Type 0} → (X → Result Y Lines → Type 0) → List X → Result (List Y) Lines → Type 0
Each {X} {Y} stage xs answer = (made : List (Result Y Lines)) × AreMade stage xs made × (answer ≡ gathered made)

-- one more stage of several: what it gives is added to what the others gave, and its lines to theirs
abbrev pub Adds : {X : Type 0} → (Result X Lines → Type 0) → List X → List X → Lines → Lines → Type 0
Adds {X} stage old new before after = (made : Result X Lines) × stage made × (new ≡ old ++ option_to_list (given made)) × (after ≡ before ++ lines_in made)
