use Rattle.std.proofs.Common.{◌≡◌, [], ◌∷◌, rules}
use Rattle.std.specs.Str.{chars, IsAscii}
use Rattle.std.proofs.lemmas.Str.{chars-IsAscii}
use Rattle.laws.specs.Characters.{space}
use Rattle.biblatex_lists.proofs.people_writing.push_space.Goals as goal

pub returns : goal.returns
returns c =
    let ascii : IsAscii (space ∷ []) = search rules in
    let e : chars (space ∷ []) ≡ space ∷ [] = chars-IsAscii (space ∷ []) ascii in
    rw e at c.push_str.ensures
