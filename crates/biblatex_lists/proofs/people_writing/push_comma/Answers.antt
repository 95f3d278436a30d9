use Rattle.std.proofs.Common.{◌≡◌, [], ◌∷◌, rules}
use Rattle.std.specs.Str.{chars, IsAscii}
use Rattle.std.proofs.lemmas.Str.{chars-IsAscii}
use Rattle.laws.specs.Characters.{comma}
use Rattle.biblatex_lists.proofs.people_writing.push_comma.Goals as goal

pub returns : goal.returns
returns c =
    let ascii : IsAscii (comma ∷ []) = search rules in
    let e : chars (comma ∷ []) ≡ comma ∷ [] = chars-IsAscii (comma ∷ []) ascii in
    rw e at c.push_str.ensures
