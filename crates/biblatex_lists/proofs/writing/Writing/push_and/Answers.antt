use Rattle.std.proofs.Common.{◌≡◌, rules}
use Rattle.std.specs.Str.{chars, IsAscii}
use Rattle.std.proofs.lemmas.Str.{chars-IsAscii}
use Rattle.biblatex_lists.specs.Writing.{and_word}
use Rattle.biblatex_lists.proofs.writing.Writing.push_and.Goals as goal

pub returns : goal.returns
returns c =
    let ascii : IsAscii and_word = search rules in
    let e : chars and_word ≡ and_word = chars-IsAscii and_word ascii in
    rw e at c.push_str.ensures
