use Rattle.std.proofs.Common.{sym, ◌∙◌}
use Rattle.hashes.specs.TextIndices.{number_of}
use Rattle.literature.proofs.EntriesNumbered.{entry_found, none_found}
use Rattle.literature.proofs.library.Library.get.Goals as goal

pub returns-in-Some : goal.returns-in-Some
returns-in-Some c =
    let l = c.args.self.now in
    c.get-in-Some.ensures.value ∙ entry_found (number_of l.numbers) l.next l.entries.entries l.numbered c.args.key.now c.in-Some.number (sym c.get.ensures ∙ c.in-Some.is)

pub returns-in-None : goal.returns-in-None
returns-in-None c =
    let l = c.args.self.now in
    sym (none_found (number_of l.numbers) l.next l.entries.entries l.numbered c.args.key.now (sym c.get.ensures ∙ c.in-None.is))
