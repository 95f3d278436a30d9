use Rattle.std.proofs.Common.{◌≡◌, Some, rules}
use lib.Chars.{codes}
use Rattle.programs.specs.Programs.{no_memory}
use Rattle.biblatex.specs.Entries.{source_view}
use Rattle.biblatex_writing.specs.Flat.{flat}
use Rattle.bib_show.specs.Program.{message_of}
use Rattle.bib_show.specs.Unsettled.{first_unsettled}
use Rattle.bib_show.proofs.FlatFiles.{first_is}
use Rattle.bib_show.proofs.program.flat_file.Goals as goal

pub returns-in-Some-clause-fault : goal.returns-in-Some-clause-fault
returns-in-Some-clause-fault c =
    let found : first_unsettled 0 (flat c.args.bibliography.entries) ≡ Some (c.in-Some.index, source_view c.in-Some.entry.now) = search rules in
    first_is (no_memory (codes "bib_show")) c.args.path.now c.args.text.now (message_of c.in_ok-unsettled-in-Some.field-0) (flat c.args.bibliography.entries) c.in-Some.index (source_view c.in-Some.entry.now) found c.in_ok-unsettled-in-Some.ensures
