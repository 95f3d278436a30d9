use Rattle.std.specs.Prelude.{string_bytes}
use Rattle.std.proofs.lemmas.Str.{is_utf8-from_IsUtf8}
use Rattle.biblatex.specs.Bibliographies.{listed_view}
use Rattle.programs.specs.Programs.{no_memory}
use lib.Chars.{codes}
use Rattle.bib_show.specs.Program.{message_of}
use Rattle.bib_show.proofs.FlatFiles.{flat_of, unsettled_of}
use Rattle.bib_show.proofs.program.entries_output.Goals as goal

pub returns-in-Shown-clause-output : goal.returns-in-Shown-clause-output
returns-in-Shown-clause-output c = rw c.in-Shown.is (record {
  resolved = listed_view c.args.bibliography;
  is_text = is_utf8-from_IsUtf8 c.args.text.now c.utf8.text;
  means = c.requires;
  in_order = c.in_ok-show-in-Shown.ensures.order;
  output_is = c.in_ok-show-in-Shown.ensures.shown;
})

pub returns-clause-output : goal.returns-clause-output
returns-clause-output c =
    rw c.in-Flat.is (flat_of string_bytes c.args.text.now (listed_view c.args.bibliography) c.flat_file.result c.utf8.text c.requires c.flat_file.ensures.settled c.flat_file.ensures.written)

pub returns-clause-fault : goal.returns-clause-fault
returns-clause-fault c =
    rw c.in-Flat.is (unsettled_of message_of (no_memory (codes "bib_show")) c.args.path.now c.args.text.now (listed_view c.args.bibliography) c.flat_file.result c.utf8.text c.requires c.flat_file.ensures.fault)
