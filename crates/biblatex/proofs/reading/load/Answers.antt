use Rattle.std.proofs.Common.{Result, map, sym, subst}
use Rattle.laws.specs.Results.{Gives}
use Rattle.biblatex_text.specs.Views.{entry_view}
use Rattle.biblatex_meaning.specs.Reading.{Refusal, Loaded}
use Rattle.biblatex.specs.Errors.{loaded_view, refusal_of, read_view}
use Rattle.biblatex.proofs.ReadingOnce.{keys_as_long, read_once}
use Rattle.biblatex.proofs.reading.load.Goals as goal

pub with_names-requires : goal.with_names-requires
with_names-requires c = keys_as_long c.args.abbreviations.now (map entry_view c.args.entries.items) (read_view c.in_ok-read.read) c.in_ok-read.ensures.ok

pub returns : goal.returns
returns c =
    subst (λ (r : Result Loaded Refusal). Gives refusal_of loaded_view c.with_names.result r)
    (sym (read_once c.args.abbreviations.now (map entry_view c.args.entries.items) (read_view c.in_ok-read.read) c.in_ok-read.ensures.ok)) c.with_names.ensures
