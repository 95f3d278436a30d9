use Rattle.std.proofs.Common.{map}
use Rattle.biblatex_text.specs.Views.{entry_view}
use Rattle.biblatex.specs.Errors.{refusal_of, read_view}
use Rattle.biblatex.proofs.LoadingApart.{keys_apart, loaded_apart, refused_apart, kept_apart}
use Rattle.biblatex.proofs.apart.load_apart.Goals as goal

pub with_names-requires : goal.with_names-requires
with_names-requires c =
    let r = c.in_ok-read.field-0 in
    keys_apart c.args.abbreviations.now (map entry_view c.args.entries.items) (read_view r.read) r.shared.items c.in_ok-read.ensures.ok

pub returns-in-Ok-clause-read : goal.returns-in-Ok-clause-read
returns-in-Ok-clause-read c =
    let r = c.in_ok-read.field-0 in
    loaded_apart c.args.abbreviations.now (map entry_view c.args.entries.items) (read_view r.read) r.shared.items c.in-Ok.loaded.bibliography c.in-Ok.loaded.keys.items c.in_ok-read.ensures.ok (record { long = c.in_ok-read.ensures.long; same = c.in_ok-read.ensures.same }) c.in-Ok.ensures

pub returns-in-Ok-clause-apart : goal.returns-in-Ok-clause-apart
returns-in-Ok-clause-apart c =
    let r = c.in_ok-read.field-0 in
    kept_apart (read_view r.read) r.shared.items c.in-Ok.loaded.bibliography c.in-Ok.loaded.keys.items (record { long = c.in_ok-read.ensures.long; same = c.in_ok-read.ensures.same }) c.in-Ok.ensures

pub returns-in-Err-clause-read : goal.returns-in-Err-clause-read
returns-in-Err-clause-read c =
    let r = c.in_ok-read.field-0 in
    refused_apart c.args.abbreviations.now (map entry_view c.args.entries.items) (read_view r.read) r.shared.items (refusal_of c.in-Err.error) c.in_ok-read.ensures.ok (record { long = c.in_ok-read.ensures.long; same = c.in_ok-read.ensures.same }) c.in-Err.ensures
