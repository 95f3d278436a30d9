use Rattle.std.proofs.lemmas.List.Elements.{All-push, All-append}
use Rattle.biblatex_text.specs.Span.{IsPairOf, IsSpannedEntryOf}
use Rattle.biblatex_text.proofs.raw.RawBibliography.add.Goals as goal

pub returns-in_ok-append-in-Definitions-clause-slice : goal.returns-in_ok-append-in-Definitions-clause-slice
returns-in_ok-append-in-Definitions-clause-slice c = λ source old new.
    let pairs = rw c.in-Definitions.is at new.1 in
    (old.0, rw c.in_ok-append-in-Definitions.ensures.items (All-append (IsPairOf source) _ _ old.1 pairs))

pub returns-in_ok-push-in-Entry-clause-slice : goal.returns-in_ok-push-in-Entry-clause-slice
returns-in_ok-push-in-Entry-clause-slice c = λ source old new.
    let entry = rw c.in-Entry.is at new.1 in
    (rw c.in_ok-push-in-Entry.ensures.items (All-push (IsSpannedEntryOf source) _ _ old.0 (new.0, entry)), old.1)
