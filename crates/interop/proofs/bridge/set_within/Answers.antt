use Rattle.std.proofs.Common.{[], ◌∷◌, ◌++◌, List, map, ap, ◌∙◌}
use Rattle.literature_entries.specs.Views.{key_view, fields_view}
use Rattle.literature_entries.specs.EntriesData.{entry_view}
use Rattle.literature_entries.specs.declared.entry.Entry.{Entry}
use Rattle.interop_values.specs.Values.{values}
use Rattle.interop.specs.Bridge.{further}
use Rattle.interop.proofs.ViewsEntries.{holds}
use Rattle.interop.proofs.bridge.set_within.Goals as goal

pub returns : goal.returns
returns c =
    let v = values c.args.fields.now in
    let entry = c.args.entry.now in
    holds c.set_parents.new.self (key_view entry) (fields_view entry) (entry_view c.args.outer ∷ further [] v)
    c.set_parents.ensures.key c.set_parents.ensures.fields
    (ap (λ (es : List Entry). map entry_view es) c.set_parents.ensures.parents
    ∙ (c.in_ok-push_further.ensures
    ∙ (ap (λ (es : List Entry). map entry_view es ++ further [] v) c.in_ok-push.ensures.items
    ∙ ap (λ (es : List Entry). map entry_view (es ++ c.args.outer ∷ []) ++ further [] v) c.new-parents.ensures.items)))
