use Rattle.std.proofs.Common.{List, map, ap, ◌∙◌, codes}
use Rattle.literature_values.specs.declared.entry_type.EntryType.TheVariants as works
use Rattle.literature_entries.specs.Views.{key_view, fields_view}
use Rattle.literature_entries.specs.EntriesData.{entry_view}
use Rattle.literature_entries.specs.declared.entry.Entry.{Entry}
use Rattle.interop_values.specs.Values.{values}
use Rattle.interop.specs.Fields.{container_fields}
use Rattle.interop.specs.Bridge.{further, titled_under}
use Rattle.interop.proofs.ViewsEntries.{holds}
use Rattle.interop.proofs.bridge.set_by_itself.Goals as goal

pub returns : goal.returns
returns c =
    let v = values c.args.fields.now in
    let entry = c.args.entry.now in
    holds c.set_parents.new.self (key_view entry) (container_fields v (fields_view entry)) (further (titled_under works.Anthology (codes "series") v) v)
    (c.set_parents.ensures.key ∙ c.in_ok-set_container_fields.ensures.0) (c.set_parents.ensures.fields ∙ c.in_ok-set_container_fields.ensures.1)
    (ap (λ (es : List Entry). map entry_view es) c.set_parents.ensures.parents ∙ c.in_ok-parents.ensures)
