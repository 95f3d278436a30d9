use Rattle.std.proofs.Common.{◌++◌, List, map, ap, ◌∙◌, codes, option_to_list}
use Rattle.std.specs.Option.{option_map}
use Rattle.biblatex_content.specs.Views.{styled}
use Rattle.literature_values.specs.declared.entry_type.EntryType.TheVariants as works
use Rattle.literature_entries.specs.EntriesData.{EntryData, entry_view}
use Rattle.literature_entries.specs.declared.entry.Entry.{Entry}
use Rattle.interop_values.specs.Values.{values}
use Rattle.interop.specs.Bridge.{further, titled}
use Rattle.interop.proofs.KindsTitled.{view_title}
use Rattle.interop.proofs.bridge.series_and_further.Goals as goal

pub returns : goal.returns
returns c =
    let v = values c.args.fields.now in
    let given = option_to_list (option_map (λ v. titled works.Anthology (styled v.now)) c.value.result) in
    c.in_ok-push_further.ensures
    ∙ (ap (λ (es : List Entry). map entry_view es ++ further given v) c.new-parents.ensures.items
    ∙ ap (λ (series : List EntryData). further series v) (view_title works.Anthology c.value.result (v (codes "series")) c.value.ensures))
