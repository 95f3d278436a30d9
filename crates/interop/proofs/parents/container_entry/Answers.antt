use Rattle.std.proofs.Common.{[], ◌++◌, List, map, ap, ◌∙◌, Some, codes, option_to_list}
use Rattle.std.specs.Option.{option_map}
use Rattle.biblatex_content.specs.Views.{styled}
use Rattle.literature_values.specs.declared.entry_type.EntryType.TheVariants as works
use Rattle.literature_entries.specs.Fields.{nothing_but}
use Rattle.literature_entries.specs.Views.{people_view}
use Rattle.literature_entries.specs.EntriesData.{entry_view}
use Rattle.literature_entries.specs.declared.entry.Entry.{Entry}
use Rattle.literature_values.specs.TextViews.{format_view}
use Rattle.interop_values.specs.Values.{values}
use Rattle.interop.specs.Fields.{container_fields}
use Rattle.interop_values.specs.Readings.{format_of, people_under}
use Rattle.interop.specs.Bridge.{titled, titled_under}
use Rattle.interop.proofs.ViewsEntries.{holds, before_none}
use Rattle.interop.proofs.FieldsSet.{put_title, put_author}
use Rattle.interop.proofs.KindsTitled.{view_title}
use Rattle.interop.proofs.parents.container_entry.Goals as goal

pub returns : goal.returns
returns c =
    let v = values c.args.fields.now in
    let t = c.args.entry_type in
    let ms = styled c.args.title.now in
    let author = option_map (λ v. people_view v.items) c.in_ok-author.author in
    let e = c.set_parents.new.self in
    holds e [] (container_fields v (record (nothing_but t) { title = Some (format_of ms); author = people_under (codes "bookauthor") v })) (titled_under works.Anthology (codes "series") v)
    (c.set_parents.ensures.key ∙ (c.in_ok-set_container_fields.ensures.0 ∙ (c.set_author.ensures.0 ∙ (c.set_title.ensures.0 ∙ (c.new-outer.ensures.key ∙ c.empty_text.ensures.bytes)))))
    (c.set_parents.ensures.fields ∙ (c.in_ok-set_container_fields.ensures.1 ∙ ap (container_fields v)
    (c.set_author.ensures.1 ∙ (ap (put_author author) (c.set_title.ensures.1 ∙ ap (put_title (Some (format_view c.in_ok-title.title))) c.new-outer.ensures.fields)
    ∙ (λ i. record (nothing_but t) { title = Some (c.in_ok-title.ensures i); author = (before_none author ∙ c.in_ok-author.ensures) i })))))
    (ap (λ (es : List Entry). map entry_view es) c.set_parents.ensures.parents
    ∙ (c.in_ok-push_titled.ensures
    ∙ (ap (λ (es : List Entry). map entry_view es ++ option_to_list (option_map (λ v. titled works.Anthology (styled v.now)) c.value.result)) c.new-parents.ensures.items
    ∙ view_title works.Anthology c.value.result (v (codes "series")) c.value.ensures)))
