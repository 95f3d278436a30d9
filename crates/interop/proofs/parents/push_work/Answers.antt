use Rattle.std.proofs.Common.{◌≡◌, [], List, map, ap, ◌∙◌, Some}
use Rattle.biblatex_content.specs.Views.{styled}
use Rattle.literature_entries.specs.Fields.{nothing_but}
use Rattle.literature_entries.specs.EntriesData.{entry_view}
use Rattle.literature_entries.specs.declared.entry.Entry.{Entry}
use Rattle.literature_values.specs.TextViews.{format_view}
use Rattle.interop_values.specs.Readings.{format_of}
use Rattle.interop.specs.Bridge.{titled}
use Rattle.interop.proofs.ViewsEntries.{holds, last}
use Rattle.interop.proofs.FieldsSet.{put_title}
use Rattle.interop.proofs.parents.push_work.Goals as goal

pub returns : goal.returns
returns c =
    let ms = styled c.args.title.now in
    let t = c.args.entry_type in
    let made : entry_view c.set_title.new.entry ≡ titled t ms = holds c.set_title.new.entry [] (record (nothing_but t) { title = Some (format_of ms) }) []
    (c.set_title.ensures.0 ∙ (c.new-work.ensures.key ∙ c.empty_text.ensures.bytes))
    (c.set_title.ensures.1 ∙ (ap (put_title (Some (format_view c.in_ok-title.title))) c.new-work.ensures.fields ∙ (λ i. record (nothing_but t) { title = Some (c.in_ok-title.ensures i) })))
    (ap (λ (es : List Entry). map entry_view es) (c.set_title.ensures.2 ∙ c.new-work.ensures.parents)) in
    ap (λ (es : List Entry). map entry_view es) c.in_ok-push.ensures.items
    ∙ last c.args.parents.now.items c.set_title.new.entry (titled t ms) made
