use Rattle.std.proofs.Common.{◌≡◌, [], ◌++◌, List, map, ap, ◌∙◌}
use Rattle.std.specs.Option.{option_map}
use Rattle.biblatex_content.specs.Views.{styled}
use Rattle.literature_values.specs.declared.entry_type.EntryType.TheVariants as works
use Rattle.literature_entries.specs.Fields.{nothing_but}
use Rattle.literature_entries.specs.EntriesData.{EntryData, entry_view}
use Rattle.literature_entries.specs.declared.entry.Entry.{Entry}
use Rattle.literature_values.specs.TextViews.{format_view}
use Rattle.interop_values.specs.Readings.{format_of}
use Rattle.interop.specs.Bridge.{parent}
use Rattle.interop.proofs.ViewsEntries.{holds, last, before_none}
use Rattle.interop.proofs.FieldsSet.{put_title, put_date}
use Rattle.interop.proofs.KindsTitled.{some_conference}
use Rattle.interop.proofs.parents.push_this_conference.Goals as goal

pub returns : goal.returns
returns c =
    let title = option_map format_view c.in_ok-title.title in
    let date = c.args.date in
    let e = c.set_date.new.entry in
    let old = c.args.parents.now.items in
    let fs = record (nothing_but works.Conference) { title = option_map (λ v. format_of (styled v.now)) c.args.title; date = date } in
    let made : entry_view e ≡ parent fs [] = holds e [] fs []
    (c.set_date.ensures.0 ∙ (c.set_title.ensures.0 ∙ (c.new-conference.ensures.key ∙ c.empty_text.ensures.bytes)))
    (c.set_date.ensures.1 ∙ (ap (put_date date) (c.set_title.ensures.1 ∙ ap (put_title title) c.new-conference.ensures.fields)
    ∙ (λ i. record (nothing_but works.Conference) { title = (before_none title ∙ c.in_ok-title.ensures) i; date = before_none date i })))
    (ap (λ (es : List Entry). map entry_view es) (c.set_date.ensures.2 ∙ (c.set_title.ensures.2 ∙ c.new-conference.ensures.parents))) in
    ap (λ (es : List Entry). map entry_view es) c.in_ok-push.ensures.items
    ∙ (last old e (parent fs []) made
    ∙ ap (λ (ws : List EntryData). map entry_view old ++ ws) (some_conference c.args.title date c.requires))
