use Rattle.std.proofs.Common.{◌++◌, List, Option, map, ap, ◌∙◌, codes, option_to_list}
use Rattle.std.specs.Option.{option_map}
use Rattle.std.proofs.lemmas.Result.{on_ok_weaker}
use Rattle.biblatex_content.specs.Styled.{Member}
use Rattle.biblatex_content.specs.Views.{styled}
use Rattle.literature_values.specs.declared.entry_type.EntryType.TheVariants as works
use Rattle.literature_entries.specs.EntriesData.{EntryData, entry_view}
use Rattle.interop_values.specs.Values.{values}
use Rattle.interop_values.specs.Readings.{date_under, date_if_read}
use Rattle.interop.specs.Bridge.{titled, titled_under, conference_of, original_of}
use Rattle.interop.specs.declared.dates.Dates.{Dates}
use Rattle.interop.proofs.LibraryLists.{four_after}
use Rattle.interop.proofs.KindsTitled.{view_title}
use Rattle.interop.proofs.parents.push_further.Goals as goal

pub returns : goal.returns
returns c =
    let v = values c.args.fields.now in
    let before = map entry_view c.args.parents.now.items in
    let one = map entry_view c.push_titled.new.parents.items in
    let two = map entry_view c.push_titled-2.new.parents.items in
    let three = map entry_view c.push_conference.new.parents.items in
    let four = map entry_view c.push_original.new.parents.items in
    let event = date_if_read (date_under (codes "eventdate") v) in
    on_ok_weaker c.push_original.result
    (λ e. four_after before
    (titled_under works.Book (codes "maintitle") v)
    (option_to_list (option_map (λ v. titled works.Anthology (styled v.now)) c.args.series))
    (conference_of (v (codes "eventtitle")) event)
    (original_of (date_if_read (date_under (codes "origdate") v)))
    one two three four
    (c.in_ok-push_titled.ensures ∙ ap (λ (ws : List EntryData). before ++ ws) (view_title works.Book c.value.result (v (codes "maintitle")) c.value.ensures))
    c.in_ok-push_titled-2.ensures
    (c.in_ok-push_conference.ensures
    ∙ (ap (λ (d : Dates). two ++ conference_of (option_map (λ v. styled v.now) c.value-2.result) d.event) c.requires
    ∙ ap (λ (title : Option (List Member)). two ++ conference_of title event) c.value-2.ensures))
    (e ∙ ap (λ (d : Dates). three ++ original_of d.original) c.requires))
    c.push_original.ensures
