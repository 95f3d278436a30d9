use Rattle.std.proofs.Common.{ap, ◌∙◌, codes, string_bytes}
use Rattle.std.specs.Option.{option_map}
use Rattle.std.proofs.lemmas.Result.{on_ok_weaker}
use Rattle.literature_values.specs.OtherViews.{address_view}
use Rattle.literature_values.specs.TextViews.{format_view}
use Rattle.literature_entries.specs.Views.{people_view, fields_view}
use Rattle.interop_values.specs.Values.{values}
use Rattle.interop_values.specs.Readings.{address_of}
use Rattle.interop.specs.declared.dates.Dates.{Dates}
use Rattle.interop.proofs.FieldsSet.{own_set, put_title, put_author, put_translator, put_date, put_url, put_number, put_note, put_language, put_own_numbers}
use Rattle.interop.proofs.fields.set_own_fields.Goals as goal

pub returns : goal.returns
returns c =
    let v = values c.args.fields.now in
    let fs = fields_view c.args.entry.now in
    let title = option_map format_view c.in_ok-title.field-0 in
    let author = option_map (λ v. people_view v.items) c.in_ok-people_under.field-0 in
    let translator = option_map (λ v. people_view v.items) c.in_ok-people_under-2.field-0 in
    let date = c.args.dates.own in
    let url = option_map address_view c.in_ok-address.field-0 in
    let doi = option_map string_bytes c.in_ok-text_under.field-0 in
    let note = option_map format_view c.in_ok-format_under.field-0 in
    let language = option_map string_bytes c.in_ok-text_under-2.field-0 in
    on_ok_weaker c.set_own_numbers.result
    (λ e. (
      e.0 ∙ (c.set_language.ensures.0 ∙ (c.set_note.ensures.0 ∙ (c.in_ok-set_number.ensures.0 ∙ (c.set_url.ensures.0 ∙ (c.set_date.ensures.0 ∙ (c.set_translator.ensures.0 ∙ (c.set_author.ensures.0 ∙ c.set_title.ensures.0))))))),
      e.1 ∙ (ap (put_own_numbers v) (c.set_language.ensures.1 ∙ ap (put_language language) (c.set_note.ensures.1 ∙ ap (put_note note) (c.in_ok-set_number.ensures.1 ∙ ap (put_number (codes "doi") doi) (c.set_url.ensures.1 ∙ ap (put_url url) (c.set_date.ensures.1 ∙ ap (put_date date) (c.set_translator.ensures.1 ∙ ap (put_translator translator) (c.set_author.ensures.1 ∙ ap (put_author author) (c.set_title.ensures.1 ∙ ap (put_title title) c.requires.bare))))))))
          ∙ own_set v fs.entry_type title author translator date url doi note language c.in_ok-title.ensures c.in_ok-people_under.ensures c.in_ok-people_under-2.ensures (ap (λ (d : Dates). d.own) c.requires.dates)
          (c.in_ok-address.ensures ∙ ap (λ (d : Dates). address_of d.visited v) c.requires.dates) c.in_ok-text_under.ensures c.in_ok-format_under.ensures c.in_ok-text_under-2.ensures),
      e.2 ∙ (c.set_language.ensures.2 ∙ (c.set_note.ensures.2 ∙ (c.in_ok-set_number.ensures.2 ∙ (c.set_url.ensures.2 ∙ (c.set_date.ensures.2 ∙ (c.set_translator.ensures.2 ∙ (c.set_author.ensures.2 ∙ c.set_title.ensures.2))))))),
    ))
    c.set_own_numbers.ensures
