use Rattle.std.proofs.Common.{◌≡◌, ap, ◌∙◌, codes, string_bytes}
use Rattle.std.specs.Option.{option_map}
use Rattle.std.proofs.lemmas.Result.{on_ok_weaker}
use Rattle.literature_values.specs.declared.entry_type.EntryType.{EntryType}
use Rattle.literature_values.specs.TextViews.{publishing_view}
use Rattle.literature_entries.specs.Views.{people_view, fields_view}
use Rattle.interop_values.specs.Values.{values}
use Rattle.interop.specs.Fields.{is_periodical}
use Rattle.interop.proofs.FieldsSet.{container_set, put_publisher, put_number, put_container_numbers}
use Rattle.interop.proofs.fields.set_container_fields.Goals as goal

pub returns : goal.returns
returns c =
    let v = values c.args.fields.now in
    let fs = fields_view c.args.entry.now in
    let periodical : c.is_periodical-is_periodical.result ≡ is_periodical fs.entry_type = c.is_periodical-is_periodical.ensures ∙ ap (λ (t : EntryType). is_periodical t) c.entry_type.ensures in
    let editor = option_map (λ v. people_view v.items) c.in_ok-people_under.field-0 in
    let publisher = option_map publishing_view c.in_ok-publisher.field-0 in
    let isbn = option_map string_bytes c.in_ok-text_under.field-0 in
    let issn = option_map string_bytes c.in_ok-text_under-2.field-0 in
    let serial = option_map string_bytes c.in_ok-series_number.field-0 in
    on_ok_weaker c.set_container_numbers.result
    (λ e. (
      e.0 ∙ (c.in_ok-set_number-3.ensures.0 ∙ (c.in_ok-set_number-2.ensures.0 ∙ (c.in_ok-set_number.ensures.0 ∙ (c.set_publisher.ensures.0 ∙ c.set_editor.ensures.0)))),
      e.1 ∙ (ap (put_container_numbers c.is_periodical-is_periodical.result v) (c.in_ok-set_number-3.ensures.1 ∙ ap (put_number (codes "serial") serial) (c.in_ok-set_number-2.ensures.1 ∙ ap (put_number (codes "issn") issn) (c.in_ok-set_number.ensures.1 ∙ ap (put_number (codes "isbn") isbn) (c.set_publisher.ensures.1 ∙ ap (put_publisher publisher) c.set_editor.ensures.1))))
          ∙ container_set v fs c.is_periodical-is_periodical.result editor publisher isbn issn serial c.requires periodical c.in_ok-people_under.ensures c.in_ok-publisher.ensures c.in_ok-text_under.ensures c.in_ok-text_under-2.ensures c.in_ok-series_number.ensures),
      e.2 ∙ (c.in_ok-set_number-3.ensures.2 ∙ (c.in_ok-set_number-2.ensures.2 ∙ (c.in_ok-set_number.ensures.2 ∙ (c.set_publisher.ensures.2 ∙ c.set_editor.ensures.2)))),
    ))
    c.set_container_numbers.ensures
