use Rattle.std.proofs.Common.{ap, ◌∙◌, codes, string_bytes}
use Rattle.std.specs.Option.{option_map}
use Rattle.std.proofs.lemmas.Result.{on_ok_weaker}
use Rattle.literature_numbers.specs.Views.{numeral_view}
use Rattle.literature_values.specs.TypedViews.{typed_view}
use Rattle.literature_entries.specs.Views.{fields_view}
use Rattle.interop_values.specs.Values.{values}
use Rattle.interop.proofs.FieldsSet.{first_read, second_read, container_numbers_set, put_volume, put_volume_total, put_edition, put_text}
use Rattle.interop.proofs.fields.set_container_numbers.Goals as goal

pub returns : goal.returns
returns c =
    let issue = option_map (typed_view numeral_view) c.unzip-issue.result.0 in
    let number_text = option_map string_bytes c.unzip-issue.result.1 in
    let edition = option_map (typed_view numeral_view) c.unzip-edition.result.0 in
    let edition_text = option_map string_bytes c.unzip-edition.result.1 in
    let total = option_map (typed_view numeral_view) c.unzip-total.result.0 in
    let total_text = option_map string_bytes c.unzip-total.result.1 in
    let volume = option_map (typed_view numeral_view) c.unzip-volume.result.0 in
    let volume_text = option_map string_bytes c.unzip-volume.result.1 in
    on_ok_weaker c.set_text-4.result
    (λ e. (
      e.0 ∙ (c.set_volume.ensures.0 ∙ (c.in_ok-set_text-3.ensures.0 ∙ (c.set_volume_total.ensures.0 ∙ (c.in_ok-set_text-2.ensures.0 ∙ (c.set_edition.ensures.0 ∙ (c.in_ok-set_text.ensures.0 ∙ c.set_issue.ensures.0)))))),
      e.1 ∙ (ap (put_text (codes "volume") volume_text) (c.set_volume.ensures.1 ∙ ap (put_volume volume) (c.in_ok-set_text-3.ensures.1 ∙ ap (put_text (codes "volume-total") total_text) (c.set_volume_total.ensures.1 ∙ ap (put_volume_total total) (c.in_ok-set_text-2.ensures.1 ∙ ap (put_text (codes "edition") edition_text) (c.set_edition.ensures.1 ∙ ap (put_edition edition) (c.in_ok-set_text.ensures.1 ∙ ap (put_text (codes "issue") number_text) c.set_issue.ensures.1))))))
          ∙ container_numbers_set (values c.args.fields.now) c.args.is_periodical (fields_view c.args.entry.now) issue number_text edition edition_text total total_text volume volume_text
          (first_read (typed_view numeral_view) _ _ _ c.unzip-issue.ensures.first c.in_ok-issue_and_text.ensures.issue)
          (second_read string_bytes _ _ _ c.unzip-issue.ensures.second c.in_ok-issue_and_text.ensures.text)
          (first_read (typed_view numeral_view) _ _ _ c.unzip-edition.ensures.first c.in_ok-number_and_text_under.ensures.number)
          (second_read string_bytes _ _ _ c.unzip-edition.ensures.second c.in_ok-number_and_text_under.ensures.text)
          (first_read (typed_view numeral_view) _ _ _ c.unzip-total.ensures.first c.in_ok-number_and_text_under-2.ensures.number)
          (second_read string_bytes _ _ _ c.unzip-total.ensures.second c.in_ok-number_and_text_under-2.ensures.text)
          (first_read (typed_view numeral_view) _ _ _ c.unzip-volume.ensures.first c.in_ok-number_and_text_under-3.ensures.number)
          (second_read string_bytes _ _ _ c.unzip-volume.ensures.second c.in_ok-number_and_text_under-3.ensures.text)),
      e.2 ∙ (c.set_volume.ensures.2 ∙ (c.in_ok-set_text-3.ensures.2 ∙ (c.set_volume_total.ensures.2 ∙ (c.in_ok-set_text-2.ensures.2 ∙ (c.set_edition.ensures.2 ∙ (c.in_ok-set_text.ensures.2 ∙ c.set_issue.ensures.2)))))),
    ))
    c.set_text-4.ensures
