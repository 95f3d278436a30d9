use Rattle.std.proofs.Common.{ap, ◌∙◌, codes, string_bytes}
use Rattle.std.specs.Option.{option_map}
use Rattle.std.proofs.lemmas.Result.{on_ok_weaker}
use Rattle.literature_numbers.specs.PageViews.{pages_view}
use Rattle.literature_numbers.specs.Views.{numeral_view}
use Rattle.literature_values.specs.TypedViews.{typed_view}
use Rattle.literature_entries.specs.Views.{fields_view}
use Rattle.interop_values.specs.Values.{values}
use Rattle.interop.proofs.FieldsSet.{first_read, second_read, own_numbers_set, put_chapter, put_page_range, put_text}
use Rattle.interop.proofs.fields.set_own_numbers.Goals as goal

pub returns : goal.returns
returns c =
    let total = option_map (typed_view numeral_view) c.unzip-total.result.0 in
    let total_text = option_map string_bytes c.unzip-total.result.1 in
    let pages = option_map (typed_view pages_view) c.unzip-pages.result.0 in
    let pages_text = option_map string_bytes c.unzip-pages.result.1 in
    let chapter = option_map (typed_view numeral_view) c.unzip-chapter.result.0 in
    let chapter_text = option_map string_bytes c.unzip-chapter.result.1 in
    on_ok_weaker c.set_text-3.result
    (λ e. (
      e.0 ∙ (c.set_chapter.ensures.0 ∙ (c.in_ok-set_text-2.ensures.0 ∙ (c.set_page_range.ensures.0 ∙ (c.in_ok-set_text.ensures.0 ∙ c.set_page_total.ensures.0)))),
      e.1 ∙ (ap (put_text (codes "chapter") chapter_text) (c.set_chapter.ensures.1 ∙ ap (put_chapter chapter) (c.in_ok-set_text-2.ensures.1 ∙ ap (put_text (codes "page-range") pages_text) (c.set_page_range.ensures.1 ∙ ap (put_page_range pages) (c.in_ok-set_text.ensures.1 ∙ ap (put_text (codes "page-total") total_text) c.set_page_total.ensures.1))))
          ∙ own_numbers_set (values c.args.fields.now) (fields_view c.args.entry.now) total total_text pages pages_text chapter chapter_text
          (first_read (typed_view numeral_view) _ _ _ c.unzip-total.ensures.first c.in_ok-number_and_text_under.ensures.number)
          (second_read string_bytes _ _ _ c.unzip-total.ensures.second c.in_ok-number_and_text_under.ensures.text)
          (first_read (typed_view pages_view) _ _ _ c.unzip-pages.ensures.first c.in_ok-pages_and_text_under.ensures.pages)
          (second_read string_bytes _ _ _ c.unzip-pages.ensures.second c.in_ok-pages_and_text_under.ensures.text)
          (first_read (typed_view numeral_view) _ _ _ c.unzip-chapter.ensures.first c.in_ok-number_and_text_under-2.ensures.number)
          (second_read string_bytes _ _ _ c.unzip-chapter.ensures.second c.in_ok-number_and_text_under-2.ensures.text)),
      e.2 ∙ (c.set_chapter.ensures.2 ∙ (c.in_ok-set_text-2.ensures.2 ∙ (c.set_page_range.ensures.2 ∙ (c.in_ok-set_text.ensures.2 ∙ c.set_page_total.ensures.2)))),
    ))
    c.set_text-3.ensures
