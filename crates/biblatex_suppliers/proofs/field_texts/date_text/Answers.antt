use Rattle.std.proofs.Common.{sym, ap, ◌∙◌}
use Rattle.std.proofs.lemmas.Result.{IfOk-weaker}
use Rattle.biblatex_content.specs.declared.chunk.Kind.TheVariants.{Normal}
use Rattle.biblatex_dates.specs.Date.{date_without_time}
use Rattle.biblatex_dates.specs.Written.{date_text}
use Rattle.biblatex_values.proofs.TextsPlain.{plain-letters}
use Rattle.biblatex_suppliers.proofs.field_texts.date_text.Goals as goal

pub returns : goal.returns
returns c =
    IfOk-weaker c.text_of_date.result _ _ (λ s e. e ∙ (ap date_text c.without_time-date.ensures.value ∙ sym (plain-letters Normal (date_text (date_without_time c.args.date))))) c.text_of_date.ensures
