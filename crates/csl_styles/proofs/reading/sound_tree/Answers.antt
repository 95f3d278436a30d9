use Rattle.std.proofs.Common.{sym, subst, IfSome}
use Rattle.std.specs.Str.{chars}
use Rattle.csl_styles.specs.Reading.{IsRefused}
use Rattle.csl_styles.specs.Views.{refusal_of}
use Rattle.csl_styles.specs.declared.error.CslError.{CslError}
use Rattle.csl_styles.proofs.Outcomes.{text_refused}
use Rattle.csl_styles.proofs.reading.sound_tree.Goals as goal

pub returns-in-Err : goal.returns-in-Err
returns-in-Err c =
    subst (λ (e : CslError). IfSome (refusal_of e) (IsRefused (chars c.args.text.now))) (sym c.text_error.ensures) (text_refused (chars c.args.text.now) c.in-Err.error c.in-Err.ensures.reading)
