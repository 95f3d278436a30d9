use Rattle.std.proofs.Common.{false, sym, ◌∙◌}
use Rattle.std.proofs.lemmas.Result.{IfOk-weaker}
use Rattle.xml_schema.specs.Faults.{first_of}
use Rattle.csl_styles.specs.Faults.{macro_faults}
use Rattle.csl_styles.proofs.faults.macros_fault.Goals as goal

pub returns : goal.returns
returns c =
    IfOk-weaker c.macro_fault.result _ _ (λ f h. h ∙ (λ j. first_of (macro_faults (λ u. c.in_ok-known.ensures u j) (λ name. false) (sym c.children_of.ensures.1 j))))
    (c.macro_fault.ensures c.children_of.ensures.0)
