use Rattle.std.proofs.Common.{false, Option}
use Rattle.std.proofs.lemmas.Result.{IfOk-weaker}
use Rattle.std.specs.Option.{option_map}
use Rattle.xml_tree.specs.Views.{element_view}
use Rattle.csl_words.specs.Elements.{content_in}
use Rattle.csl_locales.specs.Sets.{is_one_of}
use Rattle.csl_styles.specs.Faults.{citation_fault, macro_faults, macro_names}
use Rattle.csl_styles.specs.Views.{fault_view}
use Rattle.csl_styles.proofs.FirstFaults.{one_first, one_later}
use Rattle.csl_styles.proofs.faults.style_fault.Goals as goal

pub returns-in-Some : goal.returns-in-Some
returns-in-Some c =
    let x = element_view c.args.root.now in
    one_first (fault_view c.in-Some.fault) (citation_fault x) (macro_faults (is_one_of (macro_names x)) (λ name. false) (content_in x)) c.in-Some.ensures

pub returns-in-None : goal.returns-in-None
returns-in-None c =
    let x = element_view c.args.root.now in
    IfOk-weaker c.macros_fault.result _ _ (λ f h. one_later (option_map fault_view f) (citation_fault x) (macro_faults (is_one_of (macro_names x)) (λ name. false) (content_in x)) c.in-None.ensures h) c.macros_fault.ensures
