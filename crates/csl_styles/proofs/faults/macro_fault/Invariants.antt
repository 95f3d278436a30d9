use Rattle.std.proofs.Common.{◌≡◌, ℕ, List, false, drop}
use Rattle.xml_tree.specs.Trees.{content_of}
use Rattle.xml_tree.specs.Views.{children_of}
use Rattle.xml_schema.specs.Faults.{first_of}
use Rattle.csl_locales.specs.Sets.{has_text}
use Rattle.csl_styles.specs.Faults.{macro_faults}
use Rattle.csl_styles.proofs.faults.macro_fault.Given as goal

abbrev pub invariant-loop-child : goal.invariant-loop-child
invariant-loop-child l =
    (t : List ℕ) → first_of (macro_faults (has_text l.known) (has_text l.earlier) (content_of (children_of (drop l.child-index l.children)) t))
    ≡ first_of (macro_faults (has_text l.known) (λ name. false) (content_of (children_of l.children) t))
