-- What is found and read by the schema, wherever it lies.
use Rattle.std.proofs.Common.{◌≡◌, ℕ, List, map, Option, Result, Ok, Err, option_map, refl, sym, ap, subst, ◌∙◌}
use Rattle.std.specs.Prelude.{IfOk}
use Rattle.laws.specs.Results.{◌>>=◌, Gives}
use Rattle.xml_tree.specs.Building.{tree_of}
use Rattle.xml_tree.specs.Trees.{Element}
use Rattle.xml_tree.specs.Views.{element_view}
use Rattle.xml_tree.specs.declared.tree.Element.{Element as ElementValue}
use Rattle.xml_schema.specs.Faults as specs
use Rattle.xml_schema.specs.Faults.{faults, first_of}
use Rattle.xml_schema.specs.Moved.{moved_schema}
use Rattle.xml_schema.specs.Placing.{placed_in}
use Rattle.xml_schema.specs.Tables.{Schema}
use Rattle.xml_schema.specs.Valid.{Refusal, as_text, unless_found, checked, valid_tree_of}
use Rattle.xml_schema.specs.ValidViews.{refusal_of}
use Rattle.xml_schema.specs.Views.{fault_view}
use Rattle.xml_schema.specs.declared.fault.Fault.{Fault}
use Rattle.xml_schema.specs.declared.valid.ValidError.{ValidError}
use Rattle.xml_schema.proofs.Moved.{faults_same}
use Rattle.csl_schema.specs.Faults.{csl_schema, csl_faults}

-- the faults by a schema that moved to one place is that of CSL
same_faults : (s : Schema) (e : Element) → moved_schema s ≡ csl_schema → faults s e ≡ csl_faults e
same_faults s e is = sym (faults_same s e) ∙ ap (λ (t : Schema). faults t e) is

pub found_by : {E : Type 0} (s : Schema) (e : Element) (r : Result (Option Fault) E) → IfOk r (λ f. option_map fault_view f ≡ first_of (faults s e)) → moved_schema s ≡ csl_schema
    → IfOk r (λ f. option_map fault_view f ≡ first_of (csl_faults e))
found_by s e (Ok f) first is = first ∙ ap (λ (fs : List specs.Fault). first_of fs) (same_faults s e is)
found_by s e (Err error) first is = tt

then_same : (s : Schema) (cs : List ℕ) (r : Result Element Refusal) → moved_schema s ≡ csl_schema → (r >>= checked s cs) ≡ (r >>= checked csl_schema cs)
then_same s cs (Ok e) is = ap (λ (fs : List specs.Fault). unless_found e (option_map (placed_in cs) (first_of fs))) (same_faults s e is)
then_same s cs (Err refusal) is = refl

pub read_by : (s : Schema) (cs : List ℕ) (r : Result ElementValue ValidError) → Gives refusal_of element_view r (valid_tree_of s cs) → moved_schema s ≡ csl_schema
    → Gives refusal_of element_view r (valid_tree_of csl_schema cs)
read_by s cs r reads is = subst (λ (t : Result Element Refusal). Gives refusal_of element_view r t) (then_same s cs (as_text (tree_of cs)) is) reads
