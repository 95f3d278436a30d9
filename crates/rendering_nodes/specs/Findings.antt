-- What surveys find of nodes, node by node in the order in which they are printed, so that no node is asked twice.
use Rattle.std.specs.Prelude.{◌≡◌, Bool, true, false, List, [], ◌∷◌, ◌++◌, length, if◌then◌else◌, ⊤}
use Rattle.rendering_style.specs.Nodes.{Node, Nodes, Branches, leaf, call, opened, names, choose, group, no_nodes, node, otherwise, branch}
use Rattle.rendering_context.specs.Contexts.{Context}
use Rattle.rendering_context.specs.Choosing.{is_met}
use Rattle.rendering_leaves.specs.NodeSettings.{SpecialForm, State}
use Rattle.rendering_leaves.specs.NodeSettings as settings
use Rattle.rendering_nodes.specs.Admission.{Survey, Stage, has_people, in_substitute_of, is_shut_out, survey, surveys}
use Rattle.rendering_nodes.specs.Content.{stage}
use Rattle.rendering_nodes.specs.declared.finding.Finding.{Finding}
use Rattle.rendering_nodes.specs.declared.finding.Findings.{Findings}
use Rattle.rendering_nodes.specs.declared.finding.Known.{Known}
use Rattle.rendering_nodes.specs.declared.finding.Known.TheVariants.{Before, Now}
use Rattle.rendering_nodes.specs.declared.finding.NodeFinding.{NodeFinding}
use Rattle.rendering_nodes.specs.declared.finding.Surveyed.{Surveyed}

-- what is found of a node, before what is found of those inside it
abbrev pub with_finding : Survey → List Finding → List Finding
with_finding v inside = record { is_admitted = v.is_admitted; met = v.met; inside = length inside } ∷ inside

-- the finding of a node of which a survey has not yet found anything
abbrev pub nothing_found : Finding
nothing_found = record { is_admitted = false; met = false; inside = 0 }

-- nothing is asked of a substitute where there are people, nor where it is shut out
abbrev pub beside_people : Bool → Bool → List Finding → List Finding
beside_people true is_shut_out substitutes = []
beside_people false is_shut_out substitutes = if is_shut_out then [] else substitutes

abbrev mutual
  -- what is found of the nodes inside a node
  pub found_inside : Stage → Node → List Finding
  found_inside s (leaf l) = []
  found_inside s (call name look) = []
  found_inside s (opened look xs) = found s xs
  found_inside s (names h xs) =
      beside_people (has_people s h) (is_shut_out s h xs) (found (in_substitute_of h xs s) xs)
  found_inside s (choose bs) = branch_found s bs
  found_inside s (group g xs) = found s xs

  -- what is found of each node of a list, and of those inside it
  pub found : Stage → Nodes → List Finding
  found s no_nodes = []
  found s (node x xs) = with_finding (survey s x) (found_inside s x) ++ found s xs

  -- what is found of the branch that is taken
  pub branch_found : Stage → Branches → List Finding
  branch_found s (otherwise xs) = found s xs
  branch_found s (branch c xs bs) = if is_met s.context c then found s xs else branch_found s bs

-- a survey, and what is found after what was found before
abbrev pub Asked : Type 0
Asked = Survey × List Finding

-- a node is asked, of which only what is inside is found
abbrev pub node_asked : Stage → List Finding → Node → Asked
node_asked s before x = (survey s x, before ++ found_inside s x)

-- a node is asked as one of several
abbrev pub next_asked : Stage → List Finding → Node → Asked
next_asked s before x = (survey s x, before ++ with_finding (survey s x) (found_inside s x))

-- each node is asked
abbrev pub all_asked : Stage → List Finding → Nodes → Asked
all_asked s before xs = (surveys s xs, before ++ found s xs)

-- what is known is nothing, or all
abbrev pub AreAll : List Finding → List Finding → Type 0
AreAll [] all = ⊤
AreAll (f ∷ fs) all = f ∷ fs ≡ all

-- how far the call had come
abbrev pub stage_then : Context → SpecialForm → Findings → Stage
stage_then c form k = record { context = c; form = form; has_date = k.has_date; suppressed = k.suppressed.now }

-- what is known of nodes is what was found then
abbrev pub AreFound : Context → SpecialForm → Findings → Nodes → Type 0
AreFound c form k xs = AreAll k.nodes.now (found (stage_then c form k) xs)

-- what is known of the nodes inside a node is what was found then
abbrev pub AreFoundInside : Context → SpecialForm → Findings → Node → Type 0
AreFoundInside c form k x = AreAll k.nodes.now (found_inside (stage_then c form k) x)

-- what is known of a node is what is found now
pub record IsFound (c : Context) (s : settings.NodeSetting) (st : State) (n : NodeFinding) (x : Node) : Type 0 where
  pub is_admitted : n.is_admitted ≡ (survey (stage c s st) x).is_admitted
  pub met : n.met ≡ (survey (stage c s st) x).met
  pub inside : AreFoundInside c s.form n.inside x

-- what a survey of a node found is what is found now
pub record IsSurveyed (c : Context) (s : settings.NodeSetting) (st : State) (n : Surveyed) (x : Node) : Type 0 where
  pub is_admitted : n.is_admitted ≡ (survey (stage c s st) x).is_admitted
  pub met : n.met ≡ (survey (stage c s st) x).met
  pub has_date : n.has_date ≡ st.has_date
  pub suppressed : n.suppressed.items ≡ st.suppressed
  pub inside : n.inside.items ≡ found_inside (stage c s st) x

-- what is known of a node, before or just now, is what is found now
abbrev pub IsKnown : Context → settings.NodeSetting → State → Known → Node → Type 0
IsKnown c s st (Before n) x = IsFound c s st n x
IsKnown c s st (Now n) x = IsSurveyed c s st n x
