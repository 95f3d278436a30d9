-- What nodes add to a page.
use Rattle.std.specs.Prelude.{Bool, true, false, not, ◌&&◌, ◌||◌, List, [], ◌∷◌, ◌++◌, fold, if◌then◌else◌, Option, Some, None, is_some}
use Rattle.std.specs.Option.{option_map_or, unwrap_or}
use Rattle.rendering_tree.specs.Metas as metas
use Rattle.rendering_tree.specs.Metas.{Answered}
use Rattle.rendering_page.specs.Pages.{Frame, prints}
use Rattle.rendering_page.specs.Pieces.{Piece, normal, begin, end}
use Rattle.rendering_style.specs.Nodes.{Look, TextLook, NamesNode, GroupNode, Node, Nodes, Branches, leaf, call, opened, names, choose, group, no_nodes, node, otherwise, branch}
use Rattle.rendering_people.specs.Properties.{Properties, raised_to}
use Rattle.rendering_names.specs.Names.{completed, names_frame, names_manner, names_pieces, node_options, properties_by}
use Rattle.rendering_context.specs.Cites.{names_of}
use Rattle.rendering_context.specs.Contexts.{Context}
use Rattle.rendering_leaves.specs.NodeSettings.{SpecialForm, authors_alone, NodeSetting, State, append, noted, with_printed, standing}
use Rattle.rendering_context.specs.Answering.{all_people}
use Rattle.rendering_context.specs.Choosing.{is_met, asks_disambiguate}
use Rattle.rendering_nodes.specs.Admission.{Stage, substitute_form, survey}
use Rattle.rendering_leaves.specs.Values.{look_manner, text_manner, frame, quote_before, quote_after, append_leaf}
use Rattle.rendering_taxonomy.specs.declared.variable.Variable.TheVariants as variables

-- what a names node says of names, whether or not it is a substitute
abbrev pub taken : Option NamesNode → NamesNode → NamesNode
taken None h = h
taken (Some outer) h = completed outer h

-- The names whose substitute a node stands in: directly, or in a published style in groups and branches too.
abbrev pub substituted_names : Bool → Option NamesNode → NodeSetting → Option NamesNode
substituted_names is_published None s = if is_published then s.outer_names else None
substituted_names is_published (Some outer) s = Some outer

-- Of the first names that are printed more may be printed than the options say, to disambiguate people and cites.
abbrev pub disambiguated : Context → Option Properties → Properties → Properties
disambiguated c None own = raised_to (names_of c.properties.disambiguation) (raised_to c.properties.first_names own)
disambiguated c (Some first) own = own

-- the variables of people, which a substitute printed, are not printed again
abbrev pub with_people_printed : List Answered → State → State
with_people_printed people st = fold (λ before (a : Answered). with_printed (variables.Name a.1) before) st people

-- names with people, of which it is remembered what is printed of them by their options
abbrev pub remembered : Context → NodeSetting → NamesNode → Properties → List Answered → State → State
remembered c s h own people st =
    record (append c (names_pieces c.locales s.manner h s.options (disambiguated c st.names own) people) st) { names = Some (unwrap_or st.names own) }

-- names with people
abbrev pub append_names : Context → NodeSetting → NamesNode → Properties → List Answered → State → State
append_names c s h own people st =
    if s.in_substitute
    then with_people_printed people (remembered c s h own people st)
    else remembered c s h own people st

-- names with people, by the options of the node and those around it
abbrev pub append_people : Context → NodeSetting → NamesNode → List Answered → State → State
append_people c s h people st = append_names c s h (properties_by (node_options h s.options) c.properties.is_first people) people st

-- how far a call has come at a state
abbrev pub stage : Context → NodeSetting → State → Stage
stage c s st = record { context = c; form = s.form; has_date = st.has_date; suppressed = st.suppressed }

-- a node's look, without its affixes where names stand alone
abbrev pub look_in : SpecialForm → Look → Look
look_in (authors_alone v) l = record l { prefix = []; suffix = [] }
look_in form l = l

-- a names node, without its affixes where names stand alone
abbrev pub names_in : SpecialForm → NamesNode → NamesNode
names_in form h = record h { look = look_in form h.look }

-- the element of a macro
abbrev pub macro_frame : NodeSetting → TextLook → Frame
macro_frame s look = frame s.manner (Some metas.Text) (look_in s.form look.look)

-- the element of a group
abbrev pub group_frame : NodeSetting → GroupNode → Frame
group_frame s g = frame s.manner None (look_in s.form g.look)

-- an element begins, with a quote where it stands in quotes, and ends
abbrev pub entered : Context → Frame → List Piece → State → State
entered c f quote st = append c (begin f ∷ quote) st

-- an element ends, after its close quote
abbrev pub left : Context → Frame → List Piece → State → State
left c f quote st = append c (quote ++ end f ∷ []) st

-- what is handed down inside an opened macro: no delimiter and no names around, and quotes of the other kind where the macro stands in quotes
abbrev pub inside_macro : NodeSetting → TextLook → NodeSetting
inside_macro s look = record s {
  manner = text_manner s.manner look;
  delimiter = None;
  inside_quotes = if look.quotes then not s.inside_quotes else s.inside_quotes;
  outer_names = None;
}

-- what is handed down inside a group
abbrev pub inside_group : NodeSetting → GroupNode → NodeSetting
inside_group s g = record s { manner = look_manner s.manner g.look; delimiter = g.delimiter }

-- what is handed down inside a names node whose substitute is printed
abbrev pub inside_names : NodeSetting → NamesNode → Nodes → NodeSetting
inside_names s h xs = record s {
  manner = names_manner s.manner h;
  in_substitute = true;
  form = substitute_form s.form h.variables xs;
  outer_names = Some h;
}

-- what stands between the children of the group around, before all but the first
abbrev pub delimited : Context → NodeSetting → Bool → State → State
delimited c s true st = st
delimited c s false st = append c (option_map_or (λ d. normal s.manner d ∷ []) s.delimiter []) st

-- the element round the substitute of names, without display, meta and affixes
abbrev pub bare : NodeSetting → Frame
bare s = record { display = None; meta = None; manner = s.manner; prefix = []; suffix = [] }

-- an element begins that is removed if it prints nothing
abbrev pub tried : Context → NodeSetting → State → State
tried c s st = append c (begin (bare s) ∷ []) st

-- that element ends, once it has printed something: the substitute stands
abbrev pub accepted : Context → NodeSetting → State → State
accepted c s st = standing (append c (end (bare s) ∷ []) st)

-- whether a delimiter stands between nodes that print something, in a published style, and not between all that are admitted
abbrev pub delimits_printed : NodeSetting → State → Bool
delimits_printed s st = st.is_published && is_some s.delimiter

-- the element round a node of such a style, with the delimiter of the group around before it, if something was printed there
abbrev pub delimited_frame : NodeSetting → State → Frame
delimited_frame s st = record (bare s) { prefix = if prints 0 st.page.tokens then unwrap_or s.delimiter [] else [] }

-- A node that is admitted, after the delimiter of the group around. In a published style both are removed if the node prints nothing.
abbrev pub delimited_node : Context → NodeSetting → Bool → (State → State) → State → State
delimited_node c s is_first append_node st =
    if delimits_printed s st
    then left c (delimited_frame s st) [] (append_node (entered c (delimited_frame s st) [] st))
    else append_node (delimited c s is_first st)

-- the people of a names node
abbrev pub people_of : Context → State → NamesNode → List Answered
people_of c st h = all_people c st.suppressed h.variables

-- names with people, or the element of the node with their substitute
abbrev pub names_or_substitute : Context → NodeSetting → NamesNode → (State → State) → List Answered → State → State
names_or_substitute c s h substitute [] st = left c (names_frame s.manner h []) [] (substitute (entered c (names_frame s.manner h []) [] st))
names_or_substitute c s h substitute (a ∷ people) st = append_people c s h (a ∷ people) st

abbrev mutual
  -- What a node appends, given the names node that it is directly a substitute of, what is handed down, and what was appended before it.
  pub content : Context → Option NamesNode → NodeSetting → Node → State → State
  content c outer s (leaf l) st = append_leaf c s l st
  content c outer s (call name look) st = st
  content c outer s (opened look xs) st =
      left c (macro_frame s look) (quote_after c (text_manner s.manner look) look.quotes s.inside_quotes)
      (contents c (inside_macro s look) true xs
      (entered c (macro_frame s look) (quote_before c (text_manner s.manner look) look.quotes s.inside_quotes) st))
  content c outer s (names h xs) st =
      let own = names_in s.form (taken (substituted_names c.is_published outer s) h) in
      names_or_substitute c s own (first_substitute c own (inside_names s own xs) xs) (people_of c st h) st
  content c outer s (choose bs) st = chosen c s bs st
  content c outer s (group g xs) st =
      left c (group_frame s g) [] (contents c (inside_group s g) true xs (entered c (group_frame s g) [] st))

  -- Nodes one after the other, of which those that are admitted are appended, with the delimiter before each but the first of them.
  pub contents : Context → NodeSetting → Bool → Nodes → State → State
  contents c s is_first no_nodes st = st
  contents c s is_first (node x xs) st =
      let asked = survey (stage c s st) x in
      contents c s (is_first && not asked.is_admitted) xs
      (if asked.is_admitted then delimited_node c s is_first (content c None s x) (noted asked.met st) else noted asked.met st)

  -- the branch that is taken
  pub chosen : Context → NodeSetting → Branches → State → State
  chosen c s (otherwise xs) st = contents c s true xs st
  chosen c s (branch condition xs bs) st =
      if is_met c condition
      then contents c s true xs (noted (asks_disambiguate condition) st)
      else chosen c s bs (noted (asks_disambiguate condition) st)

  -- The first node that prints something is the substitute. Of one that prints nothing only this remains: whether the test `disambiguate`
  -- was evaluated.
  pub first_substitute : Context → NamesNode → NodeSetting → Nodes → State → State
  first_substitute c h s no_nodes st = st
  first_substitute c h s (node x xs) st =
      let asked = survey (stage c s st) x in
      let done = content c (Some h) s x (tried c s (noted asked.met st)) in
      if asked.is_admitted && prints 0 done.page.tokens
      then accepted c s done
      else first_substitute c h s xs (noted (asked.met || asked.is_admitted && done.met_disambiguate) st)
