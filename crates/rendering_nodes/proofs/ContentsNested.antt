-- What nodes append to a properly nested page leaves it so.
use Rattle.std.proofs.Common.{ℕ, Bool, true, false, not, ◌&&◌, ◌||◌, List, [], ◌∷◌, ◌≡◌, refl, sym, ◌∙◌, Option, Some, None}
use Rattle.std.specs.Prelude.{if◌then◌else◌}
use Rattle.std.specs.Option.{option_map_or}
use Rattle.std.proofs.lemmas.List.Sums.{fold-append}
use Rattle.rendering_tree.specs.Metas.{Answered}
use Rattle.rendering_page.specs.Pages.{Frame, begun, ended, prints}
use Rattle.rendering_page.specs.Pieces.{Piece, normal, end, append_piece, append_pieces}
use Rattle.rendering_style.specs.Nodes.{NamesNode, Node, Nodes, Branches, leaf, call, opened, names, choose, group, no_nodes, node, otherwise, branch}
use Rattle.rendering_names.specs.Names.{names_frame, names_pieces, node_options, properties_by}
use Rattle.rendering_context.specs.Contexts.{Context}
use Rattle.rendering_context.specs.Choosing.{is_met, asks_disambiguate}
use Rattle.rendering_leaves.specs.NodeSettings.{NodeSetting, State, append, noted, with_printed}
use Rattle.rendering_leaves.specs.Values.{text_manner, quote_before, quote_after}
use Rattle.rendering_people.specs.Properties.{Properties}
use Rattle.rendering_taxonomy.specs.declared.variable.Variable.TheVariants as variables
use Rattle.rendering_nodes.specs.Admission.{survey}
use Rattle.rendering_nodes.specs.Content.{substituted_names, taken, disambiguated, remembered, with_people_printed, append_names, names_in, macro_frame, group_frame, stage, entered, left, inside_macro, inside_group, inside_names, delimited, delimited_frame, delimited_node, delimits_printed, bare, tried, accepted, people_of, names_or_substitute, content, contents, chosen, first_substitute}
use Rattle.rendering_nodes.specs.Laws.{ContentsAreNested}
use Rattle.rendering_nodes.proofs.PiecesFraming.{nested_frames, level_as, level_on, level_to, level_ended, EndAll, ends_none, ends_normal}
use Rattle.rendering_nodes.proofs.LeavesFraming.{ends_quote_before, ends_quote_after, ends_names, KeepsOpen, keeps_append, keeps_leaf, page_if, page_printed, page_standing}

keeps_on : (st middle done : State) → KeepsOpen st middle → KeepsOpen middle done → KeepsOpen st done
keeps_on st middle done a b = level_on st.page.tokens middle.page.tokens done.page.tokens a b

keeps_either : (b : Bool) (st x y : State) → KeepsOpen st x → KeepsOpen st y → KeepsOpen st (if b then x else y)
keeps_either true st x y h k = h
keeps_either false st x y h k = k

-- an element round what keeps what is open
keeps_element : (c : Context) (f : Frame) (before after : List Piece) (st done : State) → EndAll before → EndAll after → KeepsOpen (entered c f before st) done
    → KeepsOpen st (left c f after done)
keeps_element c f before after st done h k inside =
    let first = begun f st.page in
    let next = append_pieces c.quotes before first in
    let last = append_pieces c.quotes after done.page in
    level_to st.page.tokens (ended c.quotes f last) (left c f after done).page (fold-append (append_piece c.quotes) done.page after (end f ∷ []))
    (level_ended c.quotes f st.page last
    (level_on first.tokens next.tokens last.tokens (h.on_page c.quotes first)
    (level_on next.tokens done.page.tokens last.tokens inside (k.on_page c.quotes done.page))))

keeps_delimited : (c : Context) (s : NodeSetting) (is_first : Bool) (st : State) → KeepsOpen st (delimited c s is_first st)
keeps_delimited c s true st = level_as st.page.tokens
keeps_delimited c s false st = keeps_append c (option_map_or (λ d. normal s.manner d ∷ []) s.delimiter []) st (some s.delimiter)
  where
    some : (o : Option (List ℕ)) → EndAll (option_map_or (λ d. normal s.manner d ∷ []) o [])
    some None = ends_none
    some (Some d) = ends_normal s.manner d

page_people : (people : List Answered) (st : State) → (with_people_printed people st).page ≡ st.page
page_people [] st = refl
page_people (a ∷ people) st = page_people people (with_printed (variables.Name a.1) st) ∙ page_printed (variables.Name a.1) st

page_names : (c : Context) (s : NodeSetting) (h : NamesNode) (own : Properties) (people : List Answered) (st : State)
    → (append_names c s h own people st).page ≡ (remembered c s h own people st).page
page_names c s h own people st =
    let shown = remembered c s h own people st in
    page_if s.in_substitute (with_people_printed people shown) shown shown.page (page_people people shown) refl

-- a node after the delimiter, or in an element with it
keeps_node : (c : Context) (s : NodeSetting) (is_first : Bool) (append_node : State → State) (st : State)
    → ((before : State) → KeepsOpen before (append_node before)) → KeepsOpen st (delimited_node c s is_first append_node st)
keeps_node c s is_first append_node st k =
    let f = delimited_frame s st in
    let inside = append_node (entered c f [] st) in
    let next = delimited c s is_first st in
    keeps_either (delimits_printed s st) st (left c f [] inside) (append_node next)
    (keeps_element c f [] [] st inside ends_none ends_none (k (entered c f [] st)))
    (keeps_on st next (append_node next) (keeps_delimited c s is_first st) (k next))

keeps_names : (c : Context) (s : NodeSetting) (h : NamesNode) (substitute : State → State) (people : List Answered) (st : State)
    → ((before : State) → KeepsOpen before (substitute before)) → KeepsOpen st (names_or_substitute c s h substitute people st)
keeps_names c s h substitute [] st k =
    keeps_element c (names_frame s.manner h []) [] [] st (substitute (entered c (names_frame s.manner h []) [] st)) ends_none ends_none (k (entered c (names_frame s.manner h []) [] st))
keeps_names c s h substitute (a ∷ people) st k =
    let own = properties_by (node_options h s.options) c.properties.is_first (a ∷ people) in
    let ps = names_pieces c.locales s.manner h s.options (disambiguated c st.names own) (a ∷ people) in
    level_to st.page.tokens (append c ps st).page (append_names c s h own (a ∷ people) st).page (page_names c s h own (a ∷ people) st)
    (keeps_append c ps st (ends_names c.locales s.manner h s.options (disambiguated c st.names own) (a ∷ people)))

mutual
  keeps_content : (c : Context) (outer : Option NamesNode) (s : NodeSetting) (x : Node) (st : State) → KeepsOpen st (content c outer s x st)
  keeps_content c outer s (leaf l) st = keeps_leaf c s l st
  keeps_content c outer s (call name look) st = level_as st.page.tokens
  keeps_content c outer s (opened look xs) st =
      let f = macro_frame s look in
      let m = text_manner s.manner look in
      let before = quote_before c m look.quotes s.inside_quotes in
      let after = quote_after c m look.quotes s.inside_quotes in
      let inside = contents c (inside_macro s look) true xs (entered c f before st) in
      keeps_element c f before after st inside (ends_quote_before c m look.quotes s.inside_quotes) (ends_quote_after c m look.quotes s.inside_quotes)
      (keeps_contents c (inside_macro s look) true xs (entered c f before st))
  keeps_content c outer s (names h xs) st =
      let own = names_in s.form (taken (substituted_names c.is_published outer s) h) in
      keeps_names c s own (first_substitute c own (inside_names s own xs) xs) (people_of c st h) st (keeps_substitute c own (inside_names s own xs) xs)
  keeps_content c outer s (choose bs) st = keeps_chosen c s bs st
  keeps_content c outer s (group g xs) st =
      let f = group_frame s g in
      keeps_element c f [] [] st (contents c (inside_group s g) true xs (entered c f [] st)) ends_none ends_none (keeps_contents c (inside_group s g) true xs (entered c f [] st))

  keeps_contents : (c : Context) (s : NodeSetting) (is_first : Bool) (xs : Nodes) (st : State) → KeepsOpen st (contents c s is_first xs st)
  keeps_contents c s is_first no_nodes st = level_as st.page.tokens
  keeps_contents c s is_first (node x xs) st =
      let asked = survey (stage c s st) x in
      let known = noted asked.met st in
      let done = delimited_node c s is_first (content c None s x) known in
      let step = if asked.is_admitted then done else known in
      keeps_on st step (contents c s (is_first && not asked.is_admitted) xs step)
      (keeps_either asked.is_admitted st done known (keeps_node c s is_first (content c None s x) known (keeps_content c None s x)) (level_as st.page.tokens))
      (keeps_contents c s (is_first && not asked.is_admitted) xs step)

  keeps_chosen : (c : Context) (s : NodeSetting) (bs : Branches) (st : State) → KeepsOpen st (chosen c s bs st)
  keeps_chosen c s (otherwise xs) st = keeps_contents c s true xs st
  keeps_chosen c s (branch condition xs bs) st =
      let known = noted (asks_disambiguate condition) st in
      keeps_either (is_met c condition) st (contents c s true xs known) (chosen c s bs known) (keeps_contents c s true xs known) (keeps_chosen c s bs known)

  keeps_substitute : (c : Context) (h : NamesNode) (s : NodeSetting) (xs : Nodes) (st : State) → KeepsOpen st (first_substitute c h s xs st)
  keeps_substitute c h s no_nodes st = level_as st.page.tokens
  keeps_substitute c h s (node x xs) st =
      let asked = survey (stage c s st) x in
      let known = noted asked.met st in
      let done = content c (Some h) s x (tried c s known) in
      let failed = noted (asked.met || asked.is_admitted && done.met_disambiguate) st in
      keeps_either (asked.is_admitted && prints 0 done.page.tokens) st (accepted c s done) (first_substitute c h s xs failed)
      (level_to st.page.tokens (left c (bare s) [] done).page (accepted c s done).page (page_standing (left c (bare s) [] done))
      (keeps_element c (bare s) [] [] known done ends_none ends_none (keeps_content c (Some h) s x (tried c s known))))
      (keeps_substitute c h s xs failed)

-- as many elements and marks are open after as before, so that nesting neither comes nor goes
pub contents_nested : ContentsAreNested
contents_nested c s is_first xs st e =
    sym (nested_frames (contents c s is_first xs st).page.tokens []) ∙ (keeps_contents c s is_first xs st).nested [] ∙ nested_frames st.page.tokens [] ∙ e
