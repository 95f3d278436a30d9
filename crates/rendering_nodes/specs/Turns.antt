-- What one node of several adds to a page.
use Rattle.std.specs.Prelude.{Bool, ◌&&◌, [], if◌then◌else◌, None, Some}
use Rattle.rendering_page.specs.Pages.{prints}
use Rattle.rendering_style.specs.Nodes.{NamesNode, Node, Nodes}
use Rattle.rendering_names.specs.Names.{names_frame}
use Rattle.rendering_context.specs.Contexts.{Context}
use Rattle.rendering_leaves.specs.NodeSettings.{NodeSetting, State, noted}
use Rattle.rendering_nodes.specs.Admission.{survey}
use Rattle.rendering_nodes.specs.Content.{accepted, content, delimited_frame, delimited_node, entered, first_substitute, inside_names, left, names_in, names_or_substitute, people_of, stage, tried}

-- whether a node is admitted
abbrev pub is_next : Context → NodeSetting → Node → State → Bool
is_next c s x st = (survey (stage c s st) x).is_admitted

-- the state after a node was asked
abbrev pub asked : Context → NodeSetting → Node → State → State
asked c s x st = noted (survey (stage c s st) x).met st

-- a node that is appended if it is admitted, after the delimiter
abbrev pub append_next : Context → NodeSetting → Bool → Node → State → State
append_next c s is_first x st = if is_next c s x st then delimited_node c s is_first (content c None s x) (asked c s x st) else asked c s x st

-- a node in an element with the delimiter of the group around before it
abbrev pub in_delimited : Context → NodeSetting → Node → State → State
in_delimited c s x st = left c (delimited_frame s st) [] (content c None s x (entered c (delimited_frame s st) [] st))

-- the element of names with their substitute
abbrev pub substituted : Context → NodeSetting → NamesNode → Nodes → State → State
substituted c s h xs st = left c (names_frame s.manner h []) [] (first_substitute c h (inside_names s h xs) xs (entered c (names_frame s.manner h []) [] st))

-- names, once they say what they take from others
abbrev pub names_appended : Context → NodeSetting → NamesNode → Nodes → State → State
names_appended c s h xs st =
    let own = names_in s.form h in
    let substitute = first_substitute c own (inside_names s own xs) xs in
    names_or_substitute c s own substitute (people_of c st h) st

-- a node that is tried instead of names
abbrev pub attempt : Context → NamesNode → NodeSetting → Node → State → State
attempt c h s x st = content c (Some h) s x (tried c s (asked c s x st))

-- whether it is a substitute
abbrev pub is_substitute : Context → NamesNode → NodeSetting → Node → State → Bool
is_substitute c h s x st = is_next c s x st && prints 0 (attempt c h s x st).page.tokens

-- the state of what was tried, if it printed something, else only whether the test `disambiguate` was evaluated in it
abbrev pub settled : Context → NodeSetting → State → State → State
settled c s done st = if prints 0 done.page.tokens then accepted c s done else noted done.met_disambiguate st

-- a node of a substitute, if it is admitted and prints something
abbrev pub append_substitute : Context → NamesNode → NodeSetting → Node → State → State
append_substitute c h s x st = if is_next c s x st then settled c s (attempt c h s x st) (asked c s x st) else asked c s x st
