-- What a caller who prints by itself may do to a page.
use Rattle.std.specs.Prelude.{ℕ, true, false, List, [], ◌∷◌, None}
use Rattle.literature_values.specs.TextViews.{Chunk}
use Rattle.rendering_page.specs.Pages.{Page, append_space}
use Rattle.rendering_page.specs.Pieces.{normal, linked, own_locator, chunk_pieces}
use Rattle.rendering_page.specs.PageCharacters.{plain_manner}
use Rattle.rendering_style.specs.Options.{NameOptions, open_options, options_over}
use Rattle.rendering_style.specs.Nodes.{Nodes}
use Rattle.rendering_names.specs.Around.{NamesAround, not_overriding}
use Rattle.rendering_context.specs.Contexts.{Context}
use Rattle.rendering_leaves.specs.NodeSettings.{NodeSetting, State, whole, append}
use Rattle.rendering_nodes.specs.Admission.{Survey, surveys}
use Rattle.rendering_nodes.specs.Content.{stage, contents}

-- What was appended, what is handed down, and the options for names that count again when those that count now are taken back.
pub record Writing : Type 0 where
  pub state : State
  pub setting : NodeSetting
  pub options_around : List NamesAround

-- what is handed down where nothing was specified
abbrev pub setting_begun : NodeSetting
setting_begun = record {
  manner = plain_manner;
  inside_quotes = false;
  delimiter = None;
  options = not_overriding open_options;
  in_substitute = false;
  form = whole;
  outer_names = None;
}

-- what was appended as it stands on a page
abbrev pub with_page : Page → Writing → Writing
with_page p w = record w { state = record w.state { page = p } }

-- further options for names over those that are said
abbrev pub further_options : NameOptions → NamesAround → NamesAround
further_options o around = record around { options = options_over o around.options }

-- further options for names count over those that count now
abbrev pub options_pushed : NameOptions → Writing → Writing
options_pushed o w = record w {
  setting = record w.setting { options = further_options o w.setting.options };
  options_around = w.setting.options ∷ w.options_around;
}

-- those before them count again; where nothing was pushed nothing changes
abbrev pub options_popped_to : List NamesAround → Writing → Writing
options_popped_to [] w = w
options_popped_to (o ∷ os) w = record w { setting = record w.setting { options = o }; options_around = os }

-- the options that were pushed last are taken back
abbrev pub options_popped : Writing → Writing
options_popped w = options_popped_to w.options_around w

-- a space, unless nothing was appended or the last text ends in one
abbrev pub space_ensured : Writing → Writing
space_ensured w = with_page (append_space w.state.page) w

-- an ordinary text
abbrev pub text_pushed : Context → List ℕ → Writing → Writing
text_pushed c cs w = record w { state = append c (normal w.setting.manner cs ∷ []) w.state }

-- a text in pieces
abbrev pub chunks_pushed : Context → List Chunk → Writing → Writing
chunks_pushed c cs w = record w { state = append c (chunk_pieces w.setting.manner cs) w.state }

-- a link from a text to an address
abbrev pub link_pushed : Context → List ℕ → List ℕ → Writing → Writing
link_pushed c cs url w = record w { state = append c (linked w.setting.manner.formatting cs url ∷ []) w.state }

-- a locator of the caller's own, by the index of its cite
abbrev pub transparent_pushed : Context → ℕ → Writing → Writing
transparent_pushed c n w = record w { state = append c (own_locator w.setting.manner.formatting n ∷ []) w.state }

-- what nodes whose macros are opened print there, each that is admitted
abbrev pub nodes_rendered : Context → Nodes → Writing → Writing
nodes_rendered c xs w = record w { state = contents c w.setting true xs w.state }

-- what is asked of them first: whether one is admitted, whether they call variables, and whether one of these has an answer
abbrev pub nodes_asked : Context → Nodes → Writing → Survey
nodes_asked c xs w = surveys (stage c w.setting w.state) xs
