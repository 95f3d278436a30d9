-- Parts of what nodes append.
use Rattle.std.specs.Prelude.{ℕ, Bool, List, [], ◌∷◌, ◌++◌, Option, Some, None}
use Rattle.literature_values.specs.declared.date.Date.{Date}
use Rattle.rendering_locale.specs.Lookup.{term_text}
use Rattle.rendering_page.specs.Pages.{Manner}
use Rattle.rendering_page.specs.Pieces.{Piece, normal, begin, end, framed}
use Rattle.rendering_style.specs.Nodes.{TextLook, NumberNode, LabelLook, DateNode}
use Rattle.rendering_tree.specs.Metas as metas
use Rattle.rendering_names.specs.Names.{pluralizes, label_manner}
use Rattle.rendering_context.specs.Contexts.{Context}
use Rattle.rendering_context.specs.Answering.{Answer}
use Rattle.rendering_leaves.specs.Links.{look_before}
use Rattle.rendering_leaves.specs.NodeSettings.{NodeSetting}
use Rattle.rendering_leaves.specs.Values.{frame, text_manner, number_manner, date_manner, quote_before, quote_after, identified, answer_pieces, label_suffix, label_term, date_frame, date_inside}
use Rattle.rendering_taxonomy.specs.declared.number.NumberForm.TheVariants as number_forms
use Rattle.rendering_taxonomy.specs.declared.variable.Variable.{Variable}

-- what stands before the text of a text node: its prefix, or so much of it as stands before a link, and its quote
abbrev pub before_text : Context → NodeSetting → Option (List ℕ) → TextLook → List Piece
before_text c s before look =
    begin (frame s.manner (Some metas.Text) (look_before before look.look)) ∷ quote_before c (text_manner s.manner look) look.quotes s.inside_quotes

-- what stands after it: its quote and its suffix
abbrev pub after_text : Context → NodeSetting → Option (List ℕ) → TextLook → List Piece
after_text c s before look =
    quote_after c (text_manner s.manner look) look.quotes s.inside_quotes ++ end (frame s.manner (Some metas.Text) (look_before before look.look)) ∷ []

-- pieces in a text node
abbrev pub in_text : Context → NodeSetting → Option (List ℕ) → TextLook → List Piece → List Piece
in_text c s before look ps =
    framed (frame s.manner (Some metas.Text) (look_before before look.look))
    (quote_before c (text_manner s.manner look) look.quotes s.inside_quotes
    ++ ps
    ++ quote_after c (text_manner s.manner look) look.quotes s.inside_quotes)

-- an answer as a text, with the year suffix after a label
abbrev pub labelled : Context → Manner → Variable → Answer → List Piece
labelled c m v answer = identified m v (answer_pieces c m number_forms.Numeric answer) ++ label_suffix c m v

-- an answer in a number node
abbrev pub in_number : Context → NodeSetting → NumberNode → Answer → List Piece
in_number c s n answer =
    framed (frame s.manner (Some metas.Number) n.look)
    (identified (number_manner s.manner n) n.variable (answer_pieces c (number_manner s.manner n) n.form answer))

-- the term of a variable in a label, for one or for more than one
abbrev pub in_label : Context → NodeSetting → Variable → LabelLook → Bool → List Piece
in_label c s v l plural =
    framed (frame s.manner (Some metas.Label) l.look)
    (normal (label_manner s.manner l) (term_text c.locales (label_term c v) l.form (pluralizes l.plural plural)) ∷ [])

-- a date in a date node, with a year suffix
abbrev pub in_date : Context → NodeSetting → DateNode → List ℕ → Date → List Piece
in_date c s d year_suffix day = framed (date_frame s s.form d) (date_inside c (date_manner s.manner d) s.form d year_suffix day)

-- a date in a date node, with a year suffix; nothing where there is no date
abbrev pub day_in : Context → NodeSetting → DateNode → List ℕ → Option Date → List Piece
day_in c s d year_suffix None = []
day_in c s d year_suffix (Some day) = in_date c s d year_suffix day
