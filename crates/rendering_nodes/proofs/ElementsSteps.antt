-- Where elements end, and names with people.
use Rattle.std.proofs.Common.{◌≡◌, true, false, List, [], ◌∷◌, is_some, refl, sym, ap, ◌∙◌, Option, None, Some}
use Rattle.std.specs.Prelude.{IfOk, Result, Ok, Err}
use Rattle.std.specs.Option.{unwrap_or}
use Rattle.std.proofs.lemmas.List.Sums.{fold-append}
use Rattle.rendering_page.specs.Pages.{Page, Frame, ended}
use Rattle.rendering_page.specs.Pieces.{Piece, end, append_piece}
use Rattle.rendering_context.specs.Cites.{names_of}
use Rattle.rendering_context.specs.Contexts.{Context}
use Rattle.rendering_context.specs.Views.{state_view}
use Rattle.rendering_context.specs.declared.cite.DisambiguateState.{DisambiguateState}
use Rattle.rendering_context.specs.declared.cite.DisambiguateState.TheVariants as states
use Rattle.rendering_leaves.specs.NodeSettings.{NodeSetting, State, append}
use Rattle.rendering_names.specs.Names.{names_pieces}
use Rattle.rendering_people.specs.Properties.{Properties, raised_to}
use Rattle.rendering_style.specs.Nodes.{NamesNode}
use Rattle.rendering_tree.specs.Metas.{Answered}
use Rattle.rendering_nodes.specs.Content.{left, append_names, disambiguated}

-- an element ends that has no close quote
pub ended_by : (c : Context) (f g : Frame) (viewed st : State) (p : Page) → viewed ≡ st → f ≡ g → p ≡ ended c.quotes f viewed.page → record viewed { page = p } ≡ left c g [] st
ended_by c f g viewed st p v e h = λ i. record (v i) { page = (h ∙ (λ k. ended c.quotes (e k) (v k).page)) i }

-- an element ends after its close quote
pub left_by : (c : Context) (f g : Frame) (q r : List Piece) (viewed middle st : State) (p : Page)
    → viewed ≡ middle → middle ≡ append c q st → q ≡ r → f ≡ g → p ≡ ended c.quotes f viewed.page → record viewed { page = p } ≡ left c g r st
left_by c f g q r viewed middle st p v m same e h =
    let w : viewed ≡ append c r st = v ∙ (m ∙ ap (λ ps. append c ps st) same) in
    λ i. record (w i) { page = (h ∙ ((λ k. ended c.quotes (e k) (w k).page) ∙ sym (fold-append (append_piece c.quotes) st.page r (end g ∷ [])))) i }

-- other properties of names that are the same
pub shown_as : (c : Context) (s : NodeSetting) (h : NamesNode) (ps qs : Properties) (people : List Answered) (st new : State)
    → ps ≡ qs → new ≡ append c (names_pieces c.locales s.manner h s.options ps people) st → new ≡ append c (names_pieces c.locales s.manner h s.options qs people) st
shown_as c s h ps qs people st new same e = e ∙ ap (λ rs. append c (names_pieces c.locales s.manner h s.options rs people) st) same

-- the same of names that are remembered
pub own_as : (c : Context) (s : NodeSetting) (h : NamesNode) (ps qs : Properties) (people : List Answered) (st new : State)
    → ps ≡ qs → new ≡ append_names c s h ps people st → new ≡ append_names c s h qs people st
own_as c s h ps qs people st new same e = e ∙ ap (λ rs. append_names c s h rs people st) same

-- other properties that are the same, of names that may be raised
pub raised_as : {E : Type 0} (r : Result (Option Properties) E) (own ps qs : Properties) → ps ≡ qs → IfOk r (λ n. unwrap_or n own ≡ ps) → IfOk r (λ n. unwrap_or n own ≡ qs)
raised_as (Ok n) own ps qs same e = e ∙ same
raised_as (Err f) own ps qs same e = tt

-- nothing is raised after the first names
pub disambiguated_some : (c : Context) (names : Option Properties) (own : Properties) → is_some names ≡ true → own ≡ disambiguated c names own
disambiguated_some c None own e = cc
disambiguated_some c (Some first) own e = refl

-- the first names are raised
pub disambiguated_none : (c : Context) (names : Option Properties) (own : Properties) → is_some names ≡ false → raised_to (names_of c.properties.disambiguation) (raised_to c.properties.first_names own) ≡ disambiguated c names own
disambiguated_none c None own e = refl
disambiguated_none c (Some first) own e = cc

-- nothing raises nothing
pub raised_none : (own : Properties) → own ≡ raised_to [] own
raised_none [] = refl
raised_none (p ∷ ps) = ap (λ qs. p ∷ qs) (raised_none ps)

-- names are raised by names alone
pub raised_by_names : (d : DisambiguateState) (own : Properties) → ((ps : Properties) → d ≡ states.NameDisambiguation ps → ⊥) → own ≡ raised_to (names_of (state_view d)) own
raised_by_names states.None own absent = raised_none own
raised_by_names (states.NameDisambiguation ps) own absent = absurd (absent ps refl)
raised_by_names states.Choose own absent = raised_none own
raised_by_names (states.YearSuffix n) own absent = raised_none own
