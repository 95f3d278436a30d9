-- What published styles ask for changes nothing of what others print.
use Rattle.std.proofs.Common.{Bool, [], ◌∷◌, ◌&&◌, refl, ap, None, Some}
use Rattle.std.specs.Prelude.{if◌then◌else◌, is_some}
use Rattle.rendering_leaves.specs.NodeSettings.{whole, author_only, without_author, first_date_only, suffix_only, authors_alone, without_names, State, append, with_variable}
use Rattle.rendering_page.specs.Pieces.{end}
use Rattle.rendering_nodes.specs.Content.{bare, delimited, delimited_frame, entered, left}
use Rattle.rendering_nodes.specs.LeftOpen.{AdmittedNodesAreDelimited, SubstitutesSuppressAtOnce, AcceptedSubstitutesEnd, NodesHaveTheirAffixes, SubstitutesAloneTake, SubstitutesKeepTheForm}

pub admitted_delimited : AdmittedNodesAreDelimited
admitted_delimited c s is_first append_node st e =
    ap (λ (b : Bool). if b && is_some s.delimiter then left c (delimited_frame s st) [] (append_node (entered c (delimited_frame s st) [] st)) else append_node (delimited c s is_first st)) e

pub suppress_at_once : SubstitutesSuppressAtOnce
suppress_at_once s v st e =
    ap (λ (b : Bool). if s.in_substitute then (if b then record st { printed = with_variable st.printed v } else record st { suppressed = with_variable st.suppressed v }) else st) e

pub accepted_end : AcceptedSubstitutesEnd
accepted_end c s st e =
    let done : State = append c (end (bare s) ∷ []) st in
    ap (λ (b : Bool). if b then record done { suppressed = done.printed } else done) e

pub affixes_stay : NodesHaveTheirAffixes
affixes_stay whole l h = refl
affixes_stay (author_only v) l h = refl
affixes_stay without_author l h = refl
affixes_stay first_date_only l h = refl
affixes_stay suffix_only l h = refl
affixes_stay (authors_alone v) l h = absurd (h v refl)
affixes_stay (without_names v) l h = refl

pub substitutes_take : SubstitutesAloneTake
substitutes_take None s = refl
substitutes_take (Some outer) s = refl

pub form_stays : SubstitutesKeepTheForm
form_stays whole vs xs inside h = (refl, refl)
form_stays (author_only v) vs xs inside h = (refl, refl)
form_stays without_author vs xs inside h = (refl, refl)
form_stays first_date_only vs xs inside h = (refl, refl)
form_stays suffix_only vs xs inside h = (refl, refl)
form_stays (authors_alone v) vs xs inside h = absurd (h v refl)
form_stays (without_names v) vs xs inside h = (refl, refl)
