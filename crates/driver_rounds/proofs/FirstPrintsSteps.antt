-- Cites as they print before any is disambiguated.
use Rattle.std.proofs.Common.{◌≡◌, Bool, [], ◌∷◌, refl, ap, ◌∙◌, Option, Some, None}
use Rattle.std.specs.Option.{option_map}
use Rattle.rendering_style.specs.Styles.{Citation}
use Rattle.rendering_people.specs.Properties.{Properties, raised_to}
use Rattle.rendering_context.specs.Cites.{undisambiguated}
use Rattle.rendering.specs.Purposes.{Rendered}
use Rattle.driver_requests.specs.Cites.{Numbered, entry_of}
use Rattle.driver_names.specs.Prints.{printed_as}
use Rattle.driver_rounds.specs.FirstPrints.{has_suffix_date, printed_by, printed_undisambiguated, repeats_by}

-- what a cite prints undisambiguated, with what is known of it, is that cite
pub printed_undisambiguated_is : {P : Type 0} (p : Numbered P) (has_date : Bool) (style : Citation) (repeats : Bool) (names : Option Properties) (rendered : Rendered)
    → has_date ≡ has_suffix_date p.cite.item.entry.answers → style ≡ p.cite.context.style.citation → repeats ≡ repeats_by style p.ibid → names ≡ option_map (raised_to p.first_names) rendered.names → rendered ≡ printed_by p undisambiguated
    → printed_as (record { entry = entry_of p.cite; number = p.number; has_date = has_date; style = style; repeats = repeats; printed = λ state. (printed_by p state).tree; met_disambiguate = rendered.met_disambiguate; names = names }) undisambiguated rendered.tree ≡ printed_undisambiguated p
printed_undisambiguated_is p has_date style repeats names rendered dated styled repeated named prints =
    let again : repeats ≡ repeats_by p.cite.context.style.citation p.ibid = repeated ∙ ap (λ c. repeats_by c p.ibid) styled in
    let raised : names ≡ option_map (raised_to p.first_names) (printed_by p undisambiguated).names = named ∙ ap (λ (r : Rendered). option_map (raised_to p.first_names) r.names) prints in
    λ j. printed_as (record { entry = entry_of p.cite; number = p.number; has_date = dated j; style = styled j; repeats = again j; printed = λ state. (printed_by p state).tree; met_disambiguate = (prints j).met_disambiguate; names = raised j }) undisambiguated (prints j).tree

raised_by_none : (own : Properties) → own ≡ raised_to [] own
raised_by_none [] = refl
raised_by_none (p ∷ ps) = ap (λ qs. p ∷ qs) (raised_by_none ps)

-- names that are raised to none are as they were
pub names_unraised : (names : Option Properties) → names ≡ option_map (raised_to []) names
names_unraised None = refl
names_unraised (Some ps) = ap Some (raised_by_none ps)
