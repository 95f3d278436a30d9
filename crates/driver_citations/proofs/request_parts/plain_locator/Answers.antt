use Rattle.std.proofs.Common.{sym, ap, ◌∙◌, Some}
use Rattle.std.specs.Option.{option_map}
use Rattle.driver_requests.specs.Requests.{plain_locator}
use Rattle.driver_requests.specs.Views.{request_locator_view}
use Rattle.driver_citations.proofs.StandaloneSteps.{locator_plain}
use Rattle.driver_citations.proofs.request_parts.plain_locator.Goals as goal

pub returns-in-Some : goal.returns-in-Some
returns-in-Some g c =
    ap Some (c.without_payload.ensures ∙ locator_plain c.in-Some.locator) ∙ ap (λ o. option_map plain_locator (option_map request_locator_view o)) (sym c.in-Some.is)
