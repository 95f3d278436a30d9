use Rattle.std.proofs.Common.{refl, sym, ◌∙◌}
use Rattle.laws.proofs.Equality.{Shows-options}
use Rattle.rendering_entries.specs.Views.{lent_number_view}
use Rattle.rendering_alike.proofs.NumbersLent.{Shows-lent}
use Rattle.rendering_alike.proofs.equal.are_one_number.Goals as goal

pub returns : goal.returns
returns c =
    let d = Shows-options _ lent_number_view (Shows-lent _ (λ v w. refl) (λ v t. refl) (λ s w. refl) (λ s t. refl)) c.args.one.now c.args.other.now in
    (λ h. d.0 (sym c.eq.ensures ∙ h), λ e. c.eq.ensures ∙ d.1 e)
