-- Dates are equal exactly where they are one.
use Rattle.std.proofs.Common.{ℕ, Bool, true, false, ◌&&◌, ◌==◌, Option, None, ℤ, pos, int_eq, sym, ap, refl}
use Rattle.std.specs.Bool.{beq}
use Rattle.std.specs.Option.{option_eq}
use Rattle.std.specs.Cmp.{unsigned_Decides, booleans_Decides}
use Rattle.std.proofs.lemmas.Bool.{true≢false}
use Rattle.std.proofs.lemmas.Bool.Decides.{Decides-and, Decides-int_eq}
use Rattle.laws.specs.Equality.{Shows}
use Rattle.laws.proofs.Equality.{Decides-moved, Decides-never, Shows-options_themselves}
use Rattle.literature_values.specs.declared.date.DateEnd.{DateEnd}
use Rattle.literature_values.specs.declared.date.DateEnd.TheVariants.{On, Open}
use Rattle.literature_values.specs.contracts.date.DateEndPartialEq.TheImpl as date_end
use Rattle.literature_values.specs.contracts.date.DatePartialEq.TheImpl as date

numbers : Shows (option_eq ◌==◌) (λ (o : Option ℕ). o)
numbers = Shows-options_themselves ◌==◌ unsigned_Decides

abbrev is_side : DateEnd → Bool
is_side (On y month day) = true
is_side Open = false

abbrev year_of : DateEnd → ℤ
year_of (On y month day) = y
year_of Open = pos 0

abbrev month_of : DateEnd → Option ℕ
month_of (On y month day) = month
month_of Open = None

abbrev day_of : DateEnd → Option ℕ
day_of (On y month day) = day
day_of Open = None

pub Shows-DateEnd : Shows date_end.ghosts.eq (λ e. e)
Shows-DateEnd (On y m d) (On z n e) =
    let parts = Decides-and (option_eq ◌==◌ m n) (option_eq ◌==◌ d e) (numbers m n) (numbers d e) in
    Decides-moved (int_eq y z && (option_eq ◌==◌ m n && option_eq ◌==◌ d e))
    (Decides-and (int_eq y z) (option_eq ◌==◌ m n && option_eq ◌==◌ d e) (Decides-int_eq y z) parts)
    (λ p i. On (p.0 i) (p.1.0 i) (p.1.1 i)) (λ p. (ap year_of p, (ap month_of p, ap day_of p)))
Shows-DateEnd (On y m d) Open = Decides-never (λ p. true≢false (ap is_side p))
Shows-DateEnd Open (On z n e) = Decides-never (λ p. true≢false (sym (ap is_side p)))
Shows-DateEnd Open Open = (λ h. refl, λ p. refl)

ends : Shows (option_eq date_end.ghosts.eq) (λ (o : Option DateEnd). o)
ends = Shows-options_themselves date_end.ghosts.eq Shows-DateEnd

pub Shows-Date : Shows date.ghosts.eq (λ d. d)
Shows-Date c d =
    let ends_same : Bool = option_eq date_end.ghosts.eq c.end d.end in
    let last = Decides-and ends_same (beq c.approximate d.approximate) (ends c.end d.end) (booleans_Decides c.approximate d.approximate) in
    let following = Decides-and (option_eq ◌==◌ c.day d.day) (ends_same && beq c.approximate d.approximate) (numbers c.day d.day) last in
    let parts = Decides-and (option_eq ◌==◌ c.month d.month) (option_eq ◌==◌ c.day d.day && (ends_same && beq c.approximate d.approximate)) (numbers c.month d.month) following in
    Decides-moved (date.ghosts.eq c d)
    (Decides-and (int_eq c.year d.year) (option_eq ◌==◌ c.month d.month && (option_eq ◌==◌ c.day d.day && (ends_same && beq c.approximate d.approximate))) (Decides-int_eq c.year d.year) parts)
    (λ e i. record { year = e.0 i; month = e.1.0 i; day = e.1.1.0 i; end = e.1.1.1.0 i; approximate = e.1.1.1.1 i })
    (λ e. (ap (λ v. v.year) e, (ap (λ v. v.month) e, (ap (λ v. v.day) e, (ap (λ v. v.end) e, ap (λ v. v.approximate) e)))))
