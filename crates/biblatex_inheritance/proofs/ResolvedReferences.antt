-- References pass on one after the other; dates as values.
use Rattle.std.proofs.Common.{◌≡◌, ℕ, ◌+◌, ◌<◌, List, [], ◌∷◌, ◌++◌, length, drop, get_or, slice_get, Option, Some, None, String, string_bytes, Global, refl, sym, ap, ◌∙◌}
use Rattle.std.proofs.lemmas.Str.{IsUtf8-string_bytes}
use Rattle.laws.specs.Text.{text, characters}
use Rattle.laws.proofs.Text.{chars-text}
use Rattle.biblatex_fields.specs.Fields.{Named, value_named}
use Rattle.biblatex_fields.specs.Value.{Value}
use Rattle.biblatex_entries.specs.declared.entry.Entry.{Entry}
use Rattle.biblatex_entries.specs.declared.role.Role.{Role}
use Rattle.biblatex_inheritance.specs.Resolved.{Table, Offer, first, first_offer, offered}
use Rattle.biblatex_inheritance.specs.Views.{PassesOn, offer_in, offers_in}
use Rattle.biblatex_inheritance.proofs.ResolvedDates.{offers_from}

pub first_twice : (a b c : Option Value) → first (first a b) c ≡ first a (first b c)
first_twice None b c = refl
first_twice (Some v) b c = refl

pub first_none : (a : Option Value) → first a None ≡ a
first_none None = refl
first_none (Some v) = refl

pub first_offer-append : (to : Role) (os more : List Offer) (q : List ℕ) → first_offer to (os ++ more) q ≡ first (first_offer to os q) (first_offer to more q)
first_offer-append to [] more q = refl
first_offer-append to (o ∷ os) more q = ap (first (offered to o.role o.fields q)) (first_offer-append to os more q) ∙ sym (first_twice (offered to o.role o.fields q) (first_offer to os q) (first_offer to more q))

-- what one reference passed on, and what those after it offer
pub offers_more : (to : Role) (es : List Entry) (rs : List ℕ) (k d : ℕ) (cur new : List Named) (all : Table) → k < length rs
    → PassesOn cur new (first_offer to (offer_in (get_or rs k d) (slice_get es (get_or rs k d))))
    → ((q : List ℕ) → first (value_named q cur) (first_offer to (offers_in es (drop k rs)) q) ≡ all q)
    → (q : List ℕ) → first (value_named q new) (first_offer to (offers_in es (drop (k + 1) rs)) q) ≡ all q
offers_more to es rs k d cur new all low one before q =
    let here = offer_in (get_or rs k d) (slice_get es (get_or rs k d)) in
    let following = offers_in es (drop (k + 1) rs) in
    ap (λ (x : Option Value). first x (first_offer to following q)) (one q)
    ∙ (first_twice (value_named q cur) (first_offer to here q) (first_offer to following q)
    ∙ (ap (first (value_named q cur)) (sym (ap (λ (os : List Offer). first_offer to os q) (offers_from es rs k d low) ∙ first_offer-append to here following q)) ∙ before q))

pub spelled_out : (s : String Global) (cs : List ℕ) → string_bytes s ≡ text cs → characters s ≡ cs
spelled_out s cs e = chars-text (string_bytes s) cs (IsUtf8-string_bytes s) e
