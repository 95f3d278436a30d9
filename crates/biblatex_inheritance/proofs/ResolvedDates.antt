-- Dates and faults of references, one after the other.
use Rattle.std.proofs.Common.{◌≡◌, ℕ, suc, ◌+◌, ◌<◌, List, [], ◌∷◌, ◌++◌, length, drop, get_or, slice_get, Option, Some, None, option_map, Bor, String, string_bytes, Global, refl, sym, ap, ◌∙◌, arith}
use Rattle.std.specs.Prelude.{IfSome, MatchOption, ◌≤◌}
use Rattle.std.proofs.lemmas.Option.{slice_get_past, slice_get-get_or}
use Rattle.std.proofs.Math.Seq.{drop-cons}
use Rattle.std.proofs.lemmas.Str.{IsUtf8-string_bytes}
use Rattle.laws.proofs.Text.{chars-text}
use Rattle.biblatex_content.specs.Styled.{plain}
use Rattle.biblatex_fields.specs.Value.{Value}
use Rattle.laws.specs.Text.{characters}
use Rattle.biblatex_entries.specs.Entries.{text_in}
use Rattle.biblatex_dates.specs.declared.date.Date.{Date}
use Rattle.biblatex_entries.specs.declared.entry.Entry.{Entry}
use Rattle.biblatex_inheritance.specs.declared.error.DateFault.{DateFault}
use Rattle.biblatex_inheritance.specs.Resolved.{Offer, plain_in, earlier, later, readable, fault, date_in, last_date, first_fault}
use Rattle.biblatex_inheritance.specs.Views.{offer_in, offer_borrowed, offers_in}

pub text_is : (s : String Global) (o : Option Value) → string_bytes s ≡ text_in (option_map (λ v. v.text) o) → characters s ≡ plain_in o
text_is s None e = chars-text (string_bytes s) [] (IsUtf8-string_bytes s) e
text_is s (Some v) e = chars-text (string_bytes s) (plain v.text) (IsUtf8-string_bytes s) e

pub earlier_twice : (a b c : Option DateFault) → earlier (earlier a b) c ≡ earlier a (earlier b c)
earlier_twice None b c = refl
earlier_twice (Some e) b c = refl

pub earlier_none : (a : Option DateFault) → earlier a None ≡ a
earlier_none None = refl
earlier_none (Some e) = refl

-- what is borrowed is what stands there
pub borrowed_is : (es : List Entry) (i : ℕ) (o : Option (Bor Entry)) (P : Bor Entry → Type 0) → IfSome o (λ x. x.now ≡ get_or es i x.now) → MatchOption o (length es ≤ i) (λ x. (i < length es) × P x) → offer_borrowed i o ≡ offer_in i (slice_get es i)
borrowed_is es i None P there bounds = ap (offer_in i) (sym (slice_get_past es i bounds))
borrowed_is es i (Some x) P there bounds = ap (offer_in i) (ap (λ (e : Entry). Some e) there ∙ sym (slice_get-get_or es i x.now bounds.0))

pub last_date-append : (so_far : Option Date) (os more : List Offer) → last_date so_far (os ++ more) ≡ last_date (last_date so_far os) more
last_date-append so_far [] more = refl
last_date-append so_far (o ∷ os) more = last_date-append (later so_far (readable (date_in o.fields))) os more

pub first_fault-append : (os more : List Offer) → first_fault (os ++ more) ≡ earlier (first_fault os) (first_fault more)
first_fault-append [] more = refl
first_fault-append (o ∷ os) more = ap (earlier (fault o.number (date_in o.fields))) (first_fault-append os more) ∙ sym (earlier_twice (fault o.number (date_in o.fields)) (first_fault os) (first_fault more))

-- the reference at an index, and those after it
pub offers_from : (es : List Entry) (rs : List ℕ) (k d : ℕ) → k < length rs → offers_in es (drop k rs) ≡ offer_in (get_or rs k d) (slice_get es (get_or rs k d)) ++ offers_in es (drop (k + 1) rs)
offers_from es rs k d low = let e : k + 1 ≡ suc k = omega arith in rw e (ap (offers_in es) (drop-cons rs k d low))

pub dates_more : (es : List Entry) (rs : List ℕ) (k d : ℕ) (a b : Option Date) (all : Option Date) (o : Option (Bor Entry)) → k < length rs
    → offer_borrowed (get_or rs k d) o ≡ offer_in (get_or rs k d) (slice_get es (get_or rs k d)) → b ≡ last_date a (offer_borrowed (get_or rs k d) o) → last_date a (offers_in es (drop k rs)) ≡ all → last_date b (offers_in es (drop (k + 1) rs)) ≡ all
dates_more es rs k d a b all o low borrowed is before =
    ap (λ (x : Option Date). last_date x (offers_in es (drop (k + 1) rs))) (is ∙ ap (last_date a) borrowed)
    ∙ (sym (ap (last_date a) (offers_from es rs k d low) ∙ last_date-append a (offer_in (get_or rs k d) (slice_get es (get_or rs k d))) (offers_in es (drop (k + 1) rs))) ∙ before)

pub faults_more : (es : List Entry) (rs : List ℕ) (k d : ℕ) (a b all : Option DateFault) (o : Option (Bor Entry)) → k < length rs
    → offer_borrowed (get_or rs k d) o ≡ offer_in (get_or rs k d) (slice_get es (get_or rs k d)) → b ≡ earlier a (first_fault (offer_borrowed (get_or rs k d) o)) → earlier a (first_fault (offers_in es (drop k rs))) ≡ all → earlier b (first_fault (offers_in es (drop (k + 1) rs))) ≡ all
faults_more es rs k d a b all o low borrowed is before =
    let there = offer_in (get_or rs k d) (slice_get es (get_or rs k d)) in
    let following = offers_in es (drop (k + 1) rs) in
    ap (λ (x : Option DateFault). earlier x (first_fault following)) (is ∙ ap (λ (os : List Offer). earlier a (first_fault os)) borrowed)
    ∙ (earlier_twice a (first_fault there) (first_fault following) ∙ (ap (earlier a) (sym (ap first_fault (offers_from es rs k d low) ∙ first_fault-append there following)) ∙ before))
