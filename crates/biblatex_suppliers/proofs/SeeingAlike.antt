-- What is seen of an entry is what it resolves to, and two views that agree where entries are asked make entries inherit the same.
use Rattle.std.proofs.Common.{◌≡◌, ℕ, Bool, true, false, ◌||◌, List, [], ◌∷◌, ◌++◌, slice_get, Contains, Option, Some, None, Result, Ok, bytes_eq, codes, refl, ap, ◌∙◌}
use Rattle.std.specs.Prelude.{IfSome, if◌then◌else◌}
use Rattle.biblatex_fields.specs.Fields.{value_named}
use Rattle.biblatex_fields.specs.Value.{Value}
use Rattle.biblatex_entries.specs.declared.role.Role.{Role}
use Rattle.biblatex_entries.specs.Roles.{role_of}
use Rattle.biblatex_entries.specs.Entries.{Source}
use Rattle.biblatex_dates.specs.Parts.{of_parts}
use Rattle.biblatex_dates.specs.declared.date.Date.{Date}
use Rattle.biblatex_dates.specs.declared.error.TypeErrorKind.{TypeErrorKind}
use Rattle.biblatex_inherited_fields.specs.Table.{inherits, source_name}
use Rattle.biblatex_inheritance.specs.Resolved.{Table, Offer, first, offered, first_offer, own, plain_in, of_date, by_parts, date_in, readable, fault, later, last_date, earlier, first_fault, needs_date, date_value, date_for, with_date, dated, undated, resolved, offer_if, offers}
use Rattle.biblatex_inheritance.specs.declared.error.DateFault.{DateFault}
use Rattle.biblatex_inheritance.proofs.SolutionSteps.{contains_first, contains_later}
use Rattle.biblatex_suppliers.specs.Asked.{is_asked}
use Rattle.biblatex_suppliers.specs.FieldNames.{field_name}
use Rattle.biblatex_suppliers.specs.declared.names.FieldName.{FieldName}
use Rattle.biblatex_suppliers.specs.declared.names.FieldName.TheVariants as names
use Rattle.biblatex_suppliers.specs.Suppliers.{own_of, supplied_fields, undated_by, seen_by}
use Rattle.biblatex_suppliers.specs.Seen.{AreSupplied, Agree}
use Rattle.biblatex_suppliers.specs.declared.supplier.Supplies.{Supplies}
use Rattle.biblatex_suppliers.proofs.AskingNames.{source_asked, date_asked, year_asked, month_asked, day_asked}

-- under one name an inherited date makes the same of the same
pub dated_same : (d : Option Date) (s t : Table) (q : List ℕ) → s q ≡ t q → dated d s q ≡ dated d t q
dated_same None s t q is = is
dated_same (Some d) s t q is =
    ap (λ (x : Option Value). if bytes_eq q (codes "date") then Some (date_value d) else (if bytes_eq q (codes "year") || (bytes_eq q (codes "month") || bytes_eq q (codes "day")) then None else x)) is

-- a field that is no part of a date stays beside an inherited date
pub stays_beside : (name : FieldName) (d : Date) (t : Table) → (name ≡ names.Date → ⊥) → (name ≡ names.Year → ⊥) → (name ≡ names.Month → ⊥) → (name ≡ names.Day → ⊥) → t (field_name name) ≡ with_date d t (field_name name)
stays_beside names.Date d t date year month day = absurd (date refl)
stays_beside names.Year d t date year month day = absurd (year refl)
stays_beside names.Month d t date year month day = absurd (month refl)
stays_beside names.Day d t date year month day = absurd (day refl)
stays_beside _ d t date year month day = refl

-- what is seen of an entry, by what it inherits, is what it resolves to
pub seen_resolved : (es : List Source) (n : ℕ) (e : Source) (os : List Offer) (s : Supplies) (q : List ℕ) → slice_get es n ≡ Some e → AreSupplied es (role_of e.entry_type) os s → is_asked (role_of e.entry_type) q ≡ true
    → seen_by es n (Some s) q ≡ resolved e os q
seen_resolved es n e os s q at known asks =
    ap (λ (d : Option Date). dated d (undated_by es n s) q) known.date
    ∙ dated_same (date_for (role_of e.entry_type) os) (undated_by es n s) (undated e os) q
    (ap (λ (o : Option Source). first (own_of o q) (value_named q (supplied_fields es s.suppliers.items))) at ∙ ap (first (own e q)) (known.fields q asks))

-- what a reference offers under a name for which an entry may be asked
offered_same : (to from : Role) (s t : Table) (q : List ℕ) → is_asked to q ≡ true → ((p : List ℕ) → is_asked from p ≡ true → s p ≡ t p) → offered to from s q ≡ offered to from t q
offered_same to from s t q asks same = by (inherits to q) refl
  where
    by : (b : Bool) → inherits to q ≡ b → (if b then s (source_name to from q) else None) ≡ (if b then t (source_name to from q) else None)
    by true is = same (source_name to from q) (source_asked to from q asks is)
    by false is = refl

pub first_offers_same : (es : List Source) (see other : ℕ → Table) (to : Role) (rs : List ℕ) (q : List ℕ) → is_asked to q ≡ true → ((r : ℕ) → Contains rs r → Agree es see other r)
    → first_offer to (offers es see rs) q ≡ first_offer to (offers es other rs) q
first_offers_same es see other to [] q asks agree = refl
first_offers_same es see other to (r ∷ rs) q asks agree = by (slice_get es r) (agree r (contains_first r rs)) (first_offers_same es see other to rs q asks (λ x has. agree x (contains_later r x rs has)))
  where
    by : (o : Option Source) → IfSome o (λ e. (p : List ℕ) → is_asked (role_of e.entry_type) p ≡ true → see r p ≡ other r p) → first_offer to (offers es see rs) q ≡ first_offer to (offers es other rs) q
        → first_offer to (offer_if r o (see r) ++ offers es see rs) q ≡ first_offer to (offer_if r o (other r) ++ offers es other rs) q
    by None one more = more
    by (Some e) one more = λ i. first (offered_same to (role_of e.entry_type) (see r) (other r) q asks one i) (more i)

-- a date is made of the fields for which each entry may be asked
date_in_same : (s t : Table) → s (codes "date") ≡ t (codes "date") → s (codes "year") ≡ t (codes "year") → s (codes "month") ≡ t (codes "month") → s (codes "day") ≡ t (codes "day") → date_in s ≡ date_in t
date_in_same s t date year month day = ap (λ (o : Option Value). of_date (plain_in o) s) date ∙ by (plain_in (t (codes "date")))
  where
    parts : by_parts s ≡ by_parts t
    parts = λ i. of_parts (plain_in (year i)) (Some (plain_in (month i))) (Some (plain_in (day i)))

    by : (cs : List ℕ) → of_date cs s ≡ of_date cs t
    by [] = λ i. Ok (parts i)
    by (c ∷ cs) = refl

date_same : (role : Role) (s t : Table) → ((p : List ℕ) → is_asked role p ≡ true → s p ≡ t p) → date_in s ≡ date_in t
date_same role s t same = date_in_same s t (same (codes "date") (date_asked role)) (same (codes "year") (year_asked role)) (same (codes "month") (month_asked role)) (same (codes "day") (day_asked role))

pub last_dates_same : (es : List Source) (see other : ℕ → Table) (a : Option Date) (rs : List ℕ) → ((r : ℕ) → Contains rs r → Agree es see other r) → last_date a (offers es see rs) ≡ last_date a (offers es other rs)
last_dates_same es see other a [] agree = refl
last_dates_same es see other a (r ∷ rs) agree = by (slice_get es r) (agree r (contains_first r rs)) (λ b. last_dates_same es see other b rs (λ x has. agree x (contains_later r x rs has)))
  where
    by : (o : Option Source) → IfSome o (λ e. (p : List ℕ) → is_asked (role_of e.entry_type) p ≡ true → see r p ≡ other r p) → ((b : Option Date) → last_date b (offers es see rs) ≡ last_date b (offers es other rs))
        → last_date a (offer_if r o (see r) ++ offers es see rs) ≡ last_date a (offer_if r o (other r) ++ offers es other rs)
    by None one more = more a
    by (Some e) one more =
        ap (λ (d : Result (Option Date) TypeErrorKind). last_date (later a (readable d)) (offers es see rs)) (date_same (role_of e.entry_type) (see r) (other r) one) ∙ more (later a (readable (date_in (other r))))

pub first_faults_same : (es : List Source) (see other : ℕ → Table) (rs : List ℕ) → ((r : ℕ) → Contains rs r → Agree es see other r) → first_fault (offers es see rs) ≡ first_fault (offers es other rs)
first_faults_same es see other [] agree = refl
first_faults_same es see other (r ∷ rs) agree = by (slice_get es r) (agree r (contains_first r rs)) (first_faults_same es see other rs (λ x has. agree x (contains_later r x rs has)))
  where
    by : (o : Option Source) → IfSome o (λ e. (p : List ℕ) → is_asked (role_of e.entry_type) p ≡ true → see r p ≡ other r p) → first_fault (offers es see rs) ≡ first_fault (offers es other rs)
        → first_fault (offer_if r o (see r) ++ offers es see rs) ≡ first_fault (offer_if r o (other r) ++ offers es other rs)
    by None one more = more
    by (Some e) one more = λ i. earlier (fault r (date_same (role_of e.entry_type) (see r) (other r) one i)) (more i)

-- what an entry inherits is the same by two views of its references that agree
pub supplied_alike : (es : List Source) (see other : ℕ → Table) (role : Role) (rs : List ℕ) (s : Supplies) → ((r : ℕ) → Contains rs r → Agree es see other r) → AreSupplied es role (offers es see rs) s → AreSupplied es role (offers es other rs) s
supplied_alike es see other role rs s agree known = record {
  fields = λ q asks. known.fields q asks ∙ first_offers_same es see other role rs q asks agree;
  date = known.date ∙ ap (λ (d : Option Date). if needs_date role then d else None) (last_dates_same es see other None rs agree);
  fault = known.fault ∙ ap (λ (f : Option DateFault). if needs_date role then f else None) (first_faults_same es see other rs agree);
}
