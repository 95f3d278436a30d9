-- What references pass on, as far as an entry may be asked for it.
use Rattle.std.proofs.Common.{◌≡◌, ℕ, ◌+◌, suc, ◌<◌, ◌≤◌, Bool, true, false, ◌||◌, List, [], ◌∷◌, ◌++◌, map, length, take, drop, get_or, slice_get, Option, Some, None, option_map, bytes_eq, refl, sym, ap, subst, ◌∙◌, arith}
use Rattle.std.specs.Prelude.{if◌then◌else◌}
use Rattle.std.specs.Option.{is_some}
use Rattle.std.proofs.Math.Seq.{drop-cons}
use Rattle.std.proofs.lemmas.List.{drop_all, map-append, take_more}
use Rattle.std.proofs.lemmas.Option.{same_Some}
use Rattle.std.proofs.lemmas.Slice.Eq.{bytes_eq-Decides}
use Rattle.biblatex_fields.specs.Fields.{Named, value_named}
use Rattle.biblatex_fields.specs.Value.{Value}
use Rattle.biblatex_entries.specs.declared.role.Role.{Role}
use Rattle.biblatex_entries.specs.declared.role.Role.TheVariants.{XData}
use Rattle.biblatex_entries.specs.Roles.{role_of}
use Rattle.biblatex_entries.specs.Entries.{Source}
use Rattle.biblatex_dates.specs.declared.date.Date.{Date}
use Rattle.biblatex_inherited_fields.specs.Table.{is_among, of_all, of_articles, of_parts, source_name}
use Rattle.biblatex_inherited_fields.specs.Views.{PassesOn}
use Rattle.biblatex_inherited_fields.proofs.TablePassing.{name_more}
use Rattle.biblatex_inheritance.specs.Resolved.{Table, Offer, first, offered, first_offer, date_in, readable, fault, later, last_date, earlier, first_fault, offer_if, offers}
use Rattle.biblatex_inheritance.specs.declared.error.DateFault.{DateFault}
use Rattle.biblatex_inheritance.proofs.ResolvedDates.{earlier_twice, earlier_none, last_date-append, first_fault-append}
use Rattle.biblatex_inheritance.proofs.ResolvedReferences.{first_twice, first_none, first_offer-append}
use Rattle.biblatex_suppliers.specs.Asked.{of_dates, further}
use Rattle.biblatex_suppliers.specs.FieldNames.{field_name}
use Rattle.biblatex_suppliers.specs.declared.names.FieldName.{FieldName}
use Rattle.biblatex_suppliers.specs.Suppliers.{supplied, supplied_fields, supplier_named, PassesOnAsked}
use Rattle.biblatex_suppliers.specs.declared.supplier.Supplied.{Supplied}
use Rattle.biblatex_suppliers.specs.declared.supplier.Supplier.{Supplier}
use Rattle.biblatex_suppliers.proofs.AskingNames.{in_lists, not_never, by_lists}
use Rattle.biblatex_suppliers.proofs.SupplyingValues.{mapped_some, supplied_is}

-- nothing is passed on where nothing is offered
pub nothing_more : (x o : Option Value) → o ≡ None → x ≡ first x o
nothing_more x o is = sym (ap (first x) is ∙ first_none x)

pub nothing_under : (x o : Option Value) (b : Bool) → o ≡ None → x ≡ first x (if b then o else None)
nothing_under x o true is = nothing_more x o is
nothing_under x o false is = sym (first_none x)

-- a field that is there stays
pub there_stays : (es : List Source) (ss : List Supplied) (n : List ℕ) (s : Supplier) → is_some (supplier_named n ss) ≡ true → PassesOn (supplied_fields es ss) (supplied_fields es ss) (λ q. if bytes_eq q n then Some (supplied es s) else None)
there_stays es ss n s there q = by (bytes_eq q n) refl
  where
    stays : (x other : Option Value) → is_some x ≡ true → x ≡ first x other
    stays None other is = absurd cc
    stays (Some v) other is = refl

    by : (b : Bool) → bytes_eq q n ≡ b → value_named q (supplied_fields es ss) ≡ first (value_named q (supplied_fields es ss)) (if b then Some (supplied es s) else None)
    by true same =
        stays (value_named q (supplied_fields es ss)) (Some (supplied es s))
        (sym (mapped_some (supplied es) (supplier_named q ss) (value_named q (supplied_fields es ss)) (supplied_is es q ss)) ∙ (ap (λ (x : List ℕ). is_some (supplier_named x ss)) ((bytes_eq-Decides q n).0 same) ∙ there))
    by false other = sym (first_none (value_named q (supplied_fields es ss)))

-- the names of two lists, one after the other
joined : (a b : Bool) (x s : Option Value) → first (first x (if a then s else None)) (if b then s else None) ≡ first x (if a || b then s else None)
joined a b (Some v) s = refl
joined true true None None = refl
joined true true None (Some v) = refl
joined true false None None = refl
joined true false None (Some v) = refl
joined false b None s = refl

pub both_passed : (S : Table) (old cur new : List Named) (p r : List ℕ → Bool) → PassesOn old cur (λ q. if p q then S q else None) → PassesOn cur new (λ q. if r q then S q else None) → PassesOn old new (λ q. if p q || r q then S q else None)
both_passed S old cur new p r before more q = more q ∙ (ap (λ (x : Option Value). first x (if r q then S q else None)) (before q) ∙ joined (p q) (r q) (value_named q old) (S q))

-- the fields before an index, and the one at it
pub names_more : (S : Table) (old cur new : List Named) (ns : List FieldName) (k : ℕ) (d : FieldName) → k < length ns → PassesOn old cur (λ q. if is_among (map field_name (take k ns)) q then S q else None)
    → PassesOn cur new (λ q. if bytes_eq q (field_name (get_or ns k d)) then S (field_name (get_or ns k d)) else None) → PassesOn old new (λ q. if is_among (map field_name (take (k + 1) ns)) q then S q else None)
names_more S old cur new ns k d low before one =
    let there : map field_name (take (k + 1) ns) ≡ map field_name (take k ns) ++ field_name (get_or ns k d) ∷ [] = ap (map field_name) (take_more ns k d low) ∙ map-append field_name (take k ns) (get_or ns k d ∷ []) in
    subst (λ (ts : List (List ℕ)). PassesOn old new (λ q. if is_among ts q then S q else None)) (sym there) (name_more S old cur new (map field_name (take k ns)) (field_name (get_or ns k d)) before one)

-- an xdata entry inherits all fields for which it may be asked
pub to_xdata : (to from : Role) (fields : Table) (old new : List Named) → to ≡ XData
    → PassesOn old new (λ q. if (is_among of_all q || is_among of_articles q) || (is_among of_parts q || is_among of_dates q) then fields (source_name to from q) else None) → PassesOnAsked to old new (offered to from fields)
to_xdata to from fields old new is given =
    subst (λ (r : Role). PassesOn old new (λ q. if (is_among of_all q || is_among of_articles q) || (is_among of_parts q || is_among of_dates q) then fields (source_name r from q) else None) → PassesOnAsked r old new (offered r from fields)) (sym is) xdata given
  where
    xdata : PassesOn old new (λ q. if (is_among of_all q || is_among of_articles q) || (is_among of_parts q || is_among of_dates q) then fields q else None) → PassesOnAsked XData old new (offered XData from fields)
    xdata passes q asks =
        passes q
        ∙ (ap (λ (b : Bool). first (value_named q old) (if b then fields q else None)) (in_lists q asks)
        ∙ sym (ap (λ (b : Bool). first (value_named q old) (if b then fields q else None)) (not_never q asks)))

-- another entry inherits the fields of two lists
pub to_others : (to from : Role) (fields : Table) (old new : List Named) (ns : List (List ℕ)) → (to ≡ XData → ⊥) → ns ≡ further to
    → PassesOn old new (λ q. if is_among of_all q || is_among ns q then fields (source_name to from q) else None) → PassesOnAsked to old new (offered to from fields)
to_others to from fields old new ns other same given q asks =
    given q
    ∙ (ap (λ (ms : List (List ℕ)). first (value_named q old) (if is_among of_all q || is_among ms q then fields (source_name to from q) else None)) same
    ∙ ap (λ (b : Bool). first (value_named q old) (if b then fields (source_name to from q) else None)) (by_lists to q other))

-- what a reference offers that there is, and one that there is not
pub offer_there : (to from : Role) (n : ℕ) (o : Option Source) (t : Table) (q : List ℕ) → Some from ≡ option_map (λ (e : Source). role_of e.entry_type) o → offered to from t q ≡ first_offer to (offer_if n o t) q
offer_there to from n None t q is = absurd cc
offer_there to from n (Some e) t q is = ap (λ (r : Role). offered to r t q) (same_Some from (role_of e.entry_type) is) ∙ sym (first_none (offered to (role_of e.entry_type) t q))

pub offer_nowhere : (to : Role) (n : ℕ) (o : Option Source) (t : Table) (q : List ℕ) → None ≡ option_map (λ (e : Source). role_of e.entry_type) o → first_offer to (offer_if n o t) q ≡ None
offer_nowhere to n None t q is = refl
offer_nowhere to n (Some e) t q is = absurd cc

-- the reference at an index, and those after it
offers_from : (es : List Source) (see : ℕ → Table) (rs : List ℕ) (k d : ℕ) → k < length rs
    → offers es see (drop k rs) ≡ offer_if (get_or rs k d) (slice_get es (get_or rs k d)) (see (get_or rs k d)) ++ offers es see (drop (k + 1) rs)
offers_from es see rs k d low = let e : k + 1 ≡ suc k = omega arith in rw e (ap (offers es see) (drop-cons rs k d low))

-- what one reference passed on, and what those after it offer
pub offers_more : (to : Role) (es : List Source) (see : ℕ → Table) (rs : List ℕ) (k d : ℕ) (cur new : List Named) (q : List ℕ) (all : Option Value) → k < length rs
    → value_named q new ≡ first (value_named q cur) (first_offer to (offer_if (get_or rs k d) (slice_get es (get_or rs k d)) (see (get_or rs k d))) q)
    → first (value_named q cur) (first_offer to (offers es see (drop k rs)) q) ≡ all → first (value_named q new) (first_offer to (offers es see (drop (k + 1) rs)) q) ≡ all
offers_more to es see rs k d cur new q all low one before =
    let here = offer_if (get_or rs k d) (slice_get es (get_or rs k d)) (see (get_or rs k d)) in
    let following = offers es see (drop (k + 1) rs) in
    ap (λ (x : Option Value). first x (first_offer to following q)) one
    ∙ (first_twice (value_named q cur) (first_offer to here q) (first_offer to following q)
    ∙ (ap (first (value_named q cur)) (sym (ap (λ (os : List Offer). first_offer to os q) (offers_from es see rs k d low) ∙ first_offer-append to here following q)) ∙ before))

-- after the last reference nothing is offered
pub offers_all : (to : Role) (es : List Source) (see : ℕ → Table) (rs : List ℕ) (k : ℕ) (cur : List Named) (q : List ℕ) (all : Option Value) → length rs ≤ k
    → first (value_named q cur) (first_offer to (offers es see (drop k rs)) q) ≡ all → value_named q cur ≡ all
offers_all to es see rs k cur q all past before =
    sym (ap (λ (xs : List ℕ). first (value_named q cur) (first_offer to (offers es see xs) q)) (drop_all k rs past) ∙ first_none (value_named q cur)) ∙ before

-- the date and the fault of a reference that there is, and of one that there is not
pub date_there : (o : Option Source) (n : ℕ) (t : Table) (a : Option Date) → is_some o ≡ true → later a (readable (date_in t)) ≡ last_date a (offer_if n o t)
date_there None n t a is = absurd cc
date_there (Some e) n t a is = refl

pub fault_there : (o : Option Source) (n : ℕ) (t : Table) (f : Option DateFault) → is_some o ≡ true → earlier f (fault n (date_in t)) ≡ earlier f (first_fault (offer_if n o t))
fault_there None n t f is = absurd cc
fault_there (Some e) n t f is = ap (earlier f) (sym (earlier_none (fault n (date_in t))))

pub date_nowhere : (o : Option Source) (n : ℕ) (t : Table) (a : Option Date) → is_some o ≡ false → a ≡ last_date a (offer_if n o t)
date_nowhere None n t a is = refl
date_nowhere (Some e) n t a is = absurd cc

pub fault_nowhere : (o : Option Source) (n : ℕ) (t : Table) (f : Option DateFault) → is_some o ≡ false → f ≡ earlier f (first_fault (offer_if n o t))
fault_nowhere None n t f is = sym (earlier_none f)
fault_nowhere (Some e) n t f is = absurd cc

-- the date and the fault of one reference, and those of the others
pub dates_more : (es : List Source) (see : ℕ → Table) (rs : List ℕ) (k d : ℕ) (a b all : Option Date) → k < length rs
    → b ≡ last_date a (offer_if (get_or rs k d) (slice_get es (get_or rs k d)) (see (get_or rs k d))) → last_date a (offers es see (drop k rs)) ≡ all → last_date b (offers es see (drop (k + 1) rs)) ≡ all
dates_more es see rs k d a b all low is before =
    let here = offer_if (get_or rs k d) (slice_get es (get_or rs k d)) (see (get_or rs k d)) in
    let following = offers es see (drop (k + 1) rs) in
    ap (λ (x : Option Date). last_date x following) is ∙ (sym (ap (last_date a) (offers_from es see rs k d low) ∙ last_date-append a here following) ∙ before)

pub faults_more : (es : List Source) (see : ℕ → Table) (rs : List ℕ) (k d : ℕ) (a b all : Option DateFault) → k < length rs
    → b ≡ earlier a (first_fault (offer_if (get_or rs k d) (slice_get es (get_or rs k d)) (see (get_or rs k d)))) → earlier a (first_fault (offers es see (drop k rs))) ≡ all → earlier b (first_fault (offers es see (drop (k + 1) rs))) ≡ all
faults_more es see rs k d a b all low is before =
    let here = offer_if (get_or rs k d) (slice_get es (get_or rs k d)) (see (get_or rs k d)) in
    let following = offers es see (drop (k + 1) rs) in
    ap (λ (x : Option DateFault). earlier x (first_fault following)) is
    ∙ (earlier_twice a (first_fault here) (first_fault following) ∙ (ap (earlier a) (sym (ap first_fault (offers_from es see rs k d low) ∙ first_fault-append here following)) ∙ before))
