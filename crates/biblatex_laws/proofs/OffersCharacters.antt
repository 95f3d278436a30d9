-- What an entry of characters inherits from others is made of characters.
use Rattle.std.proofs.Common.{◌≡◌, ℕ, Bool, true, false, true≢false, ◌||◌, ◌⊎◌, inl, inr, List, [], ◌∷◌, ◌++◌, slice_get, Option, Some, None, codes, refl, sym, ap, subst, arith}
use Rattle.std.specs.Prelude.{Contains, if◌then◌else◌}
use Rattle.std.specs.Char.{is_ascii}
use Rattle.std.specs.List.{AllByRecursion, list_all}
use Rattle.std.specs.Str.{bytes_eq, IsUtf8}
use Rattle.std.proofs.lemmas.List.Elements.{Contains-append_right}
use Rattle.std.proofs.lemmas.Option.{none-some, same_Some}
use Rattle.std.proofs.lemmas.Slice.Eq.{bytes_eq-Decides}
use Rattle.biblatex_content.specs.Styled.{letters}
use Rattle.biblatex_content.specs.declared.chunk.Kind.TheVariants.{Normal}
use Rattle.biblatex_dates.specs.Date.{date_without_time}
use Rattle.biblatex_dates.specs.Written.{date_text}
use Rattle.biblatex_dates.specs.declared.date.Date.{Date}
use Rattle.biblatex_fields.specs.Fields.{value_named}
use Rattle.biblatex_fields.specs.Value.{Value}
use Rattle.biblatex_entries.specs.Entries.{Source}
use Rattle.biblatex_entries.specs.Roles.{role_of}
use Rattle.biblatex_entries.specs.declared.role.Role.{Role}
use Rattle.biblatex_entries.specs.declared.role.Role.TheVariants.{Article, PartOfBook, PartOfOther, XData}
use Rattle.biblatex_inheritance.specs.Resolved.{Table, Offer, date_for, date_value, dated, first, first_offer, offer_if, offered, offers, own, resolved, undated, with_date}
use Rattle.biblatex_inherited_fields.specs.Table.{inherits, is_among, is_xdata, of_all, of_articles, of_parts, renamed, source_name}
use Rattle.biblatex_laws.specs.Values.{IsTableText, IsValueText}
use Rattle.biblatex_laws.proofs.CharacterLists.{first_of, second_of}
use Rattle.biblatex_laws.proofs.ContentCharacters.{letters_characters, plain_characters}
use Rattle.biblatex_laws.proofs.DatesCharacters.{date_characters}
use Rattle.biblatex_laws.proofs.TextsOfCharacters.{ascii_is_utf8}

either_true : (a b : Bool) → (a || b) ≡ true → (a ≡ true) ⊎ (b ≡ true)
either_true true b e = inl refl
either_true false b e = inr e

-- a name among words of ASCII
among_utf8 : (names : List (List ℕ)) (name : List ℕ) → AllByRecursion (λ w. list_all is_ascii w ≡ true) names → is_among names name ≡ true → IsUtf8 name
among_utf8 [] name small is = absurd (true≢false (sym is))
among_utf8 (w ∷ names) name small is = by (among_utf8 names name small.1) (either_true (bytes_eq name w) (is_among names name) is)
  where
    by : (is_among names name ≡ true → IsUtf8 name) → ((bytes_eq name w ≡ true) ⊎ (is_among names name ≡ true)) → IsUtf8 name
    by more (inl same) = subst IsUtf8 (sym ((bytes_eq-Decides name w).0 same)) (ascii_is_utf8 w small.0)
    by more (inr there) = more there

small_words : (names : List (List ℕ)) → list_all (λ w. list_all is_ascii w) names ≡ true → AllByRecursion (λ w. list_all is_ascii w ≡ true) names
small_words [] is = tt
small_words (w ∷ names) is =
    (first_of (list_all is_ascii w) (list_all (λ v. list_all is_ascii v) names) is, small_words names (second_of (list_all is_ascii w) (list_all (λ v. list_all is_ascii v) names) is))

all_utf8 : (name : List ℕ) → is_among of_all name ≡ true → IsUtf8 name
all_utf8 name is = among_utf8 of_all name (small_words of_all refl) is

either_utf8 : (names : List (List ℕ)) (name : List ℕ) → list_all (λ w. list_all is_ascii w) names ≡ true → (is_among of_all name || is_among names name) ≡ true → IsUtf8 name
either_utf8 names name small is = by (either_true (is_among of_all name) (is_among names name) is)
  where
    by : ((is_among of_all name ≡ true) ⊎ (is_among names name ≡ true)) → IsUtf8 name
    by (inl one) = all_utf8 name one
    by (inr other) = among_utf8 names name (small_words names small) other

-- what all but xdata entries inherit stands under words of ASCII
inherited_utf8 : (to : Role) (name : List ℕ) → is_xdata to ≡ false → inherits to name ≡ true → IsUtf8 name
inherited_utf8 XData name other is = absurd (true≢false other)
inherited_utf8 Article name other is = either_utf8 of_articles name refl is
inherited_utf8 PartOfBook name other is = either_utf8 of_parts name refl is
inherited_utf8 PartOfOther name other is = either_utf8 of_parts name refl is
inherited_utf8 _ name other is = all_utf8 name is

offered_text : (to from : Role) (fields : Table) → IsTableText fields → IsTableText (offered to from fields)
offered_text to from fields text name v is = by (inherits to name) refl is
  where
    xdata_utf8 : (b : Bool) → is_xdata to ≡ b → IsUtf8 (source_name to from name) → inherits to name ≡ true → IsUtf8 name
    xdata_utf8 true xdata utf8 inherited = subst IsUtf8 (ap (λ (b : Bool). if (b || is_xdata from) then name else renamed to from name) xdata) utf8
    xdata_utf8 false other utf8 inherited = inherited_utf8 to name other inherited

    by : (b : Bool) → inherits to name ≡ b → (if b then fields (source_name to from name) else None) ≡ Some v → IsValueText name v
    by true inherited e =
        let there = text (source_name to from name) v e in
        record { utf8 = xdata_utf8 (is_xdata to) refl there.utf8 inherited; text = there.text }
    by false inherited e = absurd (none-some v e)

first_text : (name : List ℕ) (o p : Option Value) → ((v : Value) → o ≡ Some v → IsValueText name v) → ((v : Value) → p ≡ Some v → IsValueText name v) → (v : Value) → first o p ≡ Some v → IsValueText name v
first_text name None p one two v is = two v is
first_text name (Some w) p one two v is = one v is

offers_text : (to : Role) (os : List Offer) → AllByRecursion (λ o. IsTableText o.fields) os → IsTableText (first_offer to os)
offers_text to [] all name v is = absurd (none-some v is)
offers_text to (o ∷ os) all name v is =
    first_text name (offered to o.role o.fields name) (first_offer to os name) (offered_text to o.role o.fields all.0 name) (offers_text to os all.1 name) v is

own_text : (e : Source) → IsTableText (λ name. value_named name e.fields) → IsTableText (own e)
own_text e text name v is = by (bytes_eq name (codes "xdata")) is
  where
    by : (b : Bool) → (if b then None else value_named name e.fields) ≡ Some v → IsValueText name v
    by true e = absurd (none-some v e)
    by false e = text name v e

undated_text : (e : Source) (os : List Offer) → IsTableText (λ name. value_named name e.fields) → AllByRecursion (λ o. IsTableText o.fields) os → IsTableText (undated e os)
undated_text e os text all name v is =
    first_text name (own e name) (first_offer (role_of e.entry_type) os name) (own_text e text name) (offers_text (role_of e.entry_type) os all name) v is

date_is_text : (d : Date) → IsValueText (codes "date") (date_value d)
date_is_text d = record {
  utf8 = ascii_is_utf8 (codes "date") refl;
  text = plain_characters (letters Normal (date_text (date_without_time d))) (letters_characters Normal (date_text (date_without_time d)) (date_characters (date_without_time d)));
}

with_date_text : (d : Date) (t : Table) → IsTableText t → IsTableText (with_date d t)
with_date_text d t text name v is = by (bytes_eq name (codes "date")) refl (bytes_eq name (codes "year") || (bytes_eq name (codes "month") || bytes_eq name (codes "day"))) is
  where
    by : (b : Bool) → bytes_eq name (codes "date") ≡ b → (c : Bool) → (if b then Some (date_value d) else (if c then None else t name)) ≡ Some v → IsValueText name v
    by true same c e =
        subst (λ (w : Value). IsValueText name w) (same_Some (date_value d) v e) (subst (λ (n : List ℕ). IsValueText n (date_value d)) (sym ((bytes_eq-Decides name (codes "date")).0 same)) (date_is_text d))
    by false other true e = absurd (none-some v e)
    by false other false e = text name v e

dated_text : (o : Option Date) (t : Table) → IsTableText t → IsTableText (dated o t)
dated_text None t text = text
dated_text (Some d) t text = with_date_text d t text

pub resolved_text : (e : Source) (os : List Offer) → IsTableText (λ name. value_named name e.fields) → AllByRecursion (λ o. IsTableText o.fields) os → IsTableText (resolved e os)
resolved_text e os text all = dated_text (date_for (role_of e.entry_type) os) (undated e os) (undated_text e os text all)

-- the offers of references, of which the entries that there are have fields of characters
offer_text : (r : ℕ) (o : Option Source) (t : Table) → ((e : Source) → o ≡ Some e → IsTableText t) → AllByRecursion (λ x. IsTableText x.fields) (offer_if r o t)
offer_text r None t text = tt
offer_text r (Some e) t text = (text e refl, tt)

after_offers : (os ps : List Offer) → AllByRecursion (λ x. IsTableText x.fields) os → AllByRecursion (λ x. IsTableText x.fields) ps → AllByRecursion (λ x. IsTableText x.fields) (os ++ ps)
after_offers [] ps h g = g
after_offers (o ∷ os) ps h g = (h.0, after_offers os ps h.1 g)

pub all_offers : (es : List Source) (see : ℕ → Table) (rs : List ℕ) → ((r : ℕ) → Contains rs r → (e : Source) → slice_get es r ≡ Some e → IsTableText (see r))
    → AllByRecursion (λ x. IsTableText x.fields) (offers es see rs)
all_offers es see [] text = tt
all_offers es see (r ∷ rs) text =
    after_offers (offer_if r (slice_get es r) (see r)) (offers es see rs) (offer_text r (slice_get es r) (see r) (text r (0, omega arith, refl)))
    (all_offers es see rs (λ s has. text s (Contains-append_right (r ∷ []) rs s has)))
