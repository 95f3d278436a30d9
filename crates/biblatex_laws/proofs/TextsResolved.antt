-- The texts of resolved fields are decided by texts: the entry's own, and those that its references offer.
use Rattle.std.proofs.Common.{◌≡◌, ℕ, Bool, true, false, cond, ◌||◌, List, [], ◌∷◌, Option, Some, None, Ok, refl, sym, ap, ◌∙◌, codes}
use Rattle.std.specs.Prelude.{if◌then◌else◌}
use Rattle.std.specs.List.{AllZip}
use Rattle.std.specs.Option.{option_map, option_map_or, option_or}
use Rattle.std.specs.Str.{bytes_eq}
use Rattle.biblatex_content.specs.Styled.{Member, plain}
use Rattle.biblatex_dates.specs.Parts.{of_parts}
use Rattle.biblatex_dates.specs.declared.date.Date.{Date}
use Rattle.biblatex_fields.specs.Fields.{value_named}
use Rattle.biblatex_fields.specs.Value.{Value}
use Rattle.biblatex_entries.specs.Entries.{Source}
use Rattle.biblatex_entries.specs.Roles.{role_of}
use Rattle.biblatex_entries.specs.declared.role.Role.{Role}
use Rattle.biblatex_inheritance.specs.Resolved.{Table, Offer, characters_at, date_for, date_in, date_value, dated, first, first_offer, last_date, later, needs_date, of_date, offered, own, plain_in, readable, resolved, undated}
use Rattle.biblatex_inherited_fields.specs.Table.{inherits, source_name}
use Rattle.biblatex_laws.specs.Reached.{SaysTheSame}

-- the text of a value
abbrev pub text_of : Option Value → Option (List Member)
text_of o = option_map (λ (v : Value). v.text) o

-- two tables have the same text under each name
abbrev pub SameTexts : Table → Table → Type 0
SameTexts t u = (name : List ℕ) → text_of (t name) ≡ text_of (u name)

-- two references offer the same texts in one role
pub record OffersTheSame (o p : Offer) : Type 0 where
  pub role : o.role ≡ p.role
  pub texts : SameTexts o.fields p.fields

text_of_first : (u v : Option Value) → text_of (first u v) ≡ option_or (text_of u) (text_of v)
text_of_first None v = refl
text_of_first (Some u) v = refl

first_same : (u v w x : Option Value) → text_of u ≡ text_of w → text_of v ≡ text_of x → text_of (first u v) ≡ text_of (first w x)
first_same u v w x a b = text_of_first u v ∙ (λ i. option_or (a i) (b i)) ∙ sym (text_of_first w x)

kept_same : (b : Bool) (u v : Option Value) → text_of u ≡ text_of v → text_of (cond b u None) ≡ text_of (cond b v None)
kept_same true u v e = e
kept_same false u v e = refl

left_out_same : (b : Bool) (u v : Option Value) → text_of u ≡ text_of v → text_of (cond b None u) ≡ text_of (cond b None v)
left_out_same true u v e = refl
left_out_same false u v e = e

-- what is offered
offered_same : (to : Role) (o p : Offer) → OffersTheSame o p → (name : List ℕ) → text_of (offered to o.role o.fields name) ≡ text_of (offered to p.role p.fields name)
offered_same to o p h name =
    kept_same (inherits to name) (o.fields (source_name to o.role name)) (p.fields (source_name to p.role name))
    (h.texts (source_name to o.role name) ∙ (λ i. text_of (p.fields (source_name to (h.role i) name))))

first_offer_same : (to : Role) (os ps : List Offer) → AllZip OffersTheSame os ps → (name : List ℕ) → text_of (first_offer to os name) ≡ text_of (first_offer to ps name)
first_offer_same to [] [] h name = refl
first_offer_same to [] (p ∷ ps) h name = absurd h
first_offer_same to (o ∷ os) [] h name = absurd h
first_offer_same to (o ∷ os) (p ∷ ps) h name =
    first_same (offered to o.role o.fields name) (first_offer to os name) (offered to p.role p.fields name) (first_offer to ps name) (offered_same to o p h.0 name) (first_offer_same to os ps h.1 name)

-- dates
plain_of : (u : Option Value) → plain_in u ≡ option_map_or plain (text_of u) []
plain_of None = refl
plain_of (Some v) = refl

module _ (t u : Table) (same : SameTexts t u) where
  characters_same : (name : List ℕ) → characters_at t name ≡ characters_at u name
  characters_same name = plain_of (t name) ∙ ap (λ o. option_map_or plain o []) (same name) ∙ sym (plain_of (u name))

  of_date_same : (cs : List ℕ) → of_date cs t ≡ of_date cs u
  of_date_same [] = λ i. Ok (of_parts (characters_same (codes "year") i) (Some (characters_same (codes "month") i)) (Some (characters_same (codes "day") i)))
  of_date_same (c ∷ cs) = refl

  date_same : date_in t ≡ date_in u
  date_same = (λ i. of_date (characters_same (codes "date") i) t) ∙ of_date_same (characters_at u (codes "date"))

  by_name : (b c : Bool) (d : Date) (name : List ℕ) → text_of (cond b (Some (date_value d)) (cond c None (t name))) ≡ text_of (cond b (Some (date_value d)) (cond c None (u name)))
  by_name true c d name = refl
  by_name false c d name = left_out_same c (t name) (u name) (same name)

  dated_same : (d : Option Date) (name : List ℕ) → text_of (dated d t name) ≡ text_of (dated d u name)
  dated_same None name = same name
  dated_same (Some d) name = by_name (bytes_eq name (codes "date")) (bytes_eq name (codes "year") || (bytes_eq name (codes "month") || bytes_eq name (codes "day"))) d name

last_date_same : (so_far : Option Date) (os ps : List Offer) → AllZip OffersTheSame os ps → last_date so_far os ≡ last_date so_far ps
last_date_same so_far [] [] h = refl
last_date_same so_far [] (p ∷ ps) h = absurd h
last_date_same so_far (o ∷ os) [] h = absurd h
last_date_same so_far (o ∷ os) (p ∷ ps) h =
    (λ i. last_date (later so_far (readable (date_same o.fields p.fields h.0.texts i))) os) ∙ last_date_same (later so_far (readable (date_in p.fields))) os ps h.1

-- resolved entries that said the same and whose references offer the same
module _ (e f : Source) (says : SaysTheSame e f) (os ps : List Offer) (h : AllZip OffersTheSame os ps) where
  abbrev to : Role
  to = role_of e.entry_type

  abbrev to_other : Role
  to_other = role_of f.entry_type

  roles : to ≡ to_other
  roles = ap role_of says.entry_type

  own_same : (name : List ℕ) → text_of (own e name) ≡ text_of (own f name)
  own_same name = left_out_same (bytes_eq name (codes "xdata")) (value_named name e.fields) (value_named name f.fields) (says.texts name)

  undated_same : SameTexts (undated e os) (undated f ps)
  undated_same name =
      first_same (own e name) (first_offer to os name) (own f name) (first_offer to_other ps name) (own_same name)
      (first_offer_same to os ps h name ∙ (λ i. text_of (first_offer (roles i) ps name)))

  dates_same : date_for to os ≡ date_for to_other ps
  dates_same = λ i. if needs_date (roles i) then last_date_same None os ps h i else None

  pub resolved_same : SameTexts (resolved e os) (resolved f ps)
  resolved_same name = dated_same (undated e os) (undated f ps) undated_same (date_for to os) name ∙ (λ i. text_of (dated (dates_same i) (undated f ps) name))
