-- Values that stand in other entries.
use Rattle.std.proofs.Common.{◌≡◌, ℕ, ◌+◌, ◌<◌, Bool, true, false, true≢false, cond, List, [], ◌∷◌, ◌++◌, length, take, get_or, slice_get, Option, Some, None, option_map, Bor, bytes_eq, refl, sym, ap, ◌∙◌}
use Rattle.std.specs.Prelude.{◌≤◌, if◌then◌else◌, IfSome, MatchOption}
use Rattle.std.specs.Option.{is_some}
use Rattle.std.proofs.lemmas.List.{take_more}
use Rattle.std.proofs.lemmas.Option.{slice_get-get_or, slice_get_past}
use Rattle.biblatex_fields.specs.Fields.{Named, value_named}
use Rattle.biblatex_fields.specs.Value.{Value}
use Rattle.biblatex_entries.specs.Entries.{Source}
use Rattle.biblatex_inherited_fields.specs.Offered.{first}
use Rattle.biblatex_inherited_fields.specs.Views.{PassesOn}
use Rattle.biblatex_inherited_fields.proofs.TablePassing.{found_more}
use Rattle.biblatex_inheritance.specs.Resolved.{dated}
use Rattle.biblatex_inheritance.specs.Views.{IsTable, table_view}
use Rattle.biblatex_inheritance.proofs.ResolvedReferences.{first_twice}
use Rattle.biblatex_suppliers.specs.FieldNames.{field_name}
use Rattle.biblatex_suppliers.specs.Suppliers.{own_of, or_nothing, supplied, supplied_field, supplied_fields, supplier_named, undated_by, seen_by}
use Rattle.biblatex_suppliers.specs.declared.supplier.Supplied.{Supplied}
use Rattle.biblatex_suppliers.specs.declared.supplier.Supplies.{Supplies}
use Rattle.biblatex_suppliers.proofs.SeeingAlike.{dated_same}

-- what is mapped is something where it was
pub mapped_some : {A B : Type 0} (f : A → B) (r : Option A) (o : Option B) → option_map f r ≡ o → is_some r ≡ is_some o
mapped_some f None o is = ap is_some is
mapped_some f (Some x) o is = ap is_some is

-- what is borrowed is what stands there
pub borrowed_at : {A : Type 0} (xs : List A) (i : ℕ) (o : Option (Bor A)) (P : Bor A → Type 0) → IfSome o (λ x. x.now ≡ get_or xs i x.now) → MatchOption o (length xs ≤ i) (λ x. (i < length xs) × P x) → option_map (λ (x : Bor A). x.now) o ≡ slice_get xs i
borrowed_at xs i None P there bounds = sym (slice_get_past xs i bounds)
borrowed_at xs i (Some x) P there bounds = ap Some there ∙ sym (slice_get-get_or xs i x.now bounds.0)

-- an entry's own value, where it has one, is what it has
pub own_stands : (o other : Option Value) → is_some o ≡ true → Some (or_nothing o) ≡ first o other
own_stands None other is = absurd (true≢false (sym is))
own_stands (Some v) other is = refl

pub own_lacks : (o other : Option Value) → is_some o ≡ false → other ≡ first o other
own_lacks None other is = refl
own_lacks (Some v) other is = absurd (true≢false is)

-- the value under a name stands where the supplier of that name says
pub supplied_is : (es : List Source) (q : List ℕ) (ss : List Supplied) → option_map (supplied es) (supplier_named q ss) ≡ value_named q (supplied_fields es ss)
supplied_is es q [] = refl
supplied_is es q (s ∷ ss) = by (bytes_eq q (field_name s.name)) (supplied_is es q ss)
  where
    by : (b : Bool) → option_map (supplied es) (supplier_named q ss) ≡ value_named q (supplied_fields es ss)
        → option_map (supplied es) (if b then Some s.supplier else supplier_named q ss) ≡ cond b (Some (supplied es s.supplier)) (value_named q (supplied_fields es ss))
    by true more = refl
    by false more = more

-- one more field at the end of those that an entry inherits
pub supplied_more : (es : List Source) (ss : List Supplied) (s : Supplied) → PassesOn (supplied_fields es ss) (supplied_fields es (ss ++ s ∷ [])) (λ q. if bytes_eq q (field_name s.name) then Some (supplied es s.supplier) else None)
supplied_more es [] s q = refl
supplied_more es (x ∷ ss) s q = by (bytes_eq q (field_name x.name)) (supplied_more es ss s q)
  where
    by : (b : Bool) → value_named q (supplied_fields es (ss ++ s ∷ [])) ≡ first (value_named q (supplied_fields es ss)) (if bytes_eq q (field_name s.name) then Some (supplied es s.supplier) else None)
        → cond b (Some (supplied es x.supplier)) (value_named q (supplied_fields es (ss ++ s ∷ []))) ≡ first (cond b (Some (supplied es x.supplier)) (value_named q (supplied_fields es ss))) (if bytes_eq q (field_name s.name) then Some (supplied es s.supplier) else None)
    by true more = refl
    by false more = more

supplied-append : (es : List Source) (ss ts : List Supplied) → supplied_fields es (ss ++ ts) ≡ supplied_fields es ss ++ supplied_fields es ts
supplied-append es [] ts = refl
supplied-append es (s ∷ ss) ts = ap (λ (fs : List Named). supplied_field es s ∷ fs) (supplied-append es ss ts)

-- all fields of a list are passed on, and one more
pub field_more : (old cur new fs : List Named) (n : List ℕ) (v : Value) → PassesOn old cur (λ q. value_named q fs) → PassesOn cur new (λ q. if bytes_eq q n then Some v else None) → PassesOn old new (λ q. value_named q (fs ++ (n, v) ∷ []))
field_more old cur new fs n v before one q =
    one q
    ∙ (ap (λ (x : Option Value). first x (if bytes_eq q n then Some v else None)) (before q)
    ∙ (first_twice (value_named q old) (value_named q fs) (if bytes_eq q n then Some v else None) ∙ ap (first (value_named q old)) (sym (found_more q fs n v))))

-- the fields before an index, and the one at it
pub fields_more : (es : List Source) (ss : List Supplied) (k : ℕ) (d : Supplied) (old cur new : List Named) → k < length ss → PassesOn old cur (λ q. value_named q (supplied_fields es (take k ss)))
    → PassesOn cur new (λ q. if bytes_eq q (field_name (get_or ss k d).name) then Some (supplied es (get_or ss k d).supplier) else None) → PassesOn old new (λ q. value_named q (supplied_fields es (take (k + 1) ss)))
fields_more es ss k d old cur new low before one q =
    let s = get_or ss k d in
    let there : supplied_fields es (take (k + 1) ss) ≡ supplied_fields es (take k ss) ++ (field_name s.name, supplied es s.supplier) ∷ [] = ap (supplied_fields es) (take_more ss k d low) ∙ supplied-append es (take k ss) (s ∷ []) in
    field_more old cur new (supplied_fields es (take k ss)) (field_name s.name) (supplied es s.supplier) before one q ∙ ap (λ (fs : List Named). first (value_named q old) (value_named q fs)) (sym there)

-- own fields, then those that are inherited, then an inherited date
pub made_is : (es : List Source) (n : ℕ) (known : Supplies) (own with_all made : List Named) (ss : List Supplied) → ss ≡ known.suppliers.items
    → IsTable own (own_of (slice_get es n)) → PassesOn own with_all (λ q. value_named q (supplied_fields es ss)) → IsTable made (dated known.dated.date (table_view with_all)) → IsTable made (seen_by es n (Some known))
made_is es n known own with_all made ss same a b c q =
    c q ∙ dated_same known.dated.date (table_view with_all) (undated_by es n known) q (b q ∙ (λ i. first (a q i) (value_named q (supplied_fields es (same i)))))
