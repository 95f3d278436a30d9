-- The names that resolved entries may have: those of all fields that are read, the new names of fields that are inherited, and `date`.
use Rattle.std.proofs.Common.{◌≡◌, ℕ, zero, suc, ◌<◌, Bool, true, false, true≢false, cond, ◌||◌, List, [], ◌∷◌, ◌++◌, length, get_or, slice_get, flat_map, Option, Some, None, bytes_eq, codes, refl, sym, ap, ◌∙◌, arith}
use Rattle.std.specs.Prelude.{IfSome, if◌then◌else◌}
use Rattle.std.specs.List.{list_any}
use Rattle.std.specs.Map.{keys_of}
use Rattle.std.proofs.lemmas.Bool.{or_parts}
use Rattle.std.proofs.lemmas.List.Folds.{list_any-append}
use Rattle.biblatex_fields.specs.Fields.{Named, value_named}
use Rattle.biblatex_fields.specs.Value.{Value}
use Rattle.biblatex_dates.specs.declared.date.Date.{Date}
use Rattle.biblatex_entries.specs.declared.role.Role.{Role}
use Rattle.biblatex_entries.specs.Roles.{role_of}
use Rattle.biblatex_entries.specs.Entries.{Source}
use Rattle.reference_graph.specs.References.{references_of}
use Rattle.biblatex_inherited_fields.specs.Table.{inherits, is_xdata, renamed, source_name}
use Rattle.biblatex_inherited_fields.proofs.TableRenamed.{IsNotRenamed, same_renamed}
use Rattle.biblatex_inheritance.specs.Resolved.{Table, Offer, first, first_offer, own, undated, dated, date_for, resolved, offers, offer_if}
use Rattle.biblatex_meaning.proofs.Equation.{iterated}
use Rattle.biblatex_meaning.proofs.Solving.{resolved_in, rule, no_fields, solution_of}

abbrev pub given : List (List ℕ)
given =
    codes "date" ∷ codes "journaltitle" ∷ codes "journalsubtitle" ∷ codes "maintitle" ∷ codes "mainsubtitle" ∷ codes "booktitle" ∷
    codes "booksubtitle" ∷ codes "bookauthor" ∷ []

abbrev pub read_of : List Source → List (List ℕ)
read_of es = flat_map (λ (e : Source). keys_of e.fields) es

abbrev pub names_in : List Source → List (List ℕ)
names_in es = given ++ read_of es

-- a name that no field gets
record IsNotGiven (q : List ℕ) : Type 0 where
  pub date : bytes_eq q (codes "date") ≡ false
  pub kept : IsNotRenamed q

fails_at : {X : Type 0} (p : X → Bool) (xs : List X) (i : ℕ) (d : X) → i < length xs → list_any p xs ≡ false → p (get_or xs i d) ≡ false
fails_at p [] i d low e = absurd (omega (arith, low))
fails_at p (x ∷ xs) zero d low e = (or_parts (p x) (list_any p xs) e).0
fails_at p (x ∷ xs) (suc i) d low e = fails_at p xs i d (omega (arith, low)) (or_parts (p x) (list_any p xs) e).1

not_given : (q : List ℕ) → list_any (bytes_eq q) given ≡ false → IsNotGiven q
not_given q e = record {
  date = fails_at (bytes_eq q) given 0 [] (omega arith) e;
  kept = record {
    journaltitle = fails_at (bytes_eq q) given 1 [] (omega arith) e;
    journalsubtitle = fails_at (bytes_eq q) given 2 [] (omega arith) e;
    maintitle = fails_at (bytes_eq q) given 3 [] (omega arith) e;
    mainsubtitle = fails_at (bytes_eq q) given 4 [] (omega arith) e;
    booktitle = fails_at (bytes_eq q) given 5 [] (omega arith) e;
    booksubtitle = fails_at (bytes_eq q) given 6 [] (omega arith) e;
    bookauthor = fails_at (bytes_eq q) given 7 [] (omega arith) e;
  };
}

-- such a name is no new name
same_name : (to from : Role) (q : List ℕ) → IsNotGiven q → source_name to from q ≡ q
same_name to from q n = by (is_xdata to || is_xdata from)
  where
    by : (b : Bool) → (if b then q else renamed to from q) ≡ q
    by true = refl
    by false = same_renamed to from q n.kept

-- a name that no field gets is offered by no reference
none_offered : (q : List ℕ) → IsNotGiven q → (to : Role) (es : List Source) (see : ℕ → Table) (rs : List ℕ) → ((r : ℕ) → see r q ≡ None) → first_offer to (offers es see rs) q ≡ None
none_offered q n to es see [] h = refl
none_offered q n to es see (r ∷ rs) h = by (slice_get es r) (none_offered q n to es see rs h)
  where
    one : (b : Bool) (x y : Option Value) → x ≡ None → y ≡ None → first (if b then x else None) y ≡ None
    one true x y no_x no_y = ap (λ (z : Option Value). first z y) no_x ∙ no_y
    one false x y no_x no_y = no_y

    by : (s : Option Source) → first_offer to (offers es see rs) q ≡ None → first_offer to (offer_if r s (see r) ++ offers es see rs) q ≡ None
    by None rest = rest
    by (Some e) rest = one (inherits to q) (see r (source_name to (role_of e.entry_type) q)) (first_offer to (offers es see rs) q) (ap (see r) (same_name to (role_of e.entry_type) q n) ∙ h r) rest

none_either : (b : Bool) (x : Option Value) → x ≡ None → (if b then None else x) ≡ None
none_either true x is = refl
none_either false x is = is

none_past : (b : Bool) (x y : Option Value) → b ≡ false → y ≡ None → (if b then x else y) ≡ None
none_past true x y e is = absurd (true≢false e)
none_past false x y e is = is

none_dated : (q : List ℕ) → IsNotGiven q → (d : Option Date) (t : Table) → t q ≡ None → dated d t q ≡ None
none_dated q n None t is = is
none_dated q n (Some d) t is = none_past (bytes_eq q (codes "date")) _ _ n.date (none_either (bytes_eq q (codes "year") || (bytes_eq q (codes "month") || bytes_eq q (codes "day"))) (t q) is)

none_resolved : (q : List ℕ) → IsNotGiven q → (e : Source) (os : List Offer) → value_named q e.fields ≡ None → first_offer (role_of e.entry_type) os q ≡ None → resolved e os q ≡ None
none_resolved q n e os no_own no_offer = none_dated q n (date_for (role_of e.entry_type) os) (undated e os) (both (own e q) (first_offer (role_of e.entry_type) os q) (none_either (bytes_eq q (codes "xdata")) (value_named q e.fields) no_own) no_offer)
  where
    both : (x y : Option Value) → x ≡ None → y ≡ None → first x y ≡ None
    both x y no_x no_y = ap (λ (z : Option Value). first z y) no_x ∙ no_y

-- fields without a name have no value under it
none_named : (q : List ℕ) (fs : List Named) → list_any (bytes_eq q) (keys_of fs) ≡ false → value_named q fs ≡ None
none_named q [] e = refl
none_named q (f ∷ fs) e = let parts = or_parts (bytes_eq q f.0) (list_any (bytes_eq q) (keys_of fs)) e in by (bytes_eq q f.0) parts.0 (none_named q fs parts.1)
  where
    by : (b : Bool) → b ≡ false → value_named q fs ≡ None → cond b (Some f.1) (value_named q fs) ≡ None
    by true e rest = absurd (true≢false e)
    by false e rest = rest

none_read : (q : List ℕ) (es : List Source) → list_any (bytes_eq q) (read_of es) ≡ false → (i : ℕ) → IfSome (slice_get es i) (λ e. value_named q e.fields ≡ None)
none_read q [] out i = tt
none_read q (e ∷ es) out zero = none_named q e.fields (or_parts (list_any (bytes_eq q) (keys_of e.fields)) (list_any (bytes_eq q) (read_of es)) (sym (list_any-append (bytes_eq q) (keys_of e.fields) (read_of es)) ∙ out)).0
none_read q (e ∷ es) out (suc i) = none_read q es (or_parts (list_any (bytes_eq q) (keys_of e.fields)) (list_any (bytes_eq q) (read_of es)) (sym (list_any-append (bytes_eq q) (keys_of e.fields) (read_of es)) ∙ out)).1 i

none_iterated : (q : List ℕ) → IsNotGiven q → (es : List Source) (R : List (List ℕ)) → ((i : ℕ) → IfSome (slice_get es i) (λ e. value_named q e.fields ≡ None)) → (n i : ℕ) → iterated (rule es R) no_fields n i q ≡ None
none_iterated q g es R none zero i = refl
none_iterated q g es R none (suc n) i = by (slice_get es i) (none i) (λ r. none_iterated q g es R none n r)
  where
    see : ℕ → Table
    see = iterated (rule es R) no_fields n

    by : (o : Option Source) → IfSome o (λ e. value_named q e.fields ≡ None) → ((r : ℕ) → see r q ≡ None) → resolved_in o (offers es see (references_of R i)) q ≡ None
    by None h before = refl
    by (Some e) h before = none_resolved q g e (offers es see (references_of R i)) h (none_offered q g (role_of e.entry_type) es see (references_of R i) before)

-- the solution has a value under listed names alone
pub none_outside : (es : List Source) (R : List (List ℕ)) (i : ℕ) (q : List ℕ) → list_any (bytes_eq q) (names_in es) ≡ false → solution_of es R i q ≡ None
none_outside es R i q out =
    let parts = or_parts (list_any (bytes_eq q) given) (list_any (bytes_eq q) (read_of es)) (sym (list_any-append (bytes_eq q) given (read_of es)) ∙ out) in
    none_iterated q (not_given q parts.0) es R (none_read q es parts.1) (suc (length R)) i
