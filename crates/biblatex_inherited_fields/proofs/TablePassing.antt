-- Passing on, a name at a time and a field at a time.
use Rattle.std.proofs.Common.{◌≡◌, ℕ, suc, ◌+◌, ◌<◌, Bool, true, false, cond, not, List, [], ◌∷◌, ◌++◌, length, take, get_or, Option, Some, None, bytes_eq, Bor, String, string_bytes, Vec, Global, refl, sym, ap, subst, ◌∙◌, true≢false, arith}
use Rattle.std.specs.Prelude.{if◌then◌else◌, ◌||◌}
use Rattle.std.proofs.Math.Seq.{take-suc}
use Rattle.std.proofs.lemmas.List.Folds.{list_any-append}
use Rattle.std.proofs.lemmas.Slice.Eq.{bytes_eq-Decides}
use Rattle.std.proofs.lemmas.List.{append_assoc}
use Rattle.laws.specs.Borrowed.{borrowed}
use Rattle.biblatex_text.specs.declared.spanned.Spanned.{Spanned}
use Rattle.biblatex_content.specs.declared.chunk.Chunk.{Chunk}
use Rattle.biblatex_fields.specs.Fields.{Named, named_fields_view, value_named}
use Rattle.biblatex_fields.specs.Value.{Value, field_value_view}
use Rattle.biblatex_entries.specs.declared.role.Role.{Role}
use Rattle.biblatex_entries.specs.declared.role.Role.TheVariants.{Article, Periodical, PartOfBook, PartOfOther, Book, MultiVolumeBook, Volume, MultiVolume, XData, Set, Other}
use Rattle.biblatex_inherited_fields.specs.Table.{is_among, never, of_all, source_name}
use Rattle.biblatex_inherited_fields.specs.Offered.{Table, first, offered}
use Rattle.biblatex_inherited_fields.specs.Views.{PassesOn, borrowed_fields_view}

-- two offers of one table, one after the other
joined : (a b : Bool) (x s t : Option Value) → (b ≡ true → t ≡ s) → first (first x (if a then s else None)) (if b then t else None) ≡ first x (if a || b then s else None)
joined a b (Some v) s t same = refl
joined true b None (Some w) t same = refl
joined true true None None t same = same refl
joined true false None None t same = refl
joined false true None s t same = same refl
joined false false None s t same = refl

-- after the names so far one more name is passed on
pub name_more : (S : Table) (old cur new : List Named) (ns : List (List ℕ)) (n : List ℕ)
    → PassesOn old cur (λ q. if is_among ns q then S q else None) → PassesOn cur new (λ q. if bytes_eq q n then S n else None) → PassesOn old new (λ q. if is_among (ns ++ n ∷ []) q then S q else None)
name_more S old cur new ns n before one q =
    one q ∙ (ap (λ (x : Option Value). first x (if bytes_eq q n then S n else None)) (before q)
    ∙ (joined (is_among ns q) (bytes_eq q n) (value_named q old) (S q) (S n) (λ e. ap S (sym ((bytes_eq-Decides q n).0 e)))
    ∙ ap (λ (b : Bool). first (value_named q old) (if b then S q else None)) (sym (list_any-append (bytes_eq q) ns (n ∷ []) ∙ ap (λ (b : Bool). is_among ns q || b) (by_last (bytes_eq q n))))))
  where
    by_last : (b : Bool) → (b || false) ≡ b
    by_last true = refl
    by_last false = refl

-- the names before an index, and the one at it
pub names_more : (S : Table) (old cur new : List Named) (ns : List (Bor (List ℕ))) (i : ℕ) (d : Bor (List ℕ)) → i < length ns
    → PassesOn old cur (λ q. if is_among (borrowed (take i ns)) q then S q else None) → PassesOn cur new (λ q. if bytes_eq q (get_or ns i d).now then S (get_or ns i d).now else None)
    → PassesOn old new (λ q. if is_among (borrowed (take (i + 1) ns)) q then S q else None)
names_more S old cur new ns i d low before one =
    subst (λ (ts : List (List ℕ)). PassesOn old new (λ q. if is_among ts q then S q else None)) (sym there) (name_more S old cur new (borrowed (take i ns)) (get_or ns i d).now before one)
  where
    texts-append : (xs ys : List (Bor (List ℕ))) → borrowed (xs ++ ys) ≡ borrowed xs ++ borrowed ys
    texts-append [] ys = refl
    texts-append (x ∷ xs) ys = ap (λ (ts : List (List ℕ)). x.now ∷ ts) (texts-append xs ys)

    there : borrowed (take (i + 1) ns) ≡ borrowed (take i ns) ++ ((get_or ns i d).now ∷ [])
    there = let e : i + 1 ≡ suc i = omega arith in ap (λ (ts : List (Bor (List ℕ))). borrowed ts) (rw e (take-suc ns i d low)) ∙ texts-append (take i ns) (get_or ns i d ∷ [])

-- the names of two lists, one after the other
pub names_of_both : (S : Table) (old cur new : List Named) (ns ms : List (List ℕ))
    → PassesOn old cur (λ q. if is_among ns q then S q else None) → PassesOn cur new (λ q. if is_among ms q then S q else None) → PassesOn old new (λ q. if is_among ns q || is_among ms q then S q else None)
names_of_both S old cur new ns ms before more q =
    more q ∙ (ap (λ (x : Option Value). first x (if is_among ms q then S q else None)) (before q) ∙ joined (is_among ns q) (is_among ms q) (value_named q old) (S q) (S q) (λ e. refl))

-- what a look-up finds in fields with one more at the end
pub found_more : (q : List ℕ) (fs : List Named) (n : List ℕ) (v : Value) → value_named q (fs ++ (n, v) ∷ []) ≡ first (value_named q fs) (if bytes_eq q n then Some v else None)
found_more q [] n v = refl
found_more q (f ∷ fs) n v = by_test (bytes_eq q f.0) (found_more q fs n v)
  where
    by_test : (b : Bool) → value_named q (fs ++ (n, v) ∷ []) ≡ first (value_named q fs) (if bytes_eq q n then Some v else None)
        → cond b (Some f.1) (value_named q (fs ++ (n, v) ∷ [])) ≡ first (cond b (Some f.1) (value_named q fs)) (if bytes_eq q n then Some v else None)
    by_test true more = refl
    by_test false more = more

-- one more field that is inherited
pub field_more : (old cur new fs : List Named) (n : List ℕ) (v : Value) → is_among never n ≡ false
    → PassesOn old cur (λ q. if is_among never q then None else value_named q fs) → PassesOn cur new (λ q. if bytes_eq q n then Some v else None)
    → PassesOn old new (λ q. if is_among never q then None else value_named q (fs ++ (n, v) ∷ []))
field_more old cur new fs n v comes before one q =
    one q ∙ (ap (λ (x : Option Value). first x (if bytes_eq q n then Some v else None)) (before q)
    ∙ (by_tests (is_among never q) (bytes_eq q n) (value_named q old) (value_named q fs) (λ e. ap (is_among never) ((bytes_eq-Decides q n).0 e) ∙ comes)
    ∙ ap (λ (x : Option Value). first (value_named q old) (if is_among never q then None else x)) (sym (found_more q fs n v))))
  where
    by_tests : (a b : Bool) (x y : Option Value) → (b ≡ true → a ≡ false) → first (first x (if a then None else y)) (if b then Some v else None) ≡ first x (if a then None else first y (if b then Some v else None))
    by_tests a b (Some w) y barred = refl
    by_tests true true None y barred = absurd (true≢false (barred refl))
    by_tests true false None y barred = refl
    by_tests false b None y barred = refl

-- one more field that is never inherited
pub field_never : (old cur fs : List Named) (n : List ℕ) (v : Value) → is_among never n ≡ true
    → PassesOn old cur (λ q. if is_among never q then None else value_named q fs) → PassesOn old cur (λ q. if is_among never q then None else value_named q (fs ++ (n, v) ∷ []))
field_never old cur fs n v barred before q =
    before q ∙ ap (first (value_named q old)) (by_tests (is_among never q) (bytes_eq q n) (value_named q fs) (λ e. ap (is_among never) ((bytes_eq-Decides q n).0 e) ∙ barred)
    ∙ ap (λ (x : Option Value). if is_among never q then None else x) (sym (found_more q fs n v)))
  where
    by_tests : (a b : Bool) (y : Option Value) → (b ≡ true → a ≡ true) → (if a then None else y) ≡ (if a then None else first y (if b then Some v else None))
    by_tests true b y barred = refl
    by_tests false true y barred = absurd (true≢false (sym (barred refl)))
    by_tests false false None barred = refl
    by_tests false false (Some w) barred = refl

-- an xdata entry inherits all fields but those that are never inherited
pub to_xdata : (to from : Role) (fields : Table) (old new : List Named) → to ≡ XData → PassesOn old new (λ q. if is_among never q then None else fields q) → PassesOn old new (offered to from fields)
to_xdata to from fields old new is given = subst (λ (r : Role). PassesOn old new (offered r from fields)) (sym is) (λ q. given q ∙ ap (first (value_named q old)) (by_test (is_among never q) (fields q)))
  where
    by_test : (a : Bool) (x : Option Value) → (if a then None else x) ≡ (if not a then x else None)
    by_test true x = refl
    by_test false x = refl

-- an entry that is neither an article nor a part of a work inherits the fields that every entry inherits
pub to_others : (to from : Role) (fields : Table) (old new : List Named) → (to ≡ Article → ⊥) → (to ≡ PartOfBook → ⊥) → (to ≡ PartOfOther → ⊥) → (to ≡ XData → ⊥)
    → PassesOn old new (λ q. if is_among of_all q then fields (source_name to from q) else None) → PassesOn old new (offered to from fields)
to_others Article from fields old new a b o x given = absurd (a refl)
to_others Periodical from fields old new a b o x given = given
to_others PartOfBook from fields old new a b o x given = absurd (b refl)
to_others PartOfOther from fields old new a b o x given = absurd (o refl)
to_others Book from fields old new a b o x given = given
to_others MultiVolumeBook from fields old new a b o x given = given
to_others Volume from fields old new a b o x given = given
to_others MultiVolume from fields old new a b o x given = given
to_others XData from fields old new a b o x given = absurd (x refl)
to_others Set from fields old new a b o x given = given
to_others Other from fields old new a b o x given = given

-- a field that is borrowed stands after those borrowed before it
borrowed-append : (xs ys : List (Bor (String Global) × Bor (Vec (Spanned Chunk) Global))) → borrowed_fields_view (xs ++ ys) ≡ borrowed_fields_view xs ++ borrowed_fields_view ys
borrowed-append [] ys = refl
borrowed-append (x ∷ xs) ys = ap (λ (fs : List Named). (string_bytes x.0.now, field_value_view x.1.now.items) ∷ fs) (borrowed-append xs ys)

pub borrowed_last : (lent : List (Bor (String Global) × Bor (Vec (Spanned Chunk) Global))) (n : Bor (String Global)) (v : Bor (Vec (Spanned Chunk) Global))
    → borrowed_fields_view (lent ++ (n, v) ∷ []) ≡ borrowed_fields_view lent ++ (string_bytes n.now, field_value_view v.now.items) ∷ []
borrowed_last lent n v = borrowed-append lent ((n, v) ∷ [])

pub borrowed_more : (all : List Named) (lent : List (Bor (String Global) × Bor (Vec (Spanned Chunk) Global))) (n : Bor (String Global)) (v : Bor (Vec (Spanned Chunk) Global)) (before after : List (String Global × Vec (Spanned Chunk) Global))
    → all ≡ borrowed_fields_view lent ++ named_fields_view before → before ≡ (n.now, v.now) ∷ after → all ≡ borrowed_fields_view (lent ++ (n, v) ∷ []) ++ named_fields_view after
borrowed_more all lent n v before after parts step =
    parts ∙ (ap (λ (es : List (String Global × Vec (Spanned Chunk) Global)). borrowed_fields_view lent ++ named_fields_view es) step
    ∙ (sym (append_assoc (borrowed_fields_view lent) ((string_bytes n.now, field_value_view v.now.items) ∷ []) (named_fields_view after)) ∙ ap (λ (fs : List Named). fs ++ named_fields_view after) (sym (borrowed_last lent n v))))
