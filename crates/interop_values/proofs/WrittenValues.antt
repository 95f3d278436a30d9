-- What stands under a written name is what a look-up finds in the written fields, where no two are written under one name.
use Rattle.std.proofs.Common.{◌≡◌, ℕ, Bool, true, false, cond, ◌↔◌, ◌||◌, List, [], ◌∷◌, ◌++◌, Option, Some, None, Contains, find, unwrap_or, option_map, option_to_list, option_and_then, flat_map, refl, sym, ap, subst, ◌∙◌, arith}
use Rattle.std.specs.Prelude.{if◌then◌else◌}
use Rattle.std.specs.List.{list_any, AllByRecursion, IsDistinct}
use Rattle.std.specs.Map.{lookup, keys_of}
use Rattle.std.specs.Str.{bytes_eq}
use Rattle.std.specs.Cmp.Lexicographic.{nat_list_eq_equiv}
use Rattle.std.specs.Option.{option_or}
use Rattle.std.proofs.lemmas.List.Elements.{Contains-append_left, Contains-append_right}
use Rattle.std.proofs.lemmas.Map.Views.{Contains-from_lookup, lookup-from_Contains}
use Rattle.std.proofs.lemmas.Option.{none-some, same_Some}
use Rattle.std.proofs.lemmas.Slice.Eq.{bytes_eq-Decides}
use Rattle.biblatex_content.specs.Styled.{Member}
use Rattle.biblatex_fields.specs.Fields.{Named, value_named, text_named}
use Rattle.biblatex_fields.specs.Value.{Value}
use Rattle.biblatex_writing.specs.FieldNames.{other_names, is_never_written, written_name}
use Rattle.biblatex_writing.proofs.NamesWritten.{own_name}
use Rattle.interop_values.specs.Values.{filled, values}
use Rattle.interop_values.specs.Written.{Written, written_fields, AreWrittenApart, AreWrittenAlike}

-- a row of the names: fields of the first name are written under it, and those of the other under the first
record IsRow (names : List ℕ × List ℕ) : Type 0 where
  pub own : is_never_written names.0 ≡ false
  pub other : lookup (bytes_eq names.0) other_names ≡ Some names.1
  pub name : written_name names.1 ≡ names.0

row : (names : List ℕ × List ℕ) → is_never_written names.0 ≡ false → lookup (bytes_eq names.0) other_names ≡ Some names.1 → written_name names.1 ≡ names.0 → IsRow names
row names own other name = record { own = own; other = other; name = name }

rows : AllByRecursion IsRow other_names
rows = (row _ refl refl refl, (row _ refl refl refl, (row _ refl refl refl, (row _ refl refl refl, (row _ refl refl refl, (row _ refl refl refl, (row _ refl refl refl, (row _ refl refl refl, tt))))))))

-- the other name of a name is written under it
other_by : (t : List (List ℕ × List ℕ)) → AllByRecursion IsRow t → (n o : List ℕ) → lookup (bytes_eq n) t ≡ Some o → written_name o ≡ n
other_by [] all n o h = absurd (none-some o h)
other_by (p ∷ t) all n o h = by_test (bytes_eq n p.0) refl h (other_by t all.1 n o)
  where
    by_test : (b : Bool) → bytes_eq n p.0 ≡ b → cond b (Some p.1) (lookup (bytes_eq n) t) ≡ Some o → (lookup (bytes_eq n) t ≡ Some o → written_name o ≡ n) → written_name o ≡ n
    by_test true e is more = ap written_name (sym (same_Some p.1 o is)) ∙ (all.0.name ∙ sym ((bytes_eq-Decides n p.0).0 e))
    by_test false e is more = more is

-- the row of another name
row_by : (t : List (List ℕ × List ℕ)) → AllByRecursion IsRow t → (q : List ℕ) (p : List ℕ × List ℕ) → find (λ names. bytes_eq q names.1) t ≡ Some p → IsRow p × (q ≡ p.1)
row_by [] all q p h = absurd (none-some p h)
row_by (r ∷ t) all q p h = by_test (bytes_eq q r.1) refl h (row_by t all.1 q p)
  where
    by_test : (b : Bool) → bytes_eq q r.1 ≡ b → cond b (Some r) (find (λ names. bytes_eq q names.1) t) ≡ Some p → (find (λ names. bytes_eq q names.1) t ≡ Some p → IsRow p × (q ≡ p.1)) → IsRow p × (q ≡ p.1)
    by_test true e is more = let same : r ≡ p = same_Some r p is in (subst IsRow same all.0, (bytes_eq-Decides q r.1).0 e ∙ ap (λ (names : List ℕ × List ℕ). names.1) same)
    by_test false e is more = more is

-- what no row is found for has no row
none_any : {X : Type 0} (test : X → Bool) (xs : List X) → find test xs ≡ None → list_any test xs ≡ false
none_any test [] h = refl
none_any test (x ∷ xs) h = by_test (test x) h (none_any test xs)
  where
    by_test : (b : Bool) → cond b (Some x) (find test xs) ≡ None → (find test xs ≡ None → list_any test xs ≡ false) → (b || list_any test xs) ≡ false
    by_test true is more = absurd (none-some x (sym is))
    by_test false is more = more is

-- what stands under each name that is read
abbrev Read : Type 0
Read = List ℕ → Option (List Member)

-- what stands under each name that is written
abbrev under : Read → Read
under look n = if is_never_written n then None else option_or (look n) (option_and_then look (lookup (bytes_eq n) other_names))

-- a content that was read under a name that is written as n
abbrev IsRead : Read → List ℕ → List Member → Type 0
IsRead look n ms = (q : List ℕ) × (written_name q ≡ n) × (look q ≡ Some ms)

-- what stands under a written name was read under a name that is written so
some_read : (look : Read) (n : List ℕ) (ms : List Member) → under look n ≡ Some ms → IsRead look n ms
some_read look n ms h = by_test (is_never_written n) refl h
  where
    by_other : (o : Option (List ℕ)) → lookup (bytes_eq n) other_names ≡ o → option_and_then look o ≡ Some ms → IsRead look n ms
    by_other None e is = absurd (none-some ms is)
    by_other (Some other) e is = (other, other_by other_names rows n other e, is)

    by_own : is_never_written n ≡ false → (o : Option (List Member)) → look n ≡ o → option_or o (option_and_then look (lookup (bytes_eq n) other_names)) ≡ Some ms → IsRead look n ms
    by_own may None e is = by_other (lookup (bytes_eq n) other_names) refl is
    by_own may (Some v) e is = (n, own_name n may, e ∙ is)

    by_test : (b : Bool) → is_never_written n ≡ b → (if b then None else option_or (look n) (option_and_then look (lookup (bytes_eq n) other_names))) ≡ Some ms → IsRead look n ms
    by_test true e is = absurd (none-some ms is)
    by_test false e is = by_own e (look n) refl is

-- where nothing stands under a written name, nothing was read under a name that is written so
none_read : (look : Read) (q : List ℕ) → under look (written_name q) ≡ None → look q ≡ None
none_read look q h = by_row (find (λ names. bytes_eq q names.1) other_names) refl h
  where
    first_none : (a b : Option (List Member)) → option_or a b ≡ None → a ≡ None
    first_none None b is = refl
    first_none (Some v) b is = absurd (none-some v (sym is))

    next_none : (a b : Option (List Member)) → option_or a b ≡ None → b ≡ None
    next_none None b is = is
    next_none (Some v) b is = absurd (none-some v (sym is))

    open_at : (n : List ℕ) → is_never_written n ≡ false → under look n ≡ None → option_or (look n) (option_and_then look (lookup (bytes_eq n) other_names)) ≡ None
    open_at n may is = sym (ap (λ (b : Bool). if b then None else option_or (look n) (option_and_then look (lookup (bytes_eq n) other_names))) may) ∙ is

    by_row : (found : Option (List ℕ × List ℕ)) → find (λ names. bytes_eq q names.1) other_names ≡ found → under look (unwrap_or (option_map (λ names. names.0) found) q) ≡ None → look q ≡ None
    by_row None e is = first_none (look q) (option_and_then look (lookup (bytes_eq q) other_names)) (open_at q (none_any (λ names. bytes_eq q names.1) other_names e) is)
    by_row (Some p) e is =
        let r : IsRow p × (q ≡ p.1) = row_by other_names rows q p e in
        ap look r.1 ∙ (sym (ap (option_and_then look) r.0.other) ∙ next_none (look p.0) (option_and_then look (lookup (bytes_eq p.0) other_names)) (open_at p.0 r.0.own is))

-- a content as it is written
abbrev written_as : List ℕ → Option (List Member) → List Written
written_as name o = option_to_list (option_map (λ ms. (written_name name, ms)) o)

-- the written fields of fields that are read somewhere
abbrev written_of : Read → List Named → List Written
written_of look gs = flat_map (λ f. written_as f.0 (look f.0)) gs

-- a field that is found was read under a name that is written so
found_read : (look : Read) (gs : List Named) (n : List ℕ) (ms : List Member) → lookup (bytes_eq n) (written_of look gs) ≡ Some ms → IsRead look n ms
found_read look [] n ms h = absurd (none-some ms h)
found_read look (f ∷ gs) n ms h = by_value (look f.0) refl h (found_read look gs n ms)
  where
    by_test : (v : List Member) → look f.0 ≡ Some v → (b : Bool) → bytes_eq n (written_name f.0) ≡ b → cond b (Some v) (lookup (bytes_eq n) (written_of look gs)) ≡ Some ms → (lookup (bytes_eq n) (written_of look gs) ≡ Some ms → IsRead look n ms) → IsRead look n ms
    by_test v e true same is more = (f.0, sym ((bytes_eq-Decides n (written_name f.0)).0 same), e ∙ is)
    by_test v e false same is more = more is

    by_value : (o : Option (List Member)) → look f.0 ≡ o → lookup (bytes_eq n) (written_as f.0 o ++ written_of look gs) ≡ Some ms → (lookup (bytes_eq n) (written_of look gs) ≡ Some ms → IsRead look n ms) → IsRead look n ms
    by_value None e is more = more is
    by_value (Some v) e is more = by_test v e (bytes_eq n (written_name f.0)) refl is more

-- a field that was read is among those that are written
read_found : (look : Read) (gs : List Named) (q : List ℕ) (v ms : List Member) → text_named q gs ≡ Some v → look q ≡ Some ms → Contains (written_of look gs) (written_name q, ms)
read_found look [] q v ms h there = absurd (none-some v h)
read_found look (f ∷ gs) q v ms h there = by_test (bytes_eq q f.0) refl h (λ is. read_found look gs q v ms is there)
  where
    by_test : (b : Bool) → bytes_eq q f.0 ≡ b → option_map (λ (x : Value). x.text) (cond b (Some f.1) (value_named q gs)) ≡ Some v → (text_named q gs ≡ Some v → Contains (written_of look gs) (written_name q, ms)) → Contains (written_as f.0 (look f.0) ++ written_of look gs) (written_name q, ms)
    by_test true e is more =
        let same : q ≡ f.0 = (bytes_eq-Decides q f.0).0 e in
        Contains-append_left (written_as f.0 (look f.0)) (written_of look gs) (written_name q, ms)
        (subst (λ (o : Option (List Member)). Contains (written_as f.0 o) (written_name q, ms)) (sym there ∙ ap look same) (0, omega arith, λ i. (written_name (sym same i), ms)))
    by_test false e is more = Contains-append_right (written_as f.0 (look f.0)) (written_of look gs) (written_name q, ms) (more is)

-- what stands under each name that is read in fields
abbrev read_in : List Named → Read
read_in fs q = filled (text_named q fs)

-- what stands under a written name is what a look-up finds in the written fields
values-lookup : (fs : List Named) → AreWrittenApart fs → (n : List ℕ) → values fs n ≡ lookup (bytes_eq n) (written_fields fs)
values-lookup fs apart n = by_value (values fs n) refl
  where
    filled_some : (o : Option (List Member)) (ms : List Member) → filled o ≡ Some ms → o ≡ Some ms
    filled_some None ms is = is
    filled_some (Some []) ms is = absurd (none-some ms is)
    filled_some (Some (m ∷ more)) ms is = is

    by_found : values fs n ≡ None → (o : Option (List Member)) → lookup (bytes_eq n) (written_fields fs) ≡ o → None ≡ o
    by_found e None is = refl
    by_found e (Some ms) is =
        let f : IsRead (read_in fs) n ms = found_read (read_in fs) fs n ms is in
        sym (none_read (read_in fs) f.0 (ap (under (read_in fs)) f.1 ∙ e)) ∙ f.2

    by_value : (o : Option (List Member)) → values fs n ≡ o → o ≡ lookup (bytes_eq n) (written_fields fs)
    by_value None e = by_found e (lookup (bytes_eq n) (written_fields fs)) refl
    by_value (Some ms) e =
        let r : IsRead (read_in fs) n ms = some_read (read_in fs) n ms e in
        sym (lookup-from_Contains nat_list_eq_equiv n ms (written_fields fs) apart
        (subst (λ (name : List ℕ). Contains (written_fields fs) (name, ms)) r.1 (read_found (read_in fs) fs r.0 ms ms (filled_some (text_named r.0 fs) ms r.2) r.2)))

-- written fields with the same pairs have the same under each name
found_alike : (ws xs : List Written) → (distinct_ws : IsDistinct bytes_eq (keys_of ws)) → (distinct_xs : IsDistinct bytes_eq (keys_of xs)) → ((name : List ℕ) (value : List Member) → Contains ws (name, value) ↔ Contains xs (name, value)) → (n : List ℕ) → lookup (bytes_eq n) ws ≡ lookup (bytes_eq n) xs
found_alike ws xs distinct_ws distinct_xs same n = by_first (lookup (bytes_eq n) ws) refl
  where
    exact : (x y : List ℕ) → bytes_eq x y ≡ true → x ≡ y
    exact x y = (bytes_eq-Decides x y).0

    by_second : lookup (bytes_eq n) ws ≡ None → (o : Option (List Member)) → lookup (bytes_eq n) xs ≡ o → None ≡ o
    by_second none None e = refl
    by_second none (Some ms) e = sym none ∙ lookup-from_Contains nat_list_eq_equiv n ms ws distinct_ws ((same n ms).1 (Contains-from_lookup exact n ms xs e))

    by_first : (o : Option (List Member)) → lookup (bytes_eq n) ws ≡ o → o ≡ lookup (bytes_eq n) xs
    by_first None e = by_second e (lookup (bytes_eq n) xs) refl
    by_first (Some ms) e = sym (lookup-from_Contains nat_list_eq_equiv n ms xs distinct_xs ((same n ms).0 (Contains-from_lookup exact n ms ws e)))

-- fields that are written alike have the same contents under written names
pub values_alike : (fs gs : List Named) → AreWrittenAlike fs gs → (n : List ℕ) → values fs n ≡ values gs n
values_alike fs gs h n =
    values-lookup fs h.first_apart n
    ∙ (found_alike (written_fields fs) (written_fields gs) h.first_apart h.second_apart h.fields n
    ∙ sym (values-lookup gs h.second_apart n))
