-- Cites that people disambiguate, as the code finds them.
use Rattle.std.proofs.Common.{arith, ◌≡◌, ℕ, suc, ◌+◌, ◌-◌, ◌<◌, ◌≤◌, Bool, true, false, cond, ◌&&◌, ◌||◌, List, [], ◌∷◌, ◌++◌, map, take, drop, length, get_or, refl, sym, ap, ◌∙◌, Option, Some, None}
use Rattle.std.specs.Prelude.{filter, fold, is_some, slice_set, zip}
use Rattle.std.specs.List.{list_any, range_with_len}
use Rattle.std.specs.Option.{option_map, option_map_or}
use Rattle.std.proofs.lemmas.Iterator.Adapters.{option_map_id}
use Rattle.std.proofs.lemmas.List.{append-nil, append_assoc, drop_all, drop_more, get_or-map, get_or_at, get_or_default, length-map, length-take-le, map_more, map-set, set_at, take_all}
use Rattle.std.proofs.lemmas.Slice.Zip.{get_or-zip, length-zip}
use Rattle.driver_names.specs.Names as names
use Rattle.driver_names.specs.Names.{distinguished_at, distinguished_by, form_wanted, is_newly_distinguished, raised_names, raises, rule_for, showing_up_to, with_raised}
use Rattle.driver_names.specs.NamesViews.{distinction, form_raised, member_view, members_view, raised_if, shown_with, with_distinction}
use Rattle.driver_names.specs.declared.names_members.Distinction.{Distinction}
use Rattle.driver_names.specs.declared.names_members.Member.{Member}
use Rattle.rendering_taxonomy.specs.declared.name.DisambiguatedNameForm.{DisambiguatedNameForm}

any_cond : {X : Type 0} (t : X → Bool) (b : Bool) (x : X) (xs : List X) → list_any t (cond b (x ∷ xs) xs) ≡ ((b && t x) || list_any t xs)
any_cond t true x xs = refl
any_cond t false x xs = refl

-- whether a test finds one of those that pass another one
pub any-filter : {X : Type 0} (t p : X → Bool) (xs : List X) → list_any t (filter p xs) ≡ list_any (λ x. p x && t x) xs
any-filter t p [] = refl
any-filter t p (x ∷ xs) = any_cond t (p x) x (filter p xs) ∙ ap (λ b. (p x && t x) || b) (any-filter t p xs)

pub any-map : {X Y : Type 0} (t : Y → Bool) (f : X → Y) (xs : List X) → list_any t (map f xs) ≡ list_any (λ x. t (f x)) xs
any-map t f [] = refl
any-map t f (x ∷ xs) = ap (λ b. t (f x) || b) (any-map t f xs)

raised_cases : (b : Bool) (g : Option DisambiguatedNameForm) (index : ℕ) (m : names.Member)
    → record m { names = raised_if index (cond b g None) m.names; is_distinguished = true }
    ≡ record (cond b (record m { names = option_map (λ ps. option_map_or (λ g. raised_names index g ps) g ps) m.names }) m) { is_distinguished = true }
raised_cases true g index m = refl
raised_cases false g index m = ap (λ ns. record m { names = ns; is_distinguished = true }) (option_map_id m.names)

distinguished_cases : (b : Bool) (g : Option DisambiguatedNameForm) (index : ℕ) (m other : names.Member) → record m { names = raised_if index g m.names; is_distinguished = true } ≡ other
    → with_distinction index (cond b (Some (record { form = g })) None) m ≡ cond b other m
distinguished_cases true g index m other e = e
distinguished_cases false g index m other e = refl

-- a cite with what is found of it by the people up to an index
shown_is : (ms : List names.Member) (index : ℕ) (m : names.Member) → shown_with index (distinction ms index m) m ≡ showing_up_to (index + 1) (distinguished_at ms index m)
shown_is ms index m =
    ap (showing_up_to (index + 1))
    (distinguished_cases (is_newly_distinguished (index + 1) ms m) (form_raised ms index m) index m (record (with_raised ms index m) { is_distinguished = true })
    (raised_cases (raises (rule_for m)) (form_wanted ms m index) index m))

all_zipped : {X A Y : Type 0} (f : A → X → Y) (g : X → A) (h : X → Y) → ((x : X) → f (g x) x ≡ h x) → (xs : List X) → map (λ p. f p.0 p.1) (zip (map g xs) xs) ≡ map h xs
all_zipped f g h same [] = refl
all_zipped f g h same (x ∷ xs) = λ k. same x k ∷ all_zipped f g h same xs k

some_cond : {A : Type 0} (b : Bool) (x : A) → is_some (cond b (Some x) None) ≡ b
some_cond true x = refl
some_cond false x = refl

any_distinction : (ms : List names.Member) (index : ℕ) (ns : List names.Member)
    → list_any (λ d. is_some d) (map (distinction ms index) ns) ≡ list_any (is_newly_distinguished (index + 1) ms) ns
any_distinction ms index [] = refl
any_distinction ms index (m ∷ ns) =
    λ k. some_cond {A = Distinction} (is_newly_distinguished (index + 1) ms m) (record { form = form_raised ms index m }) k || any_distinction ms index ns k

-- what is found of all cites by the people up to an index
pub distinguished_is : (ms new : List names.Member) (index : ℕ) (ds : List (Option Distinction)) → ds ≡ map (distinction ms index) ms
    → new ≡ cond (list_any (λ d. is_some d) ds) (map (λ p. shown_with index p.0 p.1) (zip ds ms)) ms → new ≡ distinguished_by ms index
distinguished_is ms new index ds found shown =
    shown
    ∙ (λ k. cond (list_any (λ d. is_some d) (found k)) (map (λ p. shown_with index p.0 p.1) (zip (found k) ms)) ms)
    ∙ (λ k. cond (any_distinction ms index ms k)
    (all_zipped (shown_with index) (distinction ms index) (λ m. showing_up_to (index + 1) (distinguished_at ms index m)) (shown_is ms index) ms k) ms)

-- the next index of several
pub distinguished_more : (ms new start : List names.Member) (i n : ℕ) → i < n → fold distinguished_by ms (range_with_len i (n - i)) ≡ fold distinguished_by start (range_with_len 0 n)
    → new ≡ distinguished_by ms i → fold distinguished_by new (range_with_len (i + 1) (n - (i + 1))) ≡ fold distinguished_by start (range_with_len 0 n)
distinguished_more ms new start i n low before is =
    let more : n - i ≡ suc (n - (i + 1)) = omega arith in
    ap (λ ns. fold distinguished_by ns (range_with_len (i + 1) (n - (i + 1)))) is ∙ ap (λ k. fold distinguished_by ms (range_with_len i k)) (sym more) ∙ before

module _ {A X : Type 0} (f : A → X → X) (beside : List A) (xs ys : List X) (i : ℕ) (a : A) (y : X) where
  abbrev leading : List X
  leading = map (λ p. f p.0 p.1) (take i (zip beside xs))

  pairs_length : length beside ≡ length xs → i < length xs → i < length (zip beside xs)
  pairs_length same low = omega (arith, length-zip beside xs, same)

  leading_length : length beside ≡ length xs → i < length xs → length leading ≡ i
  leading_length same low =
      let there : i < length (zip beside xs) = pairs_length same low in
      let le : i ≤ length (zip beside xs) = omega arith in
      length-map (take i (zip beside xs)) (λ p. f p.0 p.1) ∙ length-take-le i (zip beside xs) le

  parted : i < length xs → ys ≡ leading ++ drop i xs → ys ≡ leading ++ get_or xs i y ∷ drop (i + 1) xs
  parted low is = is ∙ ap (λ zs. leading ++ zs) (drop_more xs i y low)

  -- the next element is as it was
  next_is : length beside ≡ length xs → i < length xs → ys ≡ leading ++ drop i xs → get_or ys i y ≡ get_or xs i y
  next_is same low is = ap (λ zs. get_or zs i y) (parted low is) ∙ get_or_at leading (get_or xs i y) (drop (i + 1) xs) y i (leading_length same low)

  -- it is changed by what stands beside it
  pub changed_beside : (new : X) → length beside ≡ length xs → i < length xs → a ≡ get_or beside i a → y ≡ get_or ys i y → ys ≡ leading ++ drop i xs → new ≡ f a y
      → slice_set ys i new ≡ map (λ p. f p.0 p.1) (take (i + 1) (zip beside xs)) ++ drop (i + 1) xs
  changed_beside new same low is_a is_y is is_new =
      let there : i < length (zip beside xs) = pairs_length same low in
      let lower : i < length beside = omega (arith, same) in
      let pair : get_or (zip beside xs) i (a, y) ≡ (a, y) =
      get_or-zip beside xs i (a, y) lower low ∙ (λ k. (sym is_a k, sym (is_y ∙ next_is same low is) k)) in
      (λ k. slice_set (parted low is k) i (is_new k))
      ∙ set_at leading (get_or xs i y) (drop (i + 1) xs) (f a y) i (leading_length same low)
      ∙ sym (append_assoc leading (f a y ∷ []) (drop (i + 1) xs))
      ∙ ap (λ zs. zs ++ drop (i + 1) xs) (sym (map_more (λ p. f p.0 p.1) (zip beside xs) i (a, y) there ∙ ap (λ p. leading ++ f p.0 p.1 ∷ []) pair))

-- after all elements
pub changed_all : {A X : Type 0} (f : A → X → X) (beside : List A) (xs ys : List X) (i : ℕ) → length beside ≡ length xs → length xs ≤ i
    → ys ≡ map (λ p. f p.0 p.1) (take i (zip beside xs)) ++ drop i xs → ys ≡ map (λ p. f p.0 p.1) (zip beside xs)
changed_all f beside xs ys i same past is =
    let past_pairs : length (zip beside xs) ≤ i = omega (arith, length-zip beside xs, same) in
    is
    ∙ (λ k. map (λ p. f p.0 p.1) (take_all i (zip beside xs) past_pairs k) ++ drop_all i xs past k)
    ∙ append-nil (map (λ p. f p.0 p.1) (zip beside xs))

-- a cite is changed by what stands beside it
pub changed_member : {A : Type 0} (f : A → names.Member → names.Member) (beside : List A) (start ms : List Member) (i : ℕ) (a : A) (d new : Member) → length beside ≡ length start → i < length start
    → length ms ≡ length start → members_view ms ≡ map (λ p. f p.0 p.1) (take i (zip beside (members_view start))) ++ drop i (members_view start)
    → member_view new ≡ f (get_or beside i a) (member_view (get_or ms i d))
    → members_view (slice_set ms i new) ≡ map (λ p. f p.0 p.1) (take (i + 1) (zip beside (members_view start))) ++ drop (i + 1) (members_view start)
changed_member f beside start ms i a d new same low long is is_new =
    let many : length (members_view start) ≡ length start = length-map start member_view in
    let same_view : length beside ≡ length (members_view start) = same ∙ sym many in
    let low_view : i < length (members_view start) = omega (arith, many) in
    let low_now : i < length ms = omega (arith, long) in
    let low_beside : i < length beside = omega (arith, same) in
    map-set member_view ms i new
    ∙ changed_beside f beside (members_view start) (members_view ms) i (get_or beside i a) (member_view (get_or ms i d)) (member_view new) same_view low_view
    (get_or_default beside i a (get_or beside i a) low_beside) (sym (get_or-map member_view ms i d (member_view (get_or ms i d)) low_now)) is is_new
