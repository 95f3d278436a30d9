-- Keys that are looked up by their order.
use Rattle.std.proofs.Common.{◌≡◌, ℕ, ◌+◌, Bool, true, false, cond, List, [], ◌∷◌, ◌++◌, length, Option, Ordering, Some, refl, sym, ap, ◌∙◌, arith}
use Rattle.std.proofs.Math.Path.{fun_ext}
use Rattle.std.specs.Borrow.{Bor}
use Rattle.std.specs.BTreeMap.{BTreeMap, UpdatesBy, get, get_by}
use Rattle.std.specs.Cmp.{IsEquivalence}
use Rattle.std.specs.List.{list_any}
use Rattle.std.specs.Map.{lookup}
use Rattle.std.specs.Option.{unwrap_or}
use Rattle.std.specs.Ordering.{is_eq}
use Rattle.driver_requests.proofs.IndicesFound.{found_step}
use Rattle.driver_names.specs.Keys.{IsIndex, counted}

-- one more at a key, where it had so many
put_by : (b : Bool) (count : ℕ) (found : Option ℕ) → (b ≡ true → unwrap_or found 0 ≡ count) → unwrap_or (cond b (Some (count + 1)) found) 0 ≡ unwrap_or found 0 + cond b 1 0
put_by true count found is = ap (λ n. n + 1) (sym (is refl))
put_by false count found is = let same : unwrap_or found 0 ≡ unwrap_or found 0 + 0 = omega arith in same

module _ {K : Type 0} {eq : K → K → Bool} (laws : IsEquivalence eq) (cmp : K → K → Ordering) (agrees : (x y : K) → eq x y ≡ is_eq (cmp x y)) where
  -- a look-up by a test is one by the order that agrees with it
  pub looked_up : {X : Type 0} (m : BTreeMap K X) (k : K) → lookup (eq k) m.entries ≡ get cmp m k
  looked_up m k = ap (λ test. lookup test m.entries) (fun_ext (λ x. agrees k x))

  same_found : {X : Type 0} (m : BTreeMap K X) (k q : K) → eq k q ≡ true → lookup (eq q) m.entries ≡ lookup (eq k) m.entries
  same_found m k q h = ap (λ test. lookup test m.entries) (fun_ext (λ x. sym (laws.congr k q x h)))

  -- a count after one more key
  pub count_put : (old new : BTreeMap K ℕ) (key : K) (count : ℕ) → count ≡ counted eq old key → UpdatesBy cmp (cmp key) old new (Some (count + 1)) → (q : K)
      → counted eq new q ≡ counted eq old q + cond (eq key q) 1 0
  count_put old new key count is updates q =
      ap (λ found. unwrap_or found 0) (looked_up new q ∙ updates.0 q ∙ (λ j. cond (sym (agrees key q) j) (Some (count + 1)) (sym (looked_up old q) j)))
      ∙ put_by (eq key q) count (lookup (eq q) old.entries) (λ h. ap (λ found. unwrap_or found 0) (same_found old key q h) ∙ sym is)

  -- the same of keys that are borrowed
  pub looked_up_lent : {X : Type 0} (m : BTreeMap (Bor K) X) (k : Bor K) → lookup (λ (o : Bor K). eq k.now o.now) m.entries ≡ get_by (λ (o : Bor K). cmp k.now o.now) m
  looked_up_lent m k = ap (λ test. lookup test m.entries) (fun_ext (λ (o : Bor K). agrees k.now o.now))

  -- an index after one more key
  pub index_more : (old new : BTreeMap (Bor K) ℕ) (earlier : List K) (e : Bor K) (n : ℕ) → list_any (eq e.now) earlier ≡ false → length earlier ≡ n
      → UpdatesBy (λ (x y : Bor K). cmp x.now y.now) (λ (o : Bor K). cmp e.now o.now) old new (Some n) → IsIndex eq old earlier → IsIndex eq new (earlier ++ e.now ∷ [])
  index_more old new earlier e n apart many updates before = λ q.
      looked_up_lent new q
      ∙ updates.0 q
      ∙ (λ j. cond (sym (agrees e.now q.now) j) (Some (sym many j)) (sym (looked_up_lent old q) j))
      ∙ ap (λ o. cond (eq e.now q.now) (Some (length earlier)) o) (before q)
      ∙ found_step laws earlier e.now q.now (eq e.now q.now) apart refl
