-- What stands under a written name, where no two fields are written under one name, is what is written under it.
use Rattle.std.proofs.Common.{◌≡◌, ℕ, Bool, true, false, true≢false, cond, ◌⊎◌, inl, inr, List, [], ◌∷◌, map, Option, Some, None, refl, sym, ap, subst, ◌∙◌}
use Rattle.std.specs.Prelude.{option_and_then, if◌then◌else◌}
use Rattle.std.specs.List.{AllByRecursion, IsDistinct}
use Rattle.std.specs.Map.{lookup}
use Rattle.std.specs.Option.{option_map, option_or}
use Rattle.std.specs.Str.{bytes_eq}
use Rattle.std.proofs.lemmas.Map.{NonePasses, lookup-none}
use Rattle.std.proofs.lemmas.Option.{none-some, same_Some}
use Rattle.std.proofs.lemmas.Slice.Eq.{bytes_eq-Decides}
use Rattle.biblatex_content.specs.Styled.{Member}
use Rattle.biblatex_fields.specs.Fields.{Named, text_named, value_named}
use Rattle.biblatex_fields.specs.Value.{Value}
use Rattle.biblatex_writing.specs.FieldNames.{HaveDistinctWrittenNames, is_never_written, other_names, written_name}
use Rattle.biblatex_writing.specs.Written.{in_written_order, is_less, placed}
use Rattle.biblatex_writing.proofs.NamesWritten.{own_name}
use Rattle.biblatex_writing.proofs.OrderNames.{less_itself}
use Rattle.biblatex_reading_back.specs.ReadingBack.{named_texts, written_texts}
use Rattle.interop_values.specs.Values.{filled, values}
use Rattle.interop_roads.proofs.NamesKnown.{IsWrittenAs, other_never, other_written, same_itself, written_as}

-- a field as it is written
abbrev line : Named → List ℕ × List Member
line f = (written_name f.0, f.1.text)

-- what is written under a name
abbrev under : List ℕ → List Named → Option (List Member)
under n fs = lookup (bytes_eq n) (map line fs)

-- a text by its name is that of the value
text_looked : (n : List ℕ) (fs : List Named) → text_named n fs ≡ lookup (bytes_eq n) (named_texts fs)
text_looked n [] = refl
text_looked n (f ∷ fs) = by (text_looked n fs) (bytes_eq n f.0)
  where
    by : text_named n fs ≡ lookup (bytes_eq n) (named_texts fs) → (b : Bool) → option_map (λ (v : Value). v.text) (cond b (Some f.1) (value_named n fs)) ≡ cond b (Some f.1.text) (lookup (bytes_eq n) (named_texts fs))
    by more true = refl
    by more false = more

-- two tests for names that differ may be made in either order
turned : {X : Type 0} (n a b : List ℕ) (x y : X) (o : Option X) → (a ≡ b → ⊥) → cond (bytes_eq n a) (Some x) (cond (bytes_eq n b) (Some y) o) ≡ cond (bytes_eq n b) (Some y) (cond (bytes_eq n a) (Some x) o)
turned n a b x y o differ = by (bytes_eq n a) refl (bytes_eq n b) refl
  where
    by : (p : Bool) → bytes_eq n a ≡ p → (q : Bool) → bytes_eq n b ≡ q → cond p (Some x) (cond q (Some y) o) ≡ cond q (Some y) (cond p (Some x) o)
    by true e true d = absurd (differ (sym ((bytes_eq-Decides n a).0 e) ∙ (bytes_eq-Decides n b).0 d))
    by true e false d = refl
    by false e true d = refl
    by false e false d = refl

-- a field that is placed among others is looked up before them all the same
placed_under : (n : List ℕ) (f : Named) (gs : List Named) → under n (placed f gs) ≡ under n (f ∷ gs)
placed_under n f [] = refl
placed_under n f (g ∷ gs) = by (is_less (written_name g.0) (written_name f.0)) refl (placed_under n f gs)
  where
    by : (b : Bool) → is_less (written_name g.0) (written_name f.0) ≡ b → under n (placed f gs) ≡ under n (f ∷ gs) → under n (if b then g ∷ placed f gs else f ∷ g ∷ gs) ≡ under n (f ∷ g ∷ gs)
    by true less more =
        ap (λ (o : Option (List Member)). cond (bytes_eq n (written_name g.0)) (Some g.1.text) o) more
        ∙ turned n (written_name g.0) (written_name f.0) g.1.text f.1.text (under n gs)
        (λ same. true≢false (sym less ∙ (ap (λ (k : List ℕ). is_less k (written_name f.0)) same ∙ less_itself (written_name f.0))))
    by false less more = refl

ordered_under : (n : List ℕ) (fs : List Named) → under n (in_written_order fs) ≡ under n fs
ordered_under n [] = refl
ordered_under n (f ∷ fs) = placed_under n f (in_written_order fs) ∙ ap (λ (o : Option (List Member)). cond (bytes_eq n (written_name f.0)) (Some f.1.text) o) (ordered_under n fs)

-- a field that was read under a name, and what is written under the name that it is written under
abbrev IsRead : List Named → List ℕ → List Member → Type 0
IsRead fs n ms = (q : List ℕ) × (written_name q ≡ n) × (text_named q fs ≡ Some ms)

-- what is written under a name was read under a name that is written so
under_read : (n : List ℕ) (fs : List Named) (ms : List Member) → under n fs ≡ Some ms → IsRead fs n ms
under_read n [] ms h = absurd (none-some ms h)
under_read n (f ∷ fs) ms h = by (bytes_eq n (written_name f.0)) refl h (under_read n fs ms)
  where
    later : (q : List ℕ) → written_name q ≡ n → text_named q fs ≡ Some ms → bytes_eq n (written_name f.0) ≡ false → (b : Bool) → bytes_eq q f.0 ≡ b
        → option_map (λ (v : Value). v.text) (cond b (Some f.1) (value_named q fs)) ≡ Some ms
    later q written is other true same =
        absurd (true≢false (sym ((bytes_eq-Decides n (written_name f.0)).1 (sym written ∙ ap written_name ((bytes_eq-Decides q f.0).0 same))) ∙ other))
    later q written is other false same = is

    by : (b : Bool) → bytes_eq n (written_name f.0) ≡ b → cond b (Some f.1.text) (under n fs) ≡ Some ms → (under n fs ≡ Some ms → IsRead fs n ms) → IsRead (f ∷ fs) n ms
    by true e is more = (
      f.0,
      sym ((bytes_eq-Decides n (written_name f.0)).0 e),
      ap (λ (b : Bool). option_map (λ (v : Value). v.text) (cond b (Some f.1) (value_named f.0 fs))) (same_itself f.0) ∙ is,
    )
    by false e is more = let r = more is in (r.0, r.1, later r.0 r.1 r.2 e (bytes_eq r.0 f.0) refl)

-- where nothing is written under a name, nothing was read under a name that is written so
none_under : (q : List ℕ) (fs : List Named) → under (written_name q) fs ≡ None → text_named q fs ≡ None
none_under q [] h = refl
none_under q (f ∷ fs) h = by (bytes_eq (written_name q) (written_name f.0)) refl h (none_under q fs)
  where
    at : bytes_eq (written_name q) (written_name f.0) ≡ false → text_named q fs ≡ None → (b : Bool) → bytes_eq q f.0 ≡ b → option_map (λ (v : Value). v.text) (cond b (Some f.1) (value_named q fs)) ≡ None
    at other none true same = absurd (true≢false (sym ((bytes_eq-Decides (written_name q) (written_name f.0)).1 (ap written_name ((bytes_eq-Decides q f.0).0 same))) ∙ other))
    at other none false same = none

    by : (b : Bool) → bytes_eq (written_name q) (written_name f.0) ≡ b → cond b (Some f.1.text) (under (written_name q) fs) ≡ None → (under (written_name q) fs ≡ None → text_named q fs ≡ None)
        → text_named q (f ∷ fs) ≡ None
    by true e is more = absurd (none-some f.1.text (sym is))
    by false e is more = at e (more is) (bytes_eq q f.0) refl

none_passes : (name : List ℕ) (fs : List Named) → AllByRecursion (λ k. bytes_eq name k ≡ false) (map (λ (g : Named). written_name g.0) fs) → NonePasses (bytes_eq name) (map line fs)
none_passes name [] all = tt
none_passes name (f ∷ fs) all = (all.0, none_passes name fs all.1)

-- where no two fields are written under one name, what was read under a name is written under the one that it is written under
read_under : (q : List ℕ) (fs : List Named) (ms : List Member) → HaveDistinctWrittenNames fs → text_named q fs ≡ Some ms → under (written_name q) fs ≡ Some ms
unfolding IsDistinct
read_under q [] ms distinct h = absurd (none-some ms h)
read_under q (f ∷ fs) ms distinct h = by (bytes_eq q f.0) refl h (read_under q fs ms distinct.1)
  where
    at : under (written_name q) fs ≡ Some ms → (b : Bool) → bytes_eq (written_name q) (written_name f.0) ≡ b → cond b (Some f.1.text) (under (written_name q) fs) ≡ Some ms
    at there true same =
        absurd (none-some ms (sym (lookup-none (bytes_eq (written_name f.0)) (map line fs) (none_passes (written_name f.0) fs distinct.0))
        ∙ (ap (λ (k : List ℕ). under k fs) (sym ((bytes_eq-Decides (written_name q) (written_name f.0)).0 same)) ∙ there)))
    at there false same = there

    by : (b : Bool) → bytes_eq q f.0 ≡ b → option_map (λ (v : Value). v.text) (cond b (Some f.1) (value_named q fs)) ≡ Some ms → (text_named q fs ≡ Some ms → under (written_name q) fs ≡ Some ms)
        → cond (bytes_eq (written_name q) (written_name f.0)) (Some f.1.text) (under (written_name q) fs) ≡ Some ms
    by true e is more =
        ap (λ (k : List ℕ). cond (bytes_eq k (written_name f.0)) (Some f.1.text) (under k fs)) (ap written_name ((bytes_eq-Decides q f.0).0 e))
        ∙ (ap (λ (b : Bool). cond b (Some f.1.text) (under (written_name f.0) fs)) (same_itself (written_name f.0)) ∙ is)
    by false e is more = at (more is) (bytes_eq (written_name q) (written_name f.0)) refl

-- under a name that no field is written under nothing is written
never_under : (n : List ℕ) (fs : List Named) → is_never_written n ≡ true → under n fs ≡ None
never_under n fs never = by (under n fs) refl
  where
    by : (o : Option (List Member)) → under n fs ≡ o → o ≡ None
    by None is = refl
    by (Some ms) is =
        let r = under_read n fs ms is in
        absurd (true≢false (sym never ∙ (ap is_never_written (sym r.1) ∙ (written_as r.0).may)))

-- under a name of its own nothing is written where nothing was read
alone_under : (n : List ℕ) (fs : List Named) → lookup (bytes_eq n) other_names ≡ None → text_named n fs ≡ None → under n fs ≡ None
alone_under n fs alone none = by (under n fs) refl
  where
    at : (q : List ℕ) (ms : List Member) → text_named q fs ≡ Some ms → ((q ≡ n) ⊎ (lookup (bytes_eq n) other_names ≡ Some q)) → ⊥
    at q ms is (inl same) = none-some ms (sym none ∙ (ap (λ (k : List ℕ). text_named k fs) (sym same) ∙ is))
    at q ms is (inr other) = none-some q (sym alone ∙ other)

    by : (o : Option (List Member)) → under n fs ≡ o → o ≡ None
    by None is = refl
    by (Some ms) is =
        let r = under_read n fs ms is in
        absurd (at r.0 ms r.2 (subst (λ (k : List ℕ). (r.0 ≡ k) ⊎ (lookup (bytes_eq k) other_names ≡ Some r.0)) r.1 (written_as r.0).either))

-- what was read under a name: nothing, or what is written under the name that it is written under
abbrev IsNoneOr : Option (List Member) → Option (List Member) → Type 0
IsNoneOr o p = (o ≡ None) ⊎ (o ≡ p)

read_or_none : (q n : List ℕ) (fs : List Named) → HaveDistinctWrittenNames fs → written_name q ≡ n → IsNoneOr (text_named q fs) (under n fs)
read_or_none q n fs distinct written = by (text_named q fs) refl
  where
    by : (o : Option (List Member)) → text_named q fs ≡ o → IsNoneOr o (under n fs)
    by None is = inl refl
    by (Some ms) is = inr (sym (read_under q fs ms distinct is) ∙ ap (λ (k : List ℕ). under k fs) written)

-- the first of two contents, of which each is none or this one
first_filled : (a b p : Option (List Member)) → IsNoneOr a p → IsNoneOr b p → ((a ≡ p) ⊎ (b ≡ p)) → option_or (filled a) (filled b) ≡ filled p
first_filled a b p (inr same) (inr too) one = (λ i. option_or (filled (same i)) (filled (too i))) ∙ by (filled p)
  where
    by : (o : Option (List Member)) → option_or o o ≡ o
    by None = refl
    by (Some ms) = refl
first_filled a b p (inr same) (inl none) one = (λ i. option_or (filled (same i)) (filled (none i))) ∙ by (filled p)
  where
    by : (o : Option (List Member)) → option_or o None ≡ o
    by None = refl
    by (Some ms) = refl
first_filled a b p (inl none) too (inr same) = λ i. option_or (filled (none i)) (filled (same i))
first_filled a b p (inl none) (inr same) one = λ i. option_or (filled (none i)) (filled (same i))
first_filled a b p (inl none) (inl nothing) (inl same) = (λ i. option_or (filled (none i)) (filled (nothing i))) ∙ ap filled (sym none ∙ same)

-- the text under the other name of a name, where it has one
abbrev other_text : List ℕ → List Named → Option (List Member)
other_text n fs = option_and_then (λ o. text_named o fs) (lookup (bytes_eq n) other_names)

filled_other : (n : List ℕ) (fs : List Named) → option_and_then (λ o. filled (text_named o fs)) (lookup (bytes_eq n) other_names) ≡ filled (other_text n fs)
filled_other n fs = by (lookup (bytes_eq n) other_names)
  where
    by : (o : Option (List ℕ)) → option_and_then (λ k. filled (text_named k fs)) o ≡ filled (option_and_then (λ k. text_named k fs) o)
    by None = refl
    by (Some k) = refl

other_or_none : (n : List ℕ) (fs : List Named) → HaveDistinctWrittenNames fs → IsNoneOr (other_text n fs) (under n fs)
other_or_none n fs distinct = by (lookup (bytes_eq n) other_names) refl
  where
    by : (o : Option (List ℕ)) → lookup (bytes_eq n) other_names ≡ o → IsNoneOr (option_and_then (λ k. text_named k fs) o) (under n fs)
    by None is = inl refl
    by (Some k) is = read_or_none k n fs distinct (other_written n k is)

one_of : (n : List ℕ) (fs : List Named) → is_never_written n ≡ false → (text_named n fs ≡ under n fs) ⊎ (other_text n fs ≡ under n fs)
one_of n fs may = by (under n fs) refl
  where
    read_as : (q : List ℕ) (ms : List Member) → text_named q fs ≡ Some ms → ((q ≡ n) ⊎ (lookup (bytes_eq n) other_names ≡ Some q)) → (text_named n fs ≡ Some ms) ⊎ (other_text n fs ≡ Some ms)
    read_as q ms is (inl same) = inl (ap (λ (k : List ℕ). text_named k fs) (sym same) ∙ is)
    read_as q ms is (inr other) = inr (ap (option_and_then (λ k. text_named k fs)) other ∙ is)

    by : (o : Option (List Member)) → under n fs ≡ o → (text_named n fs ≡ o) ⊎ (other_text n fs ≡ o)
    by None is = inl (none_under n fs (ap (λ (k : List ℕ). under k fs) (own_name n may) ∙ is))
    by (Some ms) is =
        let r = under_read n fs ms is in
        read_as r.0 ms r.2 (subst (λ (k : List ℕ). (r.0 ≡ k) ⊎ (lookup (bytes_eq k) other_names ≡ Some r.0)) r.1 (written_as r.0).either)

-- what stands under a written name is what is written under it
values_under : (n : List ℕ) (fs : List Named) → HaveDistinctWrittenNames fs → is_never_written n ≡ false → values fs n ≡ filled (under n fs)
values_under n fs distinct may =
    ap (λ (b : Bool). if b then None else option_or (filled (text_named n fs)) (option_and_then (λ o. filled (text_named o fs)) (lookup (bytes_eq n) other_names))) may
    ∙ (ap (option_or (filled (text_named n fs))) (filled_other n fs)
    ∙ first_filled (text_named n fs) (other_text n fs) (under n fs) (read_or_none n n fs distinct (own_name n may)) (other_or_none n fs distinct) (one_of n fs may))

-- fields that have these texts under written names
module _ (fs gs : List Named) (back : named_texts gs ≡ written_texts fs) where
  text_back : (n : List ℕ) → text_named n gs ≡ under n fs
  text_back n = text_looked n gs ∙ (ap (lookup (bytes_eq n)) back ∙ ordered_under n fs)

  other_back : (n : List ℕ) → option_and_then (λ o. filled (text_named o gs)) (lookup (bytes_eq n) other_names) ≡ None
  other_back n = by (lookup (bytes_eq n) other_names) refl
    where
      by : (o : Option (List ℕ)) → lookup (bytes_eq n) other_names ≡ o → option_and_then (λ k. filled (text_named k gs)) o ≡ None
      by None is = refl
      by (Some k) is = ap filled (text_back k ∙ never_under k fs (other_never n k is))

  or_none : (o : Option (List Member)) → option_or o None ≡ o
  or_none None = refl
  or_none (Some ms) = refl

  pub values_back : HaveDistinctWrittenNames fs → (n : List ℕ) → values gs n ≡ values fs n
  values_back distinct n = by (is_never_written n) refl
    where
      by : (b : Bool) → is_never_written n ≡ b → values gs n ≡ values fs n
      by true never =
          ap (λ (b : Bool). if b then None else option_or (filled (text_named n gs)) (option_and_then (λ o. filled (text_named o gs)) (lookup (bytes_eq n) other_names))) never
          ∙ sym (ap (λ (b : Bool). if b then None else option_or (filled (text_named n fs)) (option_and_then (λ o. filled (text_named o fs)) (lookup (bytes_eq n) other_names))) never)
      by false may =
          ap (λ (b : Bool). if b then None else option_or (filled (text_named n gs)) (option_and_then (λ o. filled (text_named o gs)) (lookup (bytes_eq n) other_names))) may
          ∙ ((λ i. option_or (filled (text_back n i)) (other_back n i))
          ∙ (or_none (filled (under n fs)) ∙ sym (values_under n fs distinct may)))

value_none : (n : List ℕ) (fs : List Named) → text_named n fs ≡ None → value_named n fs ≡ None
value_none n fs = by (value_named n fs)
  where
    by : (o : Option Value) → option_map (λ (v : Value). v.text) o ≡ None → o ≡ None
    by None is = refl
    by (Some v) is = absurd (none-some v.text (sym is))

-- under a name of its own nothing is read back where nothing was written
pub nothing_back : (n : List ℕ) (fs gs : List Named) → named_texts gs ≡ written_texts fs → lookup (bytes_eq n) other_names ≡ None → value_named n fs ≡ None → value_named n gs ≡ None
nothing_back n fs gs back alone none = value_none n gs (text_back fs gs back n ∙ alone_under n fs alone (ap (option_map (λ (v : Value). v.text)) none))
