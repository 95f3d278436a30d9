-- The number of each text after one was put in or taken out.
use Rattle.std.specs.Global.{Global}
use Rattle.std.proofs.Common.{◌≡◌, ℕ, List, Bool, true, false, true≢false, subst, not, cond, Option, Some, None, Result, Ok, Err, OnErr, [], String, string_bytes, bytes_eq, nat_cmp, is_eq, refl, sym, ap, ◌∙◌, arith}
use Rattle.std.specs.BTreeMap.{BTreeMap, get, get_by_text, is_at, Updates, UpdatesBy}
use Rattle.std.specs.Cmp.Lexicographic.{bytes_decides, nat_list_eq_equiv, slice_cmp}
use Rattle.std.specs.Map.{lookup}
use Rattle.std.specs.Option.{option_or}
use Rattle.std.specs.String.{string_cmp}
use Rattle.std.proofs.lemmas.Bool.Decides.{nat_tests}
use Rattle.std.proofs.lemmas.Map.Text.{btree_map_updates_text}
use Rattle.hashes.specs.Hashes.{text_hash}
use Rattle.hashes.specs.TextIndices.{if_text, is_another, number_of}
use Rattle.hashes.specs.declared.text_index.TextIndex.{TextIndex}

-- what holds in any case holds after an error
pub after_error : {A E : Type 0} (r : Result A E) {P : Type 0} → P → OnErr r P
after_error (Ok x) p = tt
after_error (Err e) p = p

-- where there are no texts none has a number
pub nothing : (index : TextIndex) → index.firsts.entries ≡ [] → index.others.entries ≡ [] → (q : List ℕ) → number_of index q ≡ None
unfolding number_of
nothing index a b q = λ i. option_or (if_text q (lookup (is_at (nat_cmp (text_hash q))) (a i))) (lookup (is_at (λ k. slice_cmp nat_cmp q (string_bytes k))) (b i))

-- of equal trees the numbers are equal
pub still : (old new : TextIndex) → new.firsts.entries ≡ old.firsts.entries → new.others.entries ≡ old.others.entries → (q : List ℕ) → number_of new q ≡ number_of old q
unfolding number_of
still old new a b q = λ i. option_or (if_text q (lookup (is_at (nat_cmp (text_hash q))) (a i))) (lookup (is_at (λ k. slice_cmp nat_cmp q (string_bytes k))) (b i))

abbrev First : Type 0
First = Option (String Global × ℕ)

not_false : (b : Bool) → not b ≡ false → b ≡ true
not_false true h = refl
not_false false h = absurd (true≢false h)

not_true : (b : Bool) → not b ≡ true → b ≡ false
not_true false h = refl
not_true true h = absurd (true≢false (sym h))

turned : (xs ys : List ℕ) → bytes_eq xs ys ≡ bytes_eq ys xs
turned xs ys = nat_list_eq_equiv.symm xs ys

-- of the first text of a hash nothing is found for any other text
elsewhere : (text other : List ℕ) (first : First) → is_another text first ≡ false → bytes_eq text other ≡ false → if_text other first ≡ None
elsewhere text other None here apart = refl
elsewhere text other (Some p) here apart =
    let same : text ≡ string_bytes p.0 = (bytes_decides text (string_bytes p.0)).0 (not_false (bytes_eq text (string_bytes p.0)) here) in
    ap (λ b. cond b (Some p.1) None) (ap (bytes_eq other) (sym same) ∙ turned other text ∙ apart)

-- of another first text nothing is found for a text
not_first : (text : List ℕ) (first : First) → is_another text first ≡ true → if_text text first ≡ None
not_first text None another = refl
not_first text (Some p) another = ap (λ b. cond b (Some p.1) None) (not_true (bytes_eq text (string_bytes p.0)) another)

put_first_by : (t : String Global) (n : ℕ) (q : List ℕ) (o : Option ℕ) (old new : First) (b c : Bool) → bytes_eq (string_bytes t) q ≡ b → (b ≡ true → c ≡ true)
    → (c ≡ true → is_another (string_bytes t) old ≡ false) → new ≡ cond c (Some (t, n)) old → option_or (if_text q new) o ≡ cond b (Some n) (option_or (if_text q old) o)
put_first_by t n q o old new true true is both free made =
    ap (λ x. option_or (if_text q x) o) made ∙ ap (λ b. option_or (cond b (Some n) None) o) (turned q (string_bytes t) ∙ is)
put_first_by t n q o old new true false is both free made = absurd (true≢false (sym (both refl)))
put_first_by t n q o old new false true is both free made =
    ap (λ x. option_or (if_text q x) o) made ∙ ap (λ b. option_or (cond b (Some n) None) o) (turned q (string_bytes t) ∙ is)
    ∙ sym (ap (λ x. option_or x o) (elsewhere (string_bytes t) q old (free refl) is))
put_first_by t n q o old new false false is both free made = ap (λ x. option_or (if_text q x) o) made

put_other_by : (q : List ℕ) (first : First) (w old new : Option ℕ) (b : Bool) → (b ≡ true → if_text q first ≡ None) → new ≡ cond b w old
    → option_or (if_text q first) new ≡ cond b w (option_or (if_text q first) old)
put_other_by q first w old new true gone made = ap (λ x. option_or x new) (gone refl) ∙ made
put_other_by q first w old new false gone made = ap (option_or (if_text q first)) made

taken_by : (q : List ℕ) (old new : First) (o p : Option ℕ) (b c : Bool) → (b ≡ true → c ≡ true) → (c ≡ true → b ≡ false → if_text q old ≡ None)
    → new ≡ cond c None old → p ≡ cond b None o → option_or (if_text q new) p ≡ cond b None (option_or (if_text q old) o)
taken_by q old new o p true true both gone made left = λ i. option_or (if_text q (made i)) (left i)
taken_by q old new o p true false both gone made left = absurd (true≢false (sym (both refl)))
taken_by q old new o p false true both gone made left = (λ i. option_or (if_text q (made i)) (left i)) ∙ sym (ap (λ x. option_or x o) (gone refl refl))
taken_by q old new o p false false both gone made left = λ i. option_or (if_text q (made i)) (left i)

-- equal texts have one hash
one_hash : (text q : List ℕ) → bytes_eq text q ≡ true → is_eq (nat_cmp (text_hash text) (text_hash q)) ≡ true
one_hash text q same =
    let e : text_hash text ≡ text_hash q = ap text_hash ((bytes_decides text q).0 same) in
    tied (text_hash text) (text_hash q) e
  where
    tied : (m n : ℕ) → m ≡ n → is_eq (nat_cmp m n) ≡ true
    tied m n e = grind (arith, nat_tests, e)

-- what is said of the first text of a hash is said of that of an equal hash
moved : (firsts : BTreeMap ℕ (String Global × ℕ)) (P : First → Type 0) (m n : ℕ) → is_eq (nat_cmp m n) ≡ true → P (get nat_cmp firsts m) → P (get nat_cmp firsts n)
moved firsts P m n same holds = subst (λ k. P (get nat_cmp firsts k)) (equal m n same) holds
  where
    equal : (m n : ℕ) → is_eq (nat_cmp m n) ≡ true → m ≡ n
    equal m n e = grind (arith, nat_tests, e)

module _ (old new : TextIndex) (text : List ℕ) where
  pub put_first : (t : String Global) (n : ℕ) → string_bytes t ≡ text → is_another text (get nat_cmp old.firsts (text_hash text)) ≡ false
      → Updates nat_cmp old.firsts new.firsts (text_hash text) (Some (t, n)) → new.others ≡ old.others → (q : List ℕ) → number_of new q ≡ cond (bytes_eq text q) (Some n) (number_of old q)
  unfolding number_of
  put_first t n own free made same q =
      ap (λ others. option_or (if_text q (get nat_cmp new.firsts (text_hash q))) (get_by_text others q)) same
      ∙ put_first_by t n q (get_by_text old.others q) (get nat_cmp old.firsts (text_hash q)) (get nat_cmp new.firsts (text_hash q)) (bytes_eq text q) (is_eq (nat_cmp (text_hash text) (text_hash q)))
      (ap (λ xs. bytes_eq xs q) own) (one_hash text q)
      (λ e. subst (λ xs. is_another xs (get nat_cmp old.firsts (text_hash q)) ≡ false) (sym own) (moved old.firsts (λ first. is_another text first ≡ false) (text_hash text) (text_hash q) e free)) (made.0 (text_hash q))

  pub put_other : (w : Option ℕ) → is_another text (get nat_cmp old.firsts (text_hash text)) ≡ true → new.firsts ≡ old.firsts
      → UpdatesBy string_cmp (λ k. slice_cmp nat_cmp text (string_bytes k)) old.others new.others w → (q : List ℕ) → number_of new q ≡ cond (bytes_eq text q) w (number_of old q)
  unfolding number_of
  put_other w another same made q =
      ap (λ firsts. option_or (if_text q (get nat_cmp firsts (text_hash q))) (get_by_text new.others q)) same
      ∙ put_other_by q (get nat_cmp old.firsts (text_hash q)) w (get_by_text old.others q) (get_by_text new.others q) (bytes_eq text q)
      (λ e. subst (λ xs. if_text xs (get nat_cmp old.firsts (text_hash xs)) ≡ None) ((bytes_decides text q).0 e) (not_first text (get nat_cmp old.firsts (text_hash text)) another))
      (btree_map_updates_text text old.others new.others w made q)

  pub taken : is_another text (get nat_cmp old.firsts (text_hash text)) ≡ false → UpdatesBy nat_cmp (nat_cmp (text_hash text)) old.firsts new.firsts None
      → UpdatesBy string_cmp (λ k. slice_cmp nat_cmp text (string_bytes k)) old.others new.others None → (q : List ℕ) → number_of new q ≡ cond (bytes_eq text q) None (number_of old q)
  unfolding number_of
  taken free made left q =
      taken_by q (get nat_cmp old.firsts (text_hash q)) (get nat_cmp new.firsts (text_hash q)) (get_by_text old.others q) (get_by_text new.others q) (bytes_eq text q) (is_eq (nat_cmp (text_hash text) (text_hash q)))
      (one_hash text q) (λ e apart. elsewhere text q (get nat_cmp old.firsts (text_hash q)) (moved old.firsts (λ first. is_another text first ≡ false) (text_hash text) (text_hash q) e free) apart)
      (made.0 (text_hash q)) (btree_map_updates_text text old.others new.others None left q)
