-- Keys and values of the relation are those that are read.
use Rattle.std.proofs.Common.{◌≡◌, ℕ, Bool, true, false, true≢false, cond, List, [], ◌∷◌, ◌++◌, Option, Some, None, codes, bytes_eq, refl, sym, ap, ◌∙◌, inl, inr}
use Rattle.std.specs.Prelude.{◌⊎◌, if◌then◌else◌}
use Rattle.std.specs.Cmp.Lexicographic.{bytes_decides}
use Rattle.std.specs.List.{AllZip, list_all}
use Rattle.std.proofs.lemmas.Bool.{and_from, and_left, and_right}
use Rattle.std.proofs.lemmas.Str.{encodes_same}
use Rattle.laws.specs.Characters.{equals_sign}
use Rattle.laws.specs.Text.{text, is_filled}
use Rattle.biblatex_lists.specs.declared.styled_char.StyledChar.{StyledChar}
use Rattle.biblatex_lists.specs.StyledChars.{plain}
use Rattle.biblatex_lists.specs.Parts.{trimmed}
use Rattle.biblatex_lists.specs.Words.{prepended, words, joined_words}
use Rattle.biblatex_lists.specs.Reading.{Named, nobody, is_some, pair_of, pair, with_value, with_pair, with_pairs}
use Rattle.biblatex_readings_grammar.specs.Words.{Text, is_the, AllAnswer, IsFilled, IsTrimmed}
use Rattle.biblatex_readings_grammar.specs.Names.{IsPair, NoneHas, IsLastOf, SayPairs}
use Rattle.biblatex_readings_grammar.proofs.Words.{words_are, said_are, are_said, words_in}
use Rattle.biblatex_readings_grammar.proofs.Trimmed.{trimmed_is, trimmed_of}
use Rattle.biblatex_readings_grammar.proofs.Unparted.{same_named}

-- a key and a value
abbrev pub Pair : Type 0
Pair = List ℕ × List ℕ

-- what the reader does at an equals sign, by a test of it
abbrev split_by : (StyledChar → Bool) → Text → Option (Text × Text)
split_by test [] = None
split_by test (s ∷ ss) = if test s then Some ([], ss) else prepended s (split_by test ss)

pair_split : (ss : Text) → pair ss ≡ pair_of (split_by (is_the equals_sign) ss)
pair_split ss = refl

other_first : (test : StyledChar → Bool) (s : StyledChar) (ss : Text) → test s ≡ false → split_by test (s ∷ ss) ≡ prepended s (split_by test ss)
other_first test s ss e = rw e refl

split_here : (test : StyledChar → Bool) (k : Text) (s : StyledChar) (v : Text) → AllAnswer test false k → test s ≡ true → split_by test (k ++ s ∷ v) ≡ Some (k, v)
split_here test [] s v all is = rw is refl
split_here test (t ∷ k) s v all is = other_first test t (k ++ s ∷ v) all.0 ∙ ap (prepended t) (split_here test k s v all.1 is)

split_nowhere : (test : StyledChar → Bool) (ss : Text) → AllAnswer test false ss → split_by test ss ≡ None
split_nowhere test [] all = refl
split_nowhere test (s ∷ ss) all = other_first test s ss all.0 ∙ ap (prepended s) (split_nowhere test ss all.1)

-- what is made of a key and a value
abbrev made : Text → List ℕ → Option Pair
made key value = if is_filled key then Some (text (plain key), value) else None

abbrev spelled : Pair → Option Pair
spelled p = Some (text p.0, p.1)

filled_made : (key : Text) (p : Pair) → IsFilled key → p.0 ≡ plain key → made key p.1 ≡ spelled p
filled_made [] p some e = absurd some
filled_made (s ∷ key) p some e = ap (λ (x : List ℕ). spelled (x, p.1)) (sym e)

-- a pair of the relation is read
pub pair_is : (ss : Text) (p : Pair) → IsPair ss p → pair ss ≡ spelled p
pair_is ss p (k, s, v, key, ws, e, none, is, trim, some, name, are, say) =
    let split : split_by (is_the equals_sign) ss ≡ Some (k, v) = ap (split_by (is_the equals_sign)) e ∙ split_here (is_the equals_sign) k s v none is in
    let first : trimmed k ≡ key = trimmed_is k key trim in
    let value : joined_words (words v) ≡ p.1 = ap joined_words (words_are ws v are) ∙ said_are ws p.1 say in
    pair_split ss ∙ (ap pair_of split ∙ ((λ i. made (first i) (value i)) ∙ filled_made key p some name))

-- An equals sign, and what stands before and after it.
record Split (ss : Text) : Type 0 where
  pub key : Text
  pub sign : StyledChar
  pub value : Text
  pub is : ss ≡ key ++ sign ∷ value
  pub before : AllAnswer (is_the equals_sign) false key
  pub equals : is_the equals_sign sign ≡ true

-- a text is split, or has no equals sign
split_of : (ss : Text) → Split ss ⊎ AllAnswer (is_the equals_sign) false ss
split_of [] = inr tt
split_of (s ∷ ss) = by_test (split_of ss) (is_the equals_sign s) refl
  where
    by_test : Split ss ⊎ AllAnswer (is_the equals_sign) false ss → (b : Bool) → is_the equals_sign s ≡ b → Split (s ∷ ss) ⊎ AllAnswer (is_the equals_sign) false (s ∷ ss)
    by_test more true e = inl (record { key = []; sign = s; value = ss; is = refl; before = tt; equals = e })
    by_test (inl more) false e =
        inl (record { key = s ∷ more.key; sign = more.sign; value = more.value; is = ap (λ (x : Text). s ∷ x) more.is; before = (e, more.before); equals = more.equals })
    by_test (inr none) false e = inr (e, none)

-- A key and its value.
record Paired (ss : Text) : Type 0 where
  pub found : Pair
  pub is : IsPair ss found

-- a text is a key and a value, or none is read
pair_or : (ss : Text) → Paired ss ⊎ (pair ss ≡ None)
pair_or ss = by_split (split_of ss)
  where
    by_key : (s : Split ss) → (key : Text) → IsTrimmed s.key key → Paired ss ⊎ (pair ss ≡ None)
    by_key s [] trim =
        let split : split_by (is_the equals_sign) ss ≡ Some (s.key, s.value) = ap (split_by (is_the equals_sign)) s.is ∙ split_here (is_the equals_sign) s.key s.sign s.value s.before s.equals in
        let first : trimmed s.key ≡ [] = trimmed_is s.key [] trim in
        inr (pair_split ss ∙ (ap pair_of split ∙ (λ i. made (first i) (joined_words (words s.value)))))
    by_key s (c ∷ key) trim =
        let value = words_in s.value in
        inl (record {
          found = (plain (c ∷ key), joined_words value.list);
          is = (s.key, s.sign, s.value, c ∷ key, value.list, s.is, s.before, s.equals, trim, tt, refl, value.are, are_said value.list);
        })

    by_split : Split ss ⊎ AllAnswer (is_the equals_sign) false ss → Paired ss ⊎ (pair ss ≡ None)
    by_split (inl s) = (let key = trimmed_of s.key in by_key s key.text key.is)
    by_split (inr none) = inr (pair_split ss ∙ ap pair_of (split_nowhere (is_the equals_sign) ss none))

-- whether each text is a key and a value
abbrev pub are_pairs : List Text → Bool
are_pairs ts = list_all (λ t. is_some (pair t)) ts

pub all_pairs : (ts : List Text) (ps : List Pair) → AllZip IsPair ts ps → are_pairs ts ≡ true
all_pairs [] [] all = refl
all_pairs [] (p ∷ ps) all = absurd all
all_pairs (t ∷ ts) [] all = absurd all
all_pairs (t ∷ ts) (p ∷ ps) all = and_from (is_some (pair t)) (are_pairs ts) (ap is_some (pair_is t p all.0)) (all_pairs ts ps all.1)

-- Keys and values of texts.
pub record AllPaired (ts : List Text) : Type 0 where
  pub pairs : List Pair
  pub are : AllZip IsPair ts pairs

pub pairs_or : (ts : List Text) → AllPaired ts ⊎ (are_pairs ts ≡ false)
pairs_or [] = inl (record { pairs = []; are = tt })
pairs_or (t ∷ ts) = by_both (pair_or t) (pairs_or ts)
  where
    by_both : Paired t ⊎ (pair t ≡ None) → AllPaired ts ⊎ (are_pairs ts ≡ false) → AllPaired (t ∷ ts) ⊎ (are_pairs (t ∷ ts) ≡ false)
    by_both (inl p) (inl more) = inl (record { pairs = p.found ∷ more.pairs; are = (p.is, more.are) })
    by_both (inl p) (inr none) = inr (and_right (is_some (pair t)) (are_pairs ts) none)
    by_both (inr none) more = inr (and_left (is_some (pair t)) (are_pairs ts) (ap is_some none))

-- what keys and values make of a name
abbrev valued : List Pair → Named → Named
valued [] n = n
valued (p ∷ ps) n = valued ps (with_value (text p.0) p.1 n)

pairs_valued : (ts : List Text) (ps : List Pair) (n : Named) → AllZip IsPair ts ps → with_pairs ts n ≡ valued ps n
pairs_valued [] [] n all = refl
pairs_valued [] (p ∷ ps) n all = absurd all
pairs_valued (t ∷ ts) [] n all = absurd all
pairs_valued (t ∷ ts) (p ∷ ps) n all =
    ap (λ (o : Option Pair). with_pairs ts (with_pair o n)) (pair_is t p all.0) ∙ pairs_valued ts ps (with_value (text p.0) p.1 n) all.1

-- a key is at most one of two that differ
apart : (key one other : List ℕ) → bytes_eq one other ≡ false → bytes_eq key one ≡ true → bytes_eq key other ≡ false
apart key one other differ is = ap (λ (x : List ℕ). bytes_eq x other) ((bytes_decides key one).0 is) ∙ differ

-- a value put by tests of its key
abbrev put : Bool → Bool → Bool → Bool → List ℕ → Named → Named
put a b c d value n = cond a (record n { name = value }) (cond b (record n { given_name = value }) (cond c (record n { prefix = value }) (cond d (record n { suffix = value }) n)))

name_put : (a b c d : Bool) (value : List ℕ) (n : Named) → (put a b c d value n).name ≡ cond a value n.name
name_put true b c d value n = refl
name_put false true c d value n = refl
name_put false false true d value n = refl
name_put false false false true value n = refl
name_put false false false false value n = refl

given_put : (a b c d : Bool) (value : List ℕ) (n : Named) → (a ≡ true → b ≡ false) → (put a b c d value n).given_name ≡ cond b value n.given_name
given_put true true c d value n first = absurd (true≢false (first refl))
given_put true false c d value n first = refl
given_put false true c d value n first = refl
given_put false false true d value n first = refl
given_put false false false true value n first = refl
given_put false false false false value n first = refl

prefix_put : (a b c d : Bool) (value : List ℕ) (n : Named) → (a ≡ true → c ≡ false) → (b ≡ true → c ≡ false) → (put a b c d value n).prefix ≡ cond c value n.prefix
prefix_put true b true d value n first second = absurd (true≢false (first refl))
prefix_put true b false d value n first second = refl
prefix_put false true true d value n first second = absurd (true≢false (second refl))
prefix_put false true false d value n first second = refl
prefix_put false false true d value n first second = refl
prefix_put false false false true value n first second = refl
prefix_put false false false false value n first second = refl

suffix_put : (a b c d : Bool) (value : List ℕ) (n : Named) → (a ≡ true → d ≡ false) → (b ≡ true → d ≡ false) → (c ≡ true → d ≡ false)
    → (put a b c d value n).suffix ≡ cond d value n.suffix
suffix_put true b c true value n first second third = absurd (true≢false (first refl))
suffix_put true b c false value n first second third = refl
suffix_put false true c true value n first second third = absurd (true≢false (second refl))
suffix_put false true c false value n first second third = refl
suffix_put false false true true value n first second third = absurd (true≢false (third refl))
suffix_put false false true false value n first second third = refl
suffix_put false false false true value n first second third = refl
suffix_put false false false false value n first second third = refl

-- the value of the last pair with a key, or another value
abbrev last_or : List ℕ → List Pair → List ℕ → List ℕ
last_or key [] value = value
last_or key (p ∷ ps) value = last_or key ps (cond (bytes_eq (text p.0) key) p.1 value)

abbrev is_key : List ℕ → List ℕ → Bool
is_key key name = bytes_eq (text key) name

valued_name : (ps : List Pair) (n : Named) → (valued ps n).name ≡ last_or (codes "family") ps n.name
valued_name [] n = refl
valued_name (p ∷ ps) n =
    valued_name ps (with_value (text p.0) p.1 n)
    ∙ ap (last_or (codes "family") ps) (name_put (is_key p.0 (codes "family")) (is_key p.0 (codes "given")) (is_key p.0 (codes "prefix")) (is_key p.0 (codes "suffix")) p.1 n)

valued_given : (ps : List Pair) (n : Named) → (valued ps n).given_name ≡ last_or (codes "given") ps n.given_name
valued_given [] n = refl
valued_given (p ∷ ps) n =
    valued_given ps (with_value (text p.0) p.1 n)
    ∙ ap (last_or (codes "given") ps)
    (given_put (is_key p.0 (codes "family")) (is_key p.0 (codes "given")) (is_key p.0 (codes "prefix")) (is_key p.0 (codes "suffix")) p.1 n (apart (text p.0) (codes "family") (codes "given") refl))

valued_prefix : (ps : List Pair) (n : Named) → (valued ps n).prefix ≡ last_or (codes "prefix") ps n.prefix
valued_prefix [] n = refl
valued_prefix (p ∷ ps) n =
    valued_prefix ps (with_value (text p.0) p.1 n)
    ∙ ap (last_or (codes "prefix") ps)
    (prefix_put (is_key p.0 (codes "family")) (is_key p.0 (codes "given")) (is_key p.0 (codes "prefix")) (is_key p.0 (codes "suffix")) p.1 n (apart (text p.0) (codes "family") (codes "prefix") refl)
    (apart (text p.0) (codes "given") (codes "prefix") refl))

valued_suffix : (ps : List Pair) (n : Named) → (valued ps n).suffix ≡ last_or (codes "suffix") ps n.suffix
valued_suffix [] n = refl
valued_suffix (p ∷ ps) n =
    valued_suffix ps (with_value (text p.0) p.1 n)
    ∙ ap (last_or (codes "suffix") ps)
    (suffix_put (is_key p.0 (codes "family")) (is_key p.0 (codes "given")) (is_key p.0 (codes "prefix")) (is_key p.0 (codes "suffix")) p.1 n (apart (text p.0) (codes "family") (codes "suffix") refl)
    (apart (text p.0) (codes "given") (codes "suffix") refl) (apart (text p.0) (codes "prefix") (codes "suffix") refl))

-- no other characters spell a key of ASCII letters
other_key : (key name : List ℕ) → text name ≡ name → (key ≡ name → ⊥) → is_key key name ≡ false
other_key key name ascii differ = by_test (is_key key name) refl
  where
    by_test : (b : Bool) → is_key key name ≡ b → b ≡ false
    by_test true e = absurd (differ (encodes_same key name ((bytes_decides (text key) name).0 e ∙ sym ascii)))
    by_test false e = refl

none_has : (name : List ℕ) (ps : List Pair) (value : List ℕ) → text name ≡ name → NoneHas name ps → last_or name ps value ≡ value
none_has name [] value ascii none = refl
none_has name (p ∷ ps) value ascii none =
    ap (λ (b : Bool). last_or name ps (cond b p.1 value)) (other_key p.0 name ascii none.0) ∙ none_has name ps value ascii none.1

last_has : (name : List ℕ) (before behind : List Pair) (value other : List ℕ) → text name ≡ name → NoneHas name behind → last_or name (before ++ (name, value) ∷ behind) other ≡ value
last_has name [] behind value other ascii none =
    ap (λ (b : Bool). last_or name behind (cond b value other)) ((bytes_decides (text name) name).1 ascii) ∙ none_has name behind value ascii none
last_has name (p ∷ before) behind value other ascii none = last_has name before behind value (cond (is_key p.0 name) p.1 other) ascii none

last_is : (name : List ℕ) (ps : List Pair) (value : List ℕ) → text name ≡ name → IsLastOf name ps value → last_or name ps [] ≡ value
last_is name ps value ascii (inl (none, e)) = none_has name ps [] ascii none ∙ sym e
last_is name ps value ascii (inr (before, behind, e, none)) = ap (λ (x : List Pair). last_or name x []) e ∙ last_has name before behind value [] ascii none

family_ascii : text (codes "family") ≡ codes "family"
unfolding lib.Utf8.encode
family_ascii = refl

given_ascii : text (codes "given") ≡ codes "given"
unfolding lib.Utf8.encode
given_ascii = refl

prefix_ascii : text (codes "prefix") ≡ codes "prefix"
unfolding lib.Utf8.encode
prefix_ascii = refl

suffix_ascii : text (codes "suffix") ≡ codes "suffix"
unfolding lib.Utf8.encode
suffix_ascii = refl

-- the name that keys and values of the relation give is read
pub pairs_are : (ts : List Text) (ps : List Pair) (n : Named) → AllZip IsPair ts ps → SayPairs ps n → with_pairs ts nobody ≡ n
pairs_are ts ps n all (family, given, prefix, suffix) =
    pairs_valued ts ps nobody all
    ∙ same_named (valued ps nobody) n (valued_name ps nobody ∙ last_is (codes "family") ps n.name family_ascii family) (valued_given ps nobody ∙ last_is (codes "given") ps n.given_name given_ascii given)
    (valued_prefix ps nobody ∙ last_is (codes "prefix") ps n.prefix prefix_ascii prefix) (valued_suffix ps nobody ∙ last_is (codes "suffix") ps n.suffix suffix_ascii suffix)

-- The value of the last pair with a key, or nothing.
record Latest (name : List ℕ) (ps : List Pair) : Type 0 where
  pub value : List ℕ
  pub is : IsLastOf name ps value

latest_of : (name : List ℕ) (ps : List Pair) → Latest name ps
latest_of name [] = record { value = []; is = inl (tt, refl) }
latest_of name (p ∷ ps) =
    let more = latest_of name ps in
    by_more more.value more.is (bytes_eq p.0 name) refl
  where
    by_more : (value : List ℕ) → IsLastOf name ps value → (b : Bool) → bytes_eq p.0 name ≡ b → Latest name (p ∷ ps)
    by_more value (inr (before, behind, e, none)) b is = record { value = value; is = inr (p ∷ before, behind, ap (λ (x : List Pair). p ∷ x) e, none) }
    by_more value (inl (none, e)) true is =
        let here : p ∷ ps ≡ (name, p.1) ∷ ps = (λ i. ((bytes_decides p.0 name).0 is i, p.1) ∷ ps) in
        record { value = p.1; is = inr ([], ps, here, none) }
    by_more value (inl (none, e)) false is =
        let differ : p.0 ≡ name → ⊥ = (λ same. true≢false (sym ((bytes_decides p.0 name).1 same) ∙ is)) in
        record { value = []; is = inl ((differ, none), refl) }

-- The name that keys and values give.
pub record Given (ps : List Pair) : Type 0 where
  pub name : Named
  pub is : SayPairs ps name

pub given_by : (ps : List Pair) → Given ps
given_by ps =
    let family = latest_of (codes "family") ps in
    let given = latest_of (codes "given") ps in
    let prefix = latest_of (codes "prefix") ps in
    let suffix = latest_of (codes "suffix") ps in
    record {
      name = record { name = family.value; given_name = given.value; prefix = prefix.value; suffix = suffix.value };
      is = (family.is, given.is, prefix.is, suffix.is);
    }
