-- What stands before the first comma of a person: the name, and before it the prefix.
use Rattle.std.proofs.Common.{◌≡◌, ℕ, Bool, true, false, List, [], ◌∷◌, ◌++◌, length, take, drop, refl, ap, ◌∙◌, append_assoc, arith}
use Rattle.std.proofs.lemmas.List.{take_at, drop_at}
use Rattle.std.proofs.lemmas.List.Elements.{filter-append}
use Rattle.std.proofs.lemmas.List.Folds.{list_any-append}
use Rattle.std.specs.List.{list_any, filter}
use Rattle.biblatex_lists.specs.declared.styled_char.StyledChar.{StyledChar}
use Rattle.biblatex_lists.specs.StyledChars.{is_gap, of_style}
use Rattle.biblatex_lists.specs.Parts.{begins_and, before_first}
use Rattle.laws.specs.Text.{is_filled}
use Rattle.biblatex_lists.specs.Writing.{space, begins_two_gaps, is_loose, holds}
use Rattle.biblatex_lists.proofs.PartsTested.{or_first, or_second, both_false, and_first, and_second}
use Rattle.biblatex_lists.proofs.StyledCharsTexts.{plain_of_style}
use Rattle.biblatex_lists.proofs.WritingJoined.{same_window}
use Rattle.biblatex_lists.specs.declared.words.Mark.TheVariants.{Gap, Comma, Equals}
use Rattle.biblatex_lists.specs.Words.{is_mark, cut_at, words, joined_words, is_small, lead_count}
use Rattle.biblatex_lists.specs.PeopleWriting.{is_steady, is_name}
use Rattle.biblatex_lists.specs.PeopleLaws.{ends_small, is_prefix}
use Rattle.biblatex_lists.proofs.WordsWindows.{comma}
use Rattle.biblatex_lists.proofs.WritingFields.{IsField, nowhere_loose, field_before_comma, field_has_no_comma, field_has_no_equals, joined_field, part_field, name_field, name_small, lead_none}

-- What is read as this prefix and this name where a comma stands after it.
pub record IsLeading (y : List StyledChar) (prefix name : List ℕ) : Type 0 where
  pub fine : (rest : List StyledChar) → holds is_loose (comma ∷ rest) ≡ false → holds is_loose (space ∷ y ++ comma ∷ rest) ≡ false
  pub commas : list_any (is_mark Comma) y ≡ false
  pub equals : list_any (is_mark Equals) y ≡ false
  pub before : joined_words (take (lead_count (words y)) (words y)) ≡ prefix
  pub following : joined_words (drop (lead_count (words y)) (words y)) ≡ name

abbrev pub name_chars : List ℕ → List StyledChar
name_chars cs = of_style (is_name cs) cs

abbrev pub part_chars : List ℕ → List StyledChar
part_chars cs = of_style (is_steady cs) cs

-- a name alone is read as a name without prefix
pub leading_without : (name : List ℕ) → IsLeading (name_chars name) [] name
leading_without name =
    let f = name_field name (is_name name) refl in
    let lead : lead_count (words (name_chars name)) ≡ 0 = lead_none (words (name_chars name)) (name_small name (is_name name) refl) in
    record {
      fine = λ rest e. field_before_comma (name_chars name) rest f e;
      commas = field_has_no_comma (name_chars name) f;
      equals = field_has_no_equals (name_chars name) f;
      before = ap (λ (n : ℕ). joined_words (take n (words (name_chars name)))) lead;
      following = ap (λ (n : ℕ). joined_words (drop n (words (name_chars name)))) lead ∙ (joined_field (name_chars name) f ∙ plain_of_style (is_name name) name);
    }

-- a text before a space
two_before_space : (s : StyledChar) (x rest : List StyledChar) → begins_two_gaps (s ∷ x ++ space ∷ []) ≡ false → begins_two_gaps (s ∷ x ++ space ∷ rest) ≡ false
two_before_space s [] rest e = e
two_before_space s (a ∷ x) rest e = e

holds_before_space : (y rest : List StyledChar) → holds is_loose (y ++ space ∷ []) ≡ false → holds is_loose (space ∷ rest) ≡ false → holds is_loose (y ++ space ∷ rest) ≡ false
holds_before_space [] rest e more = more
holds_before_space (s ∷ y) rest e more =
    let here = or_first (is_loose (s ∷ y ++ space ∷ [])) (holds is_loose (y ++ space ∷ [])) e in
    both_false (is_loose (s ∷ y ++ space ∷ rest)) (holds is_loose (y ++ space ∷ rest))
    (both_false (begins_and (s ∷ y ++ space ∷ rest)) (begins_two_gaps (s ∷ y ++ space ∷ rest))
    (same_window s y rest (or_first (begins_and (s ∷ y ++ space ∷ [])) (begins_two_gaps (s ∷ y ++ space ∷ [])) here))
    (two_before_space s y rest (or_second (begins_and (s ∷ y ++ space ∷ [])) (begins_two_gaps (s ∷ y ++ space ∷ [])) here)))
    (holds_before_space y rest (or_second (is_loose (s ∷ y ++ space ∷ [])) (holds is_loose (y ++ space ∷ [])) e) more)

-- the words before and after a space
first_of_both : (s : StyledChar) (y : List StyledChar) (qs : List (List StyledChar)) → before_first (s ∷ []) (cut_at Gap y ++ qs) ≡ before_first (s ∷ []) (cut_at Gap y) ++ qs
first_of_both s [] qs = refl
first_of_both s (t ∷ y) qs = by_test (is_gap t) refl (cut_at Gap y) refl
  where
    by_test : (b : Bool) → is_gap t ≡ b → (ps : List (List StyledChar)) → cut_at Gap y ≡ ps → before_first (s ∷ []) (cut_at Gap (t ∷ y) ++ qs) ≡ before_first (s ∷ []) (cut_at Gap (t ∷ y)) ++ qs
    by_test true e ps k = rw e refl
    by_test false e [] k = rw (e, k) refl
    by_test false e (p ∷ ps) k = rw (e, k) refl

cut_both : (y x : List StyledChar) → cut_at Gap (y ++ space ∷ x) ≡ cut_at Gap y ++ cut_at Gap x
cut_both [] x = refl
cut_both (s ∷ y) x = by_test (is_gap s) refl (cut_both y x)
  where
    by_test : (b : Bool) → is_gap s ≡ b → cut_at Gap (y ++ space ∷ x) ≡ cut_at Gap y ++ cut_at Gap x → cut_at Gap (s ∷ y ++ space ∷ x) ≡ cut_at Gap (s ∷ y) ++ cut_at Gap x
    by_test true e more = rw e (ap (λ (ps : List (List StyledChar)). [] ∷ ps) more)
    by_test false e more = rw e (ap (before_first (s ∷ [])) more ∙ first_of_both s y (cut_at Gap x))

words_both : (y x : List StyledChar) → words (y ++ space ∷ x) ≡ words y ++ words x
words_both y x = ap (filter is_filled) (cut_both y x) ∙ filter-append is_filled (cut_at Gap y) (cut_at Gap x)

-- small words up to the end of the first ones, and none after
lead_both : (ws xs : List (List StyledChar)) → ends_small ws ≡ true → is_filled xs ≡ true → list_any is_small xs ≡ false → lead_count (ws ++ xs) ≡ length ws
lead_both [] xs e f n = absurd cc
lead_both (w ∷ []) [] e f n = absurd cc
lead_both (w ∷ []) (x ∷ xs) e f n = let none = lead_none (x ∷ xs) n in rw (e, none) refl
lead_both (w ∷ v ∷ ws) xs e f n = let more = lead_both (v ∷ ws) xs e f n in rw more (omega arith)

joined_filled : (c : ℕ) (cs : List ℕ) (ws : List (List StyledChar)) → joined_words ws ≡ c ∷ cs → is_filled ws ≡ true
joined_filled c cs [] e = absurd cc
joined_filled c cs (w ∷ ws) e = refl

words_filled : (cs : List ℕ) (b : Bool) → IsField (of_style b cs) → is_filled cs ≡ true → is_filled (words (of_style b cs)) ≡ true
words_filled [] b f e = absurd cc
words_filled (c ∷ cs) b f e = joined_filled c cs (words (of_style b (c ∷ cs))) (joined_field (of_style b (c ∷ cs)) f ∙ plain_of_style b (c ∷ cs))

-- the prefix ends where the words of the name begin
taken : (all ws xs : List (List StyledChar)) → all ≡ ws ++ xs → lead_count all ≡ length ws → take (lead_count all) all ≡ ws
taken all ws xs e l = ap (λ (n : ℕ). take n all) l ∙ (ap (take (length ws)) e ∙ take_at ws xs (length ws) refl)

dropped : (all ws xs : List (List StyledChar)) → all ≡ ws ++ xs → lead_count all ≡ length ws → drop (lead_count all) all ≡ xs
dropped all ws xs e l = ap (λ (n : ℕ). drop n all) l ∙ (ap (drop (length ws)) e ∙ drop_at ws xs (length ws) refl)

-- a prefix and a name are read as such
pub leading_with : (c : ℕ) (p name : List ℕ) → is_prefix (c ∷ p) ≡ true → is_filled name ≡ true → IsLeading (part_chars (c ∷ p) ++ space ∷ name_chars name) (c ∷ p) name
leading_with c p name small filled =
    let pre = part_chars (c ∷ p) in
    let x = name_chars name in
    let fp : IsField pre = part_field (c ∷ p) (is_steady (c ∷ p)) refl in
    let fx : IsField x = name_field name (is_name name) refl in
    let steady : is_steady (c ∷ p) ≡ true = and_first (is_steady (c ∷ p)) (ends_small (words (of_style true (c ∷ p)))) small in
    let ends : ends_small (words pre) ≡ true =
    ap (λ (b : Bool). ends_small (words (of_style b (c ∷ p)))) steady ∙ and_second (is_steady (c ∷ p)) (ends_small (words (of_style true (c ∷ p)))) small in
    let both : words (pre ++ space ∷ x) ≡ words pre ++ words x = words_both pre x in
    let lead : lead_count (words (pre ++ space ∷ x)) ≡ length (words pre) =
    ap lead_count both ∙ lead_both (words pre) (words x) ends (words_filled name (is_name name) fx filled) (name_small name (is_name name) refl) in
    record {
      fine = λ rest e. ap (λ (ss : List StyledChar). holds is_loose (space ∷ ss)) (append_assoc pre (space ∷ x) (comma ∷ rest))
          ∙ holds_before_space (space ∷ pre) (x ++ comma ∷ rest) (nowhere_loose (space ∷ pre ++ space ∷ []) (fp.steady refl)) (field_before_comma x rest fx e);
      commas = list_any-append (is_mark Comma) pre (space ∷ x) ∙ both_false (list_any (is_mark Comma) pre) (list_any (is_mark Comma) x) (field_has_no_comma pre fp) (field_has_no_comma x fx);
      equals = list_any-append (is_mark Equals) pre (space ∷ x) ∙ both_false (list_any (is_mark Equals) pre) (list_any (is_mark Equals) x) (field_has_no_equals pre fp) (field_has_no_equals x fx);
      before = ap joined_words (taken (words (pre ++ space ∷ x)) (words pre) (words x) both lead) ∙ (joined_field pre fp ∙ plain_of_style (is_steady (c ∷ p)) (c ∷ p));
      following = ap joined_words (dropped (words (pre ++ space ∷ x)) (words pre) (words x) both lead) ∙ (joined_field x fx ∙ plain_of_style (is_name name) name);
    }
