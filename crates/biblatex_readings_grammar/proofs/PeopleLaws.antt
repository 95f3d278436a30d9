-- The people of the relation are those that are read.
use Rattle.std.proofs.Common.{◌≡◌, ℕ, ◌-◌, Bool, true, false, true≢false, ◌==◌, ◌&&◌, ◌⊎◌, List, [], ◌∷◌, ◌++◌, map, length, take, refl, sym, ap, ◌∙◌, subst, inl, inr}
use Rattle.std.specs.List.{AllZip, filter}
use Rattle.std.proofs.lemmas.Bool.{eqb-true}
use Rattle.laws.specs.Characters.{lower_e, lower_h, lower_o, lower_r, lower_s, lower_t}
use Rattle.laws.specs.Text.{is_filled}
use Rattle.biblatex_lists.specs.declared.styled_char.StyledChar.{StyledChar}
use Rattle.biblatex_lists.specs.StyledChars.{in_style}
use Rattle.biblatex_lists.specs.Parts.{parts, trimmed}
use Rattle.biblatex_lists.specs.Reading.{Named, is_named, person_in, is_someone, is_letter, is_others, ends_in_others, without_others, people_of}
use Rattle.biblatex_lists.proofs.PartsTested.{and_first, and_second}
use Rattle.biblatex_lists.proofs.ViewsLists.{ends_in_last}
use Rattle.biblatex_readings_grammar.specs.Words.{Text, IsTrimmed}
use Rattle.biblatex_readings_grammar.specs.Names.{IsName}
use Rattle.biblatex_readings_grammar.specs.People.{IsNobody, AreSomeone, IsOthers, IsWithoutOthers, ArePeople}
use Rattle.biblatex_readings_grammar.proofs.Trimmed.{trimmed_is, trimmed_of}
use Rattle.biblatex_readings_grammar.proofs.Parted.{parted_is, parted_of}
use Rattle.biblatex_readings_grammar.proofs.Unparted.{all_but_last, ends_of}
use Rattle.biblatex_readings_grammar.proofs.Names.{name_is, HasName, name_of}

-- texts that are related one by one
zip_is : {A B : Type 0} (R : A → B → Type 0) (f : A → B) → ((x : A) (y : B) → R x y → f x ≡ y) → (xs : List A) (ys : List B) → AllZip R xs ys → map f xs ≡ ys
zip_is R f one [] [] all = refl
zip_is R f one [] (y ∷ ys) all = absurd all
zip_is R f one (x ∷ xs) [] all = absurd all
zip_is R f one (x ∷ xs) (y ∷ ys) all = λ i. one x y all.0 i ∷ zip_is R f one xs ys all.1 i

-- What is related one by one.
record Zipped (A B : Type 0) (R : A → B → Type 0) (xs : List A) : Type 0 where
  pub list : List B
  pub all : AllZip R xs list

trimmed_texts : (ps : List Text) → Zipped Text Text IsTrimmed ps
trimmed_texts [] = record { list = []; all = tt }
trimmed_texts (p ∷ ps) =
    let first = trimmed_of p in
    let more = trimmed_texts ps in
    record { list = first.text ∷ more.list; all = (first.is, more.all) }

names_of : (ps : List Text) → Zipped Text Named IsName ps
names_of [] = record { list = []; all = tt }
names_of (p ∷ ps) =
    let first = name_of p in
    let more = names_of ps in
    record { list = first.name ∷ more.list; all = (first.is, more.all) }

-- who is somebody
nobody_is : (n : Named) → IsNobody n → is_named n ≡ false
nobody_is n (a, b, c, d) = λ i. is_filled (a i ++ b i ++ c i ++ d i)

some_filled : (a b c d : List ℕ) → ((a ≡ []) × (b ≡ []) × (c ≡ []) × (d ≡ []) → ⊥) → is_filled (a ++ b ++ c ++ d) ≡ true
some_filled [] [] [] [] some = absurd (some (refl, refl, refl, refl))
some_filled [] [] [] (x ∷ d) some = refl
some_filled [] [] (x ∷ c) d some = refl
some_filled [] (x ∷ b) c d some = refl
some_filled (x ∷ a) b c d some = refl

somebody_is : (n : Named) → (IsNobody n → ⊥) → is_named n ≡ true
somebody_is n some = some_filled n.name n.given_name n.prefix n.suffix some

not_empty : (x : ℕ) (xs : List ℕ) → x ∷ xs ≡ [] → ⊥
not_empty x xs e = true≢false (ap is_filled e)

nobody_or : (a b c d : List ℕ) → ((a ≡ []) × (b ≡ []) × (c ≡ []) × (d ≡ [])) ⊎ ((a ≡ []) × (b ≡ []) × (c ≡ []) × (d ≡ []) → ⊥)
nobody_or [] [] [] [] = inl (refl, refl, refl, refl)
nobody_or [] [] [] (x ∷ d) = inr (λ empty. not_empty x d empty.3)
nobody_or [] [] (x ∷ c) d = inr (λ empty. not_empty x c empty.2)
nobody_or [] (x ∷ b) c d = inr (λ empty. not_empty x b empty.1)
nobody_or (x ∷ a) b c d = inr (λ empty. not_empty x a empty.0)

someone_is : (ps qs : List Text) → AreSomeone ps qs → filter is_someone ps ≡ qs
someone_is [] qs e = sym e
someone_is (p ∷ ps) qs (n, is, inl (nobody, more)) =
    let here : is_someone p ≡ false = ap is_named (name_is p n is) ∙ nobody_is n nobody in
    rw here (someone_is ps qs more)
someone_is (p ∷ ps) qs (n, is, inr (some, (rs, e, more))) =
    let here : is_someone p ≡ true = ap is_named (name_is p n is) ∙ somebody_is n some in
    rw here (ap (λ (x : List Text). p ∷ x) (someone_is ps rs more) ∙ sym e)

-- Those texts whose names have words.
record Someone (ps : List Text) : Type 0 where
  pub list : List Text
  pub are : AreSomeone ps list

someone_of : (ps : List Text) → Someone ps
someone_of [] = record { list = []; are = refl }
someone_of (p ∷ ps) =
    let first = name_of p in
    by_name first (someone_of ps) (nobody_or first.name.name first.name.given_name first.name.prefix first.name.suffix)
  where
    by_name : (first : HasName p) → Someone ps → IsNobody first.name ⊎ (IsNobody first.name → ⊥) → Someone (p ∷ ps)
    by_name first more (inl nobody) = record { list = more.list; are = (first.name, first.is, inl (nobody, more.are)) }
    by_name first more (inr some) = record { list = p ∷ more.list; are = (first.name, first.is, inr (some, (more.list, refl, more.are))) }

-- the word `others`
others_is : (p : Text) → IsOthers p → is_others p ≡ true
others_is p e = ap is_others e

letter_is : (c : ℕ) (s : StyledChar) → is_letter c s ≡ true → s ≡ in_style true c
letter_is c s e =
    let same : s.c ≡ c = eqb-true s.c c (and_second s.is_normal (s.c == c) e) in
    let normal : s.is_normal ≡ true = and_first s.is_normal (s.c == c) e in
    λ i. record { c = same i; is_normal = normal i }

is_the_word : (p : Text) → is_others p ≡ true → IsOthers p
is_the_word [] e = absurd cc
is_the_word (o ∷ []) e = absurd cc
is_the_word (o ∷ t ∷ []) e = absurd cc
is_the_word (o ∷ t ∷ h ∷ []) e = absurd cc
is_the_word (o ∷ t ∷ h ∷ f ∷ []) e = absurd cc
is_the_word (o ∷ t ∷ h ∷ f ∷ r ∷ []) e = absurd cc
is_the_word (o ∷ t ∷ h ∷ f ∷ r ∷ s ∷ []) e =
    let five = and_first (is_letter lower_o o && is_letter lower_t t && is_letter lower_h h && is_letter lower_e f && is_letter lower_r r) (is_letter lower_s s) e in
    let four = and_first (is_letter lower_o o && is_letter lower_t t && is_letter lower_h h && is_letter lower_e f) (is_letter lower_r r) five in
    let three = and_first (is_letter lower_o o && is_letter lower_t t && is_letter lower_h h) (is_letter lower_e f) four in
    let two = and_first (is_letter lower_o o && is_letter lower_t t) (is_letter lower_h h) three in
    let is_o = letter_is lower_o o (and_first (is_letter lower_o o) (is_letter lower_t t) two) in
    let is_t = letter_is lower_t t (and_second (is_letter lower_o o) (is_letter lower_t t) two) in
    let is_h = letter_is lower_h h (and_second (is_letter lower_o o && is_letter lower_t t) (is_letter lower_h h) three) in
    let is_e = letter_is lower_e f (and_second (is_letter lower_o o && is_letter lower_t t && is_letter lower_h h) (is_letter lower_e f) four) in
    let is_r = letter_is lower_r r (and_second (is_letter lower_o o && is_letter lower_t t && is_letter lower_h h && is_letter lower_e f) (is_letter lower_r r) five) in
    let is_s = letter_is lower_s s (and_second (is_letter lower_o o && is_letter lower_t t && is_letter lower_h h && is_letter lower_e f && is_letter lower_r r) (is_letter lower_s s) e) in
    λ i. is_o i ∷ is_t i ∷ is_h i ∷ is_e i ∷ is_r i ∷ is_s i ∷ []
is_the_word (o ∷ t ∷ h ∷ f ∷ r ∷ s ∷ u ∷ ss) e = absurd cc

-- texts without a last `others`
no_others : (ps : List Text) → ends_in_others ps ≡ false → without_others ps ≡ ps
no_others ps e = rw e refl

last_others : (ps : List Text) → ends_in_others ps ≡ true → without_others ps ≡ take (length ps - 1) ps
last_others ps e = rw e refl

none_ends : (ps : List Text) → ((p : Text) (rs : List Text) → ps ≡ rs ++ p ∷ [] → IsOthers p → ⊥) → ends_in_others ps ≡ false
none_ends [] none = refl
none_ends (p ∷ ps) none = by_test (ends_in_others (p ∷ ps)) refl
  where
    by_test : (b : Bool) → ends_in_others (p ∷ ps) ≡ b → b ≡ false
    by_test true e =
        let ends = ends_of p ps in
        let word : is_others ends.last ≡ true = sym (ends_in_last ends.front ends.last) ∙ (ap ends_in_others (sym ends.is) ∙ e) in
        absurd (none ends.last ends.front ends.is (is_the_word ends.last word))
    by_test false e = refl

without_is : (ps qs : List Text) → IsWithoutOthers ps qs → without_others ps ≡ qs
without_is ps qs (inl (p, e, word)) =
    let ends : ends_in_others ps ≡ true = ap ends_in_others e ∙ (ends_in_last qs p ∙ others_is p word) in
    last_others ps ends ∙ (ap (λ (x : List Text). take (length x - 1) x) e ∙ all_but_last qs p)
without_is ps qs (inr (none, e)) = no_others ps (none_ends ps none) ∙ sym e

not_last : (rs : List Text) (p : Text) → [] ≡ rs ++ p ∷ [] → ⊥
not_last [] p e = true≢false (sym (ap is_filled e))
not_last (r ∷ rs) p e = true≢false (sym (ap is_filled e))

-- Texts without a last one that is `others`.
record Without (ps : List Text) : Type 0 where
  pub list : List Text
  pub is : IsWithoutOthers ps list

without_of : (ps : List Text) → Without ps
without_of [] = record { list = []; is = inr ((λ p rs e word. not_last rs p e), refl) }
without_of (p ∷ ps) =
    let ends = ends_of p ps in
    by_test ends.front ends.last ends.is (is_others ends.last) refl
  where
    by_test : (front : List Text) (last : Text) → p ∷ ps ≡ front ++ last ∷ [] → (b : Bool) → is_others last ≡ b → Without (p ∷ ps)
    by_test front last e true word = record { list = front; is = inl (last, e, is_the_word last word) }
    by_test front last e false other =
        let ends : ends_in_others (p ∷ ps) ≡ false = ap ends_in_others e ∙ (ends_in_last front last ∙ other) in
        let none : (q : Text) (rs : List Text) → p ∷ ps ≡ rs ++ q ∷ [] → IsOthers q → ⊥ =
        (λ q rs f word. true≢false (sym (ap ends_in_others f ∙ (ends_in_last rs q ∙ others_is q word)) ∙ ends)) in
        record { list = p ∷ ps; is = inr (none, refl) }

-- the people of the relation are read
pub is_read : (ss : Text) (ns : List Named) → ArePeople ss ns → people_of (parts ss) ≡ ns
is_read ss ns (ps, ts, qs, rs, parted, trim, someone, without, names) =
    let cutting : parts ss ≡ ts = ap (map trimmed) (parted_is ps ss parted) ∙ zip_is IsTrimmed trimmed trimmed_is ps ts trim in
    let some : filter is_someone (parts ss) ≡ qs = ap (filter is_someone) cutting ∙ someone_is ts qs someone in
    let left : without_others (filter is_someone (parts ss)) ≡ rs = ap without_others some ∙ without_is qs rs without in
    ap (map person_in) left ∙ zip_is IsName person_in name_is rs ns names

-- The people of a text.
record People (ss : Text) : Type 0 where
  pub list : List Named
  pub are : ArePeople ss list

people_in : (ss : Text) → People ss
people_in ss =
    let cutting = parted_of ss in
    let trim = trimmed_texts cutting.parts in
    let someone = someone_of trim.list in
    let without = without_of someone.list in
    let names = names_of without.list in
    record { list = names.list; are = (cutting.parts, trim.list, someone.list, without.list, cutting.are, trim.all, someone.are, without.is, names.all) }

-- the people that are read are those of the relation
pub is_related : (ss : Text) (ns : List Named) → people_of (parts ss) ≡ ns → ArePeople ss ns
is_related ss ns e =
    let people = people_in ss in
    subst (λ (x : List Named). ArePeople ss x) (sym (is_read ss people.list people.are) ∙ e) people.are
