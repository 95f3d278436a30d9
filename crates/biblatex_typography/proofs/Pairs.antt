-- Texts and members, mark by mark.
use Rattle.std.proofs.Common.{◌≡◌, ◌≤◌, ◌==◌, ◌&&◌, ◌||◌, not, ℕ, Bool, true, false, List, [], ◌∷◌, ◌++◌, length, Some, None, refl, sym, ap, ◌∙◌, append_assoc, arith}
use Rattle.std.specs.Prelude.{if◌then◌else◌}
use Rattle.std.specs.List.{list_any}
use Rattle.std.proofs.lemmas.Bool.{or_parts}
use Rattle.std.proofs.lemmas.List.{append-nil}
use Rattle.laws.specs.Characters.{apostrophe, grave_accent, left_single_quotation_mark, right_single_quotation_mark}
use Rattle.laws.specs.Runs.{after}
use Rattle.laws.specs.Text.{is_filled}
use Rattle.biblatex_content.specs.declared.chunk.Kind.{Kind}
use Rattle.biblatex_content.specs.declared.chunk.Kind.TheVariants.{Normal, Verbatim}
use Rattle.biblatex_content.specs.Styled.{Member, Letter, Math, letters}
use Rattle.biblatex_typography.specs.Typography.{are_pair, double, is_mark, is_pair, single, typographic, typographic_text, with_character}
use Rattle.biblatex_typography.specs.Changes.{is_marked, is_unmarked, past_pair}

-- what stands from the first mark on is there where there is a mark
pub from_mark : (cs : List ℕ) → is_filled (after is_unmarked cs) ≡ list_any is_mark cs
from_mark [] = refl
from_mark (c ∷ cs) = by (is_mark c) (from_mark cs)
  where
    by : (b : Bool) → is_filled (after is_unmarked cs) ≡ list_any is_mark cs → is_filled (if not b then after is_unmarked cs else c ∷ cs) ≡ (b || list_any is_mark cs)
    by true rest = refl
    by false rest = rest

-- a pair
pair_first : (c : ℕ) (cs rest : List ℕ) → past_pair c cs ≡ Some rest → typographic_text (c ∷ cs) ≡ double c ∷ typographic_text rest
pair_first c [] rest is = absurd cc
pair_first c (d ∷ cs) rest is = by (is_pair c d) is
  where
    by : (b : Bool) → (if b then Some cs else None) ≡ Some rest
        → (if b then double c ∷ typographic_text cs else single c ∷ typographic_text (d ∷ cs)) ≡ double c ∷ typographic_text rest
    by true is = let same : cs ≡ rest = cc in ap (λ (ds : List ℕ). double c ∷ typographic_text ds) same
    by false is = absurd cc

pub put_pair : (old new : List ℕ) (c : ℕ) (cs rest : List ℕ) → past_pair c cs ≡ Some rest → new ≡ old ++ double c ∷ [] → new ++ typographic_text rest ≡ old ++ typographic_text (c ∷ cs)
put_pair old new c cs rest is put =
    ap (λ (ds : List ℕ). ds ++ typographic_text rest) put
    ∙ (append_assoc old (double c ∷ []) (typographic_text rest)
    ∙ ap (λ (ds : List ℕ). old ++ ds) (sym (pair_first c cs rest is)))

pub pair_shorter : (c : ℕ) (cs rest : List ℕ) → past_pair c cs ≡ Some rest → length rest ≤ length cs
pair_shorter c [] rest is = absurd cc
pair_shorter c (d ∷ cs) rest is = by (is_pair c d) is
  where
    by : (b : Bool) → (if b then Some cs else None) ≡ Some rest → length rest ≤ length (d ∷ cs)
    by true is = let same : cs ≡ rest = cc in omega (arith, ap length same)
    by false is = absurd cc

-- a character by itself
alone_first : (c : ℕ) (cs : List ℕ) → past_pair c cs ≡ None → typographic_text (c ∷ cs) ≡ single c ∷ typographic_text cs
alone_first c [] none = refl
alone_first c (d ∷ cs) none = by (is_pair c d) none
  where
    by : (b : Bool) → (if b then Some cs else None) ≡ None
        → (if b then double c ∷ typographic_text cs else single c ∷ typographic_text (d ∷ cs)) ≡ single c ∷ typographic_text (d ∷ cs)
    by true none = absurd cc
    by false none = refl

pub put_alone : (old new : List ℕ) (c : ℕ) (cs : List ℕ) → past_pair c cs ≡ None → new ≡ old ++ single c ∷ [] → new ++ typographic_text cs ≡ old ++ typographic_text (c ∷ cs)
put_alone old new c cs none put =
    ap (λ (ds : List ℕ). ds ++ typographic_text cs) put
    ∙ (append_assoc old (single c ∷ []) (typographic_text cs)
    ∙ ap (λ (ds : List ℕ). old ++ ds) (sym (alone_first c cs none)))

-- a text has characters where it has some as it is printed
pub filled : (cs : List ℕ) → is_filled (typographic_text cs) ≡ is_filled cs
filled [] = refl
filled (c ∷ []) = refl
filled (c ∷ d ∷ cs) = by (is_pair c d)
  where
    by : (b : Bool) → is_filled (if b then double c ∷ typographic_text cs else single c ∷ typographic_text (d ∷ cs)) ≡ true
    by true = refl
    by false = refl

-- whether a member is a pair with the first of those after it
abbrev pub pairs_with : Member → List Member → Bool
pairs_with m [] = false
pairs_with m (n ∷ ms) = are_pair m n

pub one_first : (m : Member) (ms : List Member) → pairs_with m ms ≡ false → typographic (m ∷ ms) ≡ with_character single m ∷ typographic ms
one_first m [] none = refl
one_first m (n ∷ ms) none = ap (λ (b : Bool). if b then with_character double m ∷ typographic ms else with_character single m ∷ typographic (n ∷ ms)) none

of_one_kind : (k : Kind) (c d : ℕ) → are_pair (Letter k c) (Letter k d) ≡ is_pair c d
of_one_kind Normal c d = refl
of_one_kind Verbatim c d = refl

-- letters of one kind before members that begin with no such letter
pub letters_before : (k : Kind) (cs : List ℕ) (rest : List Member) → ((c : ℕ) → pairs_with (Letter k c) rest ≡ false)
    → typographic (letters k cs ++ rest) ≡ letters k (typographic_text cs) ++ typographic rest
letters_before k [] rest apart = refl
letters_before k (c ∷ []) rest apart = one_first (Letter k c) rest (apart c)
letters_before k (c ∷ d ∷ cs) rest apart =
    ap (λ (b : Bool). if b then Letter k (double c) ∷ typographic (letters k cs ++ rest) else Letter k (single c) ∷ typographic (letters k (d ∷ cs) ++ rest)) (of_one_kind k c d)
    ∙ by (is_pair c d) (letters_before k cs rest apart) (letters_before k (d ∷ cs) rest apart)
  where
    by : (b : Bool) → typographic (letters k cs ++ rest) ≡ letters k (typographic_text cs) ++ typographic rest
        → typographic (letters k (d ∷ cs) ++ rest) ≡ letters k (typographic_text (d ∷ cs)) ++ typographic rest
        → (if b then Letter k (double c) ∷ typographic (letters k cs ++ rest) else Letter k (single c) ∷ typographic (letters k (d ∷ cs) ++ rest))
        ≡ letters k (if b then double c ∷ typographic_text cs else single c ∷ typographic_text (d ∷ cs)) ++ typographic rest
    by true pair one = ap (λ (ms : List Member). Letter k (double c) ∷ ms) pair
    by false pair one = ap (λ (ms : List Member). Letter k (single c) ∷ ms) one

letters_alone : (k : Kind) (cs : List ℕ) → typographic (letters k cs) ≡ letters k (typographic_text cs)
letters_alone k cs =
    ap typographic (sym (append-nil (letters k cs))) ∙ (letters_before k cs [] (λ c. refl) ∙ append-nil (letters k (typographic_text cs)))

pub text_members : (k : Kind) (t s : List ℕ) → s ≡ typographic_text t → letters k s ≡ typographic (letters k t)
text_members k t s is = ap (letters k) is ∙ sym (letters_alone k t)

pub text_full : (t s : List ℕ) → s ≡ typographic_text t → is_filled s ≡ is_filled t
text_full t s is = ap (λ (cs : List ℕ). is_filled cs) is ∙ filled t

-- marks among letters are those of their characters
pub marked_letters : (k : Kind) (cs : List ℕ) → list_any is_marked (letters k cs) ≡ list_any is_mark cs
marked_letters k [] = refl
marked_letters k (c ∷ cs) = ap (λ (b : Bool). is_mark c || b) (marked_letters k cs)

-- members without a mark stay
no_pair : (m : Member) (ms : List Member) → is_marked m ≡ false → pairs_with m ms ≡ false
no_pair m [] none = refl
no_pair (Letter Normal c) (Letter Normal d ∷ ms) none = ap (λ (b : Bool). b && (c == d)) none
no_pair (Letter Normal c) (Letter Verbatim d ∷ ms) none = refl
no_pair (Letter Normal c) (Math ds ∷ ms) none = refl
no_pair (Letter Verbatim c) (Letter Normal d ∷ ms) none = refl
no_pair (Letter Verbatim c) (Letter Verbatim d ∷ ms) none = ap (λ (b : Bool). b && (c == d)) none
no_pair (Letter Verbatim c) (Math ds ∷ ms) none = refl
no_pair (Math cs) (n ∷ ms) none = refl

itself : (c : ℕ) → is_mark c ≡ false → single c ≡ c
itself c none = by (c == apostrophe) (c == grave_accent) none
  where
    by : (b d : Bool) → (b || d) ≡ false → (if b then right_single_quotation_mark else (if d then left_single_quotation_mark else c)) ≡ c
    by true d none = absurd cc
    by false true none = absurd cc
    by false false none = refl

one_stays : (m : Member) → is_marked m ≡ false → with_character single m ≡ m
one_stays (Letter k c) none = ap (Letter k) (itself c none)
one_stays (Math cs) none = refl

pub unmarked_stays : (ms : List Member) → list_any is_marked ms ≡ false → typographic ms ≡ ms
unmarked_stays [] none = refl
unmarked_stays (m ∷ ms) none =
    let parts = or_parts (is_marked m) (list_any is_marked ms) none in
    one_first m ms (no_pair m ms parts.0) ∙ (λ i. one_stays m parts.0 i ∷ unmarked_stays ms parts.1 i)
