-- What is asked of an entry is asked of the entries that it refers to.
use Rattle.std.proofs.Common.{◌≡◌, ℕ, Bool, true, false, not, ◌&&◌, ◌||◌, true≢false, List, [], ◌∷◌, ◌++◌, Some, None, inl, inr, bytes_eq, codes, refl, sym, ap, subst, ◌∙◌}
use Rattle.std.specs.Prelude.{if◌then◌else◌}
use Rattle.std.specs.List.{list_all}
use Rattle.std.specs.Option.{is_some}
use Rattle.std.proofs.lemmas.Bool.{or_left, or_right, or_cases, and_parts}
use Rattle.std.proofs.lemmas.List.Folds.{list_any-append}
use Rattle.std.proofs.lemmas.Option.{same_Some}
use Rattle.std.proofs.lemmas.Slice.Eq.{bytes_eq-Decides}
use Rattle.biblatex_entries.specs.Roles.{is_multi_volume}
use Rattle.biblatex_entries.specs.declared.role.Role.{Role}
use Rattle.biblatex_entries.specs.declared.role.Role.TheVariants.{Article, Periodical, PartOfBook, PartOfOther, Book, MultiVolumeBook, Volume, MultiVolume, XData, Set, Other}
use Rattle.biblatex_inherited_fields.specs.Table.{is_among, of_all, of_articles, of_parts, never, inherits, is_xdata, is_periodical, is_part, is_volume, is_part_of_book, is_book, renamed_in_part, renamed, source_name}
use Rattle.biblatex_suppliers.specs.Asked.{of_dates, asked, other_source, is_asked, further}

-- the names of each list are asked
all_asked : (q : List ℕ) → is_among of_all q ≡ true → is_among asked q ≡ true
all_asked q is = list_any-append (bytes_eq q) of_all (of_articles ++ (of_parts ++ of_dates)) ∙ or_left (is_among of_all q) (is_among (of_articles ++ (of_parts ++ of_dates)) q) is

later_asked : (q : List ℕ) → is_among (of_articles ++ (of_parts ++ of_dates)) q ≡ true → is_among asked q ≡ true
later_asked q is = list_any-append (bytes_eq q) of_all (of_articles ++ (of_parts ++ of_dates)) ∙ or_right (is_among of_all q) (is_among (of_articles ++ (of_parts ++ of_dates)) q) is

articles_asked : (q : List ℕ) → is_among of_articles q ≡ true → is_among asked q ≡ true
articles_asked q is = later_asked q (list_any-append (bytes_eq q) of_articles (of_parts ++ of_dates) ∙ or_left (is_among of_articles q) (is_among (of_parts ++ of_dates) q) is)

parts_asked : (q : List ℕ) → is_among of_parts q ≡ true → is_among asked q ≡ true
parts_asked q is =
    later_asked q (list_any-append (bytes_eq q) of_articles (of_parts ++ of_dates)
    ∙ or_right (is_among of_articles q) (is_among (of_parts ++ of_dates) q) (list_any-append (bytes_eq q) of_parts of_dates ∙ or_left (is_among of_parts q) (is_among of_dates q) is))

-- a name of either of two lists
either_asked : (a b : Bool) (q : List ℕ) → (a ≡ true → is_among asked q ≡ true) → (b ≡ true → is_among asked q ≡ true) → (a || b) ≡ true → is_among asked q ≡ true
either_asked a b q f g is = elim (or_cases a b is) [
  | inl p ↦ f p
  | inr p ↦ g p
]

-- what an entry inherits that is no xdata entry is asked
inherited_asked : (to : Role) (q : List ℕ) → is_xdata to ≡ false → inherits to q ≡ true → is_among asked q ≡ true
inherited_asked Article q other is = either_asked (is_among of_all q) (is_among of_articles q) q (all_asked q) (articles_asked q) is
inherited_asked Periodical q other is = all_asked q is
inherited_asked PartOfBook q other is = either_asked (is_among of_all q) (is_among of_parts q) q (all_asked q) (parts_asked q) is
inherited_asked PartOfOther q other is = either_asked (is_among of_all q) (is_among of_parts q) q (all_asked q) (parts_asked q) is
inherited_asked Book q other is = all_asked q is
inherited_asked MultiVolumeBook q other is = all_asked q is
inherited_asked Volume q other is = all_asked q is
inherited_asked MultiVolume q other is = all_asked q is
inherited_asked XData q other is = absurd (true≢false other)
inherited_asked Set q other is = all_asked q is
inherited_asked Other q other is = all_asked q is

among_asked : (to : Role) (q : List ℕ) → is_asked to q ≡ true → inherits to q ≡ true → is_among asked q ≡ true
among_asked to q asks is = by (is_xdata to) refl asks
  where
    by : (b : Bool) → is_xdata to ≡ b → (not b || is_among asked q) ≡ true → is_among asked q ≡ true
    by true same asks = asks
    by false same asks = inherited_asked to q same is

-- the name of a reference that is an xdata entry is the same
same_name : (to from : Role) (q : List ℕ) → is_xdata from ≡ true → source_name to from q ≡ q
same_name to from q is = ap (λ (b : Bool). if is_xdata to || b then q else renamed to from q) is ∙ by (is_xdata to)
  where
    by : (b : Bool) → (if b || true then q else renamed to from q) ≡ q
    by true = refl
    by false = refl

-- what an entry inherits and may be asked for is a field for which its reference may be asked
pub source_asked : (to from : Role) (q : List ℕ) → is_asked to q ≡ true → inherits to q ≡ true → is_asked from (source_name to from q) ≡ true
source_asked to from q asks is = by (is_xdata from) refl
  where
    by : (b : Bool) → is_xdata from ≡ b → is_asked from (source_name to from q) ≡ true
    by true same =
        or_right (not (is_xdata from)) (is_among asked (source_name to from q)) (subst (λ (n : List ℕ). is_among asked n ≡ true) (sym (same_name to from q same)) (among_asked to q asks is))
    by false same = or_left (not (is_xdata from)) (is_among asked (source_name to from q)) (ap not same)

-- each entry may be asked for the fields that a date is made of
pub date_asked : (role : Role) → is_asked role (codes "date") ≡ true
date_asked role = or_right (not (is_xdata role)) (is_among asked (codes "date")) refl

pub year_asked : (role : Role) → is_asked role (codes "year") ≡ true
year_asked role = or_right (not (is_xdata role)) (is_among asked (codes "year")) refl

pub month_asked : (role : Role) → is_asked role (codes "month") ≡ true
month_asked role = or_right (not (is_xdata role)) (is_among asked (codes "month")) refl

pub day_asked : (role : Role) → is_asked role (codes "day") ≡ true
day_asked role = or_right (not (is_xdata role)) (is_among asked (codes "day")) refl

-- what is so of each name of a list is so of a name among them
named : (p : List ℕ → Bool) (ns : List (List ℕ)) (q : List ℕ) → list_all p ns ≡ true → is_among ns q ≡ true → p q ≡ true
named p [] q all any = absurd (true≢false (sym any))
named p (n ∷ ns) q all any = by (bytes_eq q n) refl any (named p ns q (and_parts (p n) (list_all p ns) all).1)
  where
    by : (b : Bool) → bytes_eq q n ≡ b → (b || is_among ns q) ≡ true → (is_among ns q ≡ true → p q ≡ true) → p q ≡ true
    by true same any more = subst (λ (x : List ℕ). p x ≡ true) (sym ((bytes_eq-Decides q n).0 same)) (and_parts (p n) (list_all p ns) all).0
    by false other any more = more any

-- no field for which an xdata entry is asked is one that is never inherited
pub not_never : (q : List ℕ) → is_among asked q ≡ true → not (is_among never q) ≡ true
not_never q is = named (λ n. not (is_among never n)) asked q refl is

-- the four lists together have the names for which an xdata entry is asked
pub in_lists : (q : List ℕ) → is_among asked q ≡ true → ((is_among of_all q || is_among of_articles q) || (is_among of_parts q || is_among of_dates q)) ≡ true
in_lists q is =
    regrouped (is_among of_all q) (is_among of_articles q) (is_among of_parts q) (is_among of_dates q)
    (sym (list_any-append (bytes_eq q) of_all (of_articles ++ (of_parts ++ of_dates))
    ∙ (ap (λ (b : Bool). is_among of_all q || b) (list_any-append (bytes_eq q) of_articles (of_parts ++ of_dates)
    ∙ ap (λ (b : Bool). is_among of_articles q || b) (list_any-append (bytes_eq q) of_parts of_dates)))) ∙ is)
  where
    regrouped : (a b c d : Bool) → (a || (b || (c || d))) ≡ true → ((a || b) || (c || d)) ≡ true
    regrouped true b c d is = refl
    regrouped false b c d is = is

none_more : (b : Bool) → (b || false) ≡ b
none_more true = refl
none_more false = refl

-- what an entry inherits that is no xdata entry, by two lists
pub by_lists : (to : Role) (q : List ℕ) → (to ≡ XData → ⊥) → (is_among of_all q || is_among (further to) q) ≡ inherits to q
by_lists Article q other = refl
by_lists Periodical q other = none_more (is_among of_all q)
by_lists PartOfBook q other = refl
by_lists PartOfOther q other = refl
by_lists Book q other = none_more (is_among of_all q)
by_lists MultiVolumeBook q other = none_more (is_among of_all q)
by_lists Volume q other = none_more (is_among of_all q)
by_lists MultiVolume q other = none_more (is_among of_all q)
by_lists XData q other = absurd (other refl)
by_lists Set q other = none_more (is_among of_all q)
by_lists Other q other = none_more (is_among of_all q)

-- what is the name of another field is that of the one that was found for it
pub other_is : (t n : List ℕ) → Some n ≡ other_source t → n ≡ t
other_is t n is = title (bytes_eq t (codes "title")) refl is
  where
    author : (b : Bool) → bytes_eq t (codes "author") ≡ b → Some n ≡ (if b then Some (codes "author") else None) → n ≡ t
    author true same found = same_Some n (codes "author") found ∙ sym ((bytes_eq-Decides t (codes "author")).0 same)
    author false other found = absurd cc

    subtitle : (b : Bool) → bytes_eq t (codes "subtitle") ≡ b → Some n ≡ (if b then Some (codes "subtitle") else (if bytes_eq t (codes "author") then Some (codes "author") else None)) → n ≡ t
    subtitle true same found = same_Some n (codes "subtitle") found ∙ sym ((bytes_eq-Decides t (codes "subtitle")).0 same)
    subtitle false other found = author (bytes_eq t (codes "author")) refl found

    title : (b : Bool) → bytes_eq t (codes "title") ≡ b
        → Some n ≡ (if b then Some (codes "title") else (if bytes_eq t (codes "subtitle") then Some (codes "subtitle") else (if bytes_eq t (codes "author") then Some (codes "author") else None))) → n ≡ t
    title true same found = same_Some n (codes "title") found ∙ sym ((bytes_eq-Decides t (codes "title")).0 same)
    title false other found = subtitle (bytes_eq t (codes "subtitle")) refl found

-- one more test of a name: where it holds, the field stands in another one, and the rest says what it is where it does not
one_test : (q : List ℕ) (b : Bool) (t rest : List ℕ) → is_some (other_source t) ≡ true → (None ≡ other_source rest → rest ≡ q) → None ≡ other_source (if b then t else rest) → (if b then t else rest) ≡ q
one_test q true t rest there more none = absurd (true≢false (sym there ∙ ap is_some (sym none)))
one_test q false t rest there more none = more none

own_in_part : (to from : Role) (q : List ℕ) → None ≡ other_source (renamed_in_part to from q) → renamed_in_part to from q ≡ q
unfolding renamed_in_part
own_in_part to from q =
    let author = if (is_part_of_book to && is_book from) && bytes_eq q (codes "bookauthor") then codes "author" else q in
    let subtitle = if (is_part to && is_volume from) && bytes_eq q (codes "booksubtitle") then codes "subtitle" else author in
    one_test q ((is_part to && is_volume from) && bytes_eq q (codes "booktitle")) (codes "title") subtitle refl
    (one_test q ((is_part to && is_volume from) && bytes_eq q (codes "booksubtitle")) (codes "subtitle") author refl
    (one_test q ((is_part_of_book to && is_book from) && bytes_eq q (codes "bookauthor")) (codes "author") q refl (λ none. refl)))

-- a field stands under its own name, unless that name is one of the others
pub own_source : (to from : Role) (q : List ℕ) → None ≡ other_source (source_name to from q) → source_name to from q ≡ q
own_source to from q none = by (is_xdata to || is_xdata from) none
  where
    by : (b : Bool) → None ≡ other_source (if b then q else renamed to from q) → (if b then q else renamed to from q) ≡ q
    by true nothing = refl
    by false nothing =
        let subtitle = if is_multi_volume from && bytes_eq q (codes "mainsubtitle") then codes "subtitle" else renamed_in_part to from q in
        let title = if is_multi_volume from && bytes_eq q (codes "maintitle") then codes "title" else subtitle in
        let journal = if is_periodical from && bytes_eq q (codes "journalsubtitle") then codes "subtitle" else title in
        one_test q (is_periodical from && bytes_eq q (codes "journaltitle")) (codes "title") journal refl
        (one_test q (is_periodical from && bytes_eq q (codes "journalsubtitle")) (codes "subtitle") title refl
        (one_test q (is_multi_volume from && bytes_eq q (codes "maintitle")) (codes "title") subtitle refl
        (one_test q (is_multi_volume from && bytes_eq q (codes "mainsubtitle")) (codes "subtitle") (renamed_in_part to from q) refl (own_in_part to from q)))) nothing
