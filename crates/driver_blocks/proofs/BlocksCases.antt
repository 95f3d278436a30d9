-- Cases of blocks and of what collapsing leaves, computed.
use Rattle.std.proofs.Common.{◌≡◌, ℕ, ◌+◌, Bool, true, false, ◌==◌, List, [], ◌∷◌, map, codes, refl, Option, Some, None}
use Rattle.rendering_taxonomy.specs.Formats.{plain}
use Rattle.literature_values.specs.PersonViews.{Named}
use Rattle.rendering_tree.specs.Metas.{Name, Names}
use Rattle.rendering_tree.specs.Trees.{Elem, Text, nothing, before}
use Rattle.rendering_style.specs.Styles.{Citation}
use Rattle.driver_blocks.specs.Blocks.{Gathered, are_alike_names, are_same_names, is_of_block}
use Rattle.driver_blocks.specs.Runs.{Arranged, runs_of}
use Rattle.rendering_dates.specs.Dates.{dash}
use Rattle.driver_blocks.specs.Collapsing.{arranged}
use Rattle.rendering_taxonomy.specs.declared.cite.CollapseVerdict.{CollapseVerdict}
use Rattle.rendering_taxonomy.specs.declared.cite.CollapseVerdict.TheVariants as verdicts
use Rattle.rendering_taxonomy.specs.declared.style.Collapse.{Collapse}
use Rattle.rendering_taxonomy.specs.declared.style.Collapse.TheVariants as collapses
use Rattle.rendering_taxonomy.specs.declared.variable.NameVariable.TheVariants as authors

rising : runs_of (λ m n. n == m + 1) (1 ∷ 2 ∷ 3 ∷ 5 ∷ 6 ∷ 6 ∷ []) ≡ (1 ∷ 2 ∷ 3 ∷ []) ∷ (5 ∷ 6 ∷ []) ∷ (6 ∷ []) ∷ []
rising = refl

-- a style that collapses, with a semicolon between cites
collapsing : Option Collapse → Option (List ℕ) → Citation → Citation
collapsing mode inside c = record c {
  layout = record c.layout { delimiter = Some (codes "; ") };
  collapse = mode;
  cite_group_delimiter = inside;
  after_collapse_delimiter = Some (codes "! ");
  year_suffix_delimiter = Some (codes ",");
  gathers_by_text = false;
  locators_end_runs = false;
  repeats_no_years = false;
}

-- a cite by a word, with names
named : ℕ → List ℕ → Gathered ℕ
named n cs = record {
  cite = n;
  names = Some (record { display = None; meta = None; children = before (Text plain cs) nothing });
  number = None;
  is_shown = true;
  has_locator = false;
  suffix = None;
}

-- a cite with a number
numbered : ℕ → Gathered ℕ
numbered n = record { cite = n; names = None; number = Some n; is_shown = true; has_locator = false; suffix = None }

-- a cite of Kwan with a year suffix
suffixed : ℕ → Gathered ℕ
suffixed n = record (named n (codes "Kwan")) { suffix = Some (record { index = n; origin = record { round = 0; class = 0 } }) }

-- what can be known of a cite in its citation
earlier : Arranged ℕ → ℕ × Bool × Option (List ℕ) × Option CollapseVerdict
earlier a = (a.cite.cite, a.is_shown, a.delimiter, a.verdict)

-- delimiters
semicolon : Option (List ℕ)
semicolon = Some (codes "; ")

comma : Option (List ℕ)
comma = Some (codes ",")

-- a cite that prints all, after something
all_after : ℕ → Option (List ℕ) → ℕ × Bool × Option (List ℕ) × Option CollapseVerdict
all_after n d = (n, true, d, None)

-- a cite that is hidden
hidden_after : ℕ → Option (List ℕ) → ℕ × Bool × Option (List ℕ) × Option CollapseVerdict
hidden_after n d = (n, false, d, None)

-- a cite of which the year suffix is left
suffixes_after : ℕ → Option (List ℕ) → ℕ × Bool × Option (List ℕ) × Option CollapseVerdict
suffixes_after n d = (n, true, d, Some verdicts.YearSuffix)

grouped :
    (c : Citation)
    → map earlier (arranged (collapsing None comma c) false (named 0 (codes "Kwan") ∷ named 1 (codes "Roe") ∷ named 2 (codes "Kwan") ∷ named 3 (codes "Roe") ∷ named 4 (codes "Kwan") ∷ []))
    ≡ all_after 0 semicolon ∷ all_after 2 comma ∷ all_after 4 comma ∷ all_after 1 semicolon ∷ all_after 3 comma ∷ []
unfolding earlier collapsing named all_after semicolon comma
grouped c = refl

not_grouped : (c : Citation) → map earlier (arranged (collapsing None None c) false (named 0 (codes "Kwan") ∷ named 1 (codes "Roe") ∷ named 2 (codes "Kwan") ∷ [])) ≡ all_after 0 semicolon ∷ all_after 1 semicolon ∷ all_after 2 semicolon ∷ []
unfolding earlier collapsing named all_after semicolon
not_grouped c = refl

three_numbers :
    (c : Citation)
    → map earlier (arranged (collapsing (Some collapses.CitationNumber) None c) false (numbered 2 ∷ numbered 3 ∷ numbered 4 ∷ numbered 6 ∷ []))
    ≡ all_after 2 semicolon ∷ hidden_after 3 semicolon ∷ all_after 4 (Some dash) ∷ all_after 6 (Some (codes "! ")) ∷ []
unfolding earlier collapsing numbered all_after hidden_after semicolon
three_numbers c = refl

two_numbers : (c : Citation) → map earlier (arranged (collapsing (Some collapses.CitationNumber) None c) false (numbered 1 ∷ numbered 2 ∷ [])) ≡ all_after 1 semicolon ∷ all_after 2 semicolon ∷ []
unfolding earlier collapsing numbered all_after semicolon
two_numbers c = refl

over_a_hidden_one :
    (c : Citation)
    → map earlier (arranged (collapsing (Some collapses.CitationNumber) None c) false (numbered 1 ∷ record (numbered 2) { is_shown = false } ∷ numbered 3 ∷ []))
    ≡ all_after 1 semicolon ∷ hidden_after 2 semicolon ∷ all_after 3 semicolon ∷ []
unfolding earlier collapsing numbered all_after hidden_after semicolon
over_a_hidden_one c = refl

-- a cite with a locator stands in a run, but where locators end runs
with_its_locator : ℕ → Gathered ℕ
with_its_locator n = record (numbered n) { has_locator = true }

ending_runs : Citation → Citation
ending_runs c = record (collapsing (Some collapses.CitationNumber) None c) { locators_end_runs = true }

over_a_locator :
    (c : Citation)
    → map earlier (arranged (collapsing (Some collapses.CitationNumber) None c) false (numbered 1 ∷ with_its_locator 2 ∷ numbered 3 ∷ [])) ≡ all_after 1 semicolon ∷ hidden_after 2 semicolon ∷ all_after 3 (Some dash) ∷ []
unfolding earlier collapsing numbered with_its_locator all_after hidden_after semicolon
over_a_locator c = refl

at_a_locator :
    (c : Citation) → map earlier (arranged (ending_runs c) false (numbered 1 ∷ with_its_locator 2 ∷ numbered 3 ∷ [])) ≡ all_after 1 semicolon ∷ all_after 2 semicolon ∷ all_after 3 semicolon ∷ []
unfolding earlier collapsing ending_runs numbered with_its_locator all_after semicolon
at_a_locator c = refl

-- the delimiter after what was collapsed comes before it
after_what_was_collapsed :
    (c : Citation)
    → map earlier (arranged (ending_runs c) false (numbered 1 ∷ numbered 2 ∷ numbered 3 ∷ with_its_locator 4 ∷ numbered 5 ∷ []))
    ≡ all_after 1 semicolon ∷ hidden_after 2 semicolon ∷ all_after 3 (Some dash) ∷ all_after 4 (Some (codes "! ")) ∷ all_after 5 semicolon ∷ []
unfolding earlier collapsing ending_runs numbered with_its_locator all_after hidden_after semicolon
after_what_was_collapsed c = refl

with_a_purpose :
    (c : Citation)
    → map earlier (arranged (collapsing (Some collapses.CitationNumber) None c) true (numbered 1 ∷ numbered 2 ∷ numbered 3 ∷ [])) ≡ all_after 1 semicolon ∷ all_after 2 semicolon ∷ all_after 3 semicolon ∷ []
unfolding earlier collapsing numbered all_after semicolon
with_a_purpose c = refl

years :
    (c : Citation)
    → map earlier (arranged (collapsing (Some collapses.Year) comma c) false (named 0 (codes "Kwan") ∷ named 1 (codes "Roe") ∷ named 2 (codes "Kwan") ∷ []))
    ≡ all_after 0 semicolon ∷ (2, true, comma, Some verdicts.First) ∷ all_after 1 (Some (codes "! ")) ∷ []
unfolding earlier collapsing named all_after semicolon comma
years c = refl

year_suffixes : (c : Citation) → map earlier (arranged (collapsing (Some collapses.YearSuffix) semicolon c) false (suffixed 0 ∷ suffixed 1 ∷ [])) ≡ all_after 0 semicolon ∷ suffixes_after 1 comma ∷ []
unfolding earlier collapsing named suffixed all_after suffixes_after semicolon comma
year_suffixes c = refl

range :
    (c : Citation)
    → map earlier (arranged (collapsing (Some collapses.YearSuffixRanged) semicolon c) false (suffixed 0 ∷ suffixed 1 ∷ suffixed 2 ∷ suffixed 3 ∷ []))
    ≡ all_after 0 semicolon ∷ (1, false, comma, Some verdicts.YearSuffix) ∷ (2, false, comma, Some verdicts.YearSuffix) ∷ suffixes_after 3 (Some dash) ∷ []
unfolding earlier collapsing named suffixed all_after suffixes_after semicolon comma
range c = refl

first_suffix_again :
    (c : Citation)
    → map earlier (arranged (collapsing (Some collapses.YearSuffixRanged) semicolon c) false (suffixed 1 ∷ suffixed 2 ∷ suffixed 0 ∷ []))
    ≡ all_after 1 semicolon ∷ suffixes_after 2 comma ∷ (0, true, semicolon, Some verdicts.First) ∷ []
unfolding earlier collapsing named suffixed all_after suffixes_after semicolon comma
first_suffix_again c = refl

with_a_locator :
    (c : Citation)
    → map earlier (arranged (collapsing (Some collapses.YearSuffixRanged) semicolon c) false (suffixed 0 ∷ record (suffixed 1) { has_locator = true } ∷ suffixed 2 ∷ []))
    ≡ all_after 0 semicolon ∷ suffixes_after 1 comma ∷ suffixes_after 2 comma ∷ []
unfolding earlier collapsing named suffixed all_after suffixes_after semicolon comma
with_a_locator c = refl

-- year suffixes that another class gave
of_another_class : ℕ → Gathered ℕ
of_another_class n = record (suffixed n) { suffix = Some (record { index = n; origin = record { round = 0; class = 1 } }) }

over_two_classes :
    (c : Citation)
    → map earlier (arranged (collapsing (Some collapses.YearSuffixRanged) semicolon c) false (suffixed 0 ∷ suffixed 1 ∷ of_another_class 2 ∷ []))
    ≡ all_after 0 semicolon ∷ suffixes_after 1 comma ∷ suffixes_after 2 comma ∷ []
unfolding earlier collapsing named suffixed of_another_class all_after suffixes_after semicolon comma
over_two_classes c = refl

-- of four works of one year the first, the third and the fourth: year suffixes with a gap are no run
with_a_gap :
    (c : Citation)
    → map earlier (arranged (collapsing (Some collapses.YearSuffixRanged) semicolon c) false (suffixed 0 ∷ suffixed 2 ∷ suffixed 3 ∷ []))
    ≡ all_after 0 semicolon ∷ suffixes_after 2 comma ∷ suffixes_after 3 comma ∷ []
unfolding earlier collapsing named suffixed all_after suffixes_after semicolon comma
with_a_gap c = refl

-- year suffixes that another round gave
of_another_round : ℕ → Gathered ℕ
of_another_round n = record (suffixed n) { suffix = Some (record { index = n; origin = record { round = 1; class = 0 } }) }

over_two_rounds :
    (c : Citation)
    → map earlier (arranged (collapsing (Some collapses.YearSuffixRanged) semicolon c) false (suffixed 0 ∷ suffixed 1 ∷ of_another_round 2 ∷ []))
    ≡ all_after 0 semicolon ∷ suffixes_after 1 comma ∷ suffixes_after 2 comma ∷ []
unfolding earlier collapsing named suffixed of_another_round all_after suffixes_after semicolon comma
over_two_rounds c = refl

-- a hidden cite ends a run of year suffixes
hidden_suffix :
    (c : Citation)
    → map earlier (arranged (collapsing (Some collapses.YearSuffixRanged) semicolon c) false (suffixed 0 ∷ record (suffixed 1) { is_shown = false } ∷ suffixed 2 ∷ []))
    ≡ all_after 0 semicolon ∷ (1, false, comma, Some verdicts.YearSuffix) ∷ suffixes_after 2 comma ∷ []
unfolding earlier collapsing named suffixed all_after suffixes_after semicolon comma
hidden_suffix c = refl

-- a style in which no years repeat
repeating_none : Citation → Citation
repeating_none c = record (collapsing (Some collapses.YearSuffix) semicolon c) { repeats_no_years = true }

first_suffix_last : (c : Citation) → map earlier (arranged (repeating_none c) false (suffixed 1 ∷ suffixed 0 ∷ [])) ≡ all_after 1 semicolon ∷ suffixes_after 0 comma ∷ []
unfolding earlier collapsing repeating_none named suffixed all_after suffixes_after semicolon comma
first_suffix_last c = refl

-- after a year suffix of another class the year stands again
year_again :
    (c : Citation)
    → map earlier (arranged (repeating_none c) false (suffixed 0 ∷ of_another_class 1 ∷ suffixed 1 ∷ []))
    ≡ all_after 0 semicolon ∷ (1, true, semicolon, Some verdicts.First) ∷ (1, true, semicolon, Some verdicts.First) ∷ []
unfolding earlier collapsing repeating_none named suffixed of_another_class all_after semicolon comma
year_again c = refl

-- a hidden cite shows no year
after_a_hidden_year :
    (c : Citation)
    → map earlier (arranged (repeating_none c) false (record (suffixed 0) { is_shown = false } ∷ suffixed 1 ∷ record (suffixed 2) { is_shown = false } ∷ suffixed 3 ∷ []))
    ≡ hidden_after 0 semicolon ∷ (1, true, semicolon, Some verdicts.First) ∷ (2, false, comma, Some verdicts.YearSuffix) ∷ suffixes_after 3 comma ∷ []
unfolding earlier collapsing repeating_none named suffixed hidden_after suffixes_after semicolon comma
after_a_hidden_year c = refl

-- the delimiter after what was collapsed comes before numbers alone
before_no_number :
    (c : Citation)
    → map earlier (arranged (collapsing (Some collapses.CitationNumber) None c) false (numbered 1 ∷ numbered 2 ∷ numbered 3 ∷ record (numbered 9) { number = None } ∷ []))
    ≡ all_after 1 semicolon ∷ hidden_after 2 semicolon ∷ all_after 3 (Some dash) ∷ all_after 9 semicolon ∷ []
unfolding earlier collapsing numbered all_after hidden_after semicolon
before_no_number c = refl

-- cites without names are no block
no_names : are_same_names None None ≡ false
no_names = refl

-- where cites are not gathered by the text, those with the same names are of one block
by_the_same_names : {X : Type 0} (x y : Gathered X) → is_of_block false x y ≡ are_same_names x.names y.names
by_the_same_names x y = refl

-- a person by the family name, and two names elements that name others and print the same
person : List ℕ → Named
person cs = record { name = cs; given_name = None; prefix = None; suffix = None }

naming : List ℕ → ℕ → Gathered ℕ
naming cs n = record (named n (codes "Kwan et al.")) {
  names = Some (record {
    display = None;
    meta = Some (Names ((person (codes "Kwan") ∷ person cs ∷ [], authors.Author) ∷ []));
    children = before (Text plain (codes "Kwan et al.")) nothing;
  });
}

by_people :
    (c : Citation)
    → map earlier (arranged (collapsing None comma c) false (naming (codes "Li") 0 ∷ naming (codes "Roe") 1 ∷ naming (codes "Li") 2 ∷ [])) ≡ all_after 0 semicolon ∷ all_after 2 comma ∷ all_after 1 semicolon ∷ []
unfolding earlier collapsing naming person named all_after semicolon comma
by_people c = refl

-- a person with a given name, and a cite that prints the family name of the first of two people and no more
given : List ℕ → Named
given cs = record { name = codes "Kwan"; given_name = Some cs; prefix = None; suffix = None }

showing : List ℕ → List ℕ → ℕ → Gathered ℕ
showing first second n = record (named n (codes "Kwan et al.")) {
  names = Some (record {
    display = None;
    meta = Some (Names ((given first ∷ given second ∷ [], authors.Author) ∷ []));
    children = before (Elem None (Some (Name authors.Author 0)) (before (Text plain (codes "Kwan")) nothing)) nothing;
  });
}

-- whoever is left out does not count where cites are gathered by the text, and the given names of who is printed do
by_text : is_of_block true (showing (codes "Li") (codes "Bo") 0) (showing (codes "Li") (codes "Wu") 1) ≡ true
unfolding showing given named lib.Utf8.encode
by_text = refl

by_shown : is_of_block true (showing (codes "Li") (codes "Bo") 0) (showing (codes "Wu") (codes "Bo") 1) ≡ false
unfolding showing given named lib.Utf8.encode
by_shown = refl

-- nor are they where cites are gathered by the text
no_names_by_text : are_alike_names None None ≡ false
no_names_by_text = refl
