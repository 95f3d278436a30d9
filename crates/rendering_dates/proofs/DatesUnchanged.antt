-- Parts without changes are printed as they are, ranges without delimiters of their own have a dash, and ranges that are not merged print
-- both sides whole.
use Rattle.std.proofs.Common.{◌≡◌, ℕ, Bool, true, false, cond, List, [], ◌∷◌, ◌++◌, map, Option, Some, None, refl, sym, ap, ◌∙◌}
use Rattle.std.specs.Prelude.{if◌then◌else◌}
use Rattle.std.specs.List.{AllByRecursion, find}
use Rattle.std.specs.Option.{option_and_then, unwrap_or}
use Rattle.std.specs.Str.{bytes_eq}
use Rattle.literature_values.specs.declared.date.Date.{Date}
use Rattle.rendering_locale.specs.Locales.{Locale, DatePart}
use Rattle.rendering_page.specs.Pages.{Manner}
use Rattle.rendering_page.specs.Pieces.{normal}
use Rattle.rendering_dates.specs.Changes.{changed_part}
use Rattle.rendering_dates.specs.Dates.{DateShape, both_pieces, dash, date_pieces, differs_first, ended_pieces, range_delimiter, side_pieces, side_text}

pub unchanged_parts : (ps : List DatePart) → map (changed_part []) ps ≡ ps
unchanged_parts [] = refl
unchanged_parts (p ∷ ps) = ap (λ (qs : List DatePart). p ∷ qs) (unchanged_parts ps)

pub usual_delimiter : (first last : Date) (ps : List DatePart) → AllByRecursion (λ p. p.range_delimiter ≡ None) ps → range_delimiter first last ps ≡ dash
usual_delimiter first last [] all = refl
usual_delimiter first last (p ∷ ps) (none, rest) = by_test (differs_first first last p.form) (usual_delimiter first last ps rest)
  where
    by_test : (is : Bool) → range_delimiter first last ps ≡ dash
        → unwrap_or (option_and_then (λ (q : DatePart). q.range_delimiter) (cond is (Some p) (find (λ (q : DatePart). differs_first first last q.form) ps))) dash ≡ dash
    by_test true others = ap (λ (o : Option (List ℕ)). unwrap_or o dash) none
    by_test false others = others

-- a shape by which ranges are not merged
abbrev pub unmerged : DateShape → DateShape
unmerged shape = record shape { merges_ranges = false }

pub whole_ranges : (ls : List Locale) (m : Manner) (shape : DateShape) (year_suffix : List ℕ) (first last : Date)
    → both_pieces ls m (unmerged shape) year_suffix first last
    ≡ (if bytes_eq (side_text ls m shape first) (side_text ls m shape last)
    then side_pieces ls m shape year_suffix first
    else side_pieces ls m shape [] first ++ normal m (range_delimiter first last shape.parts) ∷ [] ++ side_pieces ls m shape year_suffix last)
whole_ranges ls m shape year_suffix first last = refl

-- a date that is no range is the same by both
pub alone_unmerged : (ls : List Locale) (m : Manner) (shape : DateShape) (year_suffix : List ℕ) (d : Date) → d.end ≡ None
    → date_pieces ls m shape year_suffix d ≡ date_pieces ls m (unmerged shape) year_suffix d
alone_unmerged ls m shape year_suffix d none = ap (ended_pieces ls m shape year_suffix d) none ∙ sym (ap (ended_pieces ls m (unmerged shape) year_suffix d) none)
