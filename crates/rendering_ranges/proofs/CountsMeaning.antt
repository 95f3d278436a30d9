-- What is printed of a second count means the same page: with the front of the first number before it, it has all its digits.
use Rattle.std.proofs.Common.{◌≡◌, ℕ, zero, suc, ◌+◌, ◌-◌, ◌%◌, ◌^◌, ◌<◌, ◌≤◌, max, Bool, true, false, cond, ◌||◌, nat_eq, nat_lt, ◌==◌, List, [], ◌∷◌, ◌++◌, length, take, drop, refl, sym, ap, subst, ◌∙◌, arith, eqb-true, le_refl}
use Rattle.std.specs.Fmt.{decimal}
use Rattle.std.specs.List.{common_prefix_len}
use Rattle.std.specs.Str.Parse.{AllDigits, digits_value}
use Rattle.std.proofs.lemmas.Bool.{le-ltb}
use Rattle.std.proofs.lemmas.Fmt.{decimal_nonempty, digits_decimal, digits_value-decimal, length-decimal-le}
use Rattle.std.proofs.lemmas.List.{length-drop, take-append-drop}
use Rattle.std.proofs.lemmas.Str.Parse.{IsNumeralModel, digits_value_short, numerals_by_value, tells_digits}
use Rattle.rendering_ranges.specs.Counts.{fronted, lent, shortened}
use Rattle.rendering_ranges.specs.Digits.{changing, last_digits, three_of_four}
use Rattle.rendering_ranges.specs.Formats.{chicago, printed}
use Rattle.rendering_ranges.specs.Laws.{SecondNumbersMeanTheirPage}
use Rattle.rendering_taxonomy.specs.declared.page.PageRangeFormat.{PageRangeFormat}
use Rattle.rendering_taxonomy.specs.declared.page.PageRangeFormat.TheVariants as formats

-- numbers that are not less have as many digits at least
decimals : IsNumeralModel (AllDigits 10) (digits_value 10)
decimals = numerals_by_value (AllDigits 10) tells_digits

below_power : (n : ℕ) → n < 2 ^ 64 → n < 10 ^ length (decimal n)
below_power n small =
    let k = length (decimal n) in
    let shown : digits_value 10 (decimal n) < 10 ^ k = digits_value_short decimals (decimal n) k (digits_decimal decimals n small) (le_refl _) in
    subst (λ (m : ℕ). m < 10 ^ k) (digits_value-decimal decimals n small) shown

longer : (a b : ℕ) → a ≤ b → b < 2 ^ 64 → length (decimal a) ≤ length (decimal b)
longer a b le small =
    let above : a < 10 ^ length (decimal b) = omega (arith, below_power b small) in
    length-decimal-le (length (decimal b)) a (decimal_nonempty b small) above (omega arith)

-- no format prints fewer digits than change
chicago_enough : (all : Bool) (first : ℕ) (ds es : List ℕ) → changing ds es ≤ chicago all first ds es
chicago_enough all first ds es = by (nat_lt first 100 || first % 100 == 0) (nat_lt (first % 100) 10) all
  where
    by : (hundred near whole : Bool)
        → changing ds es ≤ cond hundred (length es) (cond near (max (changing ds es) 1) (cond whole (length es) (max (changing ds es) 2)))
    by true near whole = omega arith
    by false true whole = omega arith
    by false false true = omega arith
    by false false false = omega arith

enough : (format : PageRangeFormat) (first : ℕ) (ds es : List ℕ) → changing ds es ≤ printed format first ds es
enough formats.Expanded first ds es = omega arith
enough formats.Minimal first ds es = omega arith
enough formats.MinimalTwo first ds es = omega arith
enough formats.Chicago15 first ds es = chicago_enough (three_of_four ds es) first ds es
enough formats.Chicago16 first ds es = chicago_enough false first ds es

-- what two numbers begin with in common
common : (j : ℕ) (ds es : List ℕ) → j ≤ common_prefix_len nat_eq ds es → take j ds ≡ take j es
common zero ds es le = refl
common (suc j) [] es le = absurd (omega arith)
common (suc j) (d ∷ ds) [] le = absurd (omega arith)
common (suc j) (d ∷ ds) (e ∷ es) le = by (common j ds es) (nat_eq d e) (eqb-true d e) le
  where
    by : (j ≤ common_prefix_len nat_eq ds es → take j ds ≡ take j es) → (same : Bool) → (same ≡ true → d ≡ e)
        → suc j ≤ cond same (1 + common_prefix_len nat_eq ds es) 0 → d ∷ take j ds ≡ e ∷ take j es
    by rest true is more =
        let front : take j ds ≡ take j es = rest (omega arith) in
        λ i. is refl i ∷ front i
    by rest false is more = absurd (omega arith)

-- the last digits with the front of another number before them, where the digits before them are the same
put_back : (ds es : List ℕ) (j k : ℕ) → k ≡ j → take j ds ≡ take j es → take k ds ++ drop j es ≡ es
put_back ds es j k same front =
    ap (λ (n : ℕ). take n ds ++ drop j es) same ∙ ap (λ (xs : List ℕ). xs ++ drop j es) front ∙ take-append-drop j es

shown : (ds es : List ℕ) (n : ℕ) → length ds ≤ length es → changing ds es ≤ n → fronted ds (last_digits n es) ≡ es
shown ds es n le enough = by (length ds == length es) (eqb-true (length ds) (length es)) enough
  where
    left : length (drop (length es - n) es) ≡ length es - (length es - n)
    left = length-drop (length es - n) es

    by : (same : Bool) → (same ≡ true → length ds ≡ length es) → length es - cond same (common_prefix_len nat_eq ds es) 0 ≤ n
        → fronted ds (last_digits n es) ≡ es
    by true is few =
        let equal : length ds ≡ length es = is refl in
        let at : length ds - length (drop (length es - n) es) ≡ length es - n = omega (arith, equal, left) in
        put_back ds es (length es - n) _ at (common (length es - n) ds es (omega (arith, few)))
    by false is all =
        let none : length es - n ≡ 0 = omega (arith, all) in
        let at : length ds - length (drop (length es - n) es) ≡ length es - n = omega (arith, none, left, le) in
        put_back ds es (length es - n) _ at (ap (λ (i : ℕ). take i ds) none ∙ ap (λ (i : ℕ). take i es) (sym none))

-- whatever is printed of a second number that does not come before the first one, its page is the same
pub same_page : SecondNumbersMeanTheirPage
same_page format first second small also at_least =
    let ds = decimal first in
    let es = decimal (lent first second) in
    let fits : lent first second < 2 ^ 64 = omega arith in
    ap (λ (b : Bool). fronted ds (cond b (decimal second) (shortened format first ds es))) (le-ltb (lent first second) first at_least)
    ∙ shown ds es (printed format first ds es) (longer first (lent first second) at_least fits) (enough format first ds es)
