-- Numbers grouped one after the other.
use Rattle.std.proofs.Common.{◌≡◌, ℕ, ◌+◌, ◌<◌, true, false, List, [], ◌∷◌, ◌++◌, length, drop, get_or, Option, None, Result, Ok, Err, ℤ, refl, sym, ap, append_assoc, append-nil, drop-cons, add-one}
use Rattle.laws.specs.Results.{◌>>=◌}
use Rattle.literature_numbers.specs.Numerics.{Numbers}
use Rattle.literature_numbers.specs.Pages.{Part, is_hyphen, opened, closed, pages_from}
use Rattle.literature_numbers.specs.declared.separator.NumericDelimiter.{NumericDelimiter}
use Rattle.texts.specs.declared.reader.Unreadable.{Unreadable}

-- what the numbers that are left make of the parts so far, where a range may be open
abbrev pub pages_onto : List Part → Option ℤ → Numbers → Result (List Part) Unreadable
pages_onto ps first ns = pages_from first ns >>= λ qs. Ok (ps ++ qs)

-- at the start there are no parts
pub pages_onto-none : (first : Option ℤ) (ns : Numbers) → pages_onto [] first ns ≡ pages_from first ns
pages_onto-none first ns = same (pages_from first ns)
  where
    same : (r : Result (List Part) Unreadable) → (r >>= λ qs. Ok ([] ++ qs)) ≡ r
    same (Ok qs) = refl
    same (Err e) = refl

-- one number is taken of those that are left
pub taken : (ns : Numbers) (i : ℕ) (d : ℤ × Option NumericDelimiter) → i < length ns → drop i ns ≡ get_or ns i d ∷ drop (i + 1) ns
taken ns i d below = rw add-one (drop-cons ns i d below)

-- dashes open a range
pub pages_onto-opened : (ps : List Part) (first f : Option ℤ) (n : ℤ × Option NumericDelimiter) (ns : Numbers) → is_hyphen n.1 ≡ true → opened first n.0 ≡ Ok f
    → pages_onto ps first (n ∷ ns) ≡ pages_onto ps f ns
pages_onto-opened ps first f n ns hyphen is = rw (hyphen, is) refl

-- a second range cannot be opened
pub pages_onto-err : (ps : List Part) (first : Option ℤ) (e : Unreadable) (n : ℤ × Option NumericDelimiter) (ns : Numbers) → is_hyphen n.1 ≡ true → opened first n.0 ≡ Err e
    → pages_onto ps first (n ∷ ns) ≡ Err e
pages_onto-err ps first e n ns hyphen is = rw (hyphen, is) refl

-- a page or range is complete
pub pages_onto-closed : (ps : List Part) (first : Option ℤ) (n : ℤ × Option NumericDelimiter) (ns : Numbers) → is_hyphen n.1 ≡ false
    → pages_onto ps first (n ∷ ns) ≡ pages_onto (ps ++ closed first n) None ns
pages_onto-closed ps first n ns other = rw other (same (pages_from None ns))
  where
    same : (r : Result (List Part) Unreadable) → ((r >>= λ qs. Ok (closed first n ++ qs)) >>= λ qs. Ok (ps ++ qs)) ≡ (r >>= λ qs. Ok ((ps ++ closed first n) ++ qs))
    same (Ok qs) = ap (λ (x : List Part). Ok x) (sym (append_assoc ps (closed first n) qs))
    same (Err e) = refl

-- no number is left
pub pages_onto-end : (ps : List Part) → pages_onto ps None [] ≡ Ok ps
pages_onto-end ps = ap (λ (x : List Part). Ok x) (append-nil ps)
