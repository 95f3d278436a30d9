-- Words of another length than those of a table.
use Rattle.std.proofs.Common.{◌≡◌, ℕ, Bool, true, false, true≢false, ◌&&◌, eqb, List, [], ◌∷◌, length, Option, None, refl, sym, ap, ◌∙◌}
use Rattle.std.proofs.lemmas.Bool.{and_parts, false_from_ne_true}
use Rattle.std.proofs.lemmas.Slice.Eq.{bytes_eq-Decides}
use Rattle.std.specs.Str.{bytes_eq}
use Rattle.csl_words.specs.Looking.{table, in_table}
use Rattle.csl_locales.specs.Endings.{number_of}
use Rattle.csl_locales.specs.declared.ordinals.TheConstants.{ORDINALS}

-- all words of a table have that length
abbrev are_long : {X : Type 0} → ℕ → List (List ℕ × X) → Bool
are_long n [] = true
are_long n (r ∷ rs) = eqb (length r.0) n && are_long n rs

-- such a table has nothing for a word of another one
not_in_table : {X : Type 0} (n : ℕ) (rows : List (List ℕ × X)) (t : List ℕ) → are_long n rows ≡ true → eqb (length t) n ≡ false → in_table rows t ≡ None
unfolding in_table
not_in_table n [] t long other = refl
not_in_table n (r ∷ rs) t long other =
    let parts = and_parts (eqb (length r.0) n) (are_long n rs) long in
    let differs : bytes_eq t r.0 ≡ false =
    false_from_ne_true (bytes_eq t r.0) (λ same. true≢false (sym parts.0 ∙ (ap (λ (w : List ℕ). eqb (length w) n) (sym ((bytes_eq-Decides t r.0).0 same)) ∙ other))) in
    rw differs (not_in_table n rs t parts.1 other)

-- no word of another length is that of a number
pub no_number : (t : List ℕ) → eqb (length t) 10 ≡ false → number_of t ≡ None
no_number t other = not_in_table 10 (table ORDINALS.now) t refl other
