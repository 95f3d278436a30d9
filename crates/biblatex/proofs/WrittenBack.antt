-- What is written of settled entries reads back.
use Rattle.std.proofs.Common.{◌≡◌, true, ℕ, List, Result, Ok, Err, String, Global, string_bytes, ap, sym, subst, ◌∙◌}
use Rattle.std.specs.Prelude.{IfOk, OnOk}
use Rattle.std.specs.List.{AllByRecursion}
use Rattle.biblatex_entries.specs.Entries.{Source}
use Rattle.biblatex_writing.specs.Settled.{is_settled}
use Rattle.biblatex_writing.specs.Texts.{IsText}
use Rattle.biblatex_writing.specs.Written.{written_file}
use Rattle.biblatex_reading_back.specs.ReadingBack.{ReadsBack}
use Rattle.biblatex_reading_back.proofs.SettledBack.{reads_back}

-- the entries that were written are made of characters
back : (es fs : List Source) → fs ≡ es → AllByRecursion IsText fs → is_settled es ≡ true → ReadsBack (written_file es) es
back es fs same text settled = reads_back es settled (subst (λ (xs : List Source). AllByRecursion IsText xs) same text)

pub text_reads_back : {E : Type 0} (es fs : List Source) (r : Result (String Global) E) → fs ≡ es → AllByRecursion IsText fs → IfOk r (λ s. string_bytes s ≡ written_file fs)
    → IfOk r (λ s. is_settled es ≡ true → ReadsBack (string_bytes s) es)
text_reads_back es fs (Ok s) same text is = λ settled. subst (λ (bytes : List ℕ). ReadsBack bytes es) (sym (is ∙ ap written_file same)) (back es fs same text settled)
text_reads_back es fs (Err e) same text is = tt

pub file_reads_back : {A E : Type 0} (es fs : List Source) (r : Result A E) → fs ≡ es → AllByRecursion IsText fs → OnOk r (is_settled es ≡ true → ReadsBack (written_file es) es)
file_reads_back es fs (Ok a) same text = back es fs same text
file_reads_back es fs (Err e) same text = tt
