-- The words of the grammar are those that the reader looks up.
use Rattle.std.proofs.Common.{◌≡◌, ℕ, true, true≢false, List, ◌∷◌, ◌++◌, Some, Ok, refl, sym, ap, ◌∙◌}
use Rattle.std.specs.Str.{bytes_eq}
use Rattle.std.proofs.lemmas.Slice.Eq.{bytes_eq-Decides}
use Rattle.std.proofs.lemmas.Str.{encodes_same}
use Rattle.laws.specs.Runs.{prefix_of, after}
use Rattle.laws.specs.Text.{text as text_of}
use Rattle.laws.proofs.Results.{bind_ok, ok_is}
use Rattle.laws.proofs.Runs.{prefix-after}
use Rattle.texts.specs.Reading.{token_at, taken}
use Rattle.texts.specs.declared.reader.Unreadable.{Unreadable}
use Rattle.rendering_taxonomy.specs.declared.cite.CitePurpose.{CitePurpose}
use Rattle.rendering_taxonomy.specs.declared.cite.CitePurpose.TheVariants as purposes
use Rattle.rendering_taxonomy.specs.declared.locator.Locator.{Locator}
use Rattle.rendering_taxonomy.specs.declared.locator.Locator.TheVariants as labels
use Rattle.cite_markers.specs.Character.{passes}
use Rattle.cite_markers.specs.Words.{purpose_word, all_purposes, purpose_of, label_word, all_labels, label_of}
use Rattle.cite_markers.specs.Marker.{word_at, purpose_at, purpose_if_no_sign}
use Rattle.cite_markers_grammar.specs.Words.{written_purpose, written_label, is_named}
use Rattle.cite_markers_grammar.proofs.Classes.{of_word}
use Rattle.cite_markers_grammar.proofs.Steps.{token-takes, find-passes, find-holds}

-- the word of each purpose and of each label is read, looked up, and written as it is
pub purpose_read : (p : CitePurpose) (rest : List ℕ) → purpose_if_no_sign (taken 64 (written_purpose p ++ 32 ∷ 64 ∷ rest)) ≡ Ok (Some p, rest)
unfolding purpose_at word_at purpose_of passes lib.Utf8.encode
purpose_read purposes.Author rest = refl
purpose_read purposes.Year rest = refl
purpose_read purposes.Full rest = refl
purpose_read purposes.Prose rest = refl

purpose_same : (p : CitePurpose) → purpose_word p ≡ written_purpose p
purpose_same purposes.Author = refl
purpose_same purposes.Year = refl
purpose_same purposes.Full = refl
purpose_same purposes.Prose = refl

purpose_bytes : (p : CitePurpose) → text_of (written_purpose p) ≡ written_purpose p
unfolding lib.Utf8.encode
purpose_bytes purposes.Author = refl
purpose_bytes purposes.Year = refl
purpose_bytes purposes.Full = refl
purpose_bytes purposes.Prose = refl

pub label_read : (l : Locator) (rest : List ℕ) → word_at (written_label l ++ 32 ∷ rest) ≡ Ok (written_label l, rest)
unfolding word_at passes lib.Utf8.encode
label_read labels.Act rest = refl
label_read l rest = refl

-- a label that markers name is found by its word
pub label_found : (l : Locator) → is_named l ≡ true → label_of (written_label l) ≡ Some l
unfolding label_of
label_found labels.Act named = absurd (true≢false (sym named))
label_found labels.Appendix named = absurd (true≢false (sym named))
label_found labels.ArticleLocator named = absurd (true≢false (sym named))
label_found labels.Canon named = absurd (true≢false (sym named))
label_found labels.Elocation named = absurd (true≢false (sym named))
label_found labels.Equation named = absurd (true≢false (sym named))
label_found labels.Rule named = absurd (true≢false (sym named))
label_found labels.Scene named = absurd (true≢false (sym named))
label_found labels.Table named = absurd (true≢false (sym named))
label_found labels.Timestamp named = absurd (true≢false (sym named))
label_found labels.TitleLocator named = absurd (true≢false (sym named))
label_found labels.Version named = absurd (true≢false (sym named))
label_found l named = refl

-- markers name what is found
pub label_named : (word : List ℕ) (l : Locator) → label_of word ≡ Some l → is_named l ≡ true
unfolding label_of
label_named word l e = find-holds is_named (λ m. bytes_eq word (label_word m)) all_labels l refl e

label_same : (l : Locator) → label_word l ≡ written_label l
label_same labels.Act = refl
label_same l = refl

label_bytes : (l : Locator) → text_of (written_label l) ≡ written_label l
unfolding lib.Utf8.encode
label_bytes labels.Act = refl
label_bytes l = refl

-- a word that was read stands there, with a space after it
word-takes : (cs word : List ℕ) (w : List ℕ × List ℕ) → word_at cs ≡ Ok w → w.0 ≡ word → text_of word ≡ word → cs ≡ word ++ 32 ∷ w.1
unfolding word_at
word-takes cs word w e is bytes =
    let run : List ℕ = prefix_of (passes of_word) cs in
    let end = bind_ok (token_at 32 (after (passes of_word) cs)) (λ rest. Ok (text_of run, rest)) w e in
    let behind : after (passes of_word) cs ≡ 32 ∷ end.0 = token-takes 32 (after (passes of_word) cs) end.0 end.1 in
    let pair : (text_of run, end.0) ≡ w = ok_is {F = Unreadable} (text_of run, end.0) w end.2 in
    let same : run ≡ word = encodes_same run word (ap (λ (p : List ℕ × List ℕ). p.0) pair ∙ (is ∙ sym bytes)) in
    prefix-after (passes of_word) cs ∙ (λ j. same j ++ behind j) ∙ ap (λ (x : List ℕ). word ++ 32 ∷ x) (ap (λ (p : List ℕ × List ℕ). p.1) pair)

pub purpose-takes : (cs : List ℕ) (w : List ℕ × List ℕ) (p : CitePurpose) → word_at cs ≡ Ok w → purpose_of w.0 ≡ Some p → cs ≡ written_purpose p ++ 32 ∷ w.1
unfolding purpose_of
purpose-takes cs w p e is =
    let same : w.0 ≡ purpose_word p = (bytes_eq-Decides w.0 (purpose_word p)).0 (find-passes (λ p. bytes_eq w.0 (purpose_word p)) all_purposes p is) in
    word-takes cs (written_purpose p) w e (same ∙ purpose_same p) (purpose_bytes p)

pub label-takes : (cs : List ℕ) (w : List ℕ × List ℕ) (l : Locator) → word_at cs ≡ Ok w → label_of w.0 ≡ Some l → cs ≡ written_label l ++ 32 ∷ w.1
unfolding label_of
label-takes cs w l e is =
    let same : w.0 ≡ label_word l = (bytes_eq-Decides w.0 (label_word l)).0 (find-passes (λ l. bytes_eq w.0 (label_word l)) all_labels l is) in
    word-takes cs (written_label l) w e (same ∙ label_same l) (label_bytes l)
