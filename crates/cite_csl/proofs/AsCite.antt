-- What is written is what `cite` writes for the bib texts as one.
use Rattle.std.proofs.Common.{◌≡◌, ℕ, Bool, true, false, List, map, chars, if◌then◌else◌, Result, Ok, Err, refl, sym, ap, subst, ◌∙◌}
use Rattle.laws.specs.Results.{◌>>=◌}
use Rattle.laws.specs.Text.{text, is_filled}
use Rattle.laws.proofs.Results.{ok_is}
use Rattle.cite_markers.specs.Document.{Piece}
use Rattle.driver.specs.Finish.{Rendered}
use Rattle.rendering_locale.specs.Locales.{Locale}
use Rattle.cite_output.specs.Output.{output_text}
use Rattle.biblatex.specs.Listed.{Listed}
use Rattle.cite.specs.Verdict.{Task, verdict, rendered_stage, IsVerdict}
use Rattle.cite_order.specs.Order.{Setting, has_keys, rendered_in_order}
use Rattle.cite_order.proofs.Stages.{keyless}
use Rattle.cite_requests.specs.Stages.{Refusal, document_stage, library_stage, IsRead}
use Rattle.cite_requests.specs.Works.{Works}
use Rattle.cite_csl_command.specs.Command.{Asked}
use Rattle.cite_csl.specs.Run.{Made, made, IsMade, IsMadeIn, IsOutput, IsCiteOutput, AreTypographic, IsTypographicVerdict, output_of, strict, task_in}
use Rattle.cite_csl_styles.specs.FeatureLines.{feature_lines}
use Rattle.cite_csl.specs.Names.{document_lines, rendered_lines}
use Rattle.cite_csl_styles.specs.Sheets.{Sheet, IsSheet, AreLocales, sorting_of}
use Rattle.cite_csl.specs.Run.{context_in, setting_in}
use Rattle.cite_csl_styles.specs.Sources.{Reads, file_at, files_at, joined}
use Rattle.cite_csl_styles.specs.Stages.{Lines}
use Rattle.cite_csl.specs.Works.{bib_lines, said_by, typographic_stage}

-- what a stage gives is said by it
given : {X : Type 0} (lines : Refusal → Lines) (r : Result X Refusal) (x : X) → Ok x ≡ said_by lines r → Ok x ≡ r
given lines (Ok y) x is = cc
given lines (Err refusal) x is = absurd cc

-- a style that is taken is the one that was found
unchanged : (filled : Bool) (lines : Lines) (s found : Sheet) → Ok s ≡ (if filled then Err lines else Ok found) → found ≡ s
unchanged true lines s found is = absurd cc
unchanged false lines s found is = sym (ok_is s found is)

taken : (is_strict : Bool) (s found : Sheet) → Ok s ≡ strict is_strict found → found ≡ s
taken true s found is = unchanged (is_filled (feature_lines found)) (feature_lines found) s found is
taken false s found is = sym (ok_is s found is)

-- two stages, of which the lines do not count
after : {P Q : Type 0} (p : P) (lines : Refusal → Lines) (r : Result Q Refusal) (put : P → Q → List ℕ) (o : List ℕ)
    → Ok o ≡ (said_by lines r >>= λ q. Ok (put p q)) → Ok o ≡ (r >>= λ q. Ok (put p q))
after p lines (Ok q) put o is = ap (λ (t : List ℕ). Ok t) (ok_is o (put p q) is)
after p lines (Err refusal) put o is = absurd cc

both : {P Q : Type 0} (first : Refusal → Lines) (d : Result P Refusal) (second : P → Refusal → Lines) (next : P → Result Q Refusal) (put : P → Q → List ℕ) (o : List ℕ)
    → Ok o ≡ (said_by first d >>= λ p. said_by (second p) (next p) >>= λ q. Ok (put p q)) → Ok o ≡ (d >>= λ p. next p >>= λ q. Ok (put p q))
both first (Ok p) second next put o is = after p (second p) (next p) put o is
both first (Err refusal) second next put o is = absurd cc

-- what a document comes to is its verdict
verdict_is : (read : Reads) (a : Asked) (s : Setting) (works : Works) (o : List ℕ) → has_keys s.sorting ≡ false
    → Ok o ≡ output_of a (file_at read a.document) s works → Ok o ≡ verdict (Ok works) (task_in read a s.context)
unfolding verdict
verdict_is read a s works o none is =
    let d = file_at read a.document in
    let unsorted : (pieces : List Piece) → rendered_in_order works s (map chars a.sections) pieces ≡ rendered_stage works s.context (map chars a.sections) pieces = λ pieces. keyless works s (map chars a.sections) pieces none in
    both (document_lines d) (document_stage d.bytes) (rendered_lines d works) (rendered_in_order works s (map chars a.sections)) (λ pieces rendered. text (output_text a.format pieces rendered)) o is
    ∙ ap (λ (next : List Piece → Result Rendered Refusal). document_stage d.bytes >>= λ pieces. next pieces >>= λ rendered. Ok (text (output_text a.format pieces rendered))) (λ i pieces. unsorted pieces i)

-- where the texts are so already, it is the verdict for the bib texts
typographic_works : (bib : List ℕ) (r : Result Listed Refusal) → IsRead bib r → AreTypographic bib → (r >>= typographic_stage) ≡ (r >>= library_stage)
typographic_works bib (Ok file) is_read same = ap library_stage (same file is_read)
typographic_works bib (Err refusal) is_read same = refl

as_written : (bib : List ℕ) (task : Task) (answer : Result (List ℕ) Refusal) → IsTypographicVerdict bib task answer → AreTypographic bib → IsVerdict bib task answer
as_written bib task answer (r, is_read, is) same =
    (r >>= library_stage, (r, is_read, refl), is ∙ ap (λ (works : Result Works Refusal). verdict works task) (typographic_works bib r is_read same))

-- the output in a style is a verdict
in_style : (read : Reads) (a : Asked) (s : Sheet) (m : Made) → IsOutput read a s (Ok m) → (locales : List Locale) × AreLocales s.words (files_at read a.locales) (Ok locales)
    × (has_keys (sorting_of s) ≡ false → IsTypographicVerdict (joined (files_at read a.bibs)) (task_in read a (context_in a s locales)) (Ok m.output))
in_style read a s m (Err lines, _, bad) = absurd cc
in_style read a s m (Ok locales, are_locales, (Err lines, _, bad)) = absurd cc
in_style read a s m (Ok locales, are_locales, (Ok o, (Err lines, _, bad), made_is)) = absurd cc
in_style read a s m (Ok locales, are_locales, (Ok o, (Ok works, (r, is_read, works_is), output_is), made_is)) =
    let bib = joined (files_at read a.bibs) in
    let task = task_in read a (context_in a s locales) in
    let is = given (bib_lines (files_at read a.bibs)) (r >>= typographic_stage) works works_is in
    let written : o ≡ m.output = ap (λ (n : Made). n.output) (sym (ok_is m (made a s locales o) made_is)) in
    let typographic : has_keys (sorting_of s) ≡ false → IsTypographicVerdict bib task (Ok o) =
    λ none. (r, is_read, verdict_is read a (setting_in a s locales) works o none output_is ∙ ap (λ (w : Result Works Refusal). verdict w task) is) in
    (locales, are_locales, λ none. subst (λ (x : List ℕ). IsTypographicVerdict bib task (Ok x)) written (typographic none))

-- the output of a run is one of cite
by_sheet : (read : Reads) (a : Asked) (m : Made) (found : Sheet) → IsSheet read a.style (Ok found) → IsMadeIn read a found (Ok m) → IsCiteOutput read a m.output
by_sheet read a m found is_sheet (Err lines, _, bad) = absurd cc
by_sheet read a m found is_sheet (Ok s, is_taken, is_output) =
    let same = taken a.is_strict s found is_taken in
    let style = in_style read a s m is_output in
    let bib = joined (files_at read a.bibs) in
    let task = task_in read a (context_in a s style.0) in
    record {
      sheet = s;
      locales = style.0;
      is_sheet = subst (λ (x : Sheet). IsSheet read a.style (Ok x)) same is_sheet;
      are_locales = style.1;
      is_verdict = λ none. (style.2 none, as_written bib task (Ok m.output) (style.2 none));
    }

pub as_cite : (read : Reads) (a : Asked) (m : Made) → IsMade read a (Ok m) → IsCiteOutput read a m.output
as_cite read a m (Err lines, _, bad) = absurd cc
as_cite read a m (Ok u, _, (Err lines, _, bad)) = absurd cc
as_cite read a m (Ok u, _, (Ok found, is_sheet, is_made)) = by_sheet read a m found is_sheet is_made
