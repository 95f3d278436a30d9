use Rattle.std.proofs.Common.{arith, ◌≡◌, ◌≤◌, ℕ, List, length, take, drop, ◌++◌, sym, ap, ◌∙◌, subst}
use Rattle.std.specs.Str.{chars, IsUtf8, drop_trailing_whitespace, trim_end}
use Rattle.std.proofs.lemmas.Str.{IsCharBoundary-from_take, chars-append}
use Rattle.std.proofs.lemmas.List.{take-append-drop}
use Rattle.laws.proofs.Text.{chars-text}
use Rattle.std.proofs.Math.Seq.{drop-append_seam}
use Rattle.literature_values.proofs.person.split_trailing.Goals as goal

-- the trimmed text is a prefix of the whole, as long as it is itself
prefix : (whole trimmed : List ℕ) (n : ℕ) → trimmed ≡ take n whole → length trimmed ≡ n → take (length trimmed) whole ≡ trimmed
prefix whole trimmed n is long = ap (λ (k : ℕ). take k whole) long ∙ sym is

pub split_at-requires : goal.split_at-requires
split_at-requires c =
    let whole = c.args.text.now in
    let trimmed = c.trim_end.result.now in
    let v = c.trim_end.ensures.value in
    let low : length trimmed ≤ length whole = omega arith in
    IsCharBoundary-from_take whole (length trimmed) c.utf8.text low (subst IsUtf8 (sym (prefix whole trimmed v.0 v.1 v.4)) c.trim_end.utf8)

pub returns-clause-trimmed : goal.returns-clause-trimmed
unfolding trim_end
returns-clause-trimmed c =
    let v = c.trim_end.ensures.value in
    ap chars (c.split_at.ensures.front ∙ prefix c.args.text.now c.trim_end.result.now v.0 v.1 v.4)
    ∙ chars-text c.trim_end.result.now (drop_trailing_whitespace (chars c.args.text.now)) c.trim_end.utf8 c.trim_end.ensures.trim

pub returns-clause-dropped : goal.returns-clause-dropped
unfolding trim_end
returns-clause-dropped c =
    let whole = c.args.text.now in
    let trimmed = c.trim_end.result.now in
    let v = c.trim_end.ensures.value in
    let back : List ℕ = drop (length trimmed) whole in
    let parts : trimmed ++ back ≡ whole = (λ i. sym (prefix whole trimmed v.0 v.1 v.4) i ++ back) ∙ take-append-drop (length trimmed) whole in
    let spelled : chars whole ≡ chars trimmed ++ chars back = sym (ap chars parts) ∙ chars-append trimmed back c.trim_end.utf8 in
    let same : chars trimmed ≡ drop_trailing_whitespace (chars whole) = chars-text trimmed (drop_trailing_whitespace (chars whole)) c.trim_end.utf8 c.trim_end.ensures.trim in
    ap chars c.split_at.ensures.back ∙ sym (drop-append_seam (chars trimmed) (chars back)) ∙ (λ i. drop (length (same i)) (sym spelled i))
