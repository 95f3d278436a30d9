-- Where a reader stands in its source, after it took a prefix of what was left.
use Rattle.std.proofs.Common.{◌≡◌, ℕ, ◌+◌, ◌-◌, ◌≤◌, List, ◌++◌, length, drop, refl, sym, ap, ◌∙◌, subst, arith}
use Rattle.std.specs.Prelude.{slice_range}
use Rattle.std.specs.Str.{IsUtf8, IsCharBoundary}
use Rattle.std.proofs.Math.Seq.{drop-drop, take_at, drop_at}
use Rattle.std.proofs.lemmas.List.{length-append}
use Rattle.std.proofs.lemmas.Str.{IsCharBoundary-from_drop}
use Rattle.biblatex_text.specs.Span.{IsSlice}

-- the rest is the end of the source, and a text by itself
pub record Stands (source rest : List ℕ) : Type 0 where
  pub within : length rest ≤ length source
  pub tail : drop (length source - length rest) source ≡ rest
  pub boundary : IsCharBoundary source (length source - length rest)

abbrev at : List ℕ → List ℕ → ℕ
at source rest = length source - length rest

pub stands : (source rest : List ℕ) → length rest ≤ length source → drop (length source - length rest) source ≡ rest → IsUtf8 rest → Stands source rest
stands source rest within tail utf8 = record { within = within; tail = tail; boundary = IsCharBoundary-from_drop source (at source rest) (omega arith) (subst IsUtf8 (sym tail) utf8) }

pub stands_first : (source : List ℕ) → IsUtf8 source → Stands source source
stands_first source utf8 = stands source source (omega arith) (let none : at source source ≡ 0 = omega arith in rw none refl) utf8

-- what is left after a prefix was taken
pub stands_after : (source rest taken next : List ℕ) → Stands source rest → rest ≡ taken ++ next → IsUtf8 next → Stands source next
stands_after source rest taken next s parts utf8 =
    let long : length rest ≡ length taken + length next = ap length parts ∙ length-append taken next in
    let within = s.within in
    let same : at source next ≡ at source rest + length taken = omega arith in
    stands source next (omega arith) (rw same (sym (drop-drop (length taken) (at source rest) source) ∙ rw (s.tail, parts) (drop_at taken next (length taken) refl))) utf8

-- what was taken is the slice between the two offsets
pub slice_taken : (source rest taken next : List ℕ) → Stands source rest → rest ≡ taken ++ next → Stands source next → IsSlice source taken (at source rest) (at source next)
slice_taken source rest taken next s parts t =
    let long : length rest ≡ length taken + length next = ap length parts ∙ length-append taken next in
    let within = s.within in
    let count : at source next - at source rest ≡ length taken = omega arith in
    let piece : slice_range source (at source rest) (at source next) ≡ taken = rw (s.tail, count, parts) (take_at taken next (length taken) refl) in
    ((omega arith, s.boundary, t.boundary), piece)
