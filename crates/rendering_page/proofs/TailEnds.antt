-- Ends of texts.
use Rattle.std.proofs.Common.{◌≡◌, ◌-◌, ℕ, true, false, true≢false, not, ◌==◌, List, [], ◌∷◌, ◌++◌, length, take, drop, reverse, append-nil, refl, sym, ap, ◌∙◌, arith}
use Rattle.std.proofs.Math.Seq.{drop-append_seam}
use Rattle.std.proofs.lemmas.Bool.{and_parts, and_from, eqb-true, eq-eqb}
use Rattle.std.proofs.lemmas.Bool.Decides.{same_from_decides}
use Rattle.std.proofs.lemmas.List.{length-append, take-append-drop, reverse-append, reverse-reverse}
use Rattle.std.proofs.lemmas.Slice.Eq.{bytes_eq-Decides}
use Rattle.laws.specs.Text.{is_filled}
use Rattle.rendering_tree.specs.Tokens.{Token, last_backwards, last_text}
use Rattle.rendering_page.specs.Cursors.{begins}
use Rattle.rendering_page.specs.Tail.{ends_in}

pub end_found : (end cs : List ℕ) → ends_in end cs ≡ true → (leading : List ℕ) × (cs ≡ leading ++ end)
end_found end cs h =
    let n = length cs - length end in
    let same : end ≡ drop n cs = (bytes_eq-Decides end (drop n cs)).0 h in
    (take n cs, sym (take-append-drop n cs) ∙ ap (λ (x : List ℕ). take n cs ++ x) (sym same))

pub end_there : (end cs leading : List ℕ) → cs ≡ leading ++ end → ends_in end cs ≡ true
end_there end cs leading e =
    let long : length cs - length end ≡ length leading = omega (arith, ap length e, length-append leading end) in
    (bytes_eq-Decides end (drop (length cs - length end) cs)).1 (sym (ap (λ (n : ℕ). drop n cs) long ∙ ap (drop (length leading)) e ∙ drop-append_seam leading end))

-- a text ends in nothing
pub nothing_ends : (end cs : List ℕ) → is_filled end ≡ false → true ≡ ends_in end cs
nothing_ends [] cs e = sym (end_there [] cs cs (sym (append-nil cs)))
nothing_ends (c ∷ end) cs e = absurd (true≢false e)

begins_more : (cs : List ℕ) (c : ℕ) → begins (cs ++ c ∷ []) [] ≡ false
begins_more [] c = refl
begins_more (d ∷ cs) c = refl

-- nothing ends in a text but the empty one
pub begins_nothing : (cs : List ℕ) → begins (reverse cs) [] ≡ not (is_filled cs)
begins_nothing [] = refl
begins_nothing (c ∷ cs) = ap (λ xs. begins xs []) (reverse-append (c ∷ []) cs) ∙ begins_more (reverse cs) c

begin_found : (xs ys : List ℕ) → begins xs ys ≡ true → (rest : List ℕ) × (ys ≡ xs ++ rest)
begin_found [] ys h = (ys, refl)
begin_found (x ∷ xs) [] h = absurd (true≢false (sym h))
begin_found (x ∷ xs) (y ∷ ys) h =
    let p = and_parts (x == y) (begins xs ys) h in
    let same : x ≡ y = eqb-true x y p.0 in
    let r = begin_found xs ys p.1 in
    (r.0, λ i. sym same i ∷ r.1 i)

begin_itself : (xs rest : List ℕ) → begins xs (xs ++ rest) ≡ true
begin_itself [] rest = refl
begin_itself (x ∷ xs) rest = and_from (x == x) (begins xs (xs ++ rest)) (eq-eqb x x refl) (begin_itself xs rest)

-- a text ends in another where, read from their ends, it begins with it
pub ends_begins : (end cs : List ℕ) → ends_in end cs ≡ begins (reverse end) (reverse cs)
ends_begins end cs =
    same_from_decides (ends_in end cs) (begins (reverse end) (reverse cs))
    (end_found end cs, λ p. end_there end cs p.0 p.1) (
      λ h.
          let r = begin_found (reverse end) (reverse cs) h in
          (reverse r.0, sym (reverse-reverse cs) ∙ ap reverse r.1 ∙ reverse-append (reverse end) r.0 ∙ ap (λ xs. reverse r.0 ++ xs) (reverse-reverse end)),
      λ p. ap (begins (reverse end)) (ap reverse p.1 ∙ reverse-append p.0 end) ∙ begin_itself (reverse end) (reverse p.0),
    )

-- the last text of a page
pub ends_backwards : (end : List ℕ) (ts : List Token) → begins (reverse end) (last_backwards ts) ≡ ends_in end (last_text ts)
ends_backwards end ts = ap (begins (reverse end)) (sym (reverse-reverse (last_backwards ts))) ∙ sym (ends_begins end (last_text ts))
