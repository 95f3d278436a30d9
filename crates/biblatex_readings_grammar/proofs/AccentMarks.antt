-- Marks of accents that are put on members one after the other.
use Rattle.std.proofs.Common.{◌≡◌, ℕ, ◌≤◌, List, [], ◌∷◌, ◌++◌, length, take, flat_map, refl, sym, ap, ◌∙◌, subst, append_assoc, arith}
use Rattle.std.proofs.lemmas.List.{append-nil, length-append, map-append, take_all, take-append-le}
use Rattle.unicode_normalization.specs.Forms.{Nfd, nfc, nfd, decomposed}
use Rattle.unicode_normalization.specs.Decompose.{decompose}
use Rattle.unicode_normalization.proofs.FormsLemmas.{nfd-nfc, normalize-nil, normalize-Nfd}
use Rattle.unicode_normalization.proofs.DecomposeLemmas.{length-from_decompose}
use Rattle.unicode_normalization.proofs.OrderLemmas.{length-canonical_order}
use Rattle.biblatex_tex.specs.Accent.{dotted, with_mark, marked}
use Rattle.biblatex_content.specs.declared.chunk.Kind.{Kind}
use Rattle.biblatex_content.specs.Styled.{Member, Letter, Math, letters}
use Rattle.biblatex_content.specs.Ordinary.{kept_in}
use Rattle.biblatex_readings_grammar.specs.Ordinary.{accented}
use Rattle.biblatex_readings_grammar.proofs.Modes.{Mode, free, argument_of}

-- ---- a character with a mark is something

long_nfd : (a : ℕ) (cs : List ℕ) → 1 ≤ length (nfd (a ∷ cs))
unfolding decomposed
long_nfd a cs =
    let same = ap length (normalize-Nfd (a ∷ cs)) in
    let ordered = length-canonical_order (flat_map (decompose Nfd) (a ∷ cs)) in
    let parts = length-append (decompose Nfd a) (flat_map (decompose Nfd) cs) in
    let first = (length-from_decompose Nfd a (decompose Nfd a) refl).0 in
    omega (arith, same, ordered, parts, first)

pub some_nfc : (a : ℕ) (cs : List ℕ) → nfc (a ∷ cs) ≡ [] → ⊥
some_nfc a cs none =
    let same : nfd (a ∷ cs) ≡ [] = sym (nfd-nfc (a ∷ cs)) ∙ (ap nfd none ∙ normalize-nil Nfd) in
    omega (arith, long_nfd a cs, ap length same)

-- ---- several marks

-- the last mark is put on first
abbrev pub with_marks : List ℕ → List Member → List Member
with_marks [] ms = ms
with_marks (mark ∷ marks) ms = accented mark (with_marks marks ms)

pub with_marks-last : (marks : List ℕ) (mark : ℕ) (ms : List Member) → with_marks (marks ++ mark ∷ []) ms ≡ with_marks marks (accented mark ms)
with_marks-last [] mark ms = refl
with_marks-last (m ∷ marks) mark ms = ap (accented m) (with_marks-last marks mark ms)

accented-letters : (kind : Kind) (mark : ℕ) (cs : List ℕ) → accented mark (letters kind cs) ≡ letters kind (with_mark mark cs)
accented-letters kind mark [] = refl
accented-letters kind mark (c ∷ cs) =
    let alone = ap (λ (x : List ℕ). letters kind x ++ letters kind cs) (append-nil (nfc (dotted c ∷ mark ∷ []))) in
    alone ∙ sym (map-append (Letter kind) (nfc (dotted c ∷ mark ∷ [])) cs)

pub with_marks-letters : (kind : Kind) (marks cs : List ℕ) → with_marks marks (letters kind cs) ≡ letters kind (marked marks cs)
with_marks-letters kind [] cs = refl
with_marks-letters kind (mark ∷ marks) cs = ap (accented mark) (with_marks-letters kind marks cs) ∙ accented-letters kind mark (marked marks cs)

-- members that are something
pub record Some_of (ms : List Member) : Type 0 where
  pub first : Member
  pub others : List Member
  pub is : ms ≡ first ∷ others

some_letters : (kind : Kind) (cs : List ℕ) (ms : List Member) → (cs ≡ [] → ⊥) → Some_of (letters kind cs ++ ms)
some_letters kind [] ms some = absurd (some refl)
some_letters kind (c ∷ cs) ms some = record { first = Letter kind c; others = letters kind cs ++ ms; is = refl }

never_nil : (xs ys : List ℕ) → (xs ≡ [] → ⊥) → xs ++ ys ≡ [] → ⊥
never_nil [] ys some e = some refl
never_nil (x ∷ xs) ys some e = cc

pub accented-some : (mark : ℕ) (m : Member) (ms : List Member) → Some_of (accented mark (m ∷ ms))
accented-some mark (Letter kind c) ms = some_letters kind (nfc (dotted c ∷ mark ∷ []) ++ []) ms (never_nil (nfc (dotted c ∷ mark ∷ [])) [] (some_nfc (dotted c) (mark ∷ [])))
accented-some mark (Math t) ms = record { first = Math t; others = ms; is = refl }

pub with_marks-some : (marks : List ℕ) (m : Member) (ms : List Member) → Some_of (with_marks marks (m ∷ ms))
with_marks-some [] m ms = record { first = m; others = ms; is = refl }
with_marks-some (mark ∷ marks) m ms =
    let s = with_marks-some marks m ms in
    subst (λ (x : List Member). Some_of (accented mark x)) (sym s.is) (accented-some mark s.first s.others)

accented-append : (mark : ℕ) (m : Member) (ms ns : List Member) → accented mark (m ∷ (ms ++ ns)) ≡ accented mark (m ∷ ms) ++ ns
accented-append mark (Letter kind c) ms ns = sym (append_assoc (letters kind (with_mark mark (c ∷ []))) ms ns)
accented-append mark (Math t) ms ns = refl

-- marks go on the first of several members alone
pub with_marks-append : (marks : List ℕ) (m : Member) (ms ns : List Member) → with_marks marks (m ∷ (ms ++ ns)) ≡ with_marks marks (m ∷ ms) ++ ns
with_marks-append [] m ms ns = refl
with_marks-append (mark ∷ marks) m ms ns =
    let s = with_marks-some marks m ms in
    ap (accented mark) (with_marks-append marks m ms ns)
    ∙ (ap (λ (x : List Member). accented mark (x ++ ns)) s.is
    ∙ (accented-append mark s.first s.others ns ∙ ap (λ (x : List Member). accented mark x ++ ns) (sym s.is)))

-- ---- what is given, and what still waits

-- what has been given, after members more
abbrev pub done_with : List Member → List ℕ → List Member → List Member
done_with done marks [] = done
done_with done marks (m ∷ ms) = done ++ with_marks marks (m ∷ ms)

-- the marks that wait after these members
abbrev pub left_with : Mode → List ℕ → List Member → List ℕ
left_with mode marks [] = take (kept_in mode marks) marks
left_with mode marks (m ∷ ms) = []

pub free_left : (marks : List ℕ) → left_with free marks [] ≡ marks
free_left marks = take_all (length marks) marks (omega arith)

pub done-join : (done : List Member) (marks : List ℕ) (ms ns : List Member) → done_with (done_with done marks ms) (left_with free marks ms) ns ≡ done_with done marks (ms ++ ns)
done-join done marks [] ns = ap (λ (x : List ℕ). done_with done x ns) (free_left marks)
done-join done marks (m ∷ ms) [] = ap (λ (x : List Member). done ++ with_marks marks (m ∷ x)) (sym (append-nil ms))
done-join done marks (m ∷ ms) (n ∷ ns) =
    append_assoc done (with_marks marks (m ∷ ms)) (n ∷ ns) ∙ ap (λ (x : List Member). done ++ x) (sym (with_marks-append marks m ms (n ∷ ns)))

pub left-join : (mode : Mode) (marks : List ℕ) (ms ns : List Member) → left_with mode (left_with free marks ms) ns ≡ left_with mode marks (ms ++ ns)
left-join mode marks [] ns = ap (λ (x : List ℕ). left_with mode x ns) (free_left marks)
left-join mode marks (m ∷ ms) [] = take_all (kept_in mode []) [] (omega arith)
left-join mode marks (m ∷ ms) (n ∷ ns) = refl

-- a mark more that waits
pub done-accent : (done : List Member) (marks : List ℕ) (mark : ℕ) (ms : List Member) → done_with done (marks ++ mark ∷ []) ms ≡ done_with done marks (accented mark ms)
done-accent done marks mark [] = refl
done-accent done marks mark (m ∷ ms) =
    let s = accented-some mark m ms in
    ap (λ (x : List Member). done ++ x) (with_marks-last marks mark (m ∷ ms) ∙ ap (with_marks marks) s.is) ∙ ap (done_with done marks) (sym s.is)

pub left-accent : (mode : Mode) (marks : List ℕ) (mark : ℕ) (ms : List Member) → kept_in mode marks ≤ length marks
    → left_with (argument_of mode marks) (marks ++ mark ∷ []) ms ≡ left_with mode marks (accented mark ms)
left-accent mode marks mark [] few = take-append-le (kept_in mode marks) marks (mark ∷ []) few
left-accent mode marks mark (m ∷ ms) few =
    let s = accented-some mark m ms in
    ap (left_with mode marks) (sym s.is)

-- after the group of an argument
pub left-argument : (mode : Mode) (waited marks : List ℕ) (ms : List Member) → take (kept_in mode waited) (left_with free marks ms) ≡ left_with (argument_of mode waited) marks ms
left-argument mode waited marks [] = ap (take (kept_in mode waited)) (free_left marks)
left-argument mode waited marks (m ∷ ms) = take_all (kept_in mode waited) [] (omega arith)
