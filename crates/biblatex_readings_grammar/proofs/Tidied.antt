-- The text that a styled text is related to is the one that it is tidied to.
use Rattle.std.proofs.Common.{◌≡◌, ℕ, Bool, true, false, cond, eqb, List, [], ◌∷◌, ◌++◌, refl, sym, ap, ◌∙◌, subst, inl, inr, append_assoc, arith}
use Rattle.std.specs.Prelude.{◌⊎◌, map}
use Rattle.std.proofs.lemmas.Bool.{false_from_ne_true, both_ways}
use Rattle.std.proofs.lemmas.Bool.Decides.{nat_tests}
use Rattle.std.proofs.lemmas.List.{append-nil, same_from_push}
use Rattle.laws.specs.Characters.{space}
use Rattle.laws.specs.Text.{is_filled}
use Rattle.biblatex_tex.specs.Character.{is_blank}
use Rattle.biblatex_content.specs.declared.chunk.Kind.{Kind}
use Rattle.biblatex_content.specs.Styled.{Member, Letter, Math}
use Rattle.biblatex_content.specs.Tidy.{spaced, is_space, squeezed, without_last_space, tidied}
use Rattle.biblatex_readings_grammar.specs.Tidied.{IsBlank, AreBlank, EndsLoose, Becomes, LeavesOut, done, stays, goes, IsTidied}

-- ---- members

-- whether a member is a blank
abbrev blank : Member → Bool
blank (Letter kind c) = is_blank c
blank (Math t) = false

blank_is : (m : Member) → blank m ≡ true → IsBlank m
blank_is (Letter kind c) e = e
blank_is (Math t) e = absurd cc

is_blank_member : (m : Member) → IsBlank m → blank m ≡ true
is_blank_member (Letter kind c) is = is
is_blank_member (Math t) is = absurd is

not_blank : (m : Member) → blank m ≡ false → IsBlank m → ⊥
not_blank m e is = both_ways (blank m) e (is_blank_member m is)

no_space : (c : ℕ) → is_blank c ≡ false → eqb c space ≡ false
no_space c e = grind (arith, nat_tests)

-- a member that is no blank is itself when it is spaced, and no space
other_same : (m : Member) → blank m ≡ false → spaced m ≡ m
other_same (Letter kind c) e = rw e refl
other_same (Math t) e = refl

other_none : (m : Member) → blank m ≡ false → is_space (spaced m) ≡ false
other_none (Letter kind c) e = let none = no_space c e in rw (e, none) refl
other_none (Math t) e = refl

-- a blank, and the space that it becomes
record Spaced (m n : Member) : Type 0 where
  pub kind : Kind
  pub letter : ℕ
  pub was : m ≡ Letter kind letter
  pub is : n ≡ Letter kind space

blank_spaced : (m : Member) → blank m ≡ true → Spaced m (spaced m)
blank_spaced (Letter kind c) e = record { kind = kind; letter = c; was = refl; is = rw e refl }
blank_spaced (Math t) e = absurd cc

blank_space : (m : Member) → blank m ≡ true → is_space (spaced m) ≡ true
blank_space (Letter kind c) e = rw e refl
blank_space (Math t) e = absurd cc

becomes_other : (m : Member) → blank m ≡ false → Becomes m m
becomes_other m e = inl (not_blank m e, refl)

becomes_space : (m : Member) → blank m ≡ true → Becomes m (spaced m)
becomes_space m e = let s = blank_spaced m e in inr (s.kind, s.letter, s.was, blank_is m e, s.is)

-- what a member becomes is what it is when it is spaced, and as much a blank
becomes_spaced : (m n : Member) → Becomes m n → n ≡ spaced m
becomes_spaced m n (inl (other, e)) = e ∙ sym (other_same m (false_from_ne_true (blank m) (λ h. other (blank_is m h))))
becomes_spaced m n (inr (kind, c, e, is, f)) =
    let here : is_blank c ≡ true = subst IsBlank e is in
    f ∙ (sym (at here) ∙ ap spaced (sym e))
  where
    at : is_blank c ≡ true → spaced (Letter kind c) ≡ Letter kind space
    at h = rw h refl

spaced_blank : (m : Member) → blank (spaced m) ≡ blank m
spaced_blank (Letter kind c) = by_test (is_blank c) refl
  where
    by_test : (b : Bool) → is_blank c ≡ b → blank (cond b (Letter kind space) (Letter kind c)) ≡ b
    by_test true e = refl
    by_test false e = e
spaced_blank (Math t) = refl

-- ---- squeezing

-- what is squeezed of members after a space, or of others
abbrev left : Bool → List Member → List Member
left after_space ms = squeezed after_space (map spaced ms)

-- and what is left of it when a space at the end goes
abbrev kept : Bool → List Member → List Member
kept after_space ms = without_last_space (left after_space ms)

before_last : (m : Member) (ms : List Member) → (is_space m ≡ false) ⊎ (is_filled ms ≡ true) → without_last_space (m ∷ ms) ≡ m ∷ without_last_space ms
before_last m [] (inl e) = rw e refl
before_last m [] (inr e) = absurd cc
before_last m (n ∷ ms) e = refl

kept-other : (after_space : Bool) (m : Member) (ms : List Member) → blank m ≡ false → kept after_space (m ∷ ms) ≡ spaced m ∷ kept false ms
kept-other after_space m ms e =
    let none = other_none m e in
    let here : left after_space (m ∷ ms) ≡ spaced m ∷ left false ms = rw none refl in
    ap without_last_space here ∙ before_last (spaced m) (left false ms) (inl none)

left-after : (m : Member) (ms : List Member) → blank m ≡ true → left true (m ∷ ms) ≡ left true ms
left-after m ms e = let is = blank_space m e in rw is refl

left-space : (m : Member) (ms : List Member) → blank m ≡ true → left false (m ∷ ms) ≡ spaced m ∷ left true ms
left-space m ms e = let is = blank_space m e in rw is refl

kept-space : (m : Member) (ms : List Member) → blank m ≡ true → is_filled (left true ms) ≡ true → kept false (m ∷ ms) ≡ spaced m ∷ kept true ms
kept-space m ms e filled = ap without_last_space (left-space m ms e) ∙ before_last (spaced m) (left true ms) (inr filled)

is_empty : (ms : List Member) → is_filled ms ≡ false → ms ≡ []
is_empty [] e = refl
is_empty (m ∷ ms) e = absurd cc

kept-last : (m : Member) (ms : List Member) → blank m ≡ true → left true ms ≡ [] → kept false (m ∷ ms) ≡ []
kept-last m ms e none =
    let is = blank_space m e in
    ap without_last_space (left-space m ms e) ∙ (ap (λ (x : List Member). without_last_space (spaced m ∷ x)) none ∙ rw is refl)

-- nothing is left after a space exactly where all are blanks
none_left : (ms : List Member) → left true ms ≡ [] → AreBlank ms
none_left [] e = tt
none_left (m ∷ ms) e = by_test (none_left ms) (blank m) refl
  where
    by_test : (left true ms ≡ [] → AreBlank ms) → (b : Bool) → blank m ≡ b → AreBlank (m ∷ ms)
    by_test more true is = (blank_is m is, more (sym (left-after m ms is) ∙ e))
    by_test more false is =
        let none = other_none m is in
        let here : left true (m ∷ ms) ≡ spaced m ∷ left false ms = rw none refl in
        let never : spaced m ∷ left false ms ≡ [] = sym here ∙ e in
        absurd cc

blanks_leave : (ms : List Member) → AreBlank ms → left true ms ≡ []
blanks_leave [] are = refl
blanks_leave (m ∷ ms) (is, are) = left-after m ms (is_blank_member m is) ∙ blanks_leave ms are

-- ---- what stands before

-- whether a space, or the start, stands before
record Loose (after_space : Bool) (front : List Member) : Type 0 where
  pub ends : after_space ≡ true → EndsLoose front
  pub holds : EndsLoose front → after_space ≡ true

never_nil : (front : List Member) (m : Member) → front ++ m ∷ [] ≡ [] → ⊥
never_nil [] m e = cc
never_nil (x ∷ front) m e = cc

-- a member more
loose_after : (front : List Member) (m : Member) → Loose (blank m) (front ++ m ∷ [])
loose_after front m = record { ends = λ e. inr (front, m, refl, blank_is m e); holds = back }
  where
    back : EndsLoose (front ++ m ∷ []) → blank m ≡ true
    back (inl e) = absurd (never_nil front m e)
    back (inr (a, n, e, is)) = is_blank_member m (subst IsBlank (sym (same_from_push front a m n e).1) is)

loose_as : (b : Bool) (front : List Member) (m : Member) → blank m ≡ b → Loose b (front ++ m ∷ [])
loose_as b front m e = subst (λ (x : Bool). Loose x (front ++ m ∷ [])) e (loose_after front m)

loose_start : Loose true []
loose_start = record { ends = λ e. inl refl; holds = λ e. refl }

-- ---- what is kept leaves out what may go

leaves : (ms front : List Member) (after_space : Bool) → Loose after_space front → LeavesOut front ms (kept after_space ms)
leaves [] front after_space loose = done front
leaves (m ∷ ms) front after_space loose = by_tests (λ b next. leaves ms (front ++ m ∷ []) b next) (blank m) after_space refl loose (is_filled (left true ms)) refl
  where
    by_tests : ((b : Bool) → Loose b (front ++ m ∷ []) → LeavesOut (front ++ m ∷ []) ms (kept b ms)) → (b after : Bool) → blank m ≡ b → Loose after front → (filled : Bool) → is_filled (left true ms) ≡ filled → LeavesOut front (m ∷ ms) (kept after (m ∷ ms))
    by_tests more false after e here filled f =
        subst (LeavesOut front (m ∷ ms)) (ap (λ (x : Member). x ∷ kept false ms) (sym (other_same m e)) ∙ sym (kept-other after m ms e))
        (stays front m m ms (kept false ms) (becomes_other m e) (more false (loose_as false front m e)))
    by_tests more true true e here filled f =
        subst (LeavesOut front (m ∷ ms)) (ap without_last_space (sym (left-after m ms e)))
        (goes front m ms (kept true ms) (blank_is m e, inl (here.ends refl)) (more true (loose_as true front m e)))
    by_tests more true false e here true f =
        subst (LeavesOut front (m ∷ ms)) (sym (kept-space m ms e f))
        (stays front m (spaced m) ms (kept true ms) (becomes_space m e) (more true (loose_as true front m e)))
    by_tests more true false e here false f =
        let none = is_empty (left true ms) f in
        let all : LeavesOut (front ++ m ∷ []) ms (kept true ms) = more true (loose_as true front m e) in
        subst (LeavesOut front (m ∷ ms)) (sym (kept-last m ms e none))
        (goes front m ms [] (blank_is m e, inr (none_left ms none)) (subst (LeavesOut (front ++ m ∷ []) ms) (ap without_last_space none) all))

-- ---- tight texts

-- no blank stands at the end, after a blank, or where it says at the start
abbrev Tight : Bool → List Member → Type 0
Tight after_space [] = Unit {0}
Tight after_space (m ∷ ms) = (blank m ≡ true → (after_space ≡ false) × (is_filled ms ≡ true)) × Tight (blank m) ms

filled_kept : (ms : List Member) → is_filled (left true ms) ≡ true → is_filled (kept true ms) ≡ true
filled_kept [] e = absurd cc
filled_kept (m ∷ ms) e = by_test (filled_kept ms) (blank m) refl
  where
    by_test : (is_filled (left true ms) ≡ true → is_filled (kept true ms) ≡ true) → (b : Bool) → blank m ≡ b → is_filled (kept true (m ∷ ms)) ≡ true
    by_test more true is = ap (λ (x : List Member). is_filled (without_last_space x)) (left-after m ms is) ∙ more (ap is_filled (sym (left-after m ms is)) ∙ e)
    by_test more false is = ap is_filled (kept-other true m ms is)

tight-kept : (ms : List Member) (after_space : Bool) → Tight after_space (kept after_space ms)
tight-kept [] after_space = tt
tight-kept (m ∷ ms) after_space = by_tests (tight-kept ms) (blank m) after_space refl (is_filled (left true ms)) refl
  where
    at : (b after : Bool) (ns : List Member) → blank m ≡ b → (b ≡ true → (after ≡ false) × (is_filled ns ≡ true)) → Tight b ns → Tight after (spaced m ∷ ns)
    at b after ns e may tight =
        let same : blank (spaced m) ≡ b = spaced_blank m ∙ e in
        (λ h. may (sym same ∙ h), subst (λ (x : Bool). Tight x ns) (sym same) tight)

    by_tests : ((b : Bool) → Tight b (kept b ms)) → (b after : Bool) → blank m ≡ b → (filled : Bool) → is_filled (left true ms) ≡ filled → Tight after (kept after (m ∷ ms))
    by_tests more false after e filled f = subst (Tight after) (sym (kept-other after m ms e)) (at false after (kept false ms) e (λ h. absurd cc) (more false))
    by_tests more true true e filled f = subst (Tight true) (ap without_last_space (sym (left-after m ms e))) (more true)
    by_tests more true false e true f = subst (Tight false) (sym (kept-space m ms e f)) (at true false (kept true ms) e (λ h. (refl, filled_kept ms f)) (more true))
    by_tests more true false e false f = subst (Tight false) (sym (kept-last m ms e (is_empty (left true ms) f))) tt

-- no blank stands at the end or after a blank, also after these
abbrev IsTightAfter : List Member → List Member → Type 0
IsTightAfter before ms = (front back : List Member) (m : Member) → ms ≡ front ++ m ∷ back → IsBlank m → (EndsLoose (before ++ front) → ⊥) × (back ≡ [] → ⊥)

head_is : (m n : Member) (ms ns : List Member) → m ∷ ms ≡ n ∷ ns → m ≡ n
head_is m n ms ns e = cc

tail_is : (m n : Member) (ms ns : List Member) → m ∷ ms ≡ n ∷ ns → ms ≡ ns
tail_is m n ms ns e = cc

filled_not : (ms : List Member) → is_filled ms ≡ true → ms ≡ [] → ⊥
filled_not [] e f = absurd cc
filled_not (m ∷ ms) e f = cc

not_filled : (ms : List Member) → (ms ≡ [] → ⊥) → is_filled ms ≡ true
not_filled [] never = absurd (never refl)
not_filled (m ∷ ms) never = refl

is_tight : (ms before : List Member) (after_space : Bool) → Loose after_space before → Tight after_space ms → IsTightAfter before ms
is_tight [] before after_space loose tight [] back m e is = absurd cc
is_tight [] before after_space loose tight (x ∷ front) back m e is = absurd cc
is_tight (n ∷ ms) before after_space loose tight [] back m e is =
    let may = tight.0 (ap blank (head_is n m ms back e) ∙ is_blank_member m is) in
    (λ h. both_ways after_space may.0 (loose.holds (subst EndsLoose (append-nil before) h)), λ h. filled_not ms may.1 (tail_is n m ms back e ∙ h))
is_tight (n ∷ ms) before after_space loose tight (x ∷ front) back m e is =
    let rest = is_tight ms (before ++ n ∷ []) (blank n) (loose_after before n) tight.1 front back m (tail_is n x ms (front ++ m ∷ back) e) is in
    (λ h. rest.0 (subst EndsLoose (ap (λ (y : Member). before ++ y ∷ front) (sym (head_is n x ms (front ++ m ∷ back) e)) ∙ sym (append_assoc before (n ∷ []) front)) h), rest.1)

tight_is : (ms before : List Member) (after_space : Bool) → Loose after_space before → IsTightAfter before ms → Tight after_space ms
tight_is [] before after_space loose is = tt
tight_is (m ∷ ms) before after_space loose is = (
  λ e.
      let here = is [] ms m refl (blank_is m e) in
      (false_from_ne_true after_space (λ h. here.0 (subst EndsLoose (sym (append-nil before)) (loose.ends h))), not_filled ms here.1),
  tight_is ms (before ++ m ∷ []) (blank m) (loose_after before m)
      (λ front back n e blanks.
      let rest = is (m ∷ front) back n (ap (λ (x : List Member). m ∷ x) e) blanks in
      (λ h. rest.0 (subst EndsLoose (append_assoc before (m ∷ []) front) h), rest.1)),
)

-- ---- what leaves out all that may go is what is kept

becomes_blank : (m n : Member) → Becomes m n → blank n ≡ blank m
becomes_blank m n b = ap blank (becomes_spaced m n b) ∙ spaced_blank m

blanks_stay : (front ms ns : List Member) → LeavesOut front ms ns → AreBlank ms → AreBlank ns
blanks_stay front ms ns (done before) are = tt
blanks_stay front ms ns (stays before m n more others b out) are =
    (blank_is n (becomes_blank m n b ∙ is_blank_member m are.0), blanks_stay (before ++ m ∷ []) more others out are.1)
blanks_stay front ms ns (goes before m more others may out) are = blanks_stay (before ++ m ∷ []) more others out are.1

tight_blanks : (ns : List Member) (after_space : Bool) → AreBlank ns → Tight after_space ns → ns ≡ []
tight_blanks [] after_space are tight = refl
tight_blanks (n ∷ ns) after_space are tight =
    absurd (filled_not ns (tight.0 (is_blank_member n are.0)).1 (tight_blanks ns (blank n) are.1 tight.1))

filled_left : (ms : List Member) → is_filled (kept true ms) ≡ true → is_filled (left true ms) ≡ true
filled_left ms e = not_filled (left true ms) (λ none. filled_not (kept true ms) e (ap without_last_space none))

again : (front ms ns : List Member) → LeavesOut front ms ns → (after_space : Bool) → Loose after_space front → Tight after_space ns → kept after_space ms ≡ ns
again front ms ns (done before) after_space loose tight = refl
again front ms ns (stays before m n more others b out) after_space loose tight =
    by_tests (λ x next tail. again (before ++ m ∷ []) more others out x next tail) (blank m) after_space refl loose tight.0
  where
    Again : Type 0
    Again = (x : Bool) → Loose x (before ++ m ∷ []) → Tight x others → kept x more ≡ others

    rest : Again → (x : Bool) → blank m ≡ x → kept x more ≡ others
    rest next x e =
        let here : blank n ≡ x = becomes_blank m n b ∙ e in
        next x (loose_as x before m e) (subst (λ (y : Bool). Tight y others) here tight.1)

    first : Again → (x : Bool) → blank m ≡ x → spaced m ∷ kept x more ≡ n ∷ others
    first next x e = ap (λ (y : Member). y ∷ kept x more) (sym (becomes_spaced m n b)) ∙ ap (λ (y : List Member). n ∷ y) (rest next x e)

    by_tests : Again → (x after : Bool) → blank m ≡ x → Loose after before → (blank n ≡ true → (after ≡ false) × (is_filled others ≡ true)) → kept after (m ∷ more) ≡ n ∷ others
    by_tests next false after e here may = kept-other after m more e ∙ first next false e
    by_tests next true true e here may = let never = (may (becomes_blank m n b ∙ e)).0 in absurd cc
    by_tests next true false e here may =
        let filled = (may (becomes_blank m n b ∙ e)).1 in
        kept-space m more e (filled_left more (ap is_filled (rest next true e) ∙ filled)) ∙ first next true e
again front ms ns (goes before m more others (is, may) out) after_space loose tight =
    by_tests (λ x next tail. again (before ++ m ∷ []) more others out x next tail) after_space loose tight may
  where
    here : blank m ≡ true
    here = is_blank_member m is

    by_tests : ((x : Bool) → Loose x (before ++ m ∷ []) → Tight x others → kept x more ≡ others) → (after : Bool) → Loose after before → Tight after others → EndsLoose before ⊎ AreBlank more
        → kept after (m ∷ more) ≡ others
    by_tests next true l tail h = ap without_last_space (left-after m more here) ∙ next true (loose_as true before m here) tail
    by_tests next false l tail (inl ends) = let never = l.holds ends in absurd cc
    by_tests next false l tail (inr are) =
        kept-last m more here (blanks_leave more are) ∙ sym (tight_blanks others false (blanks_stay (before ++ m ∷ []) more others out are) tail)

-- ---- whole texts

pub tidied-takes : (ms ns : List Member) → tidied ms ≡ ns → IsTidied ms ns
tidied-takes ms ns e =
    subst (IsTidied ms) e (leaves ms [] true loose_start, is_tight (tidied ms) [] true loose_start (tight-kept ms true))

pub tidied-again : (ms ns : List Member) → IsTidied ms ns → tidied ms ≡ ns
tidied-again ms ns (out, tight) = again [] ms ns out true loose_start (tight_is ns [] true loose_start tight)
