-- The span of text that was begun, and of what follows it.
use Rattle.std.proofs.Common.{◌≡◌, ℕ, max, Bool, true, false, not, List, [], ◌∷◌, ◌++◌, Some, if◌then◌else◌, refl, sym, ap, ◌∙◌, append_assoc, arith}
use Rattle.biblatex_text.specs.Raw.{At}
use Rattle.biblatex_content.specs.declared.chunk.Kind.{Kind}
use Rattle.biblatex_content.specs.declared.chunk.Kind.TheVariants.{Normal, Verbatim}
use Rattle.biblatex_content.specs.declared.joining.Joining.{Joining}
use Rattle.biblatex_content.specs.Styled.{Member, Letter, letters}
use Rattle.biblatex_content.specs.Parted.{is_apart}
use Rattle.laws.specs.Text.{is_filled}
use Rattle.biblatex_content.specs.Spans.{all_at, kind_in, goes_on, before, member_spans, begun_with, spans_with}

-- a character of the kind with the span
abbrev letter : Kind → ℕ → ℕ → ℕ → At Member
letter kind c start end = record { v = Letter kind c; start = start; end = end }

-- the span of a character that goes on with another reaches to where the later of the two ends
merged : (goes : Bool) (kind : Kind) (s e c start end : ℕ) (ps : List (ℕ × ℕ))
    → before true (letter kind 0 s e) (before goes (letter kind c start end) ps) ≡ before goes (letter kind 0 s (max e end)) ps
merged false kind s e c start end ps = refl
merged true kind s e c start end [] = refl
merged true kind s e c start end (p ∷ ps) =
    let h : max e (max end p.1) ≡ max (max e end) p.1 = omega arith in
    ap (λ (x : ℕ). (s, x) ∷ ps) h

alike : (kind : Kind) → not (is_apart (Some kind) (Some kind)) ≡ true
alike Normal = refl
alike Verbatim = refl

goes_on_same : (kind : Kind) (c d : ℕ) (ms : List (At Member)) → goes_on (Letter kind c) ms ≡ goes_on (Letter kind d) ms
goes_on_same kind c d [] = refl
goes_on_same kind c d (m ∷ ms) = refl

before_same : (kind : Kind) (c d start end : ℕ) (goes : Bool) (ps : List (ℕ × ℕ)) → before goes (letter kind c start end) ps ≡ before goes (letter kind d start end) ps
before_same kind c d start end false ps = refl
before_same kind c d start end true [] = refl
before_same kind c d start end true (p ∷ ps) = refl

letter_same : (kind : Kind) (c d start end : ℕ) (ms : List (At Member)) → member_spans (letter kind c start end ∷ ms) ≡ member_spans (letter kind d start end ∷ ms)
letter_same kind c d start end ms =
    ap (λ (goes : Bool). before goes (letter kind c start end) (member_spans ms)) (goes_on_same kind c d ms) ∙ before_same kind c d start end (goes_on (Letter kind d) ms) (member_spans ms)

-- a character that goes on with what was begun
more : (kind : Kind) (s e c start end : ℕ) (ms : List (At Member))
    → member_spans (letter kind 0 s (max e end) ∷ ms) ≡ member_spans (letter kind 0 s e ∷ letter kind c start end ∷ ms)
more kind s e c start end ms = sym (rw (alike kind, goes_on_same kind c 0 ms) (merged (goes_on (Letter kind 0) ms) kind s e c start end (member_spans ms)))

-- a character put after what was begun, if anything was
pub pushed : (run : List ℕ) (kind : Kind) (s e c start end : ℕ) (ms : List (At Member))
    → begun_with (is_filled (run ++ c ∷ [])) (letter kind 0 (if is_filled run then s else start) (if is_filled run then max e end else end)) ms
    ≡ begun_with (is_filled run) (letter kind 0 s e) (letter kind c start end ∷ ms)
pushed [] kind s e c start end ms = letter_same kind 0 c start end ms
pushed (x ∷ run) kind s e c start end ms = more kind s e c start end ms

-- a text that goes on with what was begun
more_text : (kind : Kind) (s e c start end : ℕ) (cs : List ℕ) (ms : List (At Member))
    → member_spans (letter kind 0 s (max e end) ∷ ms) ≡ member_spans (letter kind 0 s e ∷ (all_at start end (letters kind (c ∷ cs)) ++ ms))
more_text kind s e c start end [] ms = more kind s e c start end ms
more_text kind s e c start end (d ∷ cs) ms =
    let h : max e end ≡ max (max e end) end = omega arith in
    ap (λ (x : ℕ). member_spans (letter kind 0 s x ∷ ms)) h
    ∙ (more_text kind s (max e end) d start end cs ms ∙ more kind s e c start end (all_at start end (letters kind (d ∷ cs)) ++ ms))

-- a text that begins a run has its span
first_text : (kind : Kind) (c start end : ℕ) (cs : List ℕ) (ms : List (At Member))
    → member_spans (letter kind 0 start end ∷ ms) ≡ member_spans (all_at start end (letters kind (c ∷ cs)) ++ ms)
first_text kind c start end [] ms = letter_same kind 0 c start end ms
first_text kind c start end (d ∷ cs) ms =
    let h : end ≡ max end end = omega arith in
    ap (λ (x : ℕ). member_spans (letter kind 0 start x ∷ ms)) h
    ∙ (more_text kind start end d start end cs ms ∙ letter_same kind 0 c start end (all_at start end (letters kind (d ∷ cs)) ++ ms))

-- a text put after what was begun, if anything was
pub pushed_text : (run : List ℕ) (kind : Kind) (s e start end : ℕ) (cs : List ℕ) (ms : List (At Member)) → is_filled cs ≡ true
    → begun_with (is_filled (run ++ cs)) (letter kind 0 (if is_filled run then s else start) (if is_filled run then max e end else end)) ms
    ≡ begun_with (is_filled run) (letter kind 0 s e) (all_at start end (letters kind cs) ++ ms)
pushed_text run kind s e start end [] ms filled = absurd cc
pushed_text [] kind s e start end (c ∷ cs) ms filled = first_text kind c start end cs ms
pushed_text (x ∷ run) kind s e start end (c ∷ cs) ms filled = more_text kind s e c start end cs ms

-- what was begun ends before a member of another kind
pub ended : (is_begun : Bool) (run m : At Member) (ms : List (At Member)) → is_apart (kind_in run.v) (kind_in m.v) ≡ true
    → begun_with is_begun run [] ++ member_spans (m ∷ ms) ≡ begun_with is_begun run (m ∷ ms)
ended false run m ms apart = refl
ended true run m ms apart = rw apart refl

-- the same after chunks that are finished
pub ended_after : (ps : List (ℕ × ℕ)) (is_begun : Bool) (run m : At Member) (ms : List (At Member)) → is_apart (kind_in run.v) (kind_in m.v) ≡ true
    → (ps ++ begun_with is_begun run []) ++ member_spans (m ∷ ms) ≡ ps ++ begun_with is_begun run (m ∷ ms)
ended_after ps is_begun run m ms apart = append_assoc ps (begun_with is_begun run []) (member_spans (m ∷ ms)) ∙ ap (λ (x : List (ℕ × ℕ)). ps ++ x) (ended is_begun run m ms apart)

-- characters of different kinds are apart
pub apart_kinds : (kind other : Kind) → (kind ≡ other → ⊥) → is_apart (Some kind) (Some other) ≡ true
apart_kinds Normal Normal differ = absurd (differ refl)
apart_kinds Normal Verbatim differ = refl
apart_kinds Verbatim Normal differ = refl
apart_kinds Verbatim Verbatim differ = absurd (differ refl)

-- characters of one kind with one span are one chunk there, before what does not go on with them
pub text_before : (kind : Kind) (start end c : ℕ) (cs : List ℕ) (ms : List (At Member)) → goes_on (Letter kind c) ms ≡ false
    → member_spans (all_at start end (letters kind (c ∷ cs)) ++ ms) ≡ (start, end) ∷ member_spans ms
text_before kind start end c [] ms apart = ap (λ (goes : Bool). before goes (letter kind c start end) (member_spans ms)) apart
text_before kind start end c (d ∷ cs) ms apart =
    let h : max end end ≡ end = omega arith in
    ap (λ (goes : Bool). before goes (letter kind c start end) (member_spans (all_at start end (letters kind (d ∷ cs)) ++ ms))) (alike kind)
    ∙ (ap (before true (letter kind c start end)) (text_before kind start end d cs ms (goes_on_same kind d c ms ∙ apart)) ∙ ap (λ (x : ℕ). (start, x) ∷ member_spans ms) h)

-- a text of the kind that a content has turned to
pub reached_text : (turned old : Joining) (kind : Kind) (start end : ℕ) (cs : List ℕ) (ms : List (At Member)) → turned.kind ≡ kind → is_filled cs ≡ true
    → ((m : At Member) (rest : List (At Member)) → kind_in m.v ≡ Some kind → spans_with turned (m ∷ rest) ≡ spans_with old (m ∷ rest))
    → spans_with turned (all_at start end (letters turned.kind cs) ++ ms) ≡ spans_with old (all_at start end (letters kind cs) ++ ms)
reached_text turned old kind start end [] ms same filled turns = absurd cc
reached_text turned old kind start end (c ∷ cs) ms same filled turns =
    ap (λ (k : Kind). spans_with turned (all_at start end (letters k (c ∷ cs)) ++ ms)) same
    ∙ turns (record { v = Letter kind c; start = start; end = end }) (all_at start end (letters kind cs) ++ ms) refl
