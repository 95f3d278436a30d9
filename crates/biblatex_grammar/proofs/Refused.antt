-- What the machine says of a text is what the relations of refusals say of it.
use Rattle.std.proofs.Common.{◌≡◌, ℕ, ◌+◌, true, false, true≢false, List, [], ◌∷◌, ◌++◌, length, Result, Ok, Err, refl, sym, ap, ◌∙◌, subst, inl, inr, length-append, arith}
use Rattle.laws.specs.Results.{◌>>=◌}
use Rattle.laws.specs.Steps.{each}
use Rattle.laws.specs.Text.{text as text_of}
use Rattle.laws.proofs.Results.{bind_ok}
use Rattle.laws.proofs.Text.{text-append}
use Rattle.biblatex_text.specs.Raw.{At, Item, Raw, gathered}
use Rattle.biblatex_text.specs.Reading.{Refusal, offset}
use Rattle.biblatex_text.specs.Items.{next_item_at, raw_at, at_offset, raw_of}
use Rattle.biblatex_text.specs.declared.token.Token.{Token}
use Rattle.biblatex_text.specs.declared.token.Token.TheVariants as tokens
use Rattle.biblatex_text.specs.declared.token.Fault.{Fault}
use Rattle.biblatex_text.specs.declared.token.Fault.TheVariants.{UnexpectedEof, Unexpected, Expected}
use Rattle.biblatex_grammar.specs.Refusals.{IsAccepted, Begins, MayFollow, IsInQuotes, IsWanted, IsLongestBeginning, IsFaultAt, IsRefused}
use Rattle.biblatex_grammar.proofs.Items.{items-again, items-takes}
use Rattle.biblatex_grammar.proofs.Machine.{Place, Next, start, step, whole, ends_at, continued, verdict, reached}
use Rattle.biblatex_grammar.proofs.SameItems.{items-same}
use Rattle.biblatex_grammar.proofs.Reached.{err_is, whole_is_err, on-reached, reached-on, begins-reached, Ending, ending, Why, Halted, halted}
use Rattle.biblatex_grammar.proofs.Completion.{completes}
use Rattle.biblatex_grammar.proofs.Stuck.{goes, may, Signs, Stuck, stuck}

-- ---- texts that are accepted

accepted-whole : (cs : List ℕ) → IsAccepted cs → verdict start cs ≡ whole
accepted-whole cs (is, are) =
    let n : ℕ = length (text_of cs) in
    items-same n cs ∙ ap (λ (r : Result (List (At Item) × List ℕ) Refusal). r >>= λ p. whole) (items-again n is cs are)

pub whole-accepted : (cs : List ℕ) → verdict start cs ≡ whole → IsAccepted cs
whole-accepted cs e =
    let n : ℕ = length (text_of cs) in
    let read = bind_ok (each (next_item_at n) cs) (λ p. whole) tt (sym (items-same n cs) ∙ e) in
    (read.0.0, items-takes n cs read.0 (omega arith) read.1)

-- the machine goes through each text that begins an accepted one, and no other
begins-there : (front : List ℕ) → Begins front → (place : Place) × (reached start front ≡ Ok place)
begins-there front (more, accepted) = begins-reached front start more (accepted-whole (front ++ more) accepted)

there-begins : (front : List ℕ) (place : Place) → reached start front ≡ Ok place → Begins front
there-begins front place there =
    let end = completes place in
    (end.0, whole-accepted (front ++ end.0) (on-reached front start place end.0 there ∙ end.1))

-- ---- characters that may follow

goes-step : (r : Next) → goes r ≡ true → (place : Place) × (r ≡ Ok place)
goes-step (Ok place) e = (place, refl)
goes-step (Err f) e = absurd (true≢false (sym e))

step-goes : (r : Next) (c : ℕ) (place : Place) → continued r (c ∷ []) (λ then. reached then []) ≡ Ok place → goes r ≡ true
step-goes (Ok then) c place e = refl
step-goes (Err f) c place e = absurd cc

filled : (c : ℕ) (cs : List ℕ) → c ∷ cs ≡ [] → ⊥
filled c cs e = cc

read_is_err : (raw : Raw) (r : Fault × ℕ) → ◌≡◌ {A = Result Raw (Fault × ℕ)} (Ok raw) (Err r) → ⊥
read_is_err raw r e = cc

-- at the end of a text only one fault may stand
eof : (f : Fault) (front : List ℕ) → IsFaultAt front [] f → UnexpectedEof ≡ f
eof UnexpectedEof front is = refl
eof (Unexpected token) front is = absurd is
eof (Expected token) front is = absurd is

module _ (front : List ℕ) (place : Place) (there : reached start front ≡ Ok place) where
  may-follow : (c : ℕ) → may place c ≡ true → MayFollow front c
  may-follow c is =
      let then = goes-step (step place c) is in
      there-begins (front ++ c ∷ []) then.0 (reached-on front start place (c ∷ []) there ∙ ap (λ (r : Next). continued r (c ∷ []) (λ p. reached p [])) then.1)

  follows-may : (c : ℕ) → MayFollow front c → may place c ≡ true
  follows-may c follows =
      let then = begins-there (front ++ c ∷ []) follows in
      step-goes (step place c) c then.0 (sym (reached-on front start place (c ∷ []) there) ∙ then.1)

  never : (c : ℕ) → may place c ≡ false → MayFollow front c → ⊥
  never c bars follows = true≢false (sym (follows-may c follows) ∙ bars)

  -- what is wanted where the machine stops
  signs-wanted : (t : Token) → Signs place t → IsWanted front t
  signs-wanted tokens.Comma s = (may-follow 44 s.0, λ quotes. never 1 s.1 (quotes 1 refl))
  signs-wanted tokens.ClosingBrace s = (may-follow 35 s.0, never 44 s.1)
  signs-wanted tokens.Equals s = (may-follow 61 s.0, never 44 s.1)
  signs-wanted tokens.OpeningBrace s = (may-follow 40 s.0, never 44 s.1)
  signs-wanted tokens.Identifier s = (may-follow 97 s.0, never 44 s.1, never 35 s.2, never 61 s.3, never 40 s.4)
  signs-wanted tokens.QuotationMark s = absurd s
  signs-wanted tokens.DecimalPoint s = absurd s

  -- and nothing else is
  one-wanted : (t u : Token) → Signs place t → IsWanted front u → u ≡ t
  one-wanted tokens.Comma tokens.Comma s w = refl
  one-wanted tokens.Comma tokens.ClosingBrace s w = absurd (w.1 (may-follow 44 s.0))
  one-wanted tokens.Comma tokens.Equals s w = absurd (w.1 (may-follow 44 s.0))
  one-wanted tokens.Comma tokens.OpeningBrace s w = absurd (w.1 (may-follow 44 s.0))
  one-wanted tokens.Comma tokens.Identifier s w = absurd (w.1 (may-follow 44 s.0))
  one-wanted tokens.Comma tokens.QuotationMark s w = absurd w
  one-wanted tokens.Comma tokens.DecimalPoint s w = absurd w
  one-wanted tokens.ClosingBrace tokens.Comma s w = absurd (never 44 s.1 w.0)
  one-wanted tokens.ClosingBrace tokens.ClosingBrace s w = refl
  one-wanted tokens.ClosingBrace tokens.Equals s w = absurd (never 61 s.2 w.0)
  one-wanted tokens.ClosingBrace tokens.OpeningBrace s w = absurd (never 40 s.3 w.0)
  one-wanted tokens.ClosingBrace tokens.Identifier s w = absurd (w.2 (may-follow 35 s.0))
  one-wanted tokens.ClosingBrace tokens.QuotationMark s w = absurd w
  one-wanted tokens.ClosingBrace tokens.DecimalPoint s w = absurd w
  one-wanted tokens.Equals tokens.Comma s w = absurd (never 44 s.1 w.0)
  one-wanted tokens.Equals tokens.ClosingBrace s w = absurd (never 35 s.2 w.0)
  one-wanted tokens.Equals tokens.Equals s w = refl
  one-wanted tokens.Equals tokens.OpeningBrace s w = absurd (never 40 s.3 w.0)
  one-wanted tokens.Equals tokens.Identifier s w = absurd (w.3 (may-follow 61 s.0))
  one-wanted tokens.Equals tokens.QuotationMark s w = absurd w
  one-wanted tokens.Equals tokens.DecimalPoint s w = absurd w
  one-wanted tokens.OpeningBrace tokens.Comma s w = absurd (never 44 s.1 w.0)
  one-wanted tokens.OpeningBrace tokens.ClosingBrace s w = absurd (never 35 s.2 w.0)
  one-wanted tokens.OpeningBrace tokens.Equals s w = absurd (never 61 s.3 w.0)
  one-wanted tokens.OpeningBrace tokens.OpeningBrace s w = refl
  one-wanted tokens.OpeningBrace tokens.Identifier s w = absurd (w.4 (may-follow 40 s.0))
  one-wanted tokens.OpeningBrace tokens.QuotationMark s w = absurd w
  one-wanted tokens.OpeningBrace tokens.DecimalPoint s w = absurd w
  one-wanted tokens.Identifier tokens.Comma s w = absurd (never 44 s.1 w.0)
  one-wanted tokens.Identifier tokens.ClosingBrace s w = absurd (never 35 s.2 w.0)
  one-wanted tokens.Identifier tokens.Equals s w = absurd (never 61 s.3 w.0)
  one-wanted tokens.Identifier tokens.OpeningBrace s w = absurd (never 40 s.4 w.0)
  one-wanted tokens.Identifier tokens.Identifier s w = refl
  one-wanted tokens.Identifier tokens.QuotationMark s w = absurd w
  one-wanted tokens.Identifier tokens.DecimalPoint s w = absurd w
  one-wanted tokens.QuotationMark u s w = absurd s
  one-wanted tokens.DecimalPoint u s w = absurd s

  control : (t : Token) → Signs place t → may place 1 ≡ false
  control tokens.Comma s = s.1
  control tokens.ClosingBrace s = s.4
  control tokens.Equals s = s.4
  control tokens.OpeningBrace s = s.4
  control tokens.Identifier s = s.5
  control tokens.QuotationMark s = absurd s
  control tokens.DecimalPoint s = absurd s

  -- in quotation marks nothing is wanted
  not-quoted : (u : Token) → IsWanted front u → IsInQuotes front → ⊥
  not-quoted tokens.Comma w quotes = w.1 quotes
  not-quoted tokens.ClosingBrace w quotes = w.1 (quotes 44 refl)
  not-quoted tokens.Equals w quotes = w.1 (quotes 44 refl)
  not-quoted tokens.OpeningBrace w quotes = w.1 (quotes 44 refl)
  not-quoted tokens.Identifier w quotes = w.1 (quotes 44 refl)
  not-quoted tokens.QuotationMark w quotes = w
  not-quoted tokens.DecimalPoint w quotes = w

  stuck-fault : (c : ℕ) (more : List ℕ) (f : Fault) → Stuck place c f → IsFaultAt front (c ∷ more) f
  stuck-fault c more UnexpectedEof s = absurd s
  stuck-fault c more (Unexpected token) s = (s.0, s.1, λ x other. may-follow x (s.2 x other))
  stuck-fault c more (Expected token) s = signs-wanted token s

  one-fault : (c : ℕ) (more : List ℕ) (f g : Fault) → Stuck place c f → IsFaultAt front (c ∷ more) g → f ≡ g
  one-fault c more UnexpectedEof g s w = absurd s
  one-fault c more (Unexpected token) UnexpectedEof s w = absurd (filled c more w)
  one-fault c more (Unexpected token) (Unexpected other) s w = ap (λ (t : Token). Unexpected t) (s.1 ∙ sym w.1)
  one-fault c more (Unexpected token) (Expected other) s w = absurd (not-quoted other w (λ x e. may-follow x (s.2 x e)))
  one-fault c more (Expected token) UnexpectedEof s w = absurd (filled c more w)
  one-fault c more (Expected token) (Unexpected other) s w = absurd (never 1 (control token s) (w.2 1 refl))
  one-fault c more (Expected token) (Expected other) s w = ap (λ (t : Token). Expected t) (sym (one-wanted token other s w))

-- ---- the reader's refusals are the machine's

read-err : (n : ℕ) (cs : List ℕ) (fault : Fault) (at : ℕ) → at_offset n (raw_at n cs) ≡ Err (fault, at) → (rest : List ℕ) × (verdict start cs ≡ Err (fault, rest)) × (at ≡ offset n rest)
unfolding raw_at
read-err n cs fault at e = by_read (each (next_item_at n) cs) refl e
  where
    by_read : (r : Result (List (At Item) × List ℕ) Refusal) → each (next_item_at n) cs ≡ r → at_offset n (r >>= λ p. Ok (gathered p.0)) ≡ Err (fault, at) → (rest : List ℕ) × (verdict start cs ≡ Err (fault, rest)) × (at ≡ offset n rest)
    by_read (Ok p) is d = absurd (read_is_err (gathered p.0) (fault, at) d)
    by_read (Err f) is d =
        let same : ◌≡◌ {A = Fault × ℕ} (f.0, offset n f.1) (fault, at) = err_is {A = Raw} {F = Fault × ℕ} (f.0, offset n f.1) (fault, at) d in
        (f.1, items-same n cs ∙ (ap (λ (x : Result (List (At Item) × List ℕ) Refusal). x >>= λ p. whole) is ∙ ap (λ (x : Fault × ℕ). Err (x.0, f.1)) same), sym (ap (λ (x : Fault × ℕ). x.1) same))

err-read : (n : ℕ) (cs : List ℕ) (fault : Fault) (rest : List ℕ) → verdict start cs ≡ Err (fault, rest) → at_offset n (raw_at n cs) ≡ Err (fault, offset n rest)
unfolding raw_at
err-read n cs fault rest e = by_read (each (next_item_at n) cs) (sym (items-same n cs) ∙ e)
  where
    by_read : (r : Result (List (At Item) × List ℕ) Refusal) → (r >>= λ p. whole) ≡ Err (fault, rest) → at_offset n (r >>= λ p. Ok (gathered p.0)) ≡ Err (fault, offset n rest)
    by_read (Ok p) d = absurd (whole_is_err (fault, rest) d)
    by_read (Err f) d = ap (λ (x : Refusal). Err (x.0, offset n x.1)) (err_is {A = Unit {0}} {F = Refusal} f (fault, rest) d)

-- ---- both directions

offset-front : (cs front rest : List ℕ) → cs ≡ front ++ rest → offset (length (text_of cs)) rest ≡ length (text_of front)
offset-front cs front rest e =
    let long : length (text_of cs) ≡ length (text_of front) + length (text_of rest) =
    ap (λ (x : List ℕ). length (text_of x)) e ∙ (ap length (text-append front rest) ∙ length-append (text_of front) (text_of rest)) in
    omega (arith, long)

-- where the machine stops the longest beginning ends
longest : (cs : List ℕ) (f : Fault) (rest : List ℕ) (h : Halted start cs f rest) → IsLongestBeginning cs h.front rest
longest cs f rest h = (h.parts, there-begins h.front h.then h.there, λ c more is. ended_there c more (subst (Why h.then f) is h.why))
  where
    ended_there : (c : ℕ) (more : List ℕ) → Why h.then f (c ∷ more) → MayFollow h.front c → ⊥
    ended_there c more why = never h.front h.then h.there c (ap goes why)

fault-at : (f : Fault) (front rest : List ℕ) (place : Place) → reached start front ≡ Ok place → Why place f rest → IsFaultAt front rest f
fault-at f front [] place there why = subst (IsFaultAt front []) (sym why.0) refl
fault-at f front (c ∷ more) place there why = stuck-fault front place there c more f (stuck place c f why)

pub read-refused : (cs : List ℕ) (fault : Fault) (at : ℕ) → raw_of cs ≡ Err (fault, at) → IsRefused cs fault at
read-refused cs fault at e =
    let read = read-err (length (text_of cs)) cs fault at e in
    let h = halted cs start fault read.0 read.1 in (
      λ accepted. whole_is_err (fault, read.0) (sym (accepted-whole cs accepted) ∙ read.1),
      (h.front, read.0, longest cs fault read.0 h, fault-at fault h.front read.0 h.then h.there h.why, read.2 ∙ offset-front cs h.front read.0 h.parts),
    )

-- what the machine says of a text whose longest beginning is known
stopped : (front rest : List ℕ) (place : Place) (fault : Fault) → reached start front ≡ Ok place → (IsAccepted (front ++ rest) → ⊥) → ((c : ℕ) (more : List ℕ) → rest ≡ c ∷ more → MayFollow front c → ⊥) → IsFaultAt front rest fault
    → verdict place rest ≡ Err (fault, rest)
stopped front [] place fault there other last is = by_ending (ending place)
  where
    by_ending : Ending (ends_at place) → ends_at place ≡ Err (fault, [])
    by_ending (inl read) = absurd (other (whole-accepted (front ++ []) (on-reached front start place [] there ∙ read)))
    by_ending (inr early) = early ∙ ap (λ (f : Fault). Err (f, [])) (eof fault front is)
stopped front (c ∷ more) place fault there other last is = by_step (step place c) refl
  where
    by_step : (r : Next) → step place c ≡ r → continued r (c ∷ more) (λ then. verdict then more) ≡ Err (fault, c ∷ more)
    by_step (Ok then) e = absurd (last c more refl (may-follow front place there c (ap goes e)))
    by_step (Err f) e = ap (λ (g : Fault). Err (g, c ∷ more)) (one-fault front place there c more f fault (stuck place c f e) is)

pub refused-read : (cs : List ℕ) (fault : Fault) (at : ℕ) → IsRefused cs fault at → raw_of cs ≡ Err (fault, at)
refused-read cs fault at (other, (front, rest, (parts, begins, last), is, at_is)) =
    let n : ℕ = length (text_of cs) in
    let there = begins-there front begins in
    let says : verdict start cs ≡ Err (fault, rest) =
    ap (verdict start) parts ∙ (on-reached front start there.0 rest there.1 ∙ stopped front rest there.0 fault there.1 (λ accepted. other (subst IsAccepted (sym parts) accepted)) last is) in
    err-read n cs fault rest says ∙ ap (λ (x : ℕ). Err (fault, x)) (offset-front cs front rest parts ∙ sym at_is)
