-- What the machine says of tokens is what the relations of refusals say of them, and so is what is read of a text.
use Rattle.std.proofs.Common.{◌≡◌, ℕ, zero, suc, ◌+◌, true, true≢false, List, [], ◌∷◌, ◌++◌, Option, Some, None, is_none, Result, Ok, Err, refl, sym, ap, ◌∙◌, subst, inl, inr, append-nil, arith}
use Rattle.laws.specs.Characters.{asterisk, close_bracket, close_parenthesis}
use Rattle.laws.specs.Results.{◌>>=◌}
use Rattle.literature.specs.Tokens.{Token, Name, Sign, tokens}
use Rattle.literature.specs.Trees.{Tree}
use Rattle.literature.specs.Reading.{Fault, MissingValue, MalformedAttribute, MissingComma, UnbalancedParens, UnknownEntryType, TooDeep, alternatives_of, level, selector_at, selector_of}
use Rattle.literature_grammar.specs.Refusals.{IsExpressionIn, Begins, MayFollow, AllAreKnown, IsFirstUnknown, OpensTooMany, IsMissing, IsFaultAfter, HasFault, IsRefused}
use Rattle.literature_grammar.proofs.Texts.{tokens-again, tokens-take}
use Rattle.literature_grammar.proofs.Machine.{Place, operand, named, lists, before_name, after_name, Context, context, State, Answer, goes, deep, refused, unclosed, missing, step, gone, accepts, reached, Verdict, ended, continued, verdict, start}
use Rattle.literature_grammar.proofs.Same.{checked, judged, judged-same}
use Rattle.literature_grammar.proofs.Unknown.{or_later, unknown, judged-is, LeadsTo, some_is_none, found, unknown-at, none-found}
use Rattle.literature_grammar.proofs.Again.{expression-accepted}
use Rattle.literature_grammar.proofs.Reached.{accepts-on, reached-on, verdict-on, front-there, begins-there, there-begins, Stops, halted, refusal, refusal_is, ended-is}
use Rattle.literature_grammar.proofs.Below.{Less, less-step, GoesSomewhere, Above, reached-above, start-lower}

-- ---- at the first token

abbrev first : Place
first = operand 128

abbrev around : Context
around = start 128

abbrev LeadsHere : List Token → State → Type 0
LeadsHere front s = reached first around front ≡ Some s

begins-here : (front : List Token) → Begins 129 front → (s : State) × LeadsHere front s
begins-here front begins = begins-there 128 front begins

here-begins : (front : List Token) (s : State) → LeadsHere front s → Begins 129 front
here-begins front s there = there-begins 128 front s there

-- ---- tokens that may follow

goes-is : (r : Answer) (s : State) → gone r None (λ q y. Some (q, y)) ≡ Some s → GoesSomewhere r
goes-is (goes q y) s e = (q, y, refl)
goes-is deep s e = absurd (some_is_none s (sym e))
goes-is refused s e = absurd (some_is_none s (sym e))

may-follow : (front : List Token) (s : State) → LeadsHere front s → (t : Token) → GoesSomewhere (step s.0 s.1 t) → MayFollow front t
may-follow front s there t (q, y, is) =
    here-begins (front ++ t ∷ []) (q, y) (reached-on front first around s (t ∷ []) there ∙ ap (λ (r : Answer). gone r None (λ q y. Some (q, y))) is)

follows-may : (front : List Token) (s : State) → LeadsHere front s → (t : Token) → MayFollow front t → GoesSomewhere (step s.0 s.1 t)
follows-may front s there t follows =
    let then = begins-here (front ++ t ∷ []) follows in
    goes-is (step s.0 s.1 t) then.0 (sym (reached-on front first around s (t ∷ []) there) ∙ then.1)

goes-no_refused : (r : Answer) → GoesSomewhere r → r ≡ refused → ⊥
goes-no_refused r (q, y, is) e = let same : goes q y ≡ refused = sym is ∙ e in absurd cc

-- ---- what is missing

-- at an operand a star may stand, and at no other place
abbrev AtOperand : Place → Type 0
AtOperand (operand u) = Unit {0}
AtOperand (named u) = ⊥
AtOperand lists = ⊥
AtOperand before_name = ⊥
AtOperand after_name = ⊥

star-operand : (p : Place) (x : Context) → GoesSomewhere (step p x (Sign asterisk)) → AtOperand p
star-operand (operand u) x is = tt
star-operand (named u) x is = goes-no_refused refused is refl
star-operand lists x is = goes-no_refused refused is refl
star-operand before_name x is = goes-no_refused refused is refl
star-operand after_name x is = goes-no_refused refused is refl

star-missing : (p : Place) (x : Context) → GoesSomewhere (step p x (Sign asterisk)) → missing p x ≡ Some MissingValue
star-missing (operand u) x is = refl
star-missing (named u) x is = absurd (goes-no_refused refused is refl)
star-missing lists x is = absurd (goes-no_refused refused is refl)
star-missing before_name x is = absurd (goes-no_refused refused is refl)
star-missing after_name x is = absurd (goes-no_refused refused is refl)

bracket-missing : (p : Place) (x : Context) → GoesSomewhere (step p x (Sign close_bracket)) → missing p x ≡ Some MissingComma
bracket-missing (operand u) x is = absurd (goes-no_refused refused is refl)
bracket-missing (named u) x is = absurd (goes-no_refused refused is refl)
bracket-missing lists x is = absurd (goes-no_refused refused is refl)
bracket-missing before_name x is = absurd (goes-no_refused refused is refl)
bracket-missing after_name x is = refl

closing-missing : (outer : List (ℕ × ℕ)) (a k : ℕ) → GoesSomewhere (step lists (context a k outer) (Sign close_parenthesis)) → unclosed outer ≡ Some UnbalancedParens
closing-missing [] a k is = absurd (goes-no_refused refused is refl)
closing-missing (o ∷ outer) a k is = refl

parenthesis-missing : (p : Place) (x : Context) → GoesSomewhere (step p x (Sign close_parenthesis)) → missing p x ≡ Some UnbalancedParens
parenthesis-missing (operand u) x is = absurd (goes-no_refused refused is refl)
parenthesis-missing (named u) x is = closing-missing x.outer x.ancestry x.alternatives is
parenthesis-missing lists x is = closing-missing x.outer x.ancestry x.alternatives is
parenthesis-missing before_name x is = absurd (goes-no_refused refused is refl)
parenthesis-missing after_name x is = absurd (goes-no_refused refused is refl)

name-missing : (p : Place) (x : Context) → GoesSomewhere (step p x (Name [])) → (GoesSomewhere (step p x (Sign asterisk)) → ⊥) → missing p x ≡ Some MalformedAttribute
name-missing (operand u) x is other = absurd (other (lists, x, refl))
name-missing (named u) x is other = absurd (goes-no_refused refused is refl)
name-missing lists x is other = absurd (goes-no_refused refused is refl)
name-missing before_name x is other = refl
name-missing after_name x is other = absurd (goes-no_refused refused is refl)

fault_is : (f g : Fault) → Some f ≡ Some g → f ≡ g
fault_is f g e = cc

first_is : (t u : Token) (ts us : List Token) → t ∷ ts ≡ u ∷ us → t ≡ u
first_is t u ts us e = cc

whole_is_refusal : (f : Fault) → ◌≡◌ {A = Verdict} (Ok tt) (Err f) → ⊥
whole_is_refusal f e = cc

deep_is_refused : deep ≡ refused → ⊥
deep_is_refused e = cc

empty_is_filled : (t : Token) (ts : List Token) → [] ≡ t ∷ ts → ⊥
empty_is_filled t ts e = cc

module _ (front : List Token) (s : State) (there : LeadsHere front s) where
  follows : (t : Token) → MayFollow front t → GoesSomewhere (step s.0 s.1 t)
  follows t may = follows-may front s there t may

  missing-is : (f : Fault) → IsMissing front f → missing s.0 s.1 ≡ Some f
  missing-is MissingValue m = star-missing s.0 s.1 (follows (Sign asterisk) m)
  missing-is MissingComma m = bracket-missing s.0 s.1 (follows (Sign close_bracket) m)
  missing-is UnbalancedParens m = parenthesis-missing s.0 s.1 (follows (Sign close_parenthesis) m)
  missing-is MalformedAttribute m = name-missing s.0 s.1 (follows (Name []) (m.0 [])) (λ is. m.1 (may-follow front s there (Sign asterisk) is))
  missing-is (UnknownEntryType n) m = absurd m
  missing-is TooDeep m = absurd m

  is-missing : (f : Fault) → missing s.0 s.1 ≡ Some f → IsMissing front f
  is-missing f e = by_place s.0 s.1 f e (λ t is. may-follow front s there t is) (λ t may. follows-may front s there t may)
    where
      by_closing : (outer : List (ℕ × ℕ)) (f : Fault) → unclosed outer ≡ Some f → ((o : ℕ × ℕ) (more : List (ℕ × ℕ)) → outer ≡ o ∷ more → MayFollow front (Sign close_parenthesis)) → IsMissing front f
      by_closing [] f e may = absurd (some_is_none f (sym e))
      by_closing (o ∷ outer) f e may = subst (IsMissing front) (fault_is UnbalancedParens f e) (may o outer refl)

      closes-goes : (a k : ℕ) (outer : List (ℕ × ℕ)) (o : ℕ × ℕ) (more : List (ℕ × ℕ)) → outer ≡ o ∷ more → GoesSomewhere (step lists (context a k outer) (Sign close_parenthesis))
      closes-goes a k [] o more e = absurd cc
      closes-goes a k (p ∷ outer) o more e = (lists, context p.0 p.1 outer, refl)

      by_place : (p : Place) (x : Context) (f : Fault) → missing p x ≡ Some f → ((t : Token) → GoesSomewhere (step p x t) → MayFollow front t) → ((t : Token) → MayFollow front t → GoesSomewhere (step p x t)) → IsMissing front f
      by_place (operand u) x f e may back = subst (IsMissing front) (fault_is MissingValue f e) (may (Sign asterisk) (lists, x, refl))
      by_place (named u) x f e may back = by_closing x.outer f e (λ o more is. may (Sign close_parenthesis) (closes-goes x.ancestry x.alternatives x.outer o more is))
      by_place lists x f e may back = by_closing x.outer f e (λ o more is. may (Sign close_parenthesis) (closes-goes x.ancestry x.alternatives x.outer o more is))
      by_place before_name x f e may back =
          subst (IsMissing front) (fault_is MalformedAttribute f e) ((λ n. may (Name n) (after_name, x, refl)), (λ star. star-operand before_name x (back (Sign asterisk) star)))
      by_place after_name x f e may back = subst (IsMissing front) (fault_is MissingComma f e) (may (Sign close_bracket) (lists, x, refl))

  -- ---- levels

  -- a token that may follow where more levels may be open, and may not here, opens one too many
  more-levels : (u : ℕ) (t : Token) → Begins (suc u) (front ++ t ∷ []) → step s.0 s.1 t ≡ refused → ⊥
  more-levels u t begins stays =
      let whole = begins-there u (front ++ t ∷ []) begins in
      let high : ℕ = suc (u + 128) in
      let wide : Above whole.0 (operand high) (start high) (front ++ t ∷ []) = reached-above (front ++ t ∷ []) (operand u) (operand high) (start u) (start high) whole.0 (start-lower u high (omega arith)) whole.1 in
      let same : Above s (operand high) (start high) front = reached-above front first (operand high) around (start high) s (start-lower 128 high (omega arith)) there in
      let on : gone (step same.state.0 same.state.1 t) None (λ q y. Some (q, y)) ≡ Some wide.state = sym (reached-on front (operand high) (start high) same.state (t ∷ []) same.there) ∙ wide.there in
      let stays_there : step same.state.0 same.state.1 t ≡ refused = subst (λ (r : Answer). Less r (step same.state.0 same.state.1 t)) stays (less-step s.0 same.state.0 s.1 same.state.1 same.lower.place same.lower.context t) in
      goes-no_refused (step same.state.0 same.state.1 t) (goes-is (step same.state.0 same.state.1 t) wide.state on) stays_there

  opens-deep : (rest : List Token) → ((t : Token) (more : List Token) → rest ≡ t ∷ more → MayFollow front t → ⊥) → OpensTooMany front rest → (t : Token) × (more : List Token) × (rest ≡ t ∷ more) × (step s.0 s.1 t ≡ deep)
  opens-deep [] last opened = absurd opened
  opens-deep (t ∷ more) last (zero, begins) = absurd (no_level begins)
    where
      no_level : Begins zero (front ++ t ∷ []) → ⊥
      no_level (after, (x, (y, ys, a, is, others, joined))) = is
  opens-deep (t ∷ more) last (suc u, begins) = (t, more, refl, by_step (step s.0 s.1 t) refl)
    where
      by_step : (r : Answer) → step s.0 s.1 t ≡ r → r ≡ deep
      by_step (goes q y) is = absurd (last t more refl (may-follow front s there t (q, y, is)))
      by_step deep is = refl
      by_step refused is = absurd (more-levels u t begins is)

  deep-opens : (t : Token) (more : List Token) → step s.0 s.1 t ≡ deep → OpensTooMany front (t ∷ more)
  deep-opens t more is =
      let wide : Above s (operand 129) (start 129) front = reached-above front first (operand 129) around (start 129) s (start-lower 128 129 (omega arith)) there in
      let then : GoesSomewhere (step wide.state.0 wide.state.1 t) = subst (λ (r : Answer). Less r (step wide.state.0 wide.state.1 t)) is (less-step s.0 wide.state.0 s.1 wide.state.1 wide.lower.place wide.lower.context t) in
      (130, there-begins 129 (front ++ t ∷ []) (then.0, then.1) (reached-on front (operand 129) (start 129) wide.state (t ∷ []) wide.there ∙ ap (λ (r : Answer). gone r None (λ q y. Some (q, y))) then.2))

  -- ---- the end of an expression

  whole-missing : IsExpressionIn 129 front → is_none (missing s.0 s.1) ≡ true
  whole-missing is = sym (accepts-on front first around s [] there) ∙ (ap (accepts first around) (append-nil front) ∙ expression-accepted 128 front is)

  not-whole : (f : Fault) → missing s.0 s.1 ≡ Some f → IsExpressionIn 129 front → ⊥
  not-whole f e is = true≢false (sym (whole-missing is) ∙ ap is_none e)

  -- ---- what is wrong after the longest beginning

  lacking : (rest : List Token) (f : Fault) → ((t : Token) (more : List Token) → rest ≡ t ∷ more → step s.0 s.1 t ≡ refused) → missing s.0 s.1 ≡ Some f → IsFaultAfter front rest f
  lacking [] f stays e = inr ((λ opened. opened), not-whole f e, is-missing f e)
  lacking (t ∷ more) f stays e = inr (never_opened, not-whole f e, is-missing f e)
    where
      never_opened : OpensTooMany front (t ∷ more) → ⊥
      never_opened opened =
          let is = opens-deep (t ∷ more) (λ u others same may. goes-no_refused (step s.0 s.1 u) (follows-may front s there u may) (stays u others same)) opened in
          deep_is_refused (sym is.3 ∙ stays is.0 is.1 is.2)

  stops-fault : (rest : List Token) (f : Fault) → Stops s rest f → IsFaultAfter front rest f
  stops-fault [] f stops = lacking [] f (λ t more e. absurd (empty_is_filled t more e)) stops
  stops-fault (t ∷ more) f stops = by_step (step s.0 s.1 t) refl stops
    where
      by_step : (r : Answer) → step s.0 s.1 t ≡ r → continued r (missing s.0 s.1) (λ q y. Ok tt) ≡ Err f → IsFaultAfter front (t ∷ more) f
      by_step (goes q y) is d = absurd (whole_is_refusal f d)
      by_step deep is d = inl (deep-opens t more is, sym (refusal_is TooDeep f d))
      by_step refused is d = lacking (t ∷ more) f (λ u others e. ap (step s.0 s.1) (sym (first_is t u more others e)) ∙ is) (ended-is (missing s.0 s.1) f d)

  -- the machine says that fault
  fault-said : (rest : List Token) (f : Fault) → ((t : Token) (more : List Token) → rest ≡ t ∷ more → MayFollow front t → ⊥) → IsFaultAfter front rest f → verdict s.0 s.1 rest ≡ Err f
  fault-said rest f last (inl (opened, is)) =
      let at = opens-deep rest last opened in
      ap (verdict s.0 s.1) at.2 ∙ (ap (λ (r : Answer). continued r (missing s.0 s.1) (λ q y. verdict q y at.1)) at.3 ∙ ap (λ (g : Fault). Err g) (sym is))
  fault-said [] f last (inr (closed, other, lack)) = ap ended (missing-is f lack)
  fault-said (t ∷ more) f last (inr (closed, other, lack)) = by_step (step s.0 s.1 t) refl
    where
      by_step : (r : Answer) → step s.0 s.1 t ≡ r → continued r (missing s.0 s.1) (λ q y. verdict q y more) ≡ Err f
      by_step (goes q y) is = absurd (last t more refl (may-follow front s there t (q, y, is)))
      by_step deep is = absurd (closed (deep-opens t more is))
      by_step refused is = ap ended (missing-is f lack)

  stops-last : (rest : List Token) (f : Fault) → Stops s rest f → (t : Token) (more : List Token) → rest ≡ t ∷ more → MayFollow front t → ⊥
  stops-last [] f stops t more e may = empty_is_filled t more e
  stops-last (u ∷ others) f stops t more e may =
      let goes_on : GoesSomewhere (step s.0 s.1 u) = subst (λ (v : Token). GoesSomewhere (step s.0 s.1 v)) (sym (first_is u t others more e)) (follows-may front s there t may) in
      whole_is_refusal f (sym (ap (λ (r : Answer). continued r (missing s.0 s.1) (λ q y. Ok tt)) goes_on.2) ∙ stops)

-- ---- names of no type

operand-leads : (front : List Token) (s : State) → LeadsHere front s → AtOperand s.0 → LeadsTo first around front
operand-leads front (operand u, x) there at = record { left = u; around = x; leads = there }
operand-leads front (named u, x) there at = absurd at
operand-leads front (lists, x) there at = absurd at
operand-leads front (before_name, x) there at = absurd at
operand-leads front (after_name, x) there at = absurd at

star-leads : (front : List Token) → MayFollow front (Sign asterisk) → LeadsTo first around front
star-leads front may =
    let whole = begins-here (front ++ Sign asterisk ∷ []) may in
    let end = front-there front first around (Sign asterisk ∷ []) whole.0 whole.1 in
    operand-leads front end.0 end.1 (star-operand end.0.0 end.0.1 (follows-may front end.0 end.1 (Sign asterisk) may))

leads-star : (front : List Token) → LeadsTo first around front → MayFollow front (Sign asterisk)
leads-star front there = may-follow front (operand there.left, there.around) there.leads (Sign asterisk) (lists, there.around, refl)

known-all : (ts : List Token) → unknown first around ts ≡ None → AllAreKnown ts
known-all ts known front rest n (parts, may, bars, none) = none-found first around ts front rest n known parts (star-leads front may) bars none

all-known : (ts : List Token) → AllAreKnown ts → unknown first around ts ≡ None
all-known ts all = by_unknown (unknown first around ts) refl
  where
    by_unknown : (o : Option (List ℕ)) → unknown first around ts ≡ o → o ≡ None
    by_unknown None e = refl
    by_unknown (Some n) e =
        let f = found ts first around n e in
        absurd (all f.front f.rest n (f.parts, leads-star f.front f.there, f.bars, f.none))

-- the first of all is the one that the machine finds
unknown-first : (ts : List Token) (n : List ℕ) → unknown first around ts ≡ Some n → IsFirstUnknown ts n
unknown-first ts n e =
    let f = found ts first around n e in
    (f.front, f.rest, (f.parts, leads-star f.front f.there, f.bars, f.none), known-all f.front f.earlier)

first-unknown : (ts : List Token) (n : List ℕ) → IsFirstUnknown ts n → unknown first around ts ≡ Some n
first-unknown ts n (front, rest, (parts, may, bars, none), all) =
    ap (unknown first around) parts ∙ (unknown-at first around front rest n (star-leads front may) bars none ∙ ap (λ (o : Option (List ℕ)). or_later o (Some n)) (all-known front all))

-- ---- tokens

has-fault : (ts : List Token) (f : Fault) → judged first around ts ≡ Err f → HasFault ts f
has-fault ts f e = by_unknown (unknown first around ts) refl (sym (judged-is ts first around) ∙ e)
  where
    by_unknown : (o : Option (List ℕ)) → unknown first around ts ≡ o → checked o (verdict first around ts) ≡ Err f → HasFault ts f
    by_unknown (Some n) is d = inl (n, unknown-first ts n is, sym (refusal_is (UnknownEntryType n) f d))
    by_unknown None is d =
        let h = halted ts first around f d in
        inr (known-all ts is, (h.front, h.rest, (h.parts, here-begins h.front h.state h.there, stops-last h.front h.state h.there h.rest f h.stops), stops-fault h.front h.state h.there h.rest f h.stops))

fault-judged : (ts : List Token) (f : Fault) → HasFault ts f → judged first around ts ≡ Err f
fault-judged ts f (inl (n, is, same)) =
    judged-is ts first around ∙ (ap (λ (o : Option (List ℕ)). checked o (verdict first around ts)) (first-unknown ts n is) ∙ ap refusal (sym same))
fault-judged ts f (inr (all, (front, rest, (parts, begins, last), fault))) =
    let there = begins-here front begins in
    judged-is ts first around
    ∙ (ap (λ (o : Option (List ℕ)). checked o (verdict first around ts)) (all-known ts all)
    ∙ (ap (verdict first around) parts ∙ (verdict-on front first around there.0 rest there.1 ∙ fault-said front there.0 there.1 rest f last fault)))

-- ---- what is read

abbrev Trees : Type 0
Trees = Result (Tree × List Token) Fault

abbrev Only : Type 0
Only = Result Tree Fault

only_is : (x : Tree) (f : Fault) → ◌≡◌ {A = Only} (Ok x) (Err f) → ⊥
only_is x f e = cc

same_refusal : (f g : Fault) → ◌≡◌ {A = Only} (Err f) (Err g) → f ≡ g
same_refusal f g e = cc

read-judged : (cs : List ℕ) (f : Fault) → selector_of cs ≡ Err f → judged first around (tokens cs) ≡ Err f
unfolding selector_of selector_at
read-judged cs f e = judged-same 128 (tokens cs) ∙ by_read (alternatives_of (level 129).ancestry (tokens cs)) e
  where
    by_read : (r : Trees) → ◌≡◌ {A = Only} (r >>= λ p. Ok p.0) (Err f) → ◌≡◌ {A = Verdict} (r >>= λ p. Ok tt) (Err f)
    by_read (Ok p) d = absurd (only_is p.0 f d)
    by_read (Err g) d = ap refusal (same_refusal g f d)

judged-read : (cs : List ℕ) (f : Fault) → judged first around (tokens cs) ≡ Err f → selector_of cs ≡ Err f
unfolding selector_of selector_at
judged-read cs f e = by_read (alternatives_of (level 129).ancestry (tokens cs)) (sym (judged-same 128 (tokens cs)) ∙ e)
  where
    by_read : (r : Trees) → ◌≡◌ {A = Verdict} (r >>= λ p. Ok tt) (Err f) → ◌≡◌ {A = Only} (r >>= λ p. Ok p.0) (Err f)
    by_read (Ok p) d = absurd (whole_is_refusal f d)
    by_read (Err g) d = ap (λ (h : Fault). Err h) (refusal_is g f d)

pub read-refused : (cs : List ℕ) (fault : Fault) → selector_of cs ≡ Err fault → IsRefused cs fault
read-refused cs fault e = (tokens cs, tokens-take cs, has-fault (tokens cs) fault (read-judged cs fault e))

pub refused-read : (cs : List ℕ) (fault : Fault) → IsRefused cs fault → selector_of cs ≡ Err fault
refused-read cs fault (ts, are, has) = judged-read cs fault (ap (judged first around) (tokens-again ts cs are) ∙ fault-judged ts fault has)
