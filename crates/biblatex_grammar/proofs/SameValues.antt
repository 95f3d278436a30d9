-- The machine says of a value and of fields what the reader gives.
use Rattle.std.proofs.Common.{◌≡◌, ℕ, zero, suc, ◌<◌, Bool, true, false, true≢false, not, ◌||◌, cond, eqb, List, [], ◌∷◌, length, Option, Some, None, Result, Ok, Err, refl, sym, ap, ◌∙◌, arith}
use Rattle.std.specs.Char.{is_whitespace, is_control}
use Rattle.laws.specs.Results.{◌>>=◌}
use Rattle.laws.specs.Steps.{Step, go_on, each_below, each, Shortens}
use Rattle.biblatex_text.specs.Character.{is_special, is_id_start, is_id_continue}
use Rattle.biblatex_text.specs.Raw.{At, at_map, normal, Field}
use Rattle.biblatex_text.specs.Run.{after}
use Rattle.biblatex_text.specs.Reading.{Refusal, offset, token_at, after_blanks, run_at, identifier_at, closed_at}
use Rattle.biblatex_text.specs.Value.{unquoted_at, braced_at, quoted_at, bare, piece_at, piece_or_end_at, next_piece_at, value_at}
use Rattle.biblatex_text.specs.Fields.{field_at, field_or_end_at, comma_or_end_at, next_field_at, more_fields_at, fields_from, definitions_at}
use Rattle.biblatex_text.specs.declared.token.Token.TheVariants as tokens
use Rattle.biblatex_text.specs.declared.token.Fault.TheVariants.{Unexpected, Expected}
use Rattle.biblatex_text.proofs.ReadingShorter.{pieces_shorten, fields_shorten}
use Rattle.biblatex_grammar.proofs.States.{of_identifier, braced, quoted}
use Rattle.biblatex_grammar.proofs.Steps.{some_of}
use Rattle.biblatex_grammar.proofs.Machine.{Shape, bracket_of, mark_of, Holder, of_field, Place, comma_or_end, field_or_end, name_done, equals, piece_first, brace_end, quote_end, bare_done, piece_or_end, starts, start, wants, at_value_end, Verdict, too_soon, continued, verdict, met}
use Rattle.biblatex_grammar.proofs.Passing.{skips, skips-gap, name-gap, bare-gap, first-passed}

-- ---- steps one after the other

pub then_same : {F A B C : Type 0} (r : Result A F) (f : A → Result B F) (g : B → Result C F) (h : A → Result C F) → ((x : A) → h x ≡ (f x >>= g)) → (r >>= h) ≡ ((r >>= f) >>= g)
then_same (Ok x) f g h e = e x
then_same (Err d) f g h e = refl

-- what the machine says after a step: from the place on where it gave something, else as a text ends
abbrev pub further : {X : Type 0} → Place → (List ℕ → Verdict) → Option X → List ℕ → Verdict
further place done None rest = done rest
further place done (Some x) rest = verdict place rest

abbrev pub StepSame : {X : Type 0} → Place → (List ℕ → Verdict) → Step Refusal X → Type 0
StepSame place done step = (cs : List ℕ) → verdict place cs ≡ (step cs >>= λ o. further place done o.0 o.1)

each_below-same : {X : Type 0} (n : ℕ) (place : Place) (done : List ℕ → Verdict) (step : Step Refusal X) → Shortens step → StepSame place done step → (cs : List ℕ) → length cs < n
    → verdict place cs ≡ (each_below n step cs >>= λ q. done q.1)
unfolding each_below
each_below-same zero place done step shorter same cs few = absurd (omega arith)
each_below-same {X} (suc n) place done step shorter same cs few = same cs ∙ by_step (λ rest fewer. each_below-same n place done step shorter same rest fewer) (step cs) refl
  where
    by_step : ((rest : List ℕ) → length rest < n → verdict place rest ≡ (each_below n step rest >>= λ q. done q.1)) → (r : Result (Option X × List ℕ) Refusal) → step cs ≡ r
        → (r >>= λ o. further place done o.0 o.1) ≡ ((r >>= λ o. go_on (λ rest. each_below n step rest) o.0 o.1) >>= λ q. done q.1)
    by_step more (Err f) is = refl
    by_step more (Ok (None, rest)) is = refl
    by_step more (Ok (Some x, rest)) is =
        let less : length rest < length cs = shorter cs rest x is in
        more rest (omega arith) ∙ then_same (each_below n step rest) (λ q. Ok (x ∷ q.0, q.1)) (λ q. done q.1) (λ q. done q.1) (λ q. refl)

pub each-same : {X : Type 0} (place : Place) (done : List ℕ → Verdict) (step : Step Refusal X) → Shortens step → StepSame place done step → (cs : List ℕ) → verdict place cs ≡ (each step cs >>= λ q. done q.1)
unfolding each
each-same place done step shorter same cs = each_below-same (suc (length cs)) place done step shorter same cs (omega arith)

-- ---- values

brace_end-same : (h : Holder) (cs : List ℕ) → met (brace_end h) cs ≡ (closed_at cs >>= λ rest. verdict (starts (piece_or_end h)) rest)
brace_end-same h [] = refl
brace_end-same h (c ∷ cs) = refl

braced-same : (n : ℕ) (h : Holder) (cs : List ℕ) → verdict (starts (brace_end h)) cs ≡ (braced_at n cs >>= λ p. verdict (starts (piece_or_end h)) p.1)
unfolding braced_at
braced-same n h cs =
    skips (brace_end h) cs false 0
    ∙ (brace_end-same h (after (braced 0) cs)
    ∙ then_same (closed_at (after (braced 0) cs)) (λ rest. Ok (at_map (λ t. normal t) (run_at n (braced 0) cs), rest)) (λ p. verdict (starts (piece_or_end h)) p.1) (λ rest. verdict (starts (piece_or_end h)) rest) (λ rest. refl))

quote_end-same : (h : Holder) (cs : List ℕ) → met (quote_end h) cs ≡ (unquoted_at cs >>= λ rest. verdict (starts (piece_or_end h)) rest)
quote_end-same h [] = refl
quote_end-same h (c ∷ cs) = by_test (eqb c 34)
  where
    by_test : (b : Bool) → continued (wants b (starts (piece_or_end h)) (Unexpected tokens.ClosingBrace)) (c ∷ cs) (λ then. verdict then cs) ≡ (cond b (Ok cs) (Err (Unexpected tokens.ClosingBrace, c ∷ cs)) >>= λ rest. verdict (starts (piece_or_end h)) rest)
    by_test true = refl
    by_test false = refl

quoted-same : (n : ℕ) (h : Holder) (cs : List ℕ) → verdict (starts (quote_end h)) cs ≡ (quoted_at n cs >>= λ p. verdict (starts (piece_or_end h)) p.1)
unfolding quoted_at
quoted-same n h cs =
    skips (quote_end h) cs false 0
    ∙ (quote_end-same h (after (quoted 0) cs)
    ∙ then_same (unquoted_at (after (quoted 0) cs)) (λ rest. Ok (at_map (λ t. normal t) (run_at n (quoted 0) cs), rest)) (λ p. verdict (starts (piece_or_end h)) p.1) (λ rest. verdict (starts (piece_or_end h)) rest) (λ rest. refl))

piece-same : (n : ℕ) (h : Holder) (cs : List ℕ) → met (piece_first h) cs ≡ (piece_at n cs >>= λ p. verdict (starts (piece_or_end h)) p.1)
piece-same n h [] = refl
piece-same n h (c ∷ cs) = by_mark (eqb c 123) (eqb c 34) (is_id_continue c) refl
  where
    by_mark : (a b d : Bool) → is_id_continue c ≡ d
        → continued (cond a (Ok (starts (brace_end h))) (cond b (Ok (starts (quote_end h))) (wants d (starts (bare_done h)) (Expected tokens.Identifier)))) (c ∷ cs) (λ then. verdict then cs)
        ≡ (cond a (braced_at n cs) (cond b (quoted_at n cs) (cond d (Ok (at_map bare (run_at n of_identifier (c ∷ cs)), after of_identifier (c ∷ cs))) (Err (Expected tokens.Identifier, c ∷ cs)))) >>= λ p. verdict (starts (piece_or_end h)) p.1)
    by_mark true b d is = braced-same n h cs
    by_mark false true d is = quoted-same n h cs
    by_mark false false true is = skips (bare_done h) cs false 0 ∙ (bare-gap h (after of_identifier cs) ∙ ap (verdict (starts (piece_or_end h))) (sym (first-passed c cs is)))
    by_mark false false false is = refl

-- what the machine says after the last piece of a value, and before the gap there
abbrev pub ended : Holder → List ℕ → Verdict
ended h [] = too_soon
ended h (c ∷ cs) = continued (at_value_end h c) (c ∷ cs) (λ then. verdict then cs)

abbrev pub value_done : Holder → List ℕ → Verdict
value_done h rest = ended h (after_blanks rest)

next_piece-same : (n : ℕ) (h : Holder) → StepSame (starts (piece_or_end h)) (value_done h) (next_piece_at n)
unfolding next_piece_at
next_piece-same n h cs = skips-gap (piece_or_end h) refl cs ∙ by_rest (after_blanks cs) refl
  where
    by_sign : (c : ℕ) (ds : List ℕ) → after_blanks cs ≡ c ∷ ds → (b : Bool)
        → continued (cond b (Ok (starts (piece_first h))) (at_value_end h c)) (c ∷ ds) (λ then. verdict then ds) ≡ (cond b (some_of (piece_at n (after_blanks ds))) (Ok (None, cs)) >>= λ o. further (starts (piece_or_end h)) (value_done h) o.0 o.1)
    by_sign c ds at true =
        skips-gap (piece_first h) refl ds
        ∙ (piece-same n h (after_blanks ds)
        ∙ then_same (piece_at n (after_blanks ds)) (λ p. Ok (Some p.0, p.1)) (λ o. further (starts (piece_or_end h)) (value_done h) o.0 o.1) (λ p. verdict (starts (piece_or_end h)) p.1) (λ p. refl))
    by_sign c ds at false = ap (ended h) (sym at)

    by_rest : (ds : List ℕ) → after_blanks cs ≡ ds → met (piece_or_end h) ds ≡ (piece_or_end_at n cs ds >>= λ o. further (starts (piece_or_end h)) (value_done h) o.0 o.1)
    by_rest [] at = ap (ended h) (sym at)
    by_rest (c ∷ ds) at = by_sign c ds at (eqb c 35)

pub value-same : (n : ℕ) (h : Holder) (cs : List ℕ) → met (piece_first h) cs ≡ (value_at n cs >>= λ v. value_done h v.1)
unfolding value_at
value-same n h cs =
    piece-same n h cs
    ∙ then_same (piece_at n cs) (λ first. each (next_piece_at n) first.1 >>= λ others. Ok (record { v = first.0 ∷ others.0; start = offset n cs; end = offset n others.1 }, others.1)) (λ v. value_done h v.1) (λ p. verdict (starts (piece_or_end h)) p.1)
    (λ p.
    each-same (starts (piece_or_end h)) (value_done h) (next_piece_at n) (pieces_shorten n) (next_piece-same n h) p.1
    ∙ then_same (each (next_piece_at n) p.1) (λ others. Ok (record { v = p.0 ∷ others.0; start = offset n cs; end = offset n others.1 }, others.1)) (λ v. value_done h v.1) (λ q. value_done h q.1) (λ q. refl))

-- ---- fields

starts-goes_on : (x a b c d : Bool) → not (x || a || b || c || d) ≡ true → not x ≡ true
starts-goes_on true a b c d e = absurd (true≢false (sym e))
starts-goes_on false a b c d e = refl

pub first-goes_on : (c : ℕ) → is_id_start c ≡ true → is_id_continue c ≡ true
first-goes_on c is = starts-goes_on (is_whitespace c || is_control c || is_special c) (eqb c 58) (eqb c 60) (eqb c 45) (eqb c 62) is

name-same : (n : ℕ) (s : Shape) (c : ℕ) (cs : List ℕ)
    → continued (wants (is_id_start c) (starts (name_done s)) (Expected tokens.Identifier)) (c ∷ cs) (λ then. verdict then cs) ≡ (identifier_at n (c ∷ cs) >>= λ name. verdict (starts (equals s)) name.1)
name-same n s c cs = by_test (is_id_start c) refl
  where
    by_test : (b : Bool) → is_id_start c ≡ b
        → continued (wants b (starts (name_done s)) (Expected tokens.Identifier)) (c ∷ cs) (λ then. verdict then cs) ≡ (cond {A = Result (At (List ℕ) × List ℕ) Refusal} b (Ok (run_at n of_identifier (c ∷ cs), after of_identifier (c ∷ cs))) (Err (Expected tokens.Identifier, c ∷ cs)) >>= λ name. verdict (starts (equals s)) name.1)
    by_test true is = skips (name_done s) cs false 0 ∙ (name-gap s (after of_identifier cs) ∙ ap (verdict (starts (equals s))) (sym (first-passed c cs (first-goes_on c is))))
    by_test false is = refl

equals_here-same : (s : Shape) (cs : List ℕ) → met (equals s) cs ≡ (token_at 61 tokens.Equals cs >>= λ rest. verdict (starts (piece_first (of_field s))) rest)
equals_here-same s [] = refl
equals_here-same s (c ∷ cs) = by_test (eqb c 61)
  where
    by_test : (b : Bool) → continued (wants b (starts (piece_first (of_field s))) (Expected tokens.Equals)) (c ∷ cs) (λ then. verdict then cs) ≡ (cond b (Ok cs) (Err (Expected tokens.Equals, c ∷ cs)) >>= λ rest. verdict (starts (piece_first (of_field s))) rest)
    by_test true = refl
    by_test false = refl

comma-done : (s : Shape) (rest : List ℕ) → value_done (of_field s) rest ≡ verdict (starts (comma_or_end s)) rest
comma-done s rest = by_rest (after_blanks rest) ∙ sym (skips-gap (comma_or_end s) refl rest)
  where
    by_rest : (ds : List ℕ) → ended (of_field s) ds ≡ met (comma_or_end s) ds
    by_rest [] = refl
    by_rest (c ∷ ds) = refl

field-same : (n : ℕ) (s : Shape) (c : ℕ) (cs : List ℕ)
    → continued (wants (is_id_start c) (starts (name_done s)) (Expected tokens.Identifier)) (c ∷ cs) (λ then. verdict then cs) ≡ (field_at n (c ∷ cs) >>= λ f. verdict (starts (comma_or_end s)) f.1)
unfolding field_at
field-same n s c cs =
    name-same n s c cs
    ∙ then_same (identifier_at n (c ∷ cs)) (λ name. token_at 61 tokens.Equals (after_blanks name.1) >>= λ following. value_at n (after_blanks following) >>= λ value. Ok (record { name = name.0; value = value.0 }, value.1)) (λ f. verdict (starts (comma_or_end s)) f.1) (λ name. verdict (starts (equals s)) name.1)
    (λ name.
    skips-gap (equals s) refl name.1
    ∙ (equals_here-same s (after_blanks name.1)
    ∙ then_same (token_at 61 tokens.Equals (after_blanks name.1)) (λ following. value_at n (after_blanks following) >>= λ value. Ok (record { name = name.0; value = value.0 }, value.1)) (λ f. verdict (starts (comma_or_end s)) f.1) (λ following. verdict (starts (piece_first (of_field s))) following)
    (λ following.
    skips-gap (piece_first (of_field s)) refl following
    ∙ (value-same n (of_field s) (after_blanks following)
    ∙ then_same (value_at n (after_blanks following)) (λ value. Ok (record { name = name.0; value = value.0 }, value.1)) (λ f. verdict (starts (comma_or_end s)) f.1) (λ v. value_done (of_field s) v.1) (λ v. comma-done s v.1)))))

-- after a field the item ends or goes on
abbrev pub more_or_start : {X : Type 0} → Shape → Option X → List ℕ → Verdict
more_or_start s o rest = further (starts (comma_or_end s)) (verdict start) o rest

field_or_end-same : (n : ℕ) (s : Shape) (cs : List ℕ) → met (field_or_end s) cs ≡ (field_or_end_at n (bracket_of s) cs >>= λ o. more_or_start s o.0 o.1)
field_or_end-same n s [] = refl
field_or_end-same n s (c ∷ cs) = by_test (eqb c (mark_of s))
  where
    by_test : (b : Bool) → continued (cond b (Ok start) (wants (is_id_start c) (starts (name_done s)) (Expected tokens.Identifier))) (c ∷ cs) (λ then. verdict then cs) ≡ (cond b (Ok (None, cs)) (some_of (field_at n (c ∷ cs))) >>= λ o. more_or_start s o.0 o.1)
    by_test true = refl
    by_test false = field-same n s c cs ∙ then_same (field_at n (c ∷ cs)) (λ f. Ok (Some f.0, f.1)) (λ o. more_or_start s o.0 o.1) (λ f. verdict (starts (comma_or_end s)) f.1) (λ f. refl)

comma_or_end-same : (n : ℕ) (s : Shape) (cs : List ℕ) → met (comma_or_end s) cs ≡ (comma_or_end_at n (bracket_of s) cs >>= λ o. more_or_start s o.0 o.1)
comma_or_end-same n s [] = refl
comma_or_end-same n s (c ∷ cs) = by_test (eqb c (mark_of s)) (eqb c 44)
  where
    by_test : (a b : Bool) → continued (cond a (Ok start) (wants b (starts (field_or_end s)) (Expected tokens.Comma))) (c ∷ cs) (λ then. verdict then cs)
        ≡ (cond a (Ok (None, cs)) (cond b (field_or_end_at n (bracket_of s) (after_blanks cs)) (Err (Expected tokens.Comma, c ∷ cs))) >>= λ o. more_or_start s o.0 o.1)
    by_test true b = refl
    by_test false true = skips-gap (field_or_end s) refl cs ∙ field_or_end-same n s (after_blanks cs)
    by_test false false = refl

next_field-same : (n : ℕ) (s : Shape) → StepSame (starts (comma_or_end s)) (verdict start) (next_field_at n (bracket_of s))
unfolding next_field_at
next_field-same n s cs = skips-gap (comma_or_end s) refl cs ∙ comma_or_end-same n s (after_blanks cs)

pub more_fields-same : (n : ℕ) (s : Shape) (cs : List ℕ) → verdict (starts (comma_or_end s)) cs ≡ (more_fields_at n (bracket_of s) cs >>= λ q. verdict start q.1)
more_fields-same n s cs = each-same (starts (comma_or_end s)) (verdict start) (next_field_at n (bracket_of s)) (fields_shorten n (bracket_of s)) (next_field-same n s) cs

pub definitions-same : (n : ℕ) (s : Shape) (cs : List ℕ) → verdict (starts (field_or_end s)) cs ≡ (definitions_at n (bracket_of s) cs >>= λ q. verdict start q.1)
unfolding definitions_at
definitions-same n s cs =
    skips-gap (field_or_end s) refl cs
    ∙ (field_or_end-same n s (after_blanks cs)
    ∙ then_same (field_or_end_at n (bracket_of s) (after_blanks cs)) (λ first. fields_from n (bracket_of s) first.0 first.1) (λ q. verdict start q.1) (λ o. more_or_start s o.0 o.1) (λ o. by_first o.0 o.1))
  where
    by_first : (o : Option Field) (rest : List ℕ) → more_or_start s o rest ≡ (fields_from n (bracket_of s) o rest >>= λ q. verdict start q.1)
    by_first None rest = refl
    by_first (Some f) rest = more_fields-same n s rest ∙ then_same (more_fields_at n (bracket_of s) rest) (λ fs. Ok (f ∷ fs.0, fs.1)) (λ q. verdict start q.1) (λ q. verdict start q.1) (λ q. refl)
