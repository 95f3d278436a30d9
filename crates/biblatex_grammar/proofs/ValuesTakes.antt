-- Values that are read the grammar relates.
use Rattle.std.proofs.Common.{◌≡◌, ℕ, Bool, true, false, true≢false, cond, eqb, List, [], ◌∷◌, Some, None, Ok, Err, refl, sym, ap, ◌∙◌, subst, inl, inr}
use Rattle.std.proofs.lemmas.Bool.{eqb-true}
use Rattle.laws.specs.Results.{◌>>=◌}
use Rattle.laws.specs.Steps.{each}
use Rattle.laws.specs.Text.{is_filled}
use Rattle.laws.proofs.Results.{bind_ok, ok_is, test_ok}
use Rattle.biblatex_text.specs.Character.{is_id_start, is_id_continue}
use Rattle.biblatex_text.specs.Raw.{At, at_map, Piece, normal}
use Rattle.biblatex_text.specs.Run.{prefix_of, after}
use Rattle.biblatex_text.specs.Reading.{Refusal, offset, after_blanks, run_at, identifier_at, closed_at}
use Rattle.biblatex_text.specs.Value.{unquoted_at, braced_at, quoted_at, bare, piece_at, piece_or_end_at, next_piece_at, value_at}
use Rattle.biblatex_text.specs.declared.token.Token.TheVariants as tokens
use Rattle.biblatex_text.specs.declared.token.Fault.TheVariants.{Unexpected, Expected}
use Rattle.biblatex_text.proofs.ReadingShorter.{pieces_shorten}
use Rattle.biblatex_grammar.specs.Characters.{is_of_identifier, IsRun}
use Rattle.biblatex_grammar.specs.Gaps.{IsGap, IsAfterGap}
use Rattle.biblatex_grammar.specs.Balanced.{Braces, Quotes}
use Rattle.biblatex_grammar.specs.Values.{IsOffset, IsIdentifier, IsBraced, IsQuoted, IsBarePiece, IsPiece, AreFurther, IsValue}
use Rattle.biblatex_grammar.proofs.Classes.{head_same, never_empty, identifier-same, first-same}
use Rattle.biblatex_grammar.proofs.States.{of_identifier, blank, braced, quoted}
use Rattle.biblatex_grammar.proofs.Runs.{takes_identifier, run-takes}
use Rattle.biblatex_grammar.proofs.Gaps.{gap-again, gap-takes}
use Rattle.biblatex_grammar.proofs.Trees.{ends-stops, braced-ends, balanced-takes}
use Rattle.biblatex_grammar.proofs.Numbers.{bare-takes}
use Rattle.biblatex_grammar.proofs.Offsets.{Within, offset-takes, within-offset, within-tail, within-after, run_at-takes}
use Rattle.biblatex_grammar.proofs.Steps.{Takes, given, some_of, some_of-ok, some_of-none, none_is_some, none_rest, closed-takes, Steps, each-takes}
use Rattle.biblatex_grammar.proofs.ValuesAgain.{EndsPieces}

pub identifier-takes : (n : ℕ) → Takes n (IsIdentifier n) (identifier_at n)
identifier-takes n [] p within e = absurd cc
identifier-takes n (c ∷ cs) p within e =
    let t = test_ok (is_id_start c) (Ok (run_at n of_identifier (c ∷ cs), after of_identifier (c ∷ cs))) (Expected tokens.Identifier, c ∷ cs) p e in
    given (λ q. IsIdentifier n (c ∷ cs) q.0 q.1) (run_at n of_identifier (c ∷ cs)) (after of_identifier (c ∷ cs)) p t.1
    (first-same c ∙ t.0, run-takes of_identifier is_of_identifier takes_identifier (c ∷ cs), run_at-takes n of_identifier (c ∷ cs) within)

braced-takes : (n : ℕ) (a : List ℕ) (p : At Piece × List ℕ) → Within n a → braced_at n a ≡ Ok p → IsBraced n (123 ∷ a) p.0 p.1
unfolding braced_at
braced-takes n a p within e =
    let end = bind_ok (closed_at (after (braced 0) a)) (λ rest. Ok (at_map (λ t. normal t) (run_at n (braced 0) a), rest)) p e in
    let mark = closed-takes (after (braced 0) a) end.0 end.1 in
    let brace : mark.0 ≡ 125 = braced-ends mark.0 (ends-stops Braces mark.0 a end.0 mark.1) in
    let behind : after (braced 0) a ≡ 125 ∷ end.0 = mark.1 ∙ ap (λ (x : ℕ). x ∷ end.0) brace in
    let at = run_at-takes n (braced 0) a within in
    given (λ q. IsBraced n (123 ∷ a) q.0 q.1) (at_map (λ t. normal t) (run_at n (braced 0) a)) end.0 p end.2
    (a, prefix_of (braced 0) a, refl, balanced-takes Braces 125 a end.0 behind, refl, (at.0, subst (IsOffset n (offset n (after (braced 0) a))) behind at.1))

unquoted-takes : (cs rest : List ℕ) → unquoted_at cs ≡ Ok rest → cs ≡ 34 ∷ rest
unquoted-takes [] rest e = absurd cc
unquoted-takes (c ∷ cs) rest e =
    let t = test_ok (eqb c 34) (Ok cs) (Unexpected tokens.ClosingBrace, c ∷ cs) rest e in
    ap (λ (x : ℕ). x ∷ cs) (eqb-true c 34 t.0) ∙ ap (λ (x : List ℕ). 34 ∷ x) (ok_is {F = Refusal} cs rest t.1)

quoted-takes : (n : ℕ) (a : List ℕ) (p : At Piece × List ℕ) → Within n a → quoted_at n a ≡ Ok p → IsQuoted n (34 ∷ a) p.0 p.1
unfolding quoted_at
quoted-takes n a p within e =
    let end = bind_ok (unquoted_at (after (quoted 0) a)) (λ rest. Ok (at_map (λ t. normal t) (run_at n (quoted 0) a), rest)) p e in
    let behind : after (quoted 0) a ≡ 34 ∷ end.0 = unquoted-takes (after (quoted 0) a) end.0 end.1 in
    let at = run_at-takes n (quoted 0) a within in
    given (λ q. IsQuoted n (34 ∷ a) q.0 q.1) (at_map (λ t. normal t) (run_at n (quoted 0) a)) end.0 p end.2
    (a, prefix_of (quoted 0) a, refl, balanced-takes Quotes 34 a end.0 behind, refl, (at.0, subst (IsOffset n (offset n (after (quoted 0) a))) behind at.1))

-- a run that begins takes a character
begun_filled : (c : ℕ) (cs t rest : List ℕ) → is_of_identifier c ≡ true → IsRun is_of_identifier (c ∷ cs) t rest → is_filled t ≡ true
begun_filled c cs [] [] is (e, all, bars) = absurd cc
begun_filled c cs [] (d ∷ rest) is (e, all, bars) =
    absurd (true≢false (sym is ∙ (ap is_of_identifier (head_same c d cs rest e) ∙ bars)))
begun_filled c cs (d ∷ t) rest is run = refl

bare_piece-takes : (n c : ℕ) (cs : List ℕ) → Within n (c ∷ cs) → is_id_continue c ≡ true → IsBarePiece n (c ∷ cs) (at_map bare (run_at n of_identifier (c ∷ cs))) (after of_identifier (c ∷ cs))
bare_piece-takes n c cs within is =
    let run = run-takes of_identifier is_of_identifier takes_identifier (c ∷ cs) in
    (prefix_of of_identifier (c ∷ cs), run, begun_filled c cs (prefix_of of_identifier (c ∷ cs)) (after of_identifier (c ∷ cs)) (identifier-same c ∙ is) run, bare-takes (prefix_of of_identifier (c ∷ cs)), run_at-takes n of_identifier (c ∷ cs) within)

pub piece-takes : (n : ℕ) → Takes n (IsPiece n) (piece_at n)
piece-takes n [] p within e = absurd cc
piece-takes n (c ∷ cs) p within e = by_mark (eqb c 123) (eqb c 34) refl refl e
  where
    by_mark : (a b : Bool) → eqb c 123 ≡ a → eqb c 34 ≡ b
        → cond a (braced_at n cs) (cond b (quoted_at n cs) (cond (is_id_continue c) (Ok (at_map bare (run_at n of_identifier (c ∷ cs)), after of_identifier (c ∷ cs))) (Err (Expected tokens.Identifier, c ∷ cs)))) ≡ Ok p
        → IsPiece n (c ∷ cs) p.0 p.1
    by_mark true b is other d = inl (subst (λ (x : ℕ). IsBraced n (x ∷ cs) p.0 p.1) (sym (eqb-true c 123 is)) (braced-takes n cs p (within-tail n c cs within) d))
    by_mark false true other is d = inr (inl (subst (λ (x : ℕ). IsQuoted n (x ∷ cs) p.0 p.1) (sym (eqb-true c 34 is)) (quoted-takes n cs p (within-tail n c cs within) d)))
    by_mark false false other another d =
        let t = test_ok (is_id_continue c) (Ok (at_map bare (run_at n of_identifier (c ∷ cs)), after of_identifier (c ∷ cs))) (Expected tokens.Identifier, c ∷ cs) p d in
        inr (inr (given (λ q. IsBarePiece n (c ∷ cs) q.0 q.1) (at_map bare (run_at n of_identifier (c ∷ cs))) (after of_identifier (c ∷ cs)) p t.1 (bare_piece-takes n c cs within t.0)))

piece-within : (n : ℕ) (cs rest : List ℕ) (p : At Piece) → IsPiece n cs p rest → Within n rest
piece-within n cs rest p (inl (a, t, e, balanced, v, at)) = within-tail n 125 rest (within-offset n p.end (125 ∷ rest) at.1)
piece-within n cs rest p (inr (inl (a, t, e, balanced, v, at))) = within-tail n 34 rest (within-offset n p.end (34 ∷ rest) at.1)
piece-within n cs rest p (inr (inr (t, is, filled, bare_is, at))) = within-offset n p.end rest at.1

-- where no further piece was read, no number sign stood
ends-takes : (n : ℕ) (cs rest : List ℕ) → next_piece_at n cs ≡ Ok (None, rest) → (cs ≡ rest) × EndsPieces cs
unfolding next_piece_at
ends-takes n cs rest e = by_rest (after_blanks cs) refl e
  where
    by_sign : (c : ℕ) (ds : List ℕ) → after_blanks cs ≡ c ∷ ds → (b : Bool) → eqb c 35 ≡ b → cond b (some_of (piece_at n (after_blanks ds))) (Ok (None, cs)) ≡ Ok (None, rest) → (cs ≡ rest) × EndsPieces cs
    by_sign c ds at true is d = absurd (some_of-none (piece_at n (after_blanks ds)) rest d)
    by_sign c ds at false other d = (none_rest {X = At Piece} cs rest d, λ b gap. true≢false (sym (ap (λ (x : ℕ). eqb x 35) (head_same c 35 ds b (sym at ∙ gap-again cs (35 ∷ b) gap))) ∙ other))

    by_rest : (ds : List ℕ) → after_blanks cs ≡ ds → piece_or_end_at n cs ds ≡ Ok (None, rest) → (cs ≡ rest) × EndsPieces cs
    by_rest [] at d = (none_rest {X = At Piece} cs rest d, λ b gap. never_empty 35 b (sym at ∙ gap-again cs (35 ∷ b) gap))
    by_rest (c ∷ ds) at d = by_sign c ds at (eqb c 35) refl d

-- a further piece
abbrev IsFurther : ℕ → List ℕ → At Piece → List ℕ → Type 0
IsFurther n cs p c = (a : List ℕ) × (b : List ℕ) × IsAfterGap 35 cs a × IsGap a b × IsPiece n b p c

further-takes : (n : ℕ) (cs c : List ℕ) (p : At Piece) → Within n cs → next_piece_at n cs ≡ Ok (Some p, c) → IsFurther n cs p c
unfolding next_piece_at
further-takes n cs rest p within e = by_rest (after_blanks cs) refl e
  where
    by_sign : (c : ℕ) (ds : List ℕ) → after_blanks cs ≡ c ∷ ds → (b : Bool) → eqb c 35 ≡ b → cond b (some_of (piece_at n (after_blanks ds))) (Ok (None, cs)) ≡ Ok (Some p, rest) → IsFurther n cs p rest
    by_sign c ds at true is d =
        let sign : after_blanks cs ≡ 35 ∷ ds = at ∙ ap (λ (x : ℕ). x ∷ ds) (eqb-true c 35 is) in
        let inside : Within n (35 ∷ ds) = subst (Within n) sign (within-after n blank cs within) in
        let more : Within n (after_blanks ds) = within-after n blank ds (within-tail n 35 ds inside) in
        (ds, after_blanks ds, subst (IsGap cs) sign (gap-takes cs), gap-takes ds, piece-takes n (after_blanks ds) (p, rest) more (some_of-ok (piece_at n (after_blanks ds)) p rest d))
    by_sign c ds at false other d = absurd (none_is_some p cs rest d)

    by_rest : (ds : List ℕ) → after_blanks cs ≡ ds → piece_or_end_at n cs ds ≡ Ok (Some p, rest) → IsFurther n cs p rest
    by_rest [] at d = absurd (none_is_some p cs rest d)
    by_rest (c ∷ ds) at d = by_sign c ds at (eqb c 35) refl d

-- further pieces up to the end of a value, which stands within the text
record Further (n : ℕ) (cs : List ℕ) (ps : List (At Piece)) (rest : List ℕ) : Type 0 where
  are : AreFurther n cs ps rest
  ends : EndsPieces rest
  within : Within n rest

further_steps : (n : ℕ) → Steps (Within n) (Further n) (next_piece_at n)
further_steps n = record {
  shorter = pieces_shorten n;
  none = λ cs rest within e. let end = ends-takes n cs rest e in record { are = end.0; ends = subst EndsPieces end.0 end.1; within = subst (Within n) end.0 within };
  within = λ cs a p within e. piece-within n (further-takes n cs a p within e).1 a p (further-takes n cs a p within e).4;
  one = λ cs a p within e ps rest more. let f = further-takes n cs a p within e in record { are = (f.0, f.1, a, f.2, f.3, f.4, more.are); ends = more.ends; within = more.within };
}

pub value-takes : (n : ℕ) → Takes n (IsValue n) (value_at n)
unfolding value_at
value-takes n cs p within e =
    let first = bind_ok (piece_at n cs) (λ first. each (next_piece_at n) first.1 >>= λ others. Ok (record { v = first.0 ∷ others.0; start = offset n cs; end = offset n others.1 }, others.1)) p e in
    let others = bind_ok (each (next_piece_at n) first.0.1) (λ others. Ok (record { v = first.0.0 ∷ others.0; start = offset n cs; end = offset n others.1 }, others.1)) p first.2 in
    let piece : IsPiece n cs first.0.0 first.0.1 = piece-takes n cs first.0 within first.1 in
    let further : Further n first.0.1 others.0.0 others.0.1 = each-takes (Within n) (Further n) (next_piece_at n) (further_steps n) first.0.1 others.0 (piece-within n cs first.0.1 first.0.0 piece) others.1 in
    given (λ q. IsValue n cs q.0 q.1) (record { v = first.0.0 ∷ others.0.0; start = offset n cs; end = offset n others.0.1 }) others.0.1 p others.2
    ((first.0.1, piece, further.are, further.ends), (offset-takes n cs within, offset-takes n others.0.1 further.within))
