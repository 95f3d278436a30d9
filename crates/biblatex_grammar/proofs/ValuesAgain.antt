-- Values that the grammar relates are read.
use Rattle.std.proofs.Common.{◌≡◌, ℕ, Bool, true, false, true≢false, cond, eqb, List, [], ◌∷◌, ◌++◌, Some, None, Result, Ok, refl, sym, ap, ◌∙◌, subst, inl, inr}
use Rattle.std.proofs.lemmas.Bool.{eqb-true}
use Rattle.laws.specs.Results.{◌>>=◌}
use Rattle.laws.specs.Steps.{each}
use Rattle.laws.proofs.Steps.{each-none, each-some}
use Rattle.biblatex_text.specs.Character.{is_id_start, is_id_continue}
use Rattle.biblatex_text.specs.Raw.{At, at_map, Piece, normal}
use Rattle.biblatex_text.specs.Run.{prefix_of, after}
use Rattle.biblatex_text.specs.Reading.{Refusal, offset, after_blanks, run_at, identifier_at}
use Rattle.biblatex_text.specs.Value.{braced_at, quoted_at, bare, piece_at, piece_or_end_at, next_piece_at, value_at}
use Rattle.biblatex_text.proofs.ReadingShorter.{pieces_shorten}
use Rattle.biblatex_grammar.specs.Characters.{is_of_identifier}
use Rattle.biblatex_grammar.specs.Gaps.{IsGap, IsAfterGap}
use Rattle.biblatex_grammar.specs.Balanced.{Braces, Quotes, IsBalanced}
use Rattle.biblatex_grammar.specs.Values.{IsOffset, IsAt, IsIdentifier, IsPiece, IsBarePiece, AreFurther, ArePieces, IsValue}
use Rattle.biblatex_grammar.proofs.Classes.{differs, identifier-same, first-same}
use Rattle.biblatex_grammar.proofs.States.{of_identifier, braced, quoted}
use Rattle.biblatex_grammar.proofs.Runs.{takes_identifier, run-prefix, run-after}
use Rattle.biblatex_grammar.proofs.Gaps.{gap-again, gap-takes}
use Rattle.biblatex_grammar.proofs.Trees.{braces-stop, quotes-stop, balanced-prefix, balanced-after}
use Rattle.biblatex_grammar.proofs.Numbers.{bare-again}
use Rattle.biblatex_grammar.proofs.Offsets.{offset-again, at_same, run_at-again}
use Rattle.biblatex_grammar.proofs.Steps.{Again, read_same, some_of}

pub identifier-again : (n : ℕ) → Again (IsIdentifier n) (identifier_at n)
identifier-again n [] rest name (begins, is, at) = absurd begins
identifier-again n (c ∷ cs) rest name (begins, is, at) =
    let begun : is_id_start c ≡ true = sym (first-same c) ∙ begins in
    let here : identifier_at n (c ∷ cs) ≡ Ok (run_at n of_identifier (c ∷ cs), after of_identifier (c ∷ cs)) = rw begun refl in
    here ∙ read_same (run_at n of_identifier (c ∷ cs)) name (after of_identifier (c ∷ cs)) rest
    (run_at-again n of_identifier is_of_identifier takes_identifier (c ∷ cs) rest name is at) (run-after of_identifier is_of_identifier takes_identifier (c ∷ cs) name.v rest is)

braced-again : (n : ℕ) (a t rest : List ℕ) (p : At Piece) → IsBalanced Braces 125 a t rest → p.v ≡ normal t → IsAt n a p (125 ∷ rest) → braced_at n a ≡ Ok (p, rest)
unfolding braced_at
braced-again n a t rest p balanced v at =
    let behind : after (braced 0) a ≡ 125 ∷ rest = balanced-after Braces 125 a t rest braces-stop balanced in
    let text : prefix_of (braced 0) a ≡ t = balanced-prefix Braces 125 a t rest braces-stop balanced in
    rw behind (read_same (record { v = normal (prefix_of (braced 0) a); start = offset n a; end = offset n (125 ∷ rest) }) p rest rest
    (at_same (normal (prefix_of (braced 0) a)) (offset n a) (offset n (125 ∷ rest)) p (ap (λ (x : List ℕ). normal x) text ∙ sym v) (offset-again n p.start a at.0) (offset-again n p.end (125 ∷ rest) at.1)) refl)

quoted-again : (n : ℕ) (a t rest : List ℕ) (p : At Piece) → IsBalanced Quotes 34 a t rest → p.v ≡ normal t → IsAt n a p (34 ∷ rest) → quoted_at n a ≡ Ok (p, rest)
unfolding quoted_at
quoted-again n a t rest p balanced v at =
    let behind : after (quoted 0) a ≡ 34 ∷ rest = balanced-after Quotes 34 a t rest quotes-stop balanced in
    let text : prefix_of (quoted 0) a ≡ t = balanced-prefix Quotes 34 a t rest quotes-stop balanced in
    rw behind (read_same (record { v = normal (prefix_of (quoted 0) a); start = offset n a; end = offset n (34 ∷ rest) }) p rest rest
    (at_same (normal (prefix_of (quoted 0) a)) (offset n a) (offset n (34 ∷ rest)) p (ap (λ (x : List ℕ). normal x) text ∙ sym v) (offset-again n p.start a at.0) (offset-again n p.end (34 ∷ rest) at.1)) refl)

bare_piece-again : (n : ℕ) (cs rest : List ℕ) (p : At Piece) → IsBarePiece n cs p rest → piece_at n cs ≡ Ok (p, rest)
bare_piece-again n cs rest p ([], is, filled, bare_is, at) = absurd (true≢false (sym filled))
bare_piece-again n cs rest p (c ∷ t, (e, all, bars), filled, bare_is, at) =
    let ds : List ℕ = t ++ rest in
    let no_brace : eqb c 123 ≡ false = differs is_of_identifier c 123 all.0 refl in
    let no_quote : eqb c 34 ≡ false = differs is_of_identifier c 34 all.0 refl in
    let goes_on : is_id_continue c ≡ true = sym (identifier-same c) ∙ all.0 in
    let here : piece_at n (c ∷ ds) ≡ Ok (at_map bare (run_at n of_identifier (c ∷ ds)), after of_identifier (c ∷ ds)) = rw (goes_on, no_brace, no_quote) refl in
    let text : prefix_of of_identifier (c ∷ ds) ≡ c ∷ t = run-prefix of_identifier is_of_identifier takes_identifier (c ∷ ds) (c ∷ t) rest (refl, all, bars) in
    let behind : after of_identifier (c ∷ ds) ≡ rest = run-after of_identifier is_of_identifier takes_identifier (c ∷ ds) (c ∷ t) rest (refl, all, bars) in
    ap (piece_at n) e ∙ (here ∙ read_same (at_map bare (run_at n of_identifier (c ∷ ds))) p (after of_identifier (c ∷ ds)) rest
    (at_same (bare (prefix_of of_identifier (c ∷ ds))) (offset n (c ∷ ds)) (offset n (after of_identifier (c ∷ ds))) p
    (ap bare text ∙ bare-again (c ∷ t) p.v bare_is) (ap (offset n) (sym e) ∙ offset-again n p.start cs at.0) (ap (offset n) behind ∙ offset-again n p.end rest at.1))
    behind)

pub piece-again : (n : ℕ) → Again (IsPiece n) (piece_at n)
piece-again n cs rest p (inl (a, t, e, balanced, v, at)) = ap (piece_at n) e ∙ braced-again n a t rest p balanced v at
piece-again n cs rest p (inr (inl (a, t, e, balanced, v, at))) = ap (piece_at n) e ∙ quoted-again n a t rest p balanced v at
piece-again n cs rest p (inr (inr is)) = bare_piece-again n cs rest p is

-- no number sign follows
abbrev pub EndsPieces : List ℕ → Type 0
EndsPieces rest = (b : List ℕ) → IsAfterGap 35 rest b → ⊥

none-again : (n : ℕ) (rest : List ℕ) → EndsPieces rest → next_piece_at n rest ≡ Ok (None, rest)
unfolding next_piece_at
none-again n rest ends = by_rest (after_blanks rest) (gap-takes rest)
  where
    by_sign : (c : ℕ) (ds : List ℕ) → IsGap rest (c ∷ ds) → (b : Bool) → eqb c 35 ≡ b → cond b (some_of (piece_at n (after_blanks ds))) (Ok (None, rest)) ≡ Ok (None, rest)
    by_sign c ds gap true e = absurd (ends ds (subst (λ (x : ℕ). IsGap rest (x ∷ ds)) (eqb-true c 35 e) gap))
    by_sign c ds gap false e = refl

    by_rest : (ds : List ℕ) → IsGap rest ds → piece_or_end_at n rest ds ≡ Ok (None, rest)
    by_rest [] gap = refl
    by_rest (c ∷ ds) gap = by_sign c ds gap (eqb c 35) refl

some-again : (n : ℕ) (cs a b c : List ℕ) (p : At Piece) → IsAfterGap 35 cs a → IsGap a b → IsPiece n b p c → next_piece_at n cs ≡ Ok (Some p, c)
unfolding next_piece_at
some-again n cs a b c p sign gap piece =
    ap (piece_or_end_at n cs) (gap-again cs (35 ∷ a) sign) ∙ (ap (λ (x : List ℕ). some_of (piece_at n x)) (gap-again a b gap) ∙ ap some_of (piece-again n b c p piece))

further-again : (n : ℕ) (ps : List (At Piece)) (cs rest : List ℕ) → AreFurther n cs ps rest → EndsPieces rest → each (next_piece_at n) cs ≡ Ok (ps, rest)
further-again n [] cs rest e ends = ap (each (next_piece_at n)) e ∙ each-none (next_piece_at n) rest rest (none-again n rest ends)
further-again n (p ∷ ps) cs rest (a, b, c, sign, gap, piece, more) ends =
    each-some (next_piece_at n) (pieces_shorten n) cs c p (some-again n cs a b c p sign gap piece)
    ∙ ap (λ (r : Result (List (At Piece) × List ℕ) Refusal). r >>= λ q. Ok (p ∷ q.0, q.1)) (further-again n ps c rest more ends)

whole-again : (n : ℕ) (ps : List (At Piece)) (start end : ℕ) (cs rest : List ℕ) → ArePieces n cs ps rest → IsOffset n start cs → IsOffset n end rest
    → value_at n cs ≡ Ok (record { v = ps; start = start; end = end }, rest)
unfolding value_at
whole-again n [] start end cs rest are from to = absurd are
whole-again n (p ∷ ps) start end cs rest (a, piece, further, ends) from to =
    rw (piece-again n cs a p piece, further-again n ps a rest further ends)
    (λ j. Ok (record { v = p ∷ ps; start = offset-again n start cs from j; end = offset-again n end rest to j }, rest))

pub value-again : (n : ℕ) → Again (IsValue n) (value_at n)
value-again n cs rest v (are, at) = whole-again n v.v v.start v.end cs rest are at.0 at.1
