-- Each step of the reader that gives something leaves less to read.
use Rattle.std.proofs.Common.{ℕ, ◌≤◌, ◌<◌, cond, eqb, List, [], ◌∷◌, length, Option, Some, None, Result, Ok, Err, arith}
use Rattle.std.specs.Prelude.{IfOk, IfSome, Bool, true, false, codes}
use Rattle.std.specs.Option.{option_map_or}
use Rattle.std.proofs.lemmas.Result.{IfOk-weaker}
use Rattle.laws.specs.Characters.{double_quote, number_sign, open_parenthesis, comma, equals_sign, open_brace}
use Rattle.laws.specs.Results.{◌>>=◌}
use Rattle.laws.specs.Steps.{Step, Shortens, each}
use Rattle.laws.proofs.Results.{bind_if_ok, test_if_ok, if_ok_at}
use Rattle.laws.proofs.Steps.{each-leaves}
use Rattle.biblatex_text.specs.Character.{is_id_start, is_id_continue}
use Rattle.biblatex_text.specs.Run.{next, after}
use Rattle.biblatex_text.specs.Raw.{At, at_map, Field}
use Rattle.biblatex_text.specs.Reading.{Refusal, token_at, after_blanks, run_at, identifier_at, closed_at}
use Rattle.biblatex_text.specs.Value.{unquoted_at, braced_at, quoted_at, bare, piece_at, piece_or_end_at, next_piece_at, value_at}
use Rattle.biblatex_text.specs.Fields.{field_at, closing, field_or_end_at, comma_or_end_at, next_field_at, more_fields_at, fields_from, definitions_at}
use Rattle.biblatex_text.specs.Items.{opening_at, remark_at, preamble_at, key_run, entry_at, is_named, body_at, item_of_kind_at, item_at, item_or_end_at, next_item_at}
use Rattle.biblatex_text.specs.declared.run.Run.{Run}
use Rattle.biblatex_text.specs.declared.run.Run.TheVariants.{Outside, Blank, Identifier, Remark, Braced, Quoted}
use Rattle.biblatex_text.specs.declared.bracket.Bracket.{Bracket}
use Rattle.biblatex_text.specs.declared.token.Token.{Token}
use Rattle.biblatex_text.specs.declared.token.Token.TheVariants as tokens
use Rattle.biblatex_text.specs.declared.token.Fault.TheVariants.{Unexpected, Expected}

-- at most n characters are left
abbrev AtMost : ℕ → List ℕ → Type 0
AtMost n cs = length cs ≤ n

abbrev LeavesAtMost : {X : Type 0} → ℕ → X × List ℕ → Type 0
LeavesAtMost n p = length p.1 ≤ n

-- a step leaves at most n characters, and fewer where it gives something
record Leaves {X : Type 0} (n : ℕ) (p : Option X × List ℕ) : Type 0 where
  pub most : length p.1 ≤ n
  pub fewer : IfSome p.0 (λ _. length p.1 < n)

length-after : (run : Run) (cs : List ℕ) → length (after run cs) ≤ length cs
length-after run [] = omega arith
length-after run (c ∷ cs) = by_next (λ more. length-after more cs) (next run c)
  where
    by_next : ((more : Run) → length (after more cs) ≤ length cs) → (o : Option Run) → length (option_map_or (λ more. after more cs) o (c ∷ cs)) ≤ length (c ∷ cs)
    by_next all None = omega arith
    by_next all (Some more) = let h = all more in omega arith

after-most : (n : ℕ) (run : Run) (cs : List ℕ) → length cs ≤ n → length (after run cs) ≤ n
after-most n run cs le = omega (arith, length-after run cs)

pub either_if_ok : {A : Type 0} (Q : A → Type 0) (b : Bool) (x y : Result A Refusal) → IfOk x Q → IfOk y Q → IfOk (cond b x y) Q
either_if_ok Q true x y p q = p
either_if_ok Q false x y p q = q

-- what a step gives, after a character that it took
gives-leaves : {X : Type 0} (n m : ℕ) (r : Result (X × List ℕ) Refusal) → m < n → IfOk r (LeavesAtMost m) → IfOk (r >>= λ p. Ok (Some p.0, p.1)) (Leaves n)
gives-leaves n m (Ok p) less le = record { most = omega arith; fewer = omega arith }
gives-leaves n m (Err f) less le = tt

-- steps that leave at most what there was
each-most : {X : Type 0} (step : Step Refusal X) → ((n : ℕ) (cs : List ℕ) → length cs ≤ n → IfOk (step cs) (Leaves n)) → (n : ℕ) (cs : List ℕ) → length cs ≤ n → IfOk (each step cs) (LeavesAtMost n)
each-most {X} step leaves n cs le =
    IfOk-weaker (each step cs) (LeavesAtMost (length cs)) (LeavesAtMost n) (λ p fewer. omega arith)
    (each-leaves step (λ ds. IfOk-weaker (step ds) (Leaves (length ds)) (LeavesAtMost (length ds)) (λ p l. l.most) (leaves (length ds) ds (omega arith))) cs)

shortens : {X : Type 0} (step : Step Refusal X) → ((n : ℕ) (cs : List ℕ) → length cs ≤ n → IfOk (step cs) (Leaves n)) → Shortens step
shortens step leaves cs rest x is = (if_ok_at (Leaves (length cs)) (step cs) (Some x, rest) is (leaves (length cs) cs (omega arith))).fewer

token-leaves : (n wanted : ℕ) (token : Token) (cs : List ℕ) → length cs ≤ n → IfOk (token_at wanted token cs) (AtMost n)
token-leaves n wanted token [] le = tt
token-leaves n wanted token (c ∷ cs) le = test_if_ok (AtMost n) (eqb c wanted) (Ok cs) (Expected token, c ∷ cs) (omega arith)

identifier-leaves : (t : ℕ) (n : ℕ) (cs : List ℕ) → length cs ≤ n → IfOk (identifier_at t cs) (LeavesAtMost n)
identifier-leaves t n [] le = tt
identifier-leaves t n (c ∷ cs) le = test_if_ok (LeavesAtMost n) (is_id_start c) (Ok (run_at t Identifier (c ∷ cs), after Identifier (c ∷ cs))) (Expected tokens.Identifier, c ∷ cs) (after-most n Identifier (c ∷ cs) le)

closed-leaves : (n : ℕ) (cs : List ℕ) → length cs ≤ n → IfOk (closed_at cs) (AtMost n)
closed-leaves n [] le = tt
closed-leaves n (c ∷ cs) le = omega arith

unquoted-leaves : (n : ℕ) (cs : List ℕ) → length cs ≤ n → IfOk (unquoted_at cs) (AtMost n)
unquoted-leaves n [] le = tt
unquoted-leaves n (c ∷ cs) le = test_if_ok (AtMost n) (eqb c double_quote) (Ok cs) (Unexpected tokens.ClosingBrace, c ∷ cs) (omega arith)

braced-leaves : (t : ℕ) (n : ℕ) (cs : List ℕ) → length cs ≤ n → IfOk (braced_at t cs) (LeavesAtMost n)
unfolding braced_at
braced-leaves t n cs le = bind_if_ok (AtMost n) (LeavesAtMost n) (closed_at (after (Braced 0) cs)) _ (closed-leaves n (after (Braced 0) cs) (after-most n (Braced 0) cs le)) (λ rest less. less)

quoted-leaves : (t : ℕ) (n : ℕ) (cs : List ℕ) → length cs ≤ n → IfOk (quoted_at t cs) (LeavesAtMost n)
unfolding quoted_at
quoted-leaves t n cs le = bind_if_ok (AtMost n) (LeavesAtMost n) (unquoted_at (after (Quoted 0) cs)) _ (unquoted-leaves n (after (Quoted 0) cs) (after-most n (Quoted 0) cs le)) (λ rest less. less)

piece-leaves : (t : ℕ) (n : ℕ) (cs : List ℕ) → length cs ≤ n → IfOk (piece_at t cs) (LeavesAtMost n)
piece-leaves t n [] le = tt
piece-leaves t n (c ∷ cs) le =
    either_if_ok (LeavesAtMost n) (eqb c open_brace) (braced_at t cs) _ (braced-leaves t n cs (omega arith))
    (either_if_ok (LeavesAtMost n) (eqb c double_quote) (quoted_at t cs) _ (quoted-leaves t n cs (omega arith))
    (test_if_ok (LeavesAtMost n) (is_id_continue c) (Ok (at_map bare (run_at t Identifier (c ∷ cs)), after Identifier (c ∷ cs))) (Expected tokens.Identifier, c ∷ cs) (after-most n Identifier (c ∷ cs) le)))

piece_or_end-leaves : (t : ℕ) (n : ℕ) (end cs : List ℕ) → length end ≤ n → length cs ≤ n → IfOk (piece_or_end_at t end cs) (Leaves n)
piece_or_end-leaves t n end [] before le = record { most = before; fewer = tt }
piece_or_end-leaves t n end (c ∷ cs) before le =
    either_if_ok (Leaves n) (eqb c number_sign) _ (Ok (None, end))
    (gives-leaves n (length cs) (piece_at t (after_blanks cs)) (omega arith) (piece-leaves t (length cs) (after_blanks cs) (length-after Blank cs)))
    (record { most = before; fewer = tt })

next_piece-leaves : (t : ℕ) (n : ℕ) (cs : List ℕ) → length cs ≤ n → IfOk (next_piece_at t cs) (Leaves n)
unfolding next_piece_at
next_piece-leaves t n cs le = piece_or_end-leaves t n cs (after_blanks cs) le (after-most n Blank cs le)

pub pieces_shorten : (t : ℕ) → Shortens (next_piece_at t)
pieces_shorten t = shortens (next_piece_at t) (next_piece-leaves t)

value-leaves : (t : ℕ) (n : ℕ) (cs : List ℕ) → length cs ≤ n → IfOk (value_at t cs) (LeavesAtMost n)
unfolding value_at
value-leaves t n cs le =
    bind_if_ok (LeavesAtMost n) (LeavesAtMost n) (piece_at t cs) _ (piece-leaves t n cs le) (λ first less.
    bind_if_ok (LeavesAtMost n) (LeavesAtMost n) (each (next_piece_at t) first.1) _ (each-most (next_piece_at t) (next_piece-leaves t) n first.1 less) (λ others fewer. fewer))

field-leaves : (t : ℕ) (n : ℕ) (cs : List ℕ) → length cs ≤ n → IfOk (field_at t cs) (LeavesAtMost n)
unfolding field_at
field-leaves t n cs le =
    bind_if_ok (LeavesAtMost n) (LeavesAtMost n) (identifier_at t cs) _ (identifier-leaves t n cs le) (λ name le1.
    bind_if_ok (AtMost n) (LeavesAtMost n) (token_at equals_sign tokens.Equals (after_blanks name.1)) _ (token-leaves n equals_sign tokens.Equals (after_blanks name.1) (after-most n Blank name.1 le1)) (λ following le2.
    bind_if_ok (LeavesAtMost n) (LeavesAtMost n) (value_at t (after_blanks following)) _ (value-leaves t n (after_blanks following) (after-most n Blank following le2)) (λ value le3. le3)))

-- where a field may stand nothing needs be taken: what is given leaves at most what there was
field_or_end-leaves : (t : ℕ) (n m : ℕ) (bracket : Bracket) (cs : List ℕ) → length cs ≤ m → m < n → IfOk (field_or_end_at t bracket cs) (Leaves n)
field_or_end-leaves t n m _ [] le less = tt
field_or_end-leaves t n m bracket (c ∷ cs) le less =
    either_if_ok (Leaves n) (eqb c (closing bracket)) (Ok (None, cs)) _ (record { most = omega arith; fewer = tt })
    (gives-leaves n m (field_at t (c ∷ cs)) less (field-leaves t m (c ∷ cs) le))

comma_or_end-leaves : (t : ℕ) (n : ℕ) (bracket : Bracket) (cs : List ℕ) → length cs ≤ n → IfOk (comma_or_end_at t bracket cs) (Leaves n)
comma_or_end-leaves t n _ [] le = tt
comma_or_end-leaves t n bracket (c ∷ cs) le =
    either_if_ok (Leaves n) (eqb c (closing bracket)) (Ok (None, cs)) _ (record { most = omega arith; fewer = tt })
    (test_if_ok (Leaves n) (eqb c comma) (field_or_end_at t bracket (after_blanks cs)) (Expected tokens.Comma, c ∷ cs)
    (field_or_end-leaves t n (length cs) bracket (after_blanks cs) (length-after Blank cs) (omega arith)))

next_field-leaves : (t : ℕ) (bracket : Bracket) (n : ℕ) (cs : List ℕ) → length cs ≤ n → IfOk (next_field_at t bracket cs) (Leaves n)
unfolding next_field_at
next_field-leaves t bracket n cs le = comma_or_end-leaves t n bracket (after_blanks cs) (after-most n Blank cs le)

pub fields_shorten : (t : ℕ) (bracket : Bracket) → Shortens (next_field_at t bracket)
fields_shorten t bracket = shortens (next_field_at t bracket) (next_field-leaves t bracket)

more_fields-leave : (t : ℕ) (n : ℕ) (bracket : Bracket) (cs : List ℕ) → length cs ≤ n → IfOk (more_fields_at t bracket cs) (LeavesAtMost n)
more_fields-leave t n bracket cs le = each-most (next_field_at t bracket) (next_field-leaves t bracket) n cs le

remark-leaves : (n : ℕ) (cs : List ℕ) → length cs ≤ n → IfOk (remark_at cs) (AtMost n)
remark-leaves n [] le = omega arith
remark-leaves n (c ∷ cs) le =
    either_if_ok (AtMost n) (eqb c open_brace) (closed_at (after (Remark 0) cs)) (Ok (c ∷ cs)) (closed-leaves n (after (Remark 0) cs) (after-most n (Remark 0) cs (omega arith))) le

preamble-leaves : (t : ℕ) (n : ℕ) (bracket : Bracket) (cs : List ℕ) → length cs ≤ n → IfOk (preamble_at t bracket cs) (AtMost n)
unfolding preamble_at
preamble-leaves t n bracket cs le =
    bind_if_ok (LeavesAtMost n) (AtMost n) (value_at t (after_blanks cs)) _ (value-leaves t n (after_blanks cs) (after-most n Blank cs le)) (λ value less.
    token-leaves n (closing bracket) tokens.ClosingBrace (after_blanks value.1) (after-most n Blank value.1 less))

fields_from-leave : (t : ℕ) (n : ℕ) (bracket : Bracket) (first : Option Field) (cs : List ℕ) → length cs ≤ n → IfOk (fields_from t bracket first cs) (LeavesAtMost n)
fields_from-leave t n _ None cs le = le
fields_from-leave t n bracket (Some f) cs le = bind_if_ok (LeavesAtMost n) (LeavesAtMost n) (more_fields_at t bracket cs) _ (more_fields-leave t n bracket cs le) (λ fs less. less)

first_field-leaves : (t : ℕ) (n : ℕ) (bracket : Bracket) (cs : List ℕ) → length cs ≤ n → IfOk (field_or_end_at t bracket cs) (LeavesAtMost n)
first_field-leaves t n _ [] le = tt
first_field-leaves t n bracket (c ∷ cs) le =
    either_if_ok (LeavesAtMost n) (eqb c (closing bracket)) (Ok (None, cs)) _ (omega arith)
    (bind_if_ok (LeavesAtMost n) (LeavesAtMost n) (field_at t (c ∷ cs)) _ (field-leaves t n (c ∷ cs) le) (λ f less. less))

definitions-leave : (t : ℕ) (n : ℕ) (bracket : Bracket) (cs : List ℕ) → length cs ≤ n → IfOk (definitions_at t bracket cs) (LeavesAtMost n)
unfolding definitions_at
definitions-leave t n bracket cs le =
    bind_if_ok (LeavesAtMost n) (LeavesAtMost n) (field_or_end_at t bracket (after_blanks cs)) _ (first_field-leaves t n bracket (after_blanks cs) (after-most n Blank cs le)) (λ first less.
    fields_from-leave t n bracket first.0 first.1 less)

entry-leaves : (t : ℕ) (n : ℕ) (kind : At (List ℕ)) (bracket : Bracket) (cs : List ℕ) → length cs ≤ n → IfOk (entry_at t kind bracket cs) (LeavesAtMost n)
unfolding entry_at
entry-leaves t n kind bracket cs le =
    let rest = after (key_run bracket) (after_blanks cs) in
    let fewer : length rest ≤ n = after-most n (key_run bracket) (after_blanks cs) (after-most n Blank cs le) in
    bind_if_ok (LeavesAtMost n) (LeavesAtMost n) (more_fields_at t bracket rest) _ (more_fields-leave t n bracket rest fewer) (λ fs less. less)

opening-leaves : (n : ℕ) (cs : List ℕ) → length cs ≤ n → IfOk (opening_at cs) (LeavesAtMost n)
opening-leaves n [] le = tt
opening-leaves n (c ∷ cs) le = either_if_ok (LeavesAtMost n) (eqb c open_brace) _ _ (omega arith) (test_if_ok (LeavesAtMost n) (eqb c open_parenthesis) _ (Expected tokens.OpeningBrace, c ∷ cs) (omega arith))

body-leaves : (t : ℕ) (n : ℕ) (kind : At (List ℕ)) (bracket : Bracket) (cs : List ℕ) → length cs ≤ n → IfOk (body_at t kind bracket cs) (LeavesAtMost n)
body-leaves t n kind bracket cs le =
    either_if_ok (LeavesAtMost n) (is_named kind.v (codes "preamble")) _ _ (bind_if_ok (AtMost n) (LeavesAtMost n) (preamble_at t bracket cs) _ (preamble-leaves t n bracket cs le) (λ rest less. less))
    (either_if_ok (LeavesAtMost n) (is_named kind.v (codes "string")) _ _ (bind_if_ok (LeavesAtMost n) (LeavesAtMost n) (definitions_at t bracket cs) _ (definitions-leave t n bracket cs le) (λ fs less. less))
    (bind_if_ok (LeavesAtMost n) (LeavesAtMost n) (entry_at t kind bracket cs) _ (entry-leaves t n kind bracket cs le) (λ e less. less)))

item_of_kind-leaves : (t : ℕ) (n : ℕ) (kind : At (List ℕ)) (cs : List ℕ) → length cs ≤ n → IfOk (item_of_kind_at t kind cs) (LeavesAtMost n)
item_of_kind-leaves t n kind cs le =
    either_if_ok (LeavesAtMost n) (is_named kind.v (codes "comment")) _ _ (bind_if_ok (AtMost n) (LeavesAtMost n) (remark_at cs) _ (remark-leaves n cs le) (λ rest less. less))
    (bind_if_ok (LeavesAtMost n) (LeavesAtMost n) (opening_at cs) _ (opening-leaves n cs le) (λ opened less. body-leaves t n kind opened.0 opened.1 less))

item-leaves : (t : ℕ) (n : ℕ) (cs : List ℕ) → length cs ≤ n → IfOk (item_at t cs) (LeavesAtMost n)
unfolding item_at
item-leaves t n cs le =
    bind_if_ok (LeavesAtMost n) (LeavesAtMost n) (identifier_at t (after_blanks cs)) _ (identifier-leaves t n (after_blanks cs) (after-most n Blank cs le)) (λ kind less.
    item_of_kind-leaves t n kind.0 (after_blanks kind.1) (after-most n Blank kind.1 less))

item_or_end-leaves : (t : ℕ) (n : ℕ) (cs : List ℕ) → length cs ≤ n → IfOk (item_or_end_at t cs) (Leaves n)
item_or_end-leaves t n [] le = record { most = omega arith; fewer = tt }
item_or_end-leaves t n (c ∷ cs) le =
    bind_if_ok (LeavesAtMost (length cs)) (Leaves n) (item_at t cs) _ (item-leaves t (length cs) cs (omega arith)) (λ i less. record { most = omega arith; fewer = omega arith })

next_item-leaves : (t : ℕ) (n : ℕ) (cs : List ℕ) → length cs ≤ n → IfOk (next_item_at t cs) (Leaves n)
unfolding next_item_at
next_item-leaves t n cs le = item_or_end-leaves t n (after Outside cs) (after-most n Outside cs le)

pub items_shorten : (t : ℕ) → Shortens (next_item_at t)
items_shorten t = shortens (next_item_at t) (next_item-leaves t)
