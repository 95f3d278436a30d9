-- The machine says of items and of a whole text what the reader gives.
use Rattle.std.proofs.Common.{◌≡◌, ℕ, Bool, true, false, cond, eqb, List, [], ◌∷◌, Some, Result, Ok, Err, codes, refl, sym, ◌∙◌}
use Rattle.laws.specs.Results.{◌>>=◌}
use Rattle.laws.specs.Steps.{each}
use Rattle.biblatex_text.specs.Character.{is_id_start}
use Rattle.biblatex_text.specs.Raw.{At, Item, nothing, definitions, an_entry}
use Rattle.biblatex_text.specs.Run.{prefix_of, after}
use Rattle.biblatex_text.specs.Reading.{Refusal, offset, token_at, after_blanks, run_at, identifier_at, closed_at}
use Rattle.biblatex_text.specs.Value.{value_at}
use Rattle.biblatex_text.specs.Fields.{more_fields_at, definitions_at}
use Rattle.biblatex_text.specs.Items.{opening_at, remark_at, preamble_at, key_run, entry_at, is_named, body_at, item_of_kind_at, item_at, item_or_end_at, next_item_at}
use Rattle.biblatex_text.specs.declared.token.Token.TheVariants as tokens
use Rattle.biblatex_text.specs.declared.token.Fault.TheVariants.{Expected}
use Rattle.biblatex_text.proofs.ReadingShorter.{items_shorten}
use Rattle.biblatex_grammar.proofs.States.{Bracket, outside, of_identifier, brace, parenthesis, remark}
use Rattle.biblatex_grammar.proofs.Machine.{Shape, curly, round, bracket_of, mark_of, of_preamble, item, kind_first, kind_done, remark_end, key_first, key_done, field_or_end, piece_first, naming, starts, start, wants, opened, at_remark, at_opening, Verdict, whole, too_soon, continued, verdict, met}
use Rattle.biblatex_grammar.proofs.Passing.{skips, skips-gap, key-gap, key-begins, names, first-passed, first-in-prefix}
use Rattle.biblatex_grammar.proofs.SameValues.{then_same, further, StepSame, each-same, ended, value_done, value-same, first-goes_on, more_fields-same, definitions-same}

-- ---- the bodies of items

closed_brace-same : (s : Shape) (cs : List ℕ) → ended (of_preamble s) cs ≡ (token_at (mark_of s) tokens.ClosingBrace cs >>= λ rest. verdict start rest)
closed_brace-same s [] = refl
closed_brace-same s (c ∷ cs) = by_test (eqb c (mark_of s))
  where
    by_test : (b : Bool) → continued (wants b start (Expected tokens.ClosingBrace)) (c ∷ cs) (λ then. verdict then cs) ≡ (cond b (Ok cs) (Err (Expected tokens.ClosingBrace, c ∷ cs)) >>= λ rest. verdict start rest)
    by_test true = refl
    by_test false = refl

preamble-same : (n : ℕ) (s : Shape) (cs : List ℕ) → verdict (starts (piece_first (of_preamble s))) cs ≡ (preamble_at n (bracket_of s) cs >>= λ rest. verdict start rest)
unfolding preamble_at
preamble-same n s cs =
    skips-gap (piece_first (of_preamble s)) refl cs
    ∙ (value-same n (of_preamble s) (after_blanks cs)
    ∙ then_same (value_at n (after_blanks cs)) (λ value. token_at (mark_of s) tokens.ClosingBrace (after_blanks value.1)) (λ rest. verdict start rest) (λ v. value_done (of_preamble s) v.1) (λ v. closed_brace-same s (after_blanks v.1)))

entry-same : (n : ℕ) (kind : At (List ℕ)) (s : Shape) (cs : List ℕ) → verdict (starts (key_first s)) cs ≡ (entry_at n kind (bracket_of s) cs >>= λ e. verdict start e.1)
unfolding entry_at
entry-same n kind s cs =
    let rest : List ℕ = after (key_run (bracket_of s)) (after_blanks cs) in
    skips-gap (key_first s) refl cs
    ∙ (key-begins s (after_blanks cs)
    ∙ (skips (key_done s) (after_blanks cs) false 0
    ∙ (key-gap s rest
    ∙ (more_fields-same n s rest
    ∙ then_same (more_fields_at n (bracket_of s) rest) (λ fields. Ok (record { kind = kind; key = run_at n (key_run (bracket_of s)) (after_blanks cs); fields = fields.0 }, fields.1)) (λ e. verdict start e.1) (λ q. verdict start q.1) (λ q. refl)))))

abbrev started : Item × List ℕ → Verdict
started p = verdict start p.1

body-same : (n : ℕ) (kind : At (List ℕ)) (s : Shape) (cs : List ℕ) → verdict (opened kind.v s) cs ≡ (body_at n kind (bracket_of s) cs >>= λ p. started p)
body-same n kind s cs = by_word (is_named kind.v (codes "preamble")) (is_named kind.v (codes "string"))
  where
    by_word : (a b : Bool) → verdict (cond a (starts (piece_first (of_preamble s))) (cond b (starts (field_or_end s)) (starts (key_first s)))) cs
        ≡ (cond a (preamble_at n (bracket_of s) cs >>= λ rest. Ok (nothing, rest)) (cond b (definitions_at n (bracket_of s) cs >>= λ fs. Ok (definitions fs.0, fs.1)) (entry_at n kind (bracket_of s) cs >>= λ e. Ok (an_entry e.0, e.1))) >>= λ p. started p)
    by_word true b = preamble-same n s cs ∙ then_same (preamble_at n (bracket_of s) cs) (λ rest. Ok (nothing, rest)) (λ p. started p) (λ rest. verdict start rest) (λ rest. refl)
    by_word false true = definitions-same n s cs ∙ then_same (definitions_at n (bracket_of s) cs) (λ fs. Ok (definitions fs.0, fs.1)) (λ p. started p) (λ q. verdict start q.1) (λ q. refl)
    by_word false false = entry-same n kind s cs ∙ then_same (entry_at n kind (bracket_of s) cs) (λ e. Ok (an_entry e.0, e.1)) (λ p. started p) (λ e. verdict start e.1) (λ e. refl)

-- ---- comments

remark_end-same : (cs : List ℕ) → met remark_end cs ≡ (closed_at cs >>= λ rest. verdict start rest)
remark_end-same [] = refl
remark_end-same (c ∷ cs) = refl

remark-same : (c : ℕ) (cs : List ℕ) → continued (at_remark c) (c ∷ cs) (λ then. verdict then cs) ≡ (remark_at (c ∷ cs) >>= λ rest. verdict start rest)
remark-same c cs = by_test (eqb c 123) refl
  where
    by_test : (b : Bool) → eqb c 123 ≡ b → continued (at_remark c) (c ∷ cs) (λ then. verdict then cs) ≡ (cond b (closed_at (after (remark 0) cs)) (Ok (c ∷ cs)) >>= λ rest. verdict start rest)
    by_test true is = let here : continued (at_remark c) (c ∷ cs) (λ then. verdict then cs) ≡ verdict (starts remark_end) cs = rw is refl in here ∙ (skips remark_end cs false 0 ∙ remark_end-same (after (remark 0) cs))
    by_test false other = rw other refl

-- ---- an item after its kind

opening-same : (n : ℕ) (kind : At (List ℕ)) (c : ℕ) (cs : List ℕ)
    → continued (at_opening kind.v c) (c ∷ cs) (λ then. verdict then cs) ≡ ((opening_at (c ∷ cs) >>= λ opened. body_at n kind opened.0 opened.1) >>= λ p. started p)
opening-same n kind c cs = by_test (eqb c 123) (eqb c 40)
  where
    by_test : (a b : Bool) → continued (cond a (Ok (opened kind.v curly)) (wants b (opened kind.v round) (Expected tokens.OpeningBrace))) (c ∷ cs) (λ then. verdict then cs)
        ≡ ((cond {A = Result (Bracket × List ℕ) Refusal} a (Ok (brace, cs)) (cond {A = Result (Bracket × List ℕ) Refusal} b (Ok (parenthesis, cs)) (Err (Expected tokens.OpeningBrace, c ∷ cs))) >>= λ opened. body_at n kind opened.0 opened.1) >>= λ p. started p)
    by_test true b = body-same n kind curly cs
    by_test false true = body-same n kind round cs
    by_test false false = refl

kind-same : (n : ℕ) (kind : At (List ℕ)) (cs : List ℕ) → met (kind_done kind.v) cs ≡ (item_of_kind_at n kind cs >>= λ p. started p)
kind-same n kind [] = by_comment (is_named kind.v (codes "comment"))
  where
    by_comment : (b : Bool) → cond b whole too_soon ≡ (cond b (remark_at [] >>= λ rest. Ok (nothing, rest)) (opening_at [] >>= λ opened. body_at n kind opened.0 opened.1) >>= λ p. started p)
    by_comment true = refl
    by_comment false = refl
kind-same n kind (c ∷ cs) = by_comment (is_named kind.v (codes "comment"))
  where
    by_comment : (b : Bool) → continued (cond b (at_remark c) (at_opening kind.v c)) (c ∷ cs) (λ then. verdict then cs)
        ≡ (cond b (remark_at (c ∷ cs) >>= λ rest. Ok (nothing, rest)) (opening_at (c ∷ cs) >>= λ opened. body_at n kind opened.0 opened.1) >>= λ p. started p)
    by_comment true = remark-same c cs ∙ then_same (remark_at (c ∷ cs)) (λ rest. Ok (nothing, rest)) (λ p. started p) (λ rest. verdict start rest) (λ rest. refl)
    by_comment false = opening-same n kind c cs

-- ---- items

kind_first-same : (n : ℕ) (cs : List ℕ) → met kind_first cs ≡ (identifier_at n cs >>= λ kind. verdict (starts (kind_done kind.0.v)) kind.1)
kind_first-same n [] = refl
kind_first-same n (c ∷ cs) = by_test (is_id_start c) refl
  where
    by_test : (b : Bool) → is_id_start c ≡ b
        → continued (wants b (naming (c ∷ [])) (Expected tokens.Identifier)) (c ∷ cs) (λ then. verdict then cs)
        ≡ (cond {A = Result (At (List ℕ) × List ℕ) Refusal} b (Ok (run_at n of_identifier (c ∷ cs), after of_identifier (c ∷ cs))) (Err (Expected tokens.Identifier, c ∷ cs)) >>= λ kind. verdict (starts (kind_done kind.0.v)) kind.1)
    by_test true is =
        let prefix : prefix_of of_identifier (c ∷ cs) ≡ c ∷ prefix_of of_identifier cs = first-in-prefix c cs (first-goes_on c is) in
        let behind : after of_identifier (c ∷ cs) ≡ after of_identifier cs = first-passed c cs (first-goes_on c is) in
        names cs (c ∷ []) ∙ λ j. verdict (starts (kind_done (sym prefix j))) (sym behind j)
    by_test false other = refl

item-same : (n : ℕ) (cs : List ℕ) → verdict (starts kind_first) cs ≡ (item_at n cs >>= λ p. started p)
unfolding item_at
item-same n cs =
    skips-gap kind_first refl cs
    ∙ (kind_first-same n (after_blanks cs)
    ∙ then_same (identifier_at n (after_blanks cs)) (λ kind. item_of_kind_at n kind.0 (after_blanks kind.1)) (λ p. started p) (λ kind. verdict (starts (kind_done kind.0.v)) kind.1)
    (λ kind. skips-gap (kind_done kind.0.v) refl kind.1 ∙ kind-same n kind.0 (after_blanks kind.1)))

next_item-same : (n : ℕ) → StepSame start (λ rest. whole) (next_item_at n)
unfolding next_item_at
next_item-same n cs = skips item cs false 0 ∙ by_rest (after outside cs)
  where
    by_rest : (ds : List ℕ) → met item ds ≡ (item_or_end_at n ds >>= λ o. further start (λ rest. whole) o.0 o.1)
    by_rest [] = refl
    by_rest (c ∷ ds) =
        item-same n ds
        ∙ then_same (item_at n ds) (λ i. Ok (Some (record { v = i.0; start = offset n (c ∷ ds); end = offset n i.1 }), i.1)) (λ o. further start (λ rest. whole) o.0 o.1) (λ p. started p) (λ p. refl)

pub items-same : (n : ℕ) (cs : List ℕ) → verdict start cs ≡ (each (next_item_at n) cs >>= λ p. whole)
items-same n cs = each-same start (λ rest. whole) (next_item_at n) (items_shorten n) (next_item-same n) cs
