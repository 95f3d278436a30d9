-- What stands for each refusal of the machine: which characters may stand at a place where it stops, and which may not.
use Rattle.std.proofs.Common.{◌≡◌, ℕ, zero, suc, ◌+◌, Bool, true, false, true≢false, cond, ◌&&◌, eqb, List, [], ◌∷◌, ◌++◌, Option, Some, None, Ok, Err, codes, refl, sym, ap, ◌∙◌, subst, ne_eqb, arith}
use Rattle.std.proofs.lemmas.Bool.{eqb-true}
use Rattle.std.specs.Option.{option_map, option_map_or}
use Rattle.biblatex_text.specs.Character.{is_id_start, is_id_continue}
use Rattle.biblatex_text.specs.Items.{is_named}
use Rattle.biblatex_text.specs.declared.token.Token.{Token}
use Rattle.biblatex_text.specs.declared.token.Token.TheVariants as tokens
use Rattle.biblatex_text.specs.declared.token.Fault.{Fault}
use Rattle.biblatex_text.specs.declared.token.Fault.TheVariants.{UnexpectedEof, Unexpected, Expected}
use Rattle.biblatex_grammar.proofs.Machine.{Shape, curly, round, mark_of, Holder, of_field, of_preamble, Class, between, gap, word, key, Point, item, kind_first, kind_done, remark_end, key_first, key_done, comma_or_end, field_or_end, name_done, equals, piece_first, brace_end, quote_end, bare_done, piece_or_end, class_of, Place, before, naming, at_depth, forward, Next, passes, starts, start, wants, opened, at_comma, at_field, at_equals, at_piece, at_value_end, at_piece_or_end, at_item, at_remark, at_opening, at_kind_done, decides, step}

-- the machine goes on
abbrev pub goes : Next → Bool
goes (Ok place) = true
goes (Err f) = false

abbrev pub may : Place → ℕ → Bool
may place c = goes (step place c)

-- What may stand at a place where something is wanted, and what may not: a comma, a number sign, an equals sign, an opening parenthesis,
-- a letter, and a control character, which may not stand at any of them.
abbrev pub Signs : Place → Token → Type 0
Signs p tokens.Comma = (may p 44 ≡ true) × (may p 1 ≡ false)
Signs p tokens.ClosingBrace = (may p 35 ≡ true) × (may p 44 ≡ false) × (may p 61 ≡ false) × (may p 40 ≡ false) × (may p 1 ≡ false)
Signs p tokens.Equals = (may p 61 ≡ true) × (may p 44 ≡ false) × (may p 35 ≡ false) × (may p 40 ≡ false) × (may p 1 ≡ false)
Signs p tokens.OpeningBrace = (may p 40 ≡ true) × (may p 44 ≡ false) × (may p 35 ≡ false) × (may p 61 ≡ false) × (may p 1 ≡ false)
Signs p tokens.Identifier = (may p 97 ≡ true) × (may p 44 ≡ false) × (may p 35 ≡ false) × (may p 61 ≡ false) × (may p 40 ≡ false) × (may p 1 ≡ false)
Signs p tokens.QuotationMark = ⊥
Signs p tokens.DecimalPoint = ⊥

-- in quotation marks every character but a closing brace may stand
abbrev pub Quoted : Place → Type 0
Quoted p = (x : ℕ) → eqb x 125 ≡ false → may p x ≡ true

-- a fault at a character, by what may stand at the place
abbrev pub Stuck : Place → ℕ → Fault → Type 0
Stuck p c UnexpectedEof = ⊥
Stuck p c (Unexpected token) = (c ≡ 125) × (token ≡ tokens.ClosingBrace) × Quoted p
Stuck p c (Expected token) = Signs p token

-- ---- where a step refuses

abbrev Refuses : Next → Fault → Type 0
Refuses r f = r ≡ Err f

fault_is : (f g : Fault) → Refuses (Err f) g → f ≡ g
fault_is f g e = cc

goes_on-fine : (p : Place) (f : Fault) → Refuses (Ok p) f → ⊥
goes_on-fine p f e = cc

wants-err : (b : Bool) (p : Place) (f g : Fault) → Refuses (wants b p f) g → f ≡ g
wants-err true p f g e = absurd (goes_on-fine p g e)
wants-err false p f g e = fault_is f g e

or-err : (b : Bool) (p : Place) (r : Next) (f : Fault) → Refuses (cond b (Ok p) r) f → Refuses r f
or-err true p r f e = absurd (goes_on-fine p f e)
or-err false p r f e = e

passed-err : (k : Point) (o : Option (Bool × ℕ)) (r : Next) (f : Fault) → Refuses (option_map_or (λ (g : Bool × ℕ). Ok (before g.0 g.1 k)) o r) f → Refuses r f
passed-err k None r f e = e
passed-err k (Some (h, d)) r f e = absurd (goes_on-fine (before h d k) f e)

passes-err : (class : Class) (hides : Bool) (d : ℕ) (k : Point) (c : ℕ) (r : Next) (f : Fault) → Refuses (passes class hides d k c r) f → Refuses r f
passes-err class hides d k c r f e = passed-err k (forward class hides d c) r f e

-- nothing refuses before a point that takes every character
takes_all : (class : Class) (hides : Bool) (d : ℕ) (k : Point) (c : ℕ) (p : Place) (f : Fault) → Refuses (passes class hides d k c (Ok p)) f → ⊥
takes_all class hides d k c p f e = goes_on-fine p f (passes-err class hides d k c (Ok p) f e)

-- nothing refuses in a comment
comment-fine : (k : Point) (d c : ℕ) (r : Next) (f : Fault) → Refuses (passes gap true d k c r) f → ⊥
comment-fine k d c r f e = goes_on-fine (before (cond {A = Bool × ℕ} (eqb c 10) (false, 0) (true, 0)).0 (cond {A = Bool × ℕ} (eqb c 10) (false, 0) (true, 0)).1 k) f e

comma-err : (s : Shape) (c : ℕ) (f : Fault) → Refuses (at_comma s c) f → Expected tokens.Comma ≡ f
comma-err s c f e = wants-err (eqb c 44) (starts (field_or_end s)) (Expected tokens.Comma) f (or-err (eqb c (mark_of s)) start (wants (eqb c 44) (starts (field_or_end s)) (Expected tokens.Comma)) f e)

field-err : (s : Shape) (c : ℕ) (f : Fault) → Refuses (at_field s c) f → Expected tokens.Identifier ≡ f
field-err s c f e = wants-err (is_id_start c) (starts (name_done s)) (Expected tokens.Identifier) f (or-err (eqb c (mark_of s)) start (wants (is_id_start c) (starts (name_done s)) (Expected tokens.Identifier)) f e)

equals-err : (s : Shape) (c : ℕ) (f : Fault) → Refuses (at_equals s c) f → Expected tokens.Equals ≡ f
equals-err s c f e = wants-err (eqb c 61) (starts (piece_first (of_field s))) (Expected tokens.Equals) f e

piece-err : (h : Holder) (c : ℕ) (f : Fault) → Refuses (at_piece h c) f → Expected tokens.Identifier ≡ f
piece-err h c f e =
    let bare : Next = wants (is_id_continue c) (starts (bare_done h)) (Expected tokens.Identifier) in
    wants-err (is_id_continue c) (starts (bare_done h)) (Expected tokens.Identifier) f (or-err (eqb c 34) (starts (quote_end h)) bare f (or-err (eqb c 123) (starts (brace_end h)) (cond (eqb c 34) (Ok (starts (quote_end h))) bare) f e))

-- what is wanted after a value
abbrev wanted_after : Holder → Token
wanted_after (of_field s) = tokens.Comma
wanted_after (of_preamble s) = tokens.ClosingBrace

value_end-err : (h : Holder) (c : ℕ) (f : Fault) → Refuses (at_value_end h c) f → Expected (wanted_after h) ≡ f
value_end-err (of_field s) c f e = comma-err s c f e
value_end-err (of_preamble s) c f e = wants-err (eqb c (mark_of s)) start (Expected tokens.ClosingBrace) f e

piece_or_end-err : (h : Holder) (c : ℕ) (f : Fault) → Refuses (at_piece_or_end h c) f → Expected (wanted_after h) ≡ f
piece_or_end-err h c f e = value_end-err h c f (or-err (eqb c 35) (starts (piece_first h)) (at_value_end h c) f e)

opening-err : (name : List ℕ) (c : ℕ) (f : Fault) → Refuses (at_opening name c) f → Expected tokens.OpeningBrace ≡ f
opening-err name c f e = wants-err (eqb c 40) (opened name round) (Expected tokens.OpeningBrace) f (or-err (eqb c 123) (opened name curly) (wants (eqb c 40) (opened name round) (Expected tokens.OpeningBrace)) f e)

-- after a kind only one that is no comment refuses
record AfterKind (name : List ℕ) (f : Fault) : Type 0 where
  other : is_named name (codes "comment") ≡ false
  is : Expected tokens.OpeningBrace ≡ f

kind_done-err : (name : List ℕ) (c : ℕ) (f : Fault) → Refuses (at_kind_done name c) f → AfterKind name f
kind_done-err name c f e = by_comment (is_named name (codes "comment")) refl e
  where
    by_comment : (b : Bool) → is_named name (codes "comment") ≡ b → Refuses (cond b (at_remark c) (at_opening name c)) f → AfterKind name f
    by_comment true is d = absurd (takes_all between false 0 item c (starts kind_first) f (or-err (eqb c 123) (starts remark_end) (at_item c) f d))
    by_comment false is d = record { other = is; is = opening-err name c f d }

-- ---- what may stand at each place

signs_comma : (s : Shape) (d : ℕ) → Signs (before false d (comma_or_end s)) tokens.Comma
signs_comma curly d = (refl, refl)
signs_comma round d = (refl, refl)

signs_key : (s : Shape) (d : ℕ) → Signs (before false d (key_first s)) tokens.Comma
signs_key curly d = (refl, refl)
signs_key round d = (refl, refl)

signs_key_done : (s : Shape) (hides : Bool) (d : ℕ) → Signs (before hides d (key_done s)) tokens.Comma
signs_key_done curly hides d = (refl, refl)
signs_key_done round hides d = (refl, refl)

signs_field : (s : Shape) (d : ℕ) → Signs (before false d (field_or_end s)) tokens.Identifier
signs_field curly d = (refl, refl, refl, refl, refl, refl)
signs_field round d = (refl, refl, refl, refl, refl, refl)

signs_end : (h : Holder) (d : ℕ) → Signs (before false d (piece_or_end h)) (wanted_after h)
signs_end (of_field curly) d = (refl, refl)
signs_end (of_field round) d = (refl, refl)
signs_end (of_preamble curly) d = (refl, refl, refl, refl, refl)
signs_end (of_preamble round) d = (refl, refl, refl, refl, refl)

signs_bare : (h : Holder) (hides : Bool) (d : ℕ) → Signs (before hides d (bare_done h)) (wanted_after h)
signs_bare (of_field curly) hides d = (refl, refl)
signs_bare (of_field round) hides d = (refl, refl)
signs_bare (of_preamble curly) hides d = (refl, refl, refl, refl, refl)
signs_bare (of_preamble round) hides d = (refl, refl, refl, refl, refl)

signs_kind_done : (name : List ℕ) (d : ℕ) → is_named name (codes "comment") ≡ false → Signs (before false d (kind_done name)) tokens.OpeningBrace
signs_kind_done name d other = (rw other refl, rw other refl, rw other refl, rw other refl, rw other refl)

signs_naming : (name : List ℕ) → is_named name (codes "comment") ≡ false → Signs (naming name) tokens.OpeningBrace
signs_naming name other = (rw other refl, rw other refl, rw other refl, rw other refl, rw other refl)

-- ---- quotation marks

never_zero : (a : Bool) (d : ℕ) → a && eqb (suc d) 0 ≡ false
never_zero true d = ne_eqb (suc d) 0 (λ e. omega arith)
never_zero false d = refl

abbrev quote_step : Holder → Bool → Bool → ℕ → Option ℕ → Next
quote_step h k q d depth = option_map_or (λ (g : Bool × ℕ). Ok (before g.0 g.1 (quote_end h))) (cond k (Some (true, d)) (cond (q && eqb d 0) None (option_map at_depth depth))) (wants q (starts (piece_or_end h)) (Unexpected tokens.ClosingBrace))

-- where no brace is open
outside_quotes : (h : Holder) (c : ℕ) (f : Fault) → (k q a b : Bool) → eqb c 125 ≡ b → Refuses (quote_step h k q 0 (cond a (Some (0 + 1)) (cond b None (Some 0)))) f → (c ≡ 125) × (Unexpected tokens.ClosingBrace ≡ f)
outside_quotes h c f true q a b is e = absurd (goes_on-fine (before true 0 (quote_end h)) f e)
outside_quotes h c f false true a b is e = absurd (goes_on-fine (starts (piece_or_end h)) f e)
outside_quotes h c f false false true b is e = absurd (goes_on-fine (before false (0 + 1) (quote_end h)) f e)
outside_quotes h c f false false false true is e = (eqb-true c 125 is, fault_is (Unexpected tokens.ClosingBrace) f e)
outside_quotes h c f false false false false is e = absurd (goes_on-fine (before false 0 (quote_end h)) f e)

-- where a brace is open
in_braces : (h : Holder) (d : ℕ) (f : Fault) → (k q a b : Bool) → q && eqb (suc d) 0 ≡ false → Refuses (quote_step h k q (suc d) (cond a (Some (suc d + 1)) (cond b (Some d) (Some (suc d))))) f → ⊥
in_braces h d f k q a b never e = by_tests k (q && eqb (suc d) 0) a b never e
  where
    by_tests : (k z a b : Bool) → z ≡ false
        → Refuses (option_map_or (λ (g : Bool × ℕ). Ok (before g.0 g.1 (quote_end h))) (cond k (Some (true, suc d)) (cond z None (option_map at_depth (cond a (Some (suc d + 1)) (cond b (Some d) (Some (suc d))))))) (wants q (starts (piece_or_end h)) (Unexpected tokens.ClosingBrace))) f
        → ⊥
    by_tests true z a b never e = goes_on-fine (before true (suc d) (quote_end h)) f e
    by_tests false true a b never e = true≢false never
    by_tests false false true b never e = goes_on-fine (before false (suc d + 1) (quote_end h)) f e
    by_tests false false false true never e = goes_on-fine (before false d (quote_end h)) f e
    by_tests false false false false never e = goes_on-fine (before false (suc d) (quote_end h)) f e

quoted : (h : Holder) → Quoted (before false 0 (quote_end h))
quoted h x other = by_tests (eqb x 92) (eqb x 34) (eqb x 123) (eqb x 125) other
  where
    by_tests : (k q a b : Bool) → b ≡ false → goes (quote_step h k q 0 (cond a (Some (0 + 1)) (cond b None (Some 0)))) ≡ true
    by_tests true q a b e = refl
    by_tests false true a b e = refl
    by_tests false false true b e = refl
    by_tests false false false true e = absurd (true≢false e)
    by_tests false false false false e = refl

quotes-stuck : (h : Holder) (hides : Bool) (d c : ℕ) (f : Fault) → Refuses (step (before hides d (quote_end h)) c) f → Stuck (before hides d (quote_end h)) c f
quotes-stuck h true d c f e = absurd (goes_on-fine (before false d (quote_end h)) f e)
quotes-stuck h false zero c f e =
    let two = outside_quotes h c f (eqb c 92) (eqb c 34) (eqb c 123) (eqb c 125) refl e in
    subst (Stuck (before false 0 (quote_end h)) c) two.1 (two.0, refl, quoted h)
quotes-stuck h false (suc d) c f e = absurd (in_braces h d f (eqb c 92) (eqb c 34) (eqb c 123) (eqb c 125) (never_zero (eqb c 34) d) e)

-- ---- all places

-- before a gap ends, where no comment is
shown-stuck : (k : Point) (t : Token) → class_of k ≡ gap → ((c : ℕ) (f : Fault) → Refuses (decides k c) f → Expected t ≡ f) → ((d : ℕ) → Signs (before false d k) t) → (hides : Bool) (d c : ℕ) (f : Fault)
    → Refuses (step (before hides d k) c) f → Stuck (before hides d k) c f
shown-stuck k t is err signs true d c f e = absurd (comment-fine k d c (decides k c) f (sym (ap (λ (class : Class). passes class true d k c (decides k c)) is) ∙ e))
shown-stuck k t is err signs false d c f e = subst (Stuck (before false d k) c) (err c f (passes-err (class_of k) false d k c (decides k c) f e)) (signs d)

kind_done-stuck : (name : List ℕ) (hides : Bool) (d c : ℕ) (f : Fault) → Refuses (step (before hides d (kind_done name)) c) f → Stuck (before hides d (kind_done name)) c f
kind_done-stuck name true d c f e = absurd (comment-fine (kind_done name) d c (at_kind_done name c) f e)
kind_done-stuck name false d c f e =
    let a = kind_done-err name c f (passes-err gap false d (kind_done name) c (at_kind_done name c) f e) in
    subst (Stuck (before false d (kind_done name)) c) a.is (signs_kind_done name d a.other)

naming-stuck : (name : List ℕ) (c : ℕ) (f : Fault) → Refuses (step (naming name) c) f → Stuck (naming name) c f
naming-stuck name c f e =
    let a = kind_done-err name c f (passes-err gap false 0 (kind_done name) c (at_kind_done name c) f (or-err (is_id_continue c) (naming (name ++ c ∷ [])) (passes gap false 0 (kind_done name) c (at_kind_done name c)) f e)) in
    subst (Stuck (naming name) c) a.is (signs_naming name a.other)

-- where a word or a key ends
key_done-err : (s : Shape) (c : ℕ) (f : Fault) → Refuses (decides (key_done s) c) f → Expected tokens.Comma ≡ f
key_done-err s c f e = comma-err s c f (passes-err gap false 0 (comma_or_end s) c (at_comma s c) f e)

key_first-err : (s : Shape) (c : ℕ) (f : Fault) → Refuses (decides (key_first s) c) f → Expected tokens.Comma ≡ f
key_first-err s c f e = key_done-err s c f (passes-err (key s) false 0 (key_done s) c (decides (key_done s) c) f e)

pub stuck : (p : Place) (c : ℕ) (f : Fault) → step p c ≡ Err f → Stuck p c f
stuck (naming name) c f e = naming-stuck name c f e
stuck (before hides d item) c f e = absurd (takes_all between hides d item c (starts kind_first) f e)
stuck (before hides d kind_first) c f e =
    shown-stuck kind_first tokens.Identifier refl (λ x g h. wants-err (is_id_start x) (naming (x ∷ [])) (Expected tokens.Identifier) g h) (λ n. (refl, refl, refl, refl, refl, refl)) hides d c f e
stuck (before hides d (kind_done name)) c f e = kind_done-stuck name hides d c f e
stuck (before hides d remark_end) c f e = absurd (takes_all (class_of remark_end) hides d remark_end c start f e)
stuck (before hides d (key_first s)) c f e = shown-stuck (key_first s) tokens.Comma refl (key_first-err s) (signs_key s) hides d c f e
stuck (before hides d (key_done s)) c f e =
    subst (Stuck (before hides d (key_done s)) c) (key_done-err s c f (passes-err (key s) hides d (key_done s) c (decides (key_done s) c) f e)) (signs_key_done s hides d)
stuck (before hides d (comma_or_end s)) c f e = shown-stuck (comma_or_end s) tokens.Comma refl (comma-err s) (signs_comma s) hides d c f e
stuck (before hides d (field_or_end s)) c f e = shown-stuck (field_or_end s) tokens.Identifier refl (field-err s) (signs_field s) hides d c f e
stuck (before hides d (name_done s)) c f e =
    subst (Stuck (before hides d (name_done s)) c) (equals-err s c f (passes-err gap false 0 (equals s) c (at_equals s c) f (passes-err word hides d (name_done s) c (decides (name_done s) c) f e))) (refl, refl, refl, refl, refl)
stuck (before hides d (equals s)) c f e = shown-stuck (equals s) tokens.Equals refl (equals-err s) (λ n. (refl, refl, refl, refl, refl)) hides d c f e
stuck (before hides d (piece_first h)) c f e = shown-stuck (piece_first h) tokens.Identifier refl (piece-err h) (λ n. (refl, refl, refl, refl, refl, refl)) hides d c f e
stuck (before hides d (brace_end h)) c f e = absurd (takes_all (class_of (brace_end h)) hides d (brace_end h) c (starts (piece_or_end h)) f e)
stuck (before hides d (quote_end h)) c f e = quotes-stuck h hides d c f e
stuck (before hides d (bare_done h)) c f e =
    subst (Stuck (before hides d (bare_done h)) c) (piece_or_end-err h c f (passes-err gap false 0 (piece_or_end h) c (at_piece_or_end h c) f (passes-err word hides d (bare_done h) c (decides (bare_done h) c) f e))) (signs_bare h hides d)
stuck (before hides d (piece_or_end h)) c f e = shown-stuck (piece_or_end h) (wanted_after h) refl (piece_or_end-err h) (signs_end h) hides d c f e
