-- Keys consist of characters of keys, and names of abbreviations of characters of identifiers.
use Rattle.std.proofs.Common.{◌≡◌, ℕ, Bool, true, false, cond, not, ◌&&◌, eqb, All, List, [], ◌∷◌, length, Option, Some, None, Result, Ok, Err, refl}
use Rattle.std.specs.Prelude.{IfOk, IfSome, codes}
use Rattle.std.specs.Option.{option_map_or}
use Rattle.std.proofs.lemmas.List.Elements.{All-nil, All-cons}
use Rattle.laws.specs.Characters.{double_quote, number_sign, close_parenthesis, comma, equals_sign, open_brace}
use Rattle.laws.specs.Results.{◌>>=◌}
use Rattle.laws.specs.Runs.{AllPassTest}
use Rattle.laws.specs.Steps.{each}
use Rattle.laws.specs.Text.{text as text_of}
use Rattle.laws.proofs.Results.{bind_if_ok, test_if_ok}
use Rattle.laws.proofs.Throughout.{all-flat_map, each-gives}
use Rattle.biblatex_text.specs.Character.{is_id_continue, is_key}
use Rattle.biblatex_text.specs.Run.{only_if, prefix_of, after}
use Rattle.biblatex_text.specs.Raw.{At, at_map, Piece, normal, abbreviation, Field, Entry, Item, nothing, definitions, an_entry, entry_in, entries_of, fields_in, abbreviations_of, Raw}
use Rattle.biblatex_text.specs.Reading.{Refusal, token_at, after_blanks, run_at, identifier_at, closed_at}
use Rattle.biblatex_text.specs.Value.{unquoted_at, braced_at, quoted_at, is_number, bare, piece_at, piece_or_end_at, next_piece_at, value_at}
use Rattle.biblatex_text.specs.Fields.{field_at, closing, field_or_end_at, comma_or_end_at, next_field_at, more_fields_at, fields_from, definitions_at}
use Rattle.biblatex_text.specs.Items.{opening_at, remark_at, preamble_at, key_run, entry_at, is_named, body_at, item_of_kind_at, item_at, item_or_end_at, next_item_at, raw_at, at_offset, raw_of}
use Rattle.biblatex_text.specs.declared.run.Run.TheVariants.{Outside, Identifier, Key, RoundKey, Braced, Quoted}
use Rattle.biblatex_text.specs.declared.bracket.Bracket.{Bracket}
use Rattle.biblatex_text.specs.declared.bracket.Bracket.TheVariants.{Brace, Parenthesis}
use Rattle.biblatex_text.specs.declared.token.Token.TheVariants as tokens
use Rattle.biblatex_text.specs.declared.token.Fault.TheVariants.{Expected}
use Rattle.biblatex_text.proofs.ReadingShorter.{either_if_ok}

-- an abbreviation has a name of characters of identifiers
abbrev pub HasName : Piece → Type 0
HasName (normal cs) = Unit {0}
HasName (abbreviation name) = AllPassTest is_id_continue name

abbrev pub IsNamed : At Piece → Type 0
IsNamed p = HasName p.v

-- each abbreviation in the value does
abbrev pub HasNames : Field → Type 0
HasNames f = All IsNamed f.value.v

-- a key has characters of keys
abbrev pub HasKey : Entry → Type 0
HasKey e = AllPassTest is_key e.key.v × All HasNames e.fields

abbrev pub IsKeyed : At Entry → Type 0
IsKeyed e = HasKey e.v

pub record AreKeyed (r : Raw) : Type 0 where
  pub entries : All IsKeyed r.entries
  pub abbreviations : All HasNames r.abbreviations

all-identifier : (cs : List ℕ) → AllPassTest is_id_continue (prefix_of Identifier cs)
all-identifier [] = tt
all-identifier (c ∷ cs) = by_test (all-identifier cs) (is_id_continue c) refl
  where
    by_test : AllPassTest is_id_continue (prefix_of Identifier cs) → (b : Bool) → is_id_continue c ≡ b → AllPassTest is_id_continue (option_map_or (λ more. c ∷ prefix_of more cs) (only_if b Identifier) [])
    by_test more true e = (e, more)
    by_test more false e = tt

all-brace_key : (cs : List ℕ) → AllPassTest is_key (prefix_of Key cs)
all-brace_key [] = tt
all-brace_key (c ∷ cs) = by_test (all-brace_key cs) (is_key c) refl
  where
    by_test : AllPassTest is_key (prefix_of Key cs) → (b : Bool) → is_key c ≡ b → AllPassTest is_key (option_map_or (λ more. c ∷ prefix_of more cs) (only_if b Key) [])
    by_test more true e = (e, more)
    by_test more false e = tt

all-round_key : (cs : List ℕ) → AllPassTest is_key (prefix_of RoundKey cs)
all-round_key [] = tt
all-round_key (c ∷ cs) = by_test (all-round_key cs) (is_key c) (not (eqb c close_parenthesis)) refl
  where
    by_test : AllPassTest is_key (prefix_of RoundKey cs) → (b other : Bool) → is_key c ≡ b → AllPassTest is_key (option_map_or (λ more. c ∷ prefix_of more cs) (only_if (b && other) RoundKey) [])
    by_test more true true e = (e, more)
    by_test more true false e = tt
    by_test more false other e = tt

all-key : (bracket : Bracket) (cs : List ℕ) → AllPassTest is_key (prefix_of (key_run bracket) cs)
all-key Brace cs = all-brace_key cs
all-key Parenthesis cs = all-round_key cs

-- after a step of which nothing is known
after_any : {A B : Type 0} (Q : B → Type 0) (r : Result A Refusal) (f : A → Result B Refusal) → ((x : A) → IfOk (f x) Q) → IfOk (r >>= f) Q
after_any Q (Ok x) f more = more x
after_any Q (Err d) f more = tt

abbrev First : {X : Type 0} → (X → Type 0) → X × List ℕ → Type 0
First P p = P p.0

abbrev Given : {X : Type 0} → (X → Type 0) → Option X × List ℕ → Type 0
Given P p = IfSome p.0 P

abbrev AllGiven : {X : Type 0} → (X → Type 0) → List X × List ℕ → Type 0
AllGiven P p = All P p.0

abbrev ValueNamed : At (List (At Piece)) → Type 0
ValueNamed value = All IsNamed value.v

bare-named : (cs : List ℕ) → AllPassTest is_id_continue cs → HasName (bare cs)
bare-named cs all = by_test (is_number cs)
  where
    by_test : (b : Bool) → HasName (cond b (normal cs) (abbreviation cs))
    by_test true = tt
    by_test false = all

braced-named : (n : ℕ) (cs : List ℕ) → IfOk (braced_at n cs) (First IsNamed)
unfolding braced_at
braced-named n cs = after_any (First IsNamed) (closed_at (after (Braced 0) cs)) _ (λ rest. tt)

quoted-named : (n : ℕ) (cs : List ℕ) → IfOk (quoted_at n cs) (First IsNamed)
unfolding quoted_at
quoted-named n cs = after_any (First IsNamed) (unquoted_at (after (Quoted 0) cs)) _ (λ rest. tt)

piece-named : (n : ℕ) (cs : List ℕ) → IfOk (piece_at n cs) (First IsNamed)
piece-named n [] = tt
piece-named n (c ∷ cs) =
    either_if_ok (First IsNamed) (eqb c open_brace) (braced_at n cs) _ (braced-named n cs)
    (either_if_ok (First IsNamed) (eqb c double_quote) (quoted_at n cs) _ (quoted-named n cs)
    (test_if_ok (First IsNamed) (is_id_continue c) (Ok (at_map bare (run_at n Identifier (c ∷ cs)), after Identifier (c ∷ cs))) (Expected tokens.Identifier, c ∷ cs) (bare-named (prefix_of Identifier (c ∷ cs)) (all-identifier (c ∷ cs)))))

piece_or_end-named : (n : ℕ) (end cs : List ℕ) → IfOk (piece_or_end_at n end cs) (Given IsNamed)
piece_or_end-named n end [] = tt
piece_or_end-named n end (c ∷ cs) =
    either_if_ok (Given IsNamed) (eqb c number_sign) _ (Ok (None, end))
    (bind_if_ok (First IsNamed) (Given IsNamed) (piece_at n (after_blanks cs)) _ (piece-named n (after_blanks cs)) (λ p named. named)) tt

next_piece-named : (n : ℕ) (cs : List ℕ) → IfOk (next_piece_at n cs) (Given IsNamed)
unfolding next_piece_at
next_piece-named n cs = piece_or_end-named n cs (after_blanks cs)

value-named : (n : ℕ) (cs : List ℕ) → IfOk (value_at n cs) (First ValueNamed)
unfolding value_at
value-named n cs =
    bind_if_ok (First IsNamed) (First ValueNamed) (piece_at n cs) _ (piece-named n cs) (λ first named.
    bind_if_ok (AllGiven IsNamed) (First ValueNamed) (each (next_piece_at n) first.1) _ (each-gives IsNamed (next_piece_at n) (next_piece-named n) first.1) (λ others all.
    All-cons IsNamed first.0 others.0 named all))

field-named : (n : ℕ) (cs : List ℕ) → IfOk (field_at n cs) (First HasNames)
unfolding field_at
field-named n cs =
    after_any (First HasNames) (identifier_at n cs) _ (λ name.
    after_any (First HasNames) (token_at equals_sign tokens.Equals (after_blanks name.1)) _ (λ following.
    bind_if_ok (First ValueNamed) (First HasNames) (value_at n (after_blanks following)) _ (value-named n (after_blanks following)) (λ value all. all)))

field_or_end-named : (n : ℕ) (bracket : Bracket) (cs : List ℕ) → IfOk (field_or_end_at n bracket cs) (Given HasNames)
field_or_end-named n _ [] = tt
field_or_end-named n bracket (c ∷ cs) =
    either_if_ok (Given HasNames) (eqb c (closing bracket)) (Ok (None, cs)) _ tt
    (bind_if_ok (First HasNames) (Given HasNames) (field_at n (c ∷ cs)) _ (field-named n (c ∷ cs)) (λ f all. all))

comma_or_end-named : (n : ℕ) (bracket : Bracket) (cs : List ℕ) → IfOk (comma_or_end_at n bracket cs) (Given HasNames)
comma_or_end-named n _ [] = tt
comma_or_end-named n bracket (c ∷ cs) =
    either_if_ok (Given HasNames) (eqb c (closing bracket)) (Ok (None, cs)) _ tt
    (test_if_ok (Given HasNames) (eqb c comma) (field_or_end_at n bracket (after_blanks cs)) (Expected tokens.Comma, c ∷ cs) (field_or_end-named n bracket (after_blanks cs)))

next_field-named : (n : ℕ) (bracket : Bracket) (cs : List ℕ) → IfOk (next_field_at n bracket cs) (Given HasNames)
unfolding next_field_at
next_field-named n bracket cs = comma_or_end-named n bracket (after_blanks cs)

more_fields-named : (n : ℕ) (bracket : Bracket) (cs : List ℕ) → IfOk (more_fields_at n bracket cs) (AllGiven HasNames)
more_fields-named n bracket cs = each-gives HasNames (next_field_at n bracket) (next_field-named n bracket) cs

fields_from-named : (n : ℕ) (bracket : Bracket) (first : Option Field) (cs : List ℕ) → IfSome first HasNames → IfOk (fields_from n bracket first cs) (AllGiven HasNames)
fields_from-named n _ None cs named = All-nil HasNames
fields_from-named n bracket (Some f) cs named = bind_if_ok (AllGiven HasNames) (AllGiven HasNames) (more_fields_at n bracket cs) _ (more_fields-named n bracket cs) (λ fs all. All-cons HasNames f fs.0 named all)

definitions-named : (n : ℕ) (bracket : Bracket) (cs : List ℕ) → IfOk (definitions_at n bracket cs) (AllGiven HasNames)
unfolding definitions_at
definitions-named n bracket cs =
    bind_if_ok (Given HasNames) (AllGiven HasNames) (field_or_end_at n bracket (after_blanks cs)) _ (field_or_end-named n bracket (after_blanks cs)) (λ first named.
    fields_from-named n bracket first.0 first.1 named)

-- the abbreviations of an item have names, and its entry has a key
abbrev ItemKeyed : Item → Type 0
ItemKeyed nothing = Unit {0}
ItemKeyed (definitions fields) = All HasNames fields
ItemKeyed (an_entry e) = HasKey e

abbrev IsItemKeyed : At Item → Type 0
IsItemKeyed i = ItemKeyed i.v

entry-keyed : (n : ℕ) (kind : At (List ℕ)) (bracket : Bracket) (cs : List ℕ) → IfOk (entry_at n kind bracket cs) (First HasKey)
unfolding entry_at
entry-keyed n kind bracket cs =
    let rest = after (key_run bracket) (after_blanks cs) in
    bind_if_ok (AllGiven HasNames) (First HasKey) (more_fields_at n bracket rest) _ (more_fields-named n bracket rest) (λ fs all. (all-key bracket (after_blanks cs), all))

body-keyed : (n : ℕ) (kind : At (List ℕ)) (bracket : Bracket) (cs : List ℕ) → IfOk (body_at n kind bracket cs) (First ItemKeyed)
body-keyed n kind bracket cs =
    either_if_ok (First ItemKeyed) (is_named kind.v (codes "preamble")) _ _ (after_any (First ItemKeyed) (preamble_at n bracket cs) _ (λ rest. tt))
    (either_if_ok (First ItemKeyed) (is_named kind.v (codes "string")) _ _ (bind_if_ok (AllGiven HasNames) (First ItemKeyed) (definitions_at n bracket cs) _ (definitions-named n bracket cs) (λ fs all. all))
    (bind_if_ok (First HasKey) (First ItemKeyed) (entry_at n kind bracket cs) _ (entry-keyed n kind bracket cs) (λ e keyed. keyed)))

item_of_kind-keyed : (n : ℕ) (kind : At (List ℕ)) (cs : List ℕ) → IfOk (item_of_kind_at n kind cs) (First ItemKeyed)
item_of_kind-keyed n kind cs =
    either_if_ok (First ItemKeyed) (is_named kind.v (codes "comment")) _ _ (after_any (First ItemKeyed) (remark_at cs) _ (λ rest. tt))
    (after_any (First ItemKeyed) (opening_at cs) _ (λ opened. body-keyed n kind opened.0 opened.1))

item-keyed : (n : ℕ) (cs : List ℕ) → IfOk (item_at n cs) (First ItemKeyed)
unfolding item_at
item-keyed n cs = after_any (First ItemKeyed) (identifier_at n (after_blanks cs)) _ (λ kind. item_of_kind-keyed n kind.0 (after_blanks kind.1))

item_or_end-keyed : (n : ℕ) (cs : List ℕ) → IfOk (item_or_end_at n cs) (Given IsItemKeyed)
item_or_end-keyed n [] = tt
item_or_end-keyed n (c ∷ cs) = bind_if_ok (First ItemKeyed) (Given IsItemKeyed) (item_at n cs) _ (item-keyed n cs) (λ i keyed. keyed)

next_item-keyed : (n : ℕ) (cs : List ℕ) → IfOk (next_item_at n cs) (Given IsItemKeyed)
unfolding next_item_at
next_item-keyed n cs = item_or_end-keyed n (after Outside cs)

entry_in-keyed : (start end : ℕ) (i : Item) → ItemKeyed i → All IsKeyed (entry_in start end i)
entry_in-keyed start end nothing keyed = All-nil IsKeyed
entry_in-keyed start end (definitions fields) keyed = All-nil IsKeyed
entry_in-keyed start end (an_entry e) keyed = All-cons IsKeyed (record { v = e; start = start; end = end }) [] keyed (All-nil IsKeyed)

fields_in-named : (i : Item) → ItemKeyed i → All HasNames (fields_in i)
fields_in-named nothing keyed = All-nil HasNames
fields_in-named (definitions fields) keyed = keyed
fields_in-named (an_entry e) keyed = All-nil HasNames

raw_at-keyed : (n : ℕ) (cs : List ℕ) → IfOk (raw_at n cs) AreKeyed
unfolding raw_at
raw_at-keyed n cs =
    bind_if_ok (AllGiven IsItemKeyed) AreKeyed (each (next_item_at n) cs) _ (each-gives IsItemKeyed (next_item_at n) (next_item-keyed n) cs) (λ p all. record {
      entries = all-flat_map IsItemKeyed IsKeyed entries_of (λ i keyed. entry_in-keyed i.start i.end i.v keyed) p.0 all;
      abbreviations = all-flat_map IsItemKeyed HasNames abbreviations_of (λ i keyed. fields_in-named i.v keyed) p.0 all;
    })

-- all keys of a text, and the names of all abbreviations in it
pub raw-keyed : (cs : List ℕ) → IfOk (raw_of cs) AreKeyed
raw-keyed cs = by_raw (raw_at (length (text_of cs)) cs) (raw_at-keyed (length (text_of cs)) cs)
  where
    by_raw : (r : Result Raw Refusal) → IfOk r AreKeyed → IfOk (at_offset (length (text_of cs)) r) AreKeyed
    by_raw (Ok r) keyed = keyed
    by_raw (Err f) keyed = tt
