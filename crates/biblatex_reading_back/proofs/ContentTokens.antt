-- Tokens of contents that were written, and what they give.
use Rattle.std.proofs.Common.{◌≡◌, ℕ, Bool, true, false, true≢false, cond, not, ◌||◌, ◌==◌, List, [], ◌∷◌, ◌++◌, Some, None, Result, Ok, Err, refl, sym, ap, ◌∙◌, append_assoc}
use Rattle.std.specs.Prelude.{if◌then◌else◌}
use Rattle.std.proofs.lemmas.List.{append-nil}
use Rattle.laws.specs.Characters.{dollar_sign, hyphen, backslash, open_brace, close_brace, tilde, no_break_space}
use Rattle.laws.specs.Results.{◌>>=◌}
use Rattle.laws.specs.Runs.{prefix_of, after, Bars}
use Rattle.laws.specs.Text.{text}
use Rattle.biblatex_tex.specs.Character.{passes}
use Rattle.biblatex_tex.specs.Command.{sign_mark, sign_text, letter_mark, letter_character}
use Rattle.biblatex_tex.specs.declared.character.Class.TheVariants.{Letter, Hyphen, Plain}
use Rattle.biblatex_tex.specs.declared.error.ContentError.{ContentError}
use Rattle.biblatex_tex.specs.Token.{Token, Text, Hyphens, Tie, Open, Close, Sign, Command, begins_command, token_at, tokens_of, partnered, paired, dollars_in}
use Rattle.biblatex_tex.proofs.TokenLexing.{gathered, gathered-begin, gathered-some, gathered-end}
use Rattle.biblatex_content.specs.declared.chunk.Kind.{Kind}
use Rattle.biblatex_content.specs.declared.chunk.Kind.TheVariants.{Normal, Verbatim}
use Rattle.biblatex_content.specs.Styled.{Member, letters}
use Rattle.biblatex_content.specs.Styled.{Letter as a_letter}
use Rattle.biblatex_content.specs.Ordinary as ordinary
use Rattle.biblatex_content.specs.Ordinary.{State, begun, step, steps}

-- the tokens of a text after its first one
tokens_after : (cs rest : List ℕ) (t : Token) → token_at cs ≡ Ok (Some t, rest) → tokens_of cs ≡ gathered (t ∷ []) (tokens_of rest)
tokens_after cs rest t one = sym (gathered-begin cs) ∙ sym (gathered-some [] cs rest t one)

pub tokens_more : (cs rest : List ℕ) (t : Token) (ts : List Token) → token_at cs ≡ Ok (Some t, rest) → tokens_of rest ≡ Ok ts → tokens_of cs ≡ Ok (t ∷ ts)
tokens_more cs rest t ts one others = tokens_after cs rest t one ∙ ap (gathered (t ∷ [])) others

no_token : token_at [] ≡ Ok (None, [])
unfolding token_at
no_token = refl

pub tokens_none : tokens_of [] ≡ Ok []
tokens_none = sym (gathered-begin []) ∙ gathered-end [] [] [] no_token

pub record Parted (t : Token) (rest : List ℕ) (ts : List Token) : Type 0 where
  pub others : List Token
  pub are : tokens_of rest ≡ Ok others
  pub whole : ts ≡ t ∷ others

pub tokens_part : (cs rest : List ℕ) (t : Token) (ts : List Token) → token_at cs ≡ Ok (Some t, rest) → tokens_of cs ≡ Ok ts → Parted t rest ts
tokens_part cs rest t ts one all = by_rest (tokens_of rest) refl (sym (tokens_after cs rest t one) ∙ all)
  where
    by_rest : (r : Result (List Token) ContentError) → tokens_of rest ≡ r → gathered (t ∷ []) r ≡ Ok ts → Parted t rest ts
    by_rest (Ok us) e is = record { others = us; are = e; whole = cc }
    by_rest (Err f) e is = absurd cc

-- between tokens no group is open, or one with verbatim characters
abbrev pub kind_in_group : Bool → Kind
kind_in_group false = Normal
kind_in_group true = Verbatim

abbrev pub between : Bool → List Member → State
between false done = begun done
between true done = ordinary.opened false (begun done)

-- A text is read to its end, with a group open before it or not, and gives these members.
pub record Reads (is_open : Bool) (cs : List ℕ) (ms : List Member) : Type 0 where
  pub tokens : List Token
  pub are : tokens_of cs ≡ Ok tokens
  pub give : (done : List Member) → steps (paired tokens) (between is_open done) ≡ Ok (between false (done ++ ms))

pub at_end : Reads false [] []
at_end = record { tokens = []; are = tokens_none; give = λ done. ap (λ (x : List Member). Ok (between false x)) (sym (append-nil done)) }

-- a token and what follows it
pub one_more : (b d : Bool) (cs rest : List ℕ) (t : Token) (new ms : List Member) → token_at cs ≡ Ok (Some t, rest) → ((bs : List Bool) → partnered t bs ≡ t)
    → ((done : List Member) → step t (between b done) ≡ Ok (between d (done ++ new))) → Reads d rest ms → Reads b cs (new ++ ms)
one_more b d cs rest t new ms one alone gives r = record {
  tokens = t ∷ r.tokens;
  are = tokens_more cs rest t r.tokens one r.are;
  give = λ done.
      ap (λ (x : Token). steps (x ∷ paired r.tokens) (between b done)) (alone (dollars_in r.tokens))
      ∙ (ap (λ (q : Result State ContentError). q >>= λ s. steps (paired r.tokens) s) (gives done)
      ∙ (r.give (done ++ new) ∙ ap (λ (x : List Member). Ok (between false x)) (append_assoc done new ms)));
}

-- braces
close_at : (cs : List ℕ) → token_at (close_brace ∷ cs) ≡ Ok (Some Close, cs)
unfolding token_at
close_at cs = refl

open_at : (cs : List ℕ) → begins_command cs ≡ false → token_at (open_brace ∷ cs) ≡ Ok (Some (Open false), cs)
unfolding token_at
open_at cs e = ap (λ (b : Bool). Ok (Some (Open b), cs)) e

closes : (done : List Member) → step Close (between true done) ≡ Ok (between false (done ++ []))
unfolding step
closes done = ap (λ (x : List Member). Ok (between false x)) (sym (append-nil done))

opens : (done : List Member) → step (Open false) (between false done) ≡ Ok (between true (done ++ []))
unfolding step
opens done = ap (λ (x : List Member). Ok (between true x)) (sym (append-nil done))

pub closed : (cs : List ℕ) (ms : List Member) → Reads false cs ms → Reads true (close_brace ∷ cs) ms
closed cs ms r = one_more true false (close_brace ∷ cs) cs Close [] ms (close_at cs) (λ bs. refl) closes r

pub opened : (cs : List ℕ) (ms : List Member) → begins_command cs ≡ false → Reads true cs ms → Reads false (open_brace ∷ cs) ms
opened cs ms e r = one_more false true (open_brace ∷ cs) cs (Open false) [] ms (open_at cs e) (λ bs. refl) opens r

-- a group with nothing in it
in_and_out : (b : Bool) (done : List Member) (ts : List Token) → steps (Open false ∷ Close ∷ ts) (between b done) ≡ steps ts (between b done)
unfolding step
in_and_out true done ts = refl
in_and_out false done ts = refl

pub nothing_in_group : (b : Bool) (cs : List ℕ) (ms : List Member) → Reads b cs ms → Reads b (open_brace ∷ close_brace ∷ cs) ms
nothing_in_group b cs ms r = record {
  tokens = Open false ∷ Close ∷ r.tokens;
  are = tokens_more (open_brace ∷ close_brace ∷ cs) (close_brace ∷ cs) (Open false) (Close ∷ r.tokens) (open_at (close_brace ∷ cs) refl) (tokens_more (close_brace ∷ cs) cs Close r.tokens (close_at cs) r.are);
  give = λ done. in_and_out b done (paired r.tokens) ∙ r.give done;
}

-- a no-break space
tie_at : (cs : List ℕ) → token_at (tilde ∷ cs) ≡ Ok (Some Tie, cs)
unfolding token_at
tie_at cs = refl

tie_gives : (b : Bool) (done : List Member) → step Tie (between b done) ≡ Ok (between b (done ++ a_letter (kind_in_group b) no_break_space ∷ []))
unfolding step
tie_gives false done = refl
tie_gives true done = refl

pub tied : (b : Bool) (cs : List ℕ) (ms : List Member) → Reads b cs ms → Reads b (tilde ∷ cs) (a_letter (kind_in_group b) no_break_space ∷ ms)
tied b cs ms r = one_more b b (tilde ∷ cs) cs Tie (a_letter (kind_in_group b) no_break_space ∷ []) ms (tie_at cs) (λ bs. refl) (tie_gives b) r

-- a hyphen alone
alone_prefix : (cs : List ℕ) → Bars (passes Hyphen) cs → prefix_of (passes Hyphen) cs ≡ []
alone_prefix [] bars = refl
alone_prefix (c ∷ cs) bars = ap (λ (b : Bool). if b then c ∷ prefix_of (passes Hyphen) cs else []) bars

alone_after : (cs : List ℕ) → Bars (passes Hyphen) cs → after (passes Hyphen) cs ≡ cs
alone_after [] bars = refl
alone_after (c ∷ cs) bars = ap (λ (b : Bool). if b then after (passes Hyphen) cs else c ∷ cs) bars

pub hyphens_at : (cs : List ℕ) → token_at (hyphen ∷ cs) ≡ Ok (Some (Hyphens (hyphen ∷ prefix_of (passes Hyphen) cs)), after (passes Hyphen) cs)
unfolding token_at passes
hyphens_at cs = refl

hyphen_at : (cs : List ℕ) → Bars (passes Hyphen) cs → token_at (hyphen ∷ cs) ≡ Ok (Some (Hyphens (hyphen ∷ [])), cs)
hyphen_at cs bars =
    hyphens_at cs
    ∙ (ap (λ (x : List ℕ). Ok (Some (Hyphens (hyphen ∷ x)), after (passes Hyphen) cs)) (alone_prefix cs bars) ∙ ap (λ (x : List ℕ). Ok (Some (Hyphens (hyphen ∷ [])), x)) (alone_after cs bars))

hyphen_gives : (b : Bool) (done : List Member) → step (Hyphens (hyphen ∷ [])) (between b done) ≡ Ok (between b (done ++ a_letter (kind_in_group b) hyphen ∷ []))
unfolding step
hyphen_gives false done = refl
hyphen_gives true done = refl

pub hyphened : (b : Bool) (cs : List ℕ) (ms : List Member) → Bars (passes Hyphen) cs → Reads b cs ms → Reads b (hyphen ∷ cs) (a_letter (kind_in_group b) hyphen ∷ ms)
hyphened b cs ms bars r = one_more b b (hyphen ∷ cs) cs (Hyphens (hyphen ∷ [])) (a_letter (kind_in_group b) hyphen ∷ []) ms (hyphen_at cs bars) (λ bs. refl) (hyphen_gives b) r

-- a character after a backslash
pub record IsSign (c : ℕ) : Type 0 where
  pub no_letter : passes Letter c ≡ false
  pub no_mark : sign_mark c ≡ None
  pub itself : sign_text c ≡ c ∷ []

sign_at : (c : ℕ) (cs : List ℕ) → passes Letter c ≡ false → token_at (backslash ∷ c ∷ cs) ≡ Ok (Some (Sign c), cs)
unfolding token_at
sign_at c cs e = rw e refl

sign_gives : (b : Bool) (c : ℕ) → IsSign c → (done : List Member) → step (Sign c) (between b done) ≡ Ok (between b (done ++ a_letter (kind_in_group b) c ∷ []))
unfolding step
sign_gives false c is done = rw (is.no_mark, is.itself) refl
sign_gives true c is done = rw (is.no_mark, is.itself) refl

pub signed : (b : Bool) (c : ℕ) (cs : List ℕ) (ms : List Member) → IsSign c → Reads b cs ms → Reads b (backslash ∷ c ∷ cs) (a_letter (kind_in_group b) c ∷ ms)
signed b c cs ms is r = one_more b b (backslash ∷ c ∷ cs) cs (Sign c) (a_letter (kind_in_group b) c ∷ []) ms (sign_at c cs is.no_letter) (λ bs. refl) (sign_gives b c is) r

command_gives : (b : Bool) (name : List ℕ) (c : ℕ) → letter_mark (text name) ≡ None → letter_character (text name) ≡ Some c
    → (done : List Member) → step (Command name []) (between b done) ≡ Ok (between b (done ++ a_letter (kind_in_group b) c ∷ []))
unfolding step
command_gives false name c no_mark is done = rw (no_mark, is) refl
command_gives true name c no_mark is done = rw (no_mark, is) refl

-- a command of letters that stands for a character, and the empty group after it
pub named : (b : Bool) (name : List ℕ) (c : ℕ) (cs : List ℕ) (ms : List Member) → token_at (backslash ∷ (name ++ open_brace ∷ close_brace ∷ cs)) ≡ Ok (Some (Command name []), open_brace ∷ close_brace ∷ cs)
    → letter_mark (text name) ≡ None → letter_character (text name) ≡ Some c → Reads b cs ms → Reads b (backslash ∷ (name ++ open_brace ∷ close_brace ∷ cs)) (a_letter (kind_in_group b) c ∷ ms)
named b name c cs ms at no_mark is r =
    one_more b b (backslash ∷ (name ++ open_brace ∷ close_brace ∷ cs)) (open_brace ∷ close_brace ∷ cs) (Command name []) (a_letter (kind_in_group b) c ∷ []) ms at (λ bs. refl) (command_gives b name c no_mark is) (nothing_in_group b cs ms r)

-- a plain character
pick : {A : Type 0} (a b d f g h : Bool) (x1 x2 x3 x4 x5 x6 y : A) → not (a || b || d || f || g || h) ≡ true → cond a x1 (cond b x2 (cond d x3 (cond f x4 (cond g x5 (cond h x6 y))))) ≡ y
pick true b d f g h x1 x2 x3 x4 x5 x6 y e = absurd (true≢false (sym e))
pick false true d f g h x1 x2 x3 x4 x5 x6 y e = absurd (true≢false (sym e))
pick false false true f g h x1 x2 x3 x4 x5 x6 y e = absurd (true≢false (sym e))
pick false false false true g h x1 x2 x3 x4 x5 x6 y e = absurd (true≢false (sym e))
pick false false false false true h x1 x2 x3 x4 x5 x6 y e = absurd (true≢false (sym e))
pick false false false false false true x1 x2 x3 x4 x5 x6 y e = absurd (true≢false (sym e))
pick false false false false false false x1 x2 x3 x4 x5 x6 y e = refl

text_at : (c : ℕ) (cs : List ℕ) → passes Plain c ≡ true → token_at (c ∷ cs) ≡ Ok (Some (Text (prefix_of (passes Plain) (c ∷ cs))), after (passes Plain) (c ∷ cs))
unfolding token_at passes
text_at c cs plain = pick (c == backslash) (c == open_brace) (c == close_brace) (c == dollar_sign) (c == tilde) (c == hyphen) _ _ _ _ _ _ _ plain

-- a plain character and the run that follows it
pub text_on : (c : ℕ) (cs : List ℕ) → passes Plain c ≡ true → token_at (c ∷ cs) ≡ Ok (Some (Text (c ∷ prefix_of (passes Plain) cs)), after (passes Plain) cs)
text_on c cs plain =
    text_at c cs plain
    ∙ (ap (λ (b : Bool). Ok (Some (Text (if b then c ∷ prefix_of (passes Plain) cs else [])), after (passes Plain) (c ∷ cs))) plain
    ∙ ap (λ (b : Bool). Ok (Some (Text (c ∷ prefix_of (passes Plain) cs)), if b then after (passes Plain) cs else c ∷ cs)) plain)

text_gives : (b : Bool) (c : ℕ) (cs : List ℕ) (done : List Member) → step (Text (c ∷ cs)) (between b done) ≡ Ok (between b (done ++ letters (kind_in_group b) (c ∷ cs)))
unfolding step
text_gives false c cs done = refl
text_gives true c cs done = refl

pub plain_more : (b : Bool) (c : ℕ) (cs : List ℕ) (ms : List Member) → passes Plain c ≡ true → Reads b cs ms → Reads b (c ∷ cs) (a_letter (kind_in_group b) c ∷ ms)
plain_more b c [] ms plain r = one_more b b (c ∷ []) [] (Text (c ∷ [])) (a_letter (kind_in_group b) c ∷ []) ms (text_on c [] plain) (λ bs. refl) (text_gives b c []) r
plain_more b c (d ∷ cs) ms plain r = by_next (passes Plain d) refl
  where
    k : Kind
    k = kind_in_group b

    by_next : (t : Bool) → passes Plain d ≡ t → Reads b (c ∷ d ∷ cs) (a_letter k c ∷ ms)
    by_next false e =
        one_more b b (c ∷ d ∷ cs) (d ∷ cs) (Text (c ∷ [])) (a_letter k c ∷ []) ms
        (text_on c (d ∷ cs) plain
        ∙ (ap (λ (x : Bool). Ok (Some (Text (c ∷ (if x then d ∷ prefix_of (passes Plain) cs else []))), after (passes Plain) (d ∷ cs))) e
        ∙ ap (λ (x : Bool). Ok (Some (Text (c ∷ [])), if x then after (passes Plain) cs else d ∷ cs)) e))
        (λ bs. refl) (text_gives b c []) r
    by_next true e =
        let run = d ∷ prefix_of (passes Plain) cs in
        let rest = after (passes Plain) cs in
        let parted = tokens_part (d ∷ cs) rest (Text run) r.tokens (text_on d cs e) r.are in
        let longer : token_at (c ∷ d ∷ cs) ≡ Ok (Some (Text (c ∷ run)), rest) = text_on c (d ∷ cs) plain
        ∙ (ap (λ (x : Bool). Ok (Some (Text (c ∷ (if x then run else []))), after (passes Plain) (d ∷ cs))) e
        ∙ ap (λ (x : Bool). Ok (Some (Text (c ∷ run)), if x then rest else d ∷ cs)) e) in
        record {
          tokens = Text (c ∷ run) ∷ parted.others;
          are = tokens_more (c ∷ d ∷ cs) rest (Text (c ∷ run)) parted.others longer parted.are;
          give = λ done.
              let later = done ++ a_letter k c ∷ [] in
              ap (λ (q : Result State ContentError). q >>= λ s. steps (paired parted.others) s) (text_gives b c run done ∙ ap (λ (x : List Member). Ok (between b x)) (sym (append_assoc done (a_letter k c ∷ []) (letters k run))) ∙ sym (text_gives b d (prefix_of (passes Plain) cs) later))
              ∙ (ap (λ (ts : List Token). steps (paired ts) (between b later)) (sym parted.whole)
              ∙ (r.give later ∙ ap (λ (x : List Member). Ok (between false x)) (append_assoc done (a_letter k c ∷ []) ms)));
        }
