-- Dollar signs: which have a partner, by balanced braces.
use Rattle.std.proofs.Common.{◌≡◌, ℕ, zero, suc, ◌<◌, Bool, true, false, cond, ◌||◌, ◌&&◌, not, eqb, List, [], ◌∷◌, ◌++◌, length, Result, Ok, Err, refl, sym, ap, ◌∙◌, subst, inl, inr, append_assoc, arith}
use Rattle.std.specs.Prelude.{◌⊎◌}
use Rattle.std.specs.Char.{is_ascii_alphabetic}
use Rattle.std.proofs.lemmas.Bool.{or_parts, eqb-true, both_ways}
use Rattle.std.proofs.lemmas.Bool.Decides.{nat_tests}
use Rattle.std.proofs.lemmas.List.{length-append}
use Rattle.laws.specs.Characters.{dollar_sign, hyphen, backslash, open_brace, close_brace, tilde}
use Rattle.laws.specs.Results.{◌>>=◌}
use Rattle.laws.specs.Runs.{prefix_of, after, AllPassTest}
use Rattle.laws.proofs.Results.{bind_ok, bind_bind}
use Rattle.laws.proofs.Runs.{prefix-after, all-prefix}
use Rattle.biblatex_tex.specs.Character.{is_blank, is_plain}
use Rattle.biblatex_tex.specs.declared.error.ContentError.{ContentError}
use Rattle.biblatex_tex.specs.declared.error.ContentError.TheVariants.{MalformedCommand}
use Rattle.biblatex_tex.specs.Token.{Token, Text, Hyphens, Tie, Open, Close, Dollar, Sign, begins_command, innermost, outer, dollars_in, tokens_of}
use Rattle.biblatex_readings_grammar.specs.Math.{bars, IsBalanced, nothing, character, escaped, braces, IsMath, LacksPartner}
use Rattle.biblatex_readings_grammar.proofs.Total.{total, total-more, total-split, total-nil, tokens-err, run_before, text-run, hyphen-run, is_hyphen, tie-at, open-at, close-at, dollar-at, sign-at, end-at, letters-at}

-- ---- characters

-- a character that stands for itself in a math piece is one of these
pub data Standing (within : Bool) (c : ℕ) : Type 0 where
  own_dollar : within ≡ true → c ≡ dollar_sign → Standing within c
  own_tie : c ≡ tilde → Standing within c
  own_hyphen : is_hyphen c ≡ true → Standing within c
  own_text : is_plain c ≡ true → Standing within c

pub plain_from : (c : ℕ) → (eqb c open_brace || eqb c close_brace || eqb c backslash) ≡ false → eqb c dollar_sign ≡ false → eqb c tilde ≡ false → eqb c hyphen ≡ false → is_plain c ≡ true
plain_from c e f g h =
    let three = or_parts (eqb c open_brace || eqb c close_brace) (eqb c backslash) e in
    let two = or_parts (eqb c open_brace) (eqb c close_brace) three.0 in
    let a = two.0 in
    let b = two.1 in
    let d = three.1 in
    rw (a, b, d, f, g, h) refl

within_from : (within : Bool) → (true && not within) ≡ false → within ≡ true
within_from true e = refl
within_from false e = absurd cc

pub standing_of : (within : Bool) (c : ℕ) → bars within c ≡ false → Standing within c
standing_of within c e =
    let parts = or_parts (eqb c open_brace || eqb c close_brace || eqb c backslash) (eqb c dollar_sign && not within) e in
    by_tests parts.0 parts.1 (eqb c dollar_sign) (eqb c tilde) (eqb c hyphen) refl refl refl
  where
    by_tests : (eqb c open_brace || eqb c close_brace || eqb c backslash) ≡ false → (eqb c dollar_sign && not within) ≡ false → (d t h : Bool) → eqb c dollar_sign ≡ d → eqb c tilde ≡ t → eqb c hyphen ≡ h → Standing within c
    by_tests no_mark no_dollar true t h ed et eh = own_dollar (within_from within (ap (λ (x : Bool). x && not within) (sym ed) ∙ no_dollar)) (eqb-true c dollar_sign ed)
    by_tests no_mark no_dollar false true h ed et eh = own_tie (eqb-true c tilde et)
    by_tests no_mark no_dollar false false true ed et eh = own_hyphen eh
    by_tests no_mark no_dollar false false false ed et eh = own_text (plain_from c no_mark ed et eh)

pub letter_plain : (c : ℕ) → is_ascii_alphabetic c ≡ true → is_plain c ≡ true
letter_plain c e = grind (arith, nat_tests)

pub blank_plain : (c : ℕ) → is_blank c ≡ true → is_plain c ≡ true
blank_plain c e = grind (arith, nat_tests)

pub letters_plain : (cs : List ℕ) → AllPassTest is_ascii_alphabetic cs → AllPassTest is_plain cs
letters_plain [] all = tt
letters_plain (c ∷ cs) all = (letter_plain c all.0, letters_plain cs all.1)

pub blanks_plain : (cs : List ℕ) → AllPassTest is_blank cs → AllPassTest is_plain cs
blanks_plain [] all = tt
blanks_plain (c ∷ cs) all = (blank_plain c all.0, blanks_plain cs all.1)

pub both_plain : (a b : List ℕ) → AllPassTest is_plain a → AllPassTest is_plain b → AllPassTest is_plain (a ++ b)
both_plain [] b p q = q
both_plain (c ∷ a) b p q = (p.0, both_plain a b p.1 q)

-- a command of letters is a backslash, a letter, plain characters, and what follows
pub record Spelled (c : ℕ) (cs : List ℕ) : Type 0 where
  pub name : List ℕ
  pub blanks : List ℕ
  pub rest : List ℕ
  pub parts : cs ≡ (name ++ blanks) ++ rest
  pub plain : AllPassTest is_plain (name ++ blanks)
  pub named : prefix_of is_ascii_alphabetic (c ∷ cs) ≡ c ∷ name
  pub left : prefix_of is_blank (after is_ascii_alphabetic (c ∷ cs)) ≡ blanks
  pub after : after is_blank (after is_ascii_alphabetic (c ∷ cs)) ≡ rest

pub spelled : (c : ℕ) (cs : List ℕ) → is_ascii_alphabetic c ≡ true → Spelled c cs
spelled c cs e =
    let name : List ℕ = prefix_of is_ascii_alphabetic cs in
    let behind : List ℕ = after is_ascii_alphabetic cs in
    let blanks : List ℕ = prefix_of is_blank behind in
    let rest : List ℕ = after is_blank behind in
    record {
      name = name;
      blanks = blanks;
      rest = rest;
      parts = prefix-after is_ascii_alphabetic cs ∙ (ap (λ (x : List ℕ). name ++ x) (prefix-after is_blank behind) ∙ sym (append_assoc name blanks rest));
      plain = both_plain name blanks (letters_plain name (all-prefix is_ascii_alphabetic cs)) (blanks_plain blanks (all-prefix is_blank behind));
      named = rw e refl;
      left = rw e refl;
      after = rw e refl;
    }

-- ---- what is seen of dollar signs from a place on

-- whether the open groups have a dollar sign further on; within braces this is not asked of the innermost
abbrev pub seen : Bool → List Token → Result (List Bool) ContentError
seen within ts = Ok (cond within (outer (dollars_in ts)) (dollars_in ts))

seen_text : (within : Bool) (c : ℕ) (p : List ℕ) (ts : List Token) → seen within (Text (c ∷ p) ∷ ts) ≡ seen within (run_before Text p ts)
seen_text within c [] ts = refl
seen_text within c (d ∷ p) ts = refl

seen_hyphens : (within : Bool) (c : ℕ) (p : List ℕ) (ts : List Token) → seen within (Hyphens (c ∷ p) ∷ ts) ≡ seen within (run_before Hyphens p ts)
seen_hyphens within c [] ts = refl
seen_hyphens within c (d ∷ p) ts = refl

abbrev Unseen : Bool → List ℕ → List ℕ → Type 0
Unseen within cs rest = total (seen within) cs ≡ total (seen within) rest

plain-unseen : (within : Bool) (cs rest : List ℕ) → AllPassTest is_plain cs → Unseen within (cs ++ rest) rest
plain-unseen within [] rest all = refl
plain-unseen within (c ∷ cs) rest all =
    total-split is_plain Text text-run (seen within) (seen within) c (cs ++ rest) all.0 (λ p ts e. seen_text within c p ts) ∙ plain-unseen within cs rest all.1

character-unseen : (within : Bool) (c : ℕ) (cs : List ℕ) → Standing within c → Unseen within (c ∷ cs) cs
character-unseen within c cs (own_dollar inside e) =
    subst (λ (x : ℕ). Unseen within (x ∷ cs) cs) (sym e) (subst (λ (w : Bool). Unseen w (dollar_sign ∷ cs) cs) (sym inside) (total-more (seen true) (seen true) (dollar_sign ∷ cs) cs (Dollar false) (dollar-at cs) (λ ts is. refl)))
character-unseen within c cs (own_tie e) =
    subst (λ (x : ℕ). Unseen within (x ∷ cs) cs) (sym e) (total-more (seen within) (seen within) (tilde ∷ cs) cs Tie (tie-at cs) (λ ts is. refl))
character-unseen within c cs (own_hyphen e) = total-split is_hyphen Hyphens hyphen-run (seen within) (seen within) c cs e (λ p ts is. seen_hyphens within c p ts)
character-unseen within c cs (own_text e) = total-split is_plain Text text-run (seen within) (seen within) c cs e (λ p ts is. seen_text within c p ts)

escaped-unseen : (within : Bool) (c : ℕ) (cs : List ℕ) → Unseen within (backslash ∷ c ∷ cs) cs
escaped-unseen within c cs = by_test (is_ascii_alphabetic c) refl
  where
    by_test : (b : Bool) → is_ascii_alphabetic c ≡ b → Unseen within (backslash ∷ c ∷ cs) cs
    by_test true e =
        let s = spelled c cs e in
        total-more (seen within) (seen within) (backslash ∷ c ∷ cs) (after is_blank (after is_ascii_alphabetic (c ∷ cs))) _ (letters-at c cs e) (λ ts is. refl)
        ∙ (ap (total (seen within)) s.after ∙ (sym (plain-unseen within (s.name ++ s.blanks) s.rest s.plain) ∙ ap (total (seen within)) (sym s.parts)))
    by_test false e = total-more (seen within) (seen within) (backslash ∷ c ∷ cs) cs (Sign c) (sign-at c cs e) (λ ts is. refl)

-- what is seen before a group that is closed
abbrev next_seen : Bool → List Bool → Result (List Bool) ContentError
next_seen within bs = Ok (cond within (outer bs) bs)

total-then : (make : List Token → Result (List Bool) ContentError) (next : List Bool → Result (List Bool) ContentError) (cs : List ℕ) → total (λ ts. make ts >>= next) cs ≡ (total make cs >>= next)
total-then make next cs = sym (bind_bind (tokens_of cs) make next)

open-seen : (within : Bool) (cs : List ℕ) → total (seen within) (open_brace ∷ cs) ≡ (total (seen true) cs >>= next_seen within)
open-seen within cs =
    total-more (seen within) (λ ts. seen true ts >>= next_seen within) (open_brace ∷ cs) cs (Open (begins_command cs)) (open-at cs) (λ ts is. refl)
    ∙ total-then (seen true) (next_seen within) cs

close-seen : (within : Bool) (cs : List ℕ) → (total (seen true) (close_brace ∷ cs) >>= next_seen within) ≡ total (seen within) cs
close-seen within cs =
    sym (total-then (seen true) (next_seen within) (close_brace ∷ cs))
    ∙ total-more (λ ts. seen true ts >>= next_seen within) (seen within) (close_brace ∷ cs) cs Close (close-at cs) (λ ts is. refl)

braces-unseen : (within : Bool) (inner cs : List ℕ) → Unseen true (inner ++ close_brace ∷ cs) (close_brace ∷ cs) → Unseen within (open_brace ∷ (inner ++ close_brace ∷ cs)) cs
braces-unseen within inner cs same =
    open-seen within (inner ++ close_brace ∷ cs) ∙ (ap (λ (r : Result (List Bool) ContentError). r >>= next_seen within) same ∙ close-seen within cs)

-- a text with balanced braces changes nothing of what is seen
pub balanced-unseen : (within : Bool) (t : List ℕ) → IsBalanced within t → (rest : List ℕ) → Unseen within (t ++ rest) rest
balanced-unseen within t (nothing w) rest = refl
balanced-unseen within t (character w c more bar is) rest = character-unseen w c (more ++ rest) (standing_of w c bar) ∙ balanced-unseen w more is rest
balanced-unseen within t (escaped w c more is) rest = escaped-unseen w c (more ++ rest) ∙ balanced-unseen w more is rest
balanced-unseen within t (braces w inner more inside is) rest =
    let parted : (inner ++ close_brace ∷ more) ++ rest ≡ inner ++ close_brace ∷ (more ++ rest) = append_assoc inner (close_brace ∷ more) rest in
    ap (λ (x : List ℕ). total (seen w) (open_brace ∷ x)) parted
    ∙ (braces-unseen w inner (more ++ rest) (balanced-unseen true inner inside (close_brace ∷ (more ++ rest))) ∙ balanced-unseen w more is rest)

-- ---- a dollar sign that has a partner

abbrev bools : List Bool → Result (List Bool) ContentError
bools bs = Ok bs

ok_is : (bs cs : List Bool) → bools bs ≡ bools cs → bs ≡ cs
ok_is bs cs e = cc

seen_tokens : (within : Bool) (cs : List ℕ) (ts : List Token) → tokens_of cs ≡ Ok ts → total (seen within) cs ≡ seen within ts
seen_tokens within cs ts is = ap (λ (r : Result (List Token) ContentError). r >>= seen within) is

-- the dollar sign before a math piece has a partner
pub math-partner : (cs t rest : List ℕ) → IsMath cs t rest → (ts : List Token) → tokens_of cs ≡ Ok ts → innermost (dollars_in ts) ≡ true
math-partner cs t rest (balanced, e) ts is =
    let here : total (seen false) cs ≡ total (seen false) (dollar_sign ∷ rest) = ap (total (seen false)) e ∙ balanced-unseen false t balanced (dollar_sign ∷ rest) in
    let next : total (seen false) (dollar_sign ∷ rest) ≡ total (λ us. bools (true ∷ outer (dollars_in us))) rest
    = total-more (seen false) (λ us. bools (true ∷ outer (dollars_in us))) (dollar_sign ∷ rest) rest (Dollar false) (dollar-at rest) (λ us us_are. refl) in
    by_tokens (tokens_of rest) (sym next ∙ (sym here ∙ seen_tokens false cs ts is))
  where
    by_tokens : (r : Result (List Token) ContentError) → (r >>= λ us. bools (true ∷ outer (dollars_in us))) ≡ bools (dollars_in ts) → innermost (dollars_in ts) ≡ true
    by_tokens (Err f) h = absurd cc
    by_tokens (Ok us) h = sym (ap innermost (ok_is (true ∷ outer (dollars_in us)) (dollars_in ts) h))

-- what closes a group, and what finds a partner
pub record Closed (cs : List ℕ) : Type 0 where
  pub inner : List ℕ
  pub rest : List ℕ
  pub balanced : IsBalanced true inner
  pub is : cs ≡ inner ++ close_brace ∷ rest

pub record Found (cs : List ℕ) : Type 0 where
  pub inner : List ℕ
  pub rest : List ℕ
  pub math : IsMath cs inner rest

abbrev Unclosed : List ℕ → Type 0
Unclosed cs = (bs : List Bool) → total (seen true) cs ≡ Ok bs → bs ≡ []

abbrev pub Lone : List ℕ → Type 0
Lone cs = (bs : List Bool) → total (seen false) cs ≡ Ok bs → innermost bs ≡ false

-- before what was closed
put_before : (t : List ℕ) (cs ds : List ℕ) → ds ≡ t ++ cs → ((inner : List ℕ) → IsBalanced true inner → IsBalanced true (t ++ inner)) → Unseen true ds cs → Closed cs ⊎ Unclosed cs → Closed ds ⊎ Unclosed ds
put_before t cs ds e more same (inl c) =
    inl record { inner = t ++ c.inner; rest = c.rest; balanced = more c.inner c.balanced; is = e ∙ (ap (λ (x : List ℕ). t ++ x) c.is ∙ sym (append_assoc t c.inner (close_brace ∷ c.rest))) }
put_before t cs ds e more same (inr never) = inr (λ bs h. never bs (sym same ∙ h))

put_found : (t : List ℕ) (cs ds : List ℕ) → ds ≡ t ++ cs → ((inner : List ℕ) → IsBalanced false inner → IsBalanced false (t ++ inner)) → Unseen false ds cs → Found cs ⊎ Lone cs → Found ds ⊎ Lone ds
put_found t cs ds e more same (inl c) =
    inl record { inner = t ++ c.inner; rest = c.rest; math = (more c.inner c.math.0, e ∙ (ap (λ (x : List ℕ). t ++ x) c.math.1 ∙ sym (append_assoc t c.inner (dollar_sign ∷ c.rest)))) }
put_found t cs ds e more same (inr never) = inr (λ bs h. never bs (sym same ∙ h))

nil_seen : (within : Bool) (bs : List Bool) → total (seen within) [] ≡ Ok bs → bs ≡ []
nil_seen true bs h = sym (ok_is [] bs (sym (total-nil (seen true)) ∙ h))
nil_seen false bs h = sym (ok_is [] bs (sym (total-nil (seen false)) ∙ h))

end_seen : (within : Bool) (bs : List Bool) → total (seen within) (backslash ∷ []) ≡ Ok bs → ⊥
end_seen within bs h =
    let never : ◌>>=◌ {A = List Token} (Err MalformedCommand) (seen within) ≡ bools bs = ap (λ (r : Result (List Token) ContentError). r >>= seen within) (sym (tokens-err (backslash ∷ []) MalformedCommand end-at)) ∙ h in
    cc

unclosed_before : (within : Bool) (cs : List ℕ) → Unclosed cs → (bs : List Bool) → total (seen within) (open_brace ∷ cs) ≡ Ok bs → bs ≡ []
unclosed_before within cs never bs h =
    let b = bind_ok (total (seen true) cs) (next_seen within) bs (sym (open-seen within cs) ∙ h) in
    sym (ok_is (cond within (outer b.0) b.0) bs b.2) ∙ (ap (λ (x : List Bool). cond within (outer x) x) (never b.0 b.1) ∙ by_test within)
  where
    by_test : (w : Bool) → cond w (outer []) [] ≡ []
    by_test true = refl
    by_test false = refl

shorter : (cs inner rest : List ℕ) (n : ℕ) → cs ≡ inner ++ close_brace ∷ rest → length cs < n → length rest < n
shorter cs inner rest n e few = omega (arith, ap length e, length-append inner (close_brace ∷ rest), few)

-- what comes after a first group
after_group : (within : Bool) (cs : List ℕ) (c : Closed cs) → open_brace ∷ cs ≡ (open_brace ∷ (c.inner ++ close_brace ∷ [])) ++ c.rest
after_group within cs c = ap (λ (x : List ℕ). open_brace ∷ x) (c.is ∙ sym (append_assoc c.inner (close_brace ∷ []) c.rest))

group_balanced : (within : Bool) (inner more : List ℕ) → IsBalanced true inner → IsBalanced within more → IsBalanced within ((open_brace ∷ (inner ++ close_brace ∷ [])) ++ more)
group_balanced within inner more inside is =
    subst (λ (x : List ℕ). IsBalanced within (open_brace ∷ x)) (sym (append_assoc inner (close_brace ∷ []) more)) (braces within inner more inside is)

group_unseen : (within : Bool) (cs : List ℕ) (c : Closed cs) → Unseen within (open_brace ∷ cs) c.rest
group_unseen within cs c =
    ap (λ (x : List ℕ). total (seen within) (open_brace ∷ x)) c.is ∙ braces-unseen within c.inner c.rest (balanced-unseen true c.inner c.balanced (close_brace ∷ c.rest))

bars_from : (within : Bool) (c : ℕ) → eqb c open_brace ≡ false → eqb c close_brace ≡ false → eqb c backslash ≡ false → (eqb c dollar_sign && not within) ≡ false → bars within c ≡ false
bars_from within c a b d e = rw (a, b, d, e) refl

pub closes : (n : ℕ) (cs : List ℕ) → length cs < n → Closed cs ⊎ Unclosed cs
closes zero cs few = absurd (omega arith)
closes (suc n) [] few = inr (nil_seen true)
closes (suc n) (c ∷ cs) few =
    by_tests (λ ds less. closes n ds less) (eqb c close_brace) (eqb c open_brace) (eqb c backslash) refl refl refl
  where
    by_group : ((ds : List ℕ) → length ds < n → Closed ds ⊎ Unclosed ds) → Closed cs ⊎ Unclosed cs → Closed (open_brace ∷ cs) ⊎ Unclosed (open_brace ∷ cs)
    by_group next (inl d) =
        put_before (open_brace ∷ (d.inner ++ close_brace ∷ [])) d.rest (open_brace ∷ cs) (after_group true cs d) (λ inner is. group_balanced true d.inner inner d.balanced is) (group_unseen true cs d)
        (next d.rest (shorter cs d.inner d.rest n d.is (omega (arith, few))))
    by_group next (inr never) = inr (unclosed_before true cs never)

    by_escape : (ds : List ℕ) → cs ≡ ds → ((es : List ℕ) → length es < n → Closed es ⊎ Unclosed es) → Closed (backslash ∷ ds) ⊎ Unclosed (backslash ∷ ds)
    by_escape [] e next = inr (λ bs h. absurd (end_seen true bs h))
    by_escape (d ∷ ds) e next =
        put_before (backslash ∷ d ∷ []) ds (backslash ∷ d ∷ ds) refl (λ inner is. escaped true d inner is) (escaped-unseen true d ds) (next ds (omega (arith, few, ap length e)))

    by_tests : ((ds : List ℕ) → length ds < n → Closed ds ⊎ Unclosed ds) → (x y z : Bool) → eqb c close_brace ≡ x → eqb c open_brace ≡ y → eqb c backslash ≡ z → Closed (c ∷ cs) ⊎ Unclosed (c ∷ cs)
    by_tests next true y z ex ey ez = inl record { inner = []; rest = cs; balanced = nothing true; is = ap (λ (x : ℕ). x ∷ cs) (eqb-true c close_brace ex) }
    by_tests next false true z ex ey ez =
        subst (λ (x : ℕ). Closed (x ∷ cs) ⊎ Unclosed (x ∷ cs)) (sym (eqb-true c open_brace ey)) (by_group next (next cs (omega (arith, few))))
    by_tests next false false true ex ey ez = subst (λ (x : ℕ). Closed (x ∷ cs) ⊎ Unclosed (x ∷ cs)) (sym (eqb-true c backslash ez)) (by_escape cs refl next)
    by_tests next false false false ex ey ez =
        let bar = bars_from true c ey ex ez (no_within (eqb c dollar_sign)) in
        put_before (c ∷ []) cs (c ∷ cs) refl (λ inner is. character true c inner bar is) (character-unseen true c cs (standing_of true c bar)) (next cs (omega (arith, few)))
      where
        no_within : (b : Bool) → (b && not true) ≡ false
        no_within true = refl
        no_within false = refl

dollar_found : (cs : List ℕ) → Found (dollar_sign ∷ cs)
dollar_found cs = record { inner = []; rest = cs; math = (nothing false, refl) }

close_lone : (cs : List ℕ) → Lone (close_brace ∷ cs)
close_lone cs bs h =
    let next : total (seen false) (close_brace ∷ cs) ≡ total (λ us. bools (false ∷ dollars_in us)) cs
    = total-more (seen false) (λ us. bools (false ∷ dollars_in us)) (close_brace ∷ cs) cs Close (close-at cs) (λ us us_are. refl) in
    by_tokens (tokens_of cs) (sym next ∙ h)
  where
    by_tokens : (r : Result (List Token) ContentError) → (r >>= λ us. bools (false ∷ dollars_in us)) ≡ bools bs → innermost bs ≡ false
    by_tokens (Err f) e = absurd cc
    by_tokens (Ok us) e = sym (ap innermost (ok_is (false ∷ dollars_in us) bs e))

pub finds : (n : ℕ) (cs : List ℕ) → length cs < n → Found cs ⊎ Lone cs
finds zero cs few = absurd (omega arith)
finds (suc n) [] few = inr (λ bs h. ap innermost (nil_seen false bs h))
finds (suc n) (c ∷ cs) few =
    by_tests (λ ds less. finds n ds less) (eqb c close_brace) (eqb c open_brace) (eqb c backslash) (eqb c dollar_sign) refl refl refl refl
  where
    by_group : ((ds : List ℕ) → length ds < n → Found ds ⊎ Lone ds) → Closed cs ⊎ Unclosed cs → Found (open_brace ∷ cs) ⊎ Lone (open_brace ∷ cs)
    by_group next (inl d) =
        put_found (open_brace ∷ (d.inner ++ close_brace ∷ [])) d.rest (open_brace ∷ cs) (after_group false cs d) (λ inner is. group_balanced false d.inner inner d.balanced is) (group_unseen false cs d)
        (next d.rest (shorter cs d.inner d.rest n d.is (omega (arith, few))))
    by_group next (inr never) = inr (λ bs h. ap innermost (unclosed_before false cs never bs h))

    by_escape : (ds : List ℕ) → cs ≡ ds → ((es : List ℕ) → length es < n → Found es ⊎ Lone es) → Found (backslash ∷ ds) ⊎ Lone (backslash ∷ ds)
    by_escape [] e next = inr (λ bs h. absurd (end_seen false bs h))
    by_escape (d ∷ ds) e next =
        put_found (backslash ∷ d ∷ []) ds (backslash ∷ d ∷ ds) refl (λ inner is. escaped false d inner is) (escaped-unseen false d ds) (next ds (omega (arith, few, ap length e)))

    by_tests : ((ds : List ℕ) → length ds < n → Found ds ⊎ Lone ds) → (x y z d : Bool) → eqb c close_brace ≡ x → eqb c open_brace ≡ y → eqb c backslash ≡ z → eqb c dollar_sign ≡ d → Found (c ∷ cs) ⊎ Lone (c ∷ cs)
    by_tests next true y z d ex ey ez ed = inr (subst (λ (x : ℕ). Lone (x ∷ cs)) (sym (eqb-true c close_brace ex)) (close_lone cs))
    by_tests next false true z d ex ey ez ed =
        subst (λ (x : ℕ). Found (x ∷ cs) ⊎ Lone (x ∷ cs)) (sym (eqb-true c open_brace ey)) (by_group next (closes (suc n) cs (omega (arith, few))))
    by_tests next false false true d ex ey ez ed = subst (λ (x : ℕ). Found (x ∷ cs) ⊎ Lone (x ∷ cs)) (sym (eqb-true c backslash ez)) (by_escape cs refl next)
    by_tests next false false false true ex ey ez ed = inl (subst (λ (x : ℕ). Found (x ∷ cs)) (sym (eqb-true c dollar_sign ed)) (dollar_found cs))
    by_tests next false false false false ex ey ez ed =
        let bar = bars_from false c ey ex ez (rw ed refl) in
        put_found (c ∷ []) cs (c ∷ cs) refl (λ inner is. character false c inner bar is) (character-unseen false c cs (standing_of false c bar)) (next cs (omega (arith, few)))

-- ---- whether a dollar sign has a partner

-- where a text has no partner for a dollar sign before it, none is seen
pub lacks-partner : (cs : List ℕ) → LacksPartner cs → (ts : List Token) → tokens_of cs ≡ Ok ts → innermost (dollars_in ts) ≡ false
lacks-partner cs lacks ts is = by_cases (finds (suc (length cs)) cs (omega arith))
  where
    by_cases : Found cs ⊎ Lone cs → innermost (dollars_in ts) ≡ false
    by_cases (inl f) = absurd (lacks f.inner f.rest f.math)
    by_cases (inr lone) = lone (dollars_in ts) (seen_tokens false cs ts is)

-- where none is seen, the text has none
pub lone-lacks : (cs : List ℕ) → Lone cs → (ts : List Token) → tokens_of cs ≡ Ok ts → LacksPartner cs
lone-lacks cs lone ts is t rest math = both_ways (innermost (dollars_in ts)) (lone (dollars_in ts) (seen_tokens false cs ts is)) (math-partner cs t rest math ts is)
