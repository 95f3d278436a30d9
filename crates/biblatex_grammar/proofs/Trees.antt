-- Texts with balanced braces are what the reader's runs take that count braces.
use Rattle.std.proofs.Common.{◌≡◌, ℕ, zero, suc, ◌+◌, Bool, true, false, cond, ◌&&◌, ◌||◌, eqb, List, [], ◌∷◌, ◌++◌, Some, None, refl, sym, ap, ◌∙◌, subst, append_assoc, append-nil, add-one, ne_eqb, arith}
use Rattle.std.proofs.lemmas.Bool.{eqb-true}
use Rattle.std.specs.Option.{option_map}
use Rattle.biblatex_text.specs.Run.{next, depth_after, prefix_of, after}
use Rattle.biblatex_text.specs.Value.{braced_at, quoted_at}
use Rattle.biblatex_grammar.specs.Balanced.{Balanced, nothing, character, escaped, group, written, Inside, Remark, Braces, Quotes, bars, takes_next, within_braces, Stands, IsBalanced}
use Rattle.biblatex_grammar.proofs.Classes.{neither, none_of_both}
use Rattle.biblatex_grammar.proofs.States.{Run, remark, braced, braced_escape, quoted, quoted_escape}
use Rattle.biblatex_grammar.proofs.Runs.{parts}

-- the run at a depth, and the run after a backslash there
abbrev pub at : Inside → ℕ → Run
at Remark d = remark d
at Braces d = braced d
at Quotes d = quoted d

abbrev escape : Inside → ℕ → Run
escape Remark d = remark d
escape Braces d = braced_escape d
escape Quotes d = quoted_escape d

-- where a text at that depth stands
abbrev standing : Inside → ℕ → Inside
standing inside zero = inside
standing inside (suc d) = within_braces inside

within-within : (inside : Inside) (d : ℕ) → within_braces (standing inside d) ≡ within_braces inside
within-within inside zero = refl
within-within Remark (suc d) = refl
within-within Braces (suc d) = refl
within-within Quotes (suc d) = refl

-- ---- one character

-- what a character does where it is none of some marks
plain_remark : (d c : ℕ) → eqb c 123 || (eqb c 125 || false) ≡ false → depth_after d c ≡ Some d
plain_remark d c bars =
    let one = neither (eqb c 123) (eqb c 125 || false) bars in
    let two = neither (eqb c 125) false one.1 in
    let a = one.0 in
    let b = two.0 in
    rw (a, b) refl

plain_braced : (d c : ℕ) → eqb c 123 || (eqb c 125 || (eqb c 92 || false)) ≡ false → next (braced d) c ≡ Some (braced d)
unfolding braced_at quoted_at
plain_braced d c bars =
    let one = neither (eqb c 123) (eqb c 125 || (eqb c 92 || false)) bars in
    let two = neither (eqb c 125) (eqb c 92 || false) one.1 in
    let three = neither (eqb c 92) false two.1 in
    let a = one.0 in
    let b = two.0 in
    let e = three.0 in
    rw (e, a, b) refl

plain_quoted : (d c : ℕ) → eqb c 123 || (eqb c 125 || (eqb c 92 || false)) ≡ false → eqb c 34 && eqb d 0 ≡ false → next (quoted d) c ≡ Some (quoted d)
unfolding braced_at quoted_at
plain_quoted d c bars quote =
    let one = neither (eqb c 123) (eqb c 125 || (eqb c 92 || false)) bars in
    let two = neither (eqb c 125) (eqb c 92 || false) one.1 in
    let three = neither (eqb c 92) false two.1 in
    let a = one.0 in
    let b = two.0 in
    let e = three.0 in
    rw (e, quote, a, b) refl

-- the first three of four marks, and the fourth
split_four : (a b c d : Bool) → a || (b || (c || (d || false))) ≡ false → (a || (b || (c || false)) ≡ false) × (d ≡ false)
split_four a b c d bars =
    let one = neither a (b || (c || (d || false))) bars in
    let two = neither b (c || (d || false)) one.1 in
    let three = neither c (d || false) two.1 in
    let four = neither d false three.1 in
    (none_of_both a (b || (c || false)) one.0 (none_of_both b (c || false) two.0 (none_of_both c false three.0 refl)), four.0)

and_false : (a b : Bool) → a ≡ false → a && b ≡ false
and_false a b e = rw e refl

never_zero : (a : Bool) (d : ℕ) → a && eqb (suc d) 0 ≡ false
never_zero true d = ne_eqb (suc d) 0 (λ e. omega arith)
never_zero false d = refl

plain-next : (inside : Inside) (d c : ℕ) → bars (standing inside d) c ≡ false → next (at inside d) c ≡ Some (at inside d)
unfolding braced_at quoted_at
plain-next Remark zero c unbarred = ap (option_map (λ n. remark n)) (plain_remark zero c unbarred)
plain-next Remark (suc d) c unbarred = ap (option_map (λ n. remark n)) (plain_remark (suc d) c unbarred)
plain-next Braces zero c unbarred = plain_braced zero c unbarred
plain-next Braces (suc d) c unbarred = plain_braced (suc d) c unbarred
plain-next Quotes zero c unbarred =
    let two = split_four (eqb c 123) (eqb c 125) (eqb c 92) (eqb c 34) unbarred in
    plain_quoted zero c two.0 (and_false (eqb c 34) true two.1)
plain-next Quotes (suc d) c unbarred = plain_quoted (suc d) c unbarred (never_zero (eqb c 34) d)

escape-next : (inside : Inside) (d : ℕ) → takes_next (standing inside d) ≡ true → next (at inside d) 92 ≡ Some (escape inside d)
unfolding braced_at quoted_at
escape-next Remark zero takes = absurd cc
escape-next Remark (suc d) takes = absurd cc
escape-next Braces d takes = refl
escape-next Quotes d takes = refl

escaped-next : (inside : Inside) (d c : ℕ) → takes_next (standing inside d) ≡ true → next (escape inside d) c ≡ Some (at inside d)
unfolding braced_at quoted_at
escaped-next Remark zero c takes = absurd cc
escaped-next Remark (suc d) c takes = absurd cc
escaped-next Braces d c takes = refl
escaped-next Quotes d c takes = refl

open-next : (inside : Inside) (d : ℕ) → next (at inside d) 123 ≡ Some (at inside (suc d))
unfolding braced_at quoted_at
open-next Remark d = ap (λ n. Some (remark n)) (add-one d)
open-next Braces d = ap (λ n. Some (braced n)) (add-one d)
open-next Quotes d = ap (λ n. Some (quoted n)) (add-one d)

close-next : (inside : Inside) (d : ℕ) → next (at inside (suc d)) 125 ≡ Some (at inside d)
unfolding braced_at quoted_at
close-next Remark d = refl
close-next Braces d = refl
close-next Quotes d = refl

-- ---- a tree is taken

prefix-goes : (run then : Run) (c : ℕ) (cs : List ℕ) → next run c ≡ Some then → prefix_of run (c ∷ cs) ≡ c ∷ prefix_of then cs
prefix-goes run then c cs e = rw e refl

after-goes : (run then : Run) (c : ℕ) (cs : List ℕ) → next run c ≡ Some then → after run (c ∷ cs) ≡ after then cs
after-goes run then c cs e = rw e refl

-- the run takes a text, and goes on as another after it
record Taken (run then : Run) (t rest : List ℕ) : Type 0 where
  prefix : prefix_of run (t ++ rest) ≡ t ++ prefix_of then rest
  behind : after run (t ++ rest) ≡ after then rest

none_taken : (run : Run) (rest : List ℕ) → Taken run run [] rest
none_taken run rest = record { prefix = refl; behind = refl }

one_taken : (run then last : Run) (c : ℕ) (t rest : List ℕ) → next run c ≡ Some then → Taken then last t rest → Taken run last (c ∷ t) rest
one_taken run then last c t rest e more = record {
  prefix = prefix-goes run then c (t ++ rest) e ∙ ap (λ (x : List ℕ). c ∷ x) more.prefix;
  behind = after-goes run then c (t ++ rest) e ∙ more.behind;
}

-- one text after the other
both_taken : (run then last : Run) (t u rest : List ℕ) → Taken run then t (u ++ rest) → Taken then last u rest → Taken run last (t ++ u) rest
both_taken run then last t u rest one two = record {
  prefix = ap (prefix_of run) (append_assoc t u rest) ∙ (one.prefix ∙ (ap (λ (x : List ℕ). t ++ x) two.prefix ∙ sym (append_assoc t u (prefix_of last rest))));
  behind = ap (after run) (append_assoc t u rest) ∙ (one.behind ∙ two.behind);
}

tree-taken : (inside : Inside) (tree : Balanced) (d : ℕ) (rest : List ℕ) → Stands (standing inside d) tree → Taken (at inside d) (at inside d) (written tree) rest
tree-taken inside nothing d rest stand = none_taken (at inside d) rest
tree-taken inside (character c more) d rest (unbarred, stand) =
    one_taken (at inside d) (at inside d) (at inside d) c (written more) rest (plain-next inside d c unbarred) (tree-taken inside more d rest stand)
tree-taken inside (escaped c more) d rest (takes, stand) =
    one_taken (at inside d) (escape inside d) (at inside d) 92 (c ∷ written more) rest (escape-next inside d takes)
    (one_taken (escape inside d) (at inside d) (at inside d) c (written more) rest (escaped-next inside d c takes) (tree-taken inside more d rest stand))
tree-taken inside (group inner more) d rest (stand_inner, stand) =
    one_taken (at inside d) (at inside (suc d)) (at inside d) 123 (written inner ++ 125 ∷ written more) rest (open-next inside d)
    (both_taken (at inside (suc d)) (at inside (suc d)) (at inside d) (written inner) (125 ∷ written more) rest
    (tree-taken inside inner (suc d) (125 ∷ written more ++ rest) (subst (λ x. Stands x inner) (within-within inside d) stand_inner))
    (one_taken (at inside (suc d)) (at inside d) (at inside d) 125 (written more) rest (close-next inside d) (tree-taken inside more d rest stand)))

-- a mark at which no run goes on
prefix-stops : (run : Run) (c : ℕ) (cs : List ℕ) → next run c ≡ None → prefix_of run (c ∷ cs) ≡ []
prefix-stops run c cs e = rw e refl

after-stops : (run : Run) (c : ℕ) (cs : List ℕ) → next run c ≡ None → after run (c ∷ cs) ≡ c ∷ cs
after-stops run c cs e = rw e refl

pub balanced-prefix : (inside : Inside) (mark : ℕ) (cs t rest : List ℕ) → next (at inside 0) mark ≡ None → IsBalanced inside mark cs t rest → prefix_of (at inside 0) cs ≡ t
balanced-prefix inside mark cs t rest stops (tree, stand, is, e) =
    let taken = tree-taken inside tree 0 (mark ∷ rest) stand in
    ap (prefix_of (at inside 0)) (e ∙ ap (λ (x : List ℕ). x ++ mark ∷ rest) is)
    ∙ (taken.prefix ∙ (ap (λ (x : List ℕ). written tree ++ x) (prefix-stops (at inside 0) mark rest stops) ∙ (append-nil (written tree) ∙ sym is)))

pub balanced-after : (inside : Inside) (mark : ℕ) (cs t rest : List ℕ) → next (at inside 0) mark ≡ None → IsBalanced inside mark cs t rest → after (at inside 0) cs ≡ mark ∷ rest
balanced-after inside mark cs t rest stops (tree, stand, is, e) =
    let taken = tree-taken inside tree 0 (mark ∷ rest) stand in
    ap (after (at inside 0)) (e ∙ ap (λ (x : List ℕ). x ++ mark ∷ rest) is) ∙ (taken.behind ∙ after-stops (at inside 0) mark rest stops)

-- ---- what is taken is a tree

-- What one character does.
data Step (inside : Inside) (d c : ℕ) : Type 0 where
  ends : d ≡ 0 → next (at inside 0) c ≡ None → Step inside d c
  plain : bars (standing inside d) c ≡ false → next (at inside d) c ≡ Some (at inside d) → Step inside d c
  escapes : c ≡ 92 → takes_next (standing inside d) ≡ true → next (at inside d) c ≡ Some (escape inside d) → Step inside d c
  opens : c ≡ 123 → next (at inside d) c ≡ Some (at inside (suc d)) → Step inside d c
  closes : (e : ℕ) → d ≡ suc e → c ≡ 125 → next (at inside d) c ≡ Some (at inside e) → Step inside d c

-- a character that opens or closes
opening : (inside : Inside) (d c : ℕ) → eqb c 123 ≡ true → Step inside d c
opening inside d c is = opens (eqb-true c 123 is) (ap (next (at inside d)) (eqb-true c 123 is) ∙ open-next inside d)

closing : (inside : Inside) (d c : ℕ) → eqb c 125 ≡ true → next (at inside 0) 125 ≡ None → Step inside d c
closing inside zero c is none = ends refl (ap (next (at inside 0)) (eqb-true c 125 is) ∙ none)
closing inside (suc d) c is none = closes d refl (eqb-true c 125 is) (ap (next (at inside (suc d))) (eqb-true c 125 is) ∙ close-next inside d)

none_at : (inside : Inside) → next (at inside 0) 125 ≡ None
unfolding braced_at quoted_at
none_at Remark = refl
none_at Braces = refl
none_at Quotes = refl

escaping : (inside : Inside) (d c : ℕ) → takes_next (standing inside d) ≡ true → eqb c 92 ≡ true → Step inside d c
escaping inside d c takes is = escapes (eqb-true c 92 is) takes (ap (next (at inside d)) (eqb-true c 92 is) ∙ escape-next inside d takes)

-- no mark of the braces is there: what is left to test is the backslash and the quotation mark
other : (inside : Inside) (d c : ℕ) → bars (standing inside d) c ≡ false → Step inside d c
other inside d c unbarred = plain unbarred (plain-next inside d c unbarred)

no_marks : (a b c : Bool) → a ≡ false → b ≡ false → c ≡ false → a || (b || (c || false)) ≡ false
no_marks a b c e f g = rw (e, f, g) refl

no_four : (a b c d : Bool) → a ≡ false → b ≡ false → c ≡ false → d ≡ false → a || (b || (c || (d || false))) ≡ false
no_four a b c d e f g h = rw (e, f, g, h) refl

step_remark : (d c : ℕ) → eqb c 123 ≡ false → eqb c 125 ≡ false → Step Remark d c
unfolding braced_at quoted_at
step_remark zero c a b = other Remark zero c (none_of_both (eqb c 123) (eqb c 125 || false) a (none_of_both (eqb c 125) false b refl))
step_remark (suc d) c a b = other Remark (suc d) c (none_of_both (eqb c 123) (eqb c 125 || false) a (none_of_both (eqb c 125) false b refl))

step_braced : (d c : ℕ) → eqb c 123 ≡ false → eqb c 125 ≡ false → (k : Bool) → eqb c 92 ≡ k → Step Braces d c
unfolding braced_at quoted_at
step_braced zero c a b true is = escaping Braces zero c refl is
step_braced (suc d) c a b true is = escaping Braces (suc d) c refl is
step_braced zero c a b false is = other Braces zero c (no_marks (eqb c 123) (eqb c 125) (eqb c 92) a b is)
step_braced (suc d) c a b false is = other Braces (suc d) c (no_marks (eqb c 123) (eqb c 125) (eqb c 92) a b is)

step_quoted : (d c : ℕ) → eqb c 123 ≡ false → eqb c 125 ≡ false → (k q : Bool) → eqb c 92 ≡ k → eqb c 34 ≡ q → Step Quotes d c
unfolding braced_at quoted_at
step_quoted zero c a b true q is quote = escaping Quotes zero c refl is
step_quoted (suc d) c a b true q is quote = escaping Quotes (suc d) c refl is
step_quoted zero c a b false true is quote = ends refl (ap (next (quoted 0)) (eqb-true c 34 quote))
step_quoted zero c a b false false is quote = other Quotes zero c (no_four (eqb c 123) (eqb c 125) (eqb c 92) (eqb c 34) a b is quote)
step_quoted (suc d) c a b false q is quote = other Quotes (suc d) c (no_marks (eqb c 123) (eqb c 125) (eqb c 92) a b is)

step_other : (inside : Inside) (d c : ℕ) → eqb c 123 ≡ false → eqb c 125 ≡ false → Step inside d c
step_other Remark d c a b = step_remark d c a b
step_other Braces d c a b = step_braced d c a b (eqb c 92) refl
step_other Quotes d c a b = step_quoted d c a b (eqb c 92) (eqb c 34) refl refl

step : (inside : Inside) (d c : ℕ) → Step inside d c
step inside d c = by_braces (eqb c 123) (eqb c 125) refl refl
  where
    by_braces : (a b : Bool) → eqb c 123 ≡ a → eqb c 125 ≡ b → Step inside d c
    by_braces true b e f = opening inside d c e
    by_braces false true e f = closing inside d c f (none_at inside)
    by_braces false false e f = step_other inside d c e f

-- trees that stand each after a brace that closes one
abbrev others_written : List Balanced → List ℕ
others_written [] = []
others_written (t ∷ ts) = 125 ∷ (written t ++ others_written ts)

-- one of them for each open brace
abbrev OthersStand : Inside → ℕ → List Balanced → Type 0
OthersStand inside zero [] = Unit {0}
OthersStand inside zero (t ∷ ts) = ⊥
OthersStand inside (suc d) [] = ⊥
OthersStand inside (suc d) (t ∷ ts) = Stands (standing inside d) t × OthersStand inside d ts

-- a text at a depth: a tree, and what closes all that is open
record Ended (inside : Inside) (d c : ℕ) (text : List ℕ) : Type 0 where
  tree : Balanced
  others : List Balanced
  stand : Stands (standing inside d) tree
  others_stand : OthersStand inside d others
  is : text ≡ written tree ++ others_written others
  stops : next (at inside 0) c ≡ None

abbrev Ends : Inside → List ℕ → Type 0
Ends inside cs = (d c : ℕ) (rest : List ℕ) → after (at inside d) cs ≡ c ∷ rest → Ended inside d c (prefix_of (at inside d) cs)

abbrev EndsEscaped : Inside → List ℕ → Type 0
EndsEscaped inside cs =
    (d c : ℕ) (rest : List ℕ) → takes_next (standing inside d) ≡ true → after (escape inside d) cs ≡ c ∷ rest
    → (x : ℕ) × (text : List ℕ) × (prefix_of (escape inside d) cs ≡ x ∷ text) × Ended inside d c text

-- what a character adds to a text
with_character : (inside : Inside) (d c x : ℕ) (text : List ℕ) → bars (standing inside d) x ≡ false → Ended inside d c text → Ended inside d c (x ∷ text)
with_character inside d c x text unbarred e =
    record { tree = character x e.tree; others = e.others; stand = (unbarred, e.stand); others_stand = e.others_stand; is = ap (λ (t : List ℕ). x ∷ t) e.is; stops = e.stops }

with_escaped : (inside : Inside) (d c x : ℕ) (text : List ℕ) → takes_next (standing inside d) ≡ true → Ended inside d c text → Ended inside d c (92 ∷ x ∷ text)
with_escaped inside d c x text takes e =
    record { tree = escaped x e.tree; others = e.others; stand = (takes, e.stand); others_stand = e.others_stand; is = ap (λ (t : List ℕ). 92 ∷ x ∷ t) e.is; stops = e.stops }

with_closed : (inside : Inside) (d c : ℕ) (text : List ℕ) → Ended inside d c text → Ended inside (suc d) c (125 ∷ text)
with_closed inside d c text e =
    record { tree = nothing; others = e.tree ∷ e.others; stand = tt; others_stand = (e.stand, e.others_stand); is = ap (λ (t : List ℕ). 125 ∷ t) e.is; stops = e.stops }

grouped : (inside : Inside) (d c : ℕ) (text : List ℕ) (tree : Balanced) (others : List Balanced) → Stands (within_braces inside) tree → OthersStand inside (suc d) others
    → text ≡ written tree ++ others_written others → next (at inside 0) c ≡ None → Ended inside d c (123 ∷ text)
grouped inside d c text tree [] stand nothing_stands is stops = absurd nothing_stands
grouped inside d c text tree (t ∷ ts) stand (stand_next, others_stand) is stops =
    record {
      tree = group tree t;
      others = ts;
      stand = (subst (λ x. Stands x tree) (sym (within-within inside d)) stand, stand_next);
      others_stand = others_stand;
      is = ap (λ (x : List ℕ). 123 ∷ x) (is ∙ sym (append_assoc (written tree) (125 ∷ written t) (others_written ts)));
      stops = stops;
    }

with_opened : (inside : Inside) (d c : ℕ) (text : List ℕ) → Ended inside (suc d) c text → Ended inside d c (123 ∷ text)
with_opened inside d c text e = grouped inside d c text e.tree e.others e.stand e.others_stand e.is e.stops

first_is : {A : Type 0} (x y : A) (xs ys : List A) → x ∷ xs ≡ y ∷ ys → x ≡ y
first_is x y xs ys e = cc

-- where no brace is open a text may end before any character at which the run stops
ended_here : (inside : Inside) (x c : ℕ) (cs rest : List ℕ) → next (at inside 0) x ≡ None → after (at inside 0) (x ∷ cs) ≡ c ∷ rest → Ended inside 0 c (prefix_of (at inside 0) (x ∷ cs))
ended_here inside x c cs rest none is =
    let same : x ≡ c = first_is x c cs rest (sym (after-stops (at inside 0) x cs none) ∙ is) in
    record { tree = nothing; others = []; stand = tt; others_stand = tt; is = prefix-stops (at inside 0) x cs none; stops = subst (λ y. next (at inside 0) y ≡ None) same none }

further : (inside : Inside) (x : ℕ) (cs : List ℕ) → Ends inside cs → EndsEscaped inside cs → (d c : ℕ) (rest : List ℕ) → Step inside d x → after (at inside d) (x ∷ cs) ≡ c ∷ rest
    → Ended inside d c (prefix_of (at inside d) (x ∷ cs))
further inside x cs more escaped_more d c rest (ends zero_is none) is =
    subst (λ n. after (at inside n) (x ∷ cs) ≡ c ∷ rest → Ended inside n c (prefix_of (at inside n) (x ∷ cs))) (sym zero_is) (ended_here inside x c cs rest none) is
further inside x cs more escaped_more d c rest (plain unbarred goes) is =
    let e = more d c rest (sym (after-goes (at inside d) (at inside d) x cs goes) ∙ is) in
    subst (Ended inside d c) (sym (prefix-goes (at inside d) (at inside d) x cs goes)) (with_character inside d c x (prefix_of (at inside d) cs) unbarred e)
further inside x cs more escaped_more d c rest (escapes sign takes goes) is =
    let e = escaped_more d c rest takes (sym (after-goes (at inside d) (escape inside d) x cs goes) ∙ is) in
    subst (Ended inside d c) (sym (prefix-goes (at inside d) (escape inside d) x cs goes ∙ (ap (λ y. y ∷ prefix_of (escape inside d) cs) sign ∙ ap (λ (t : List ℕ). 92 ∷ t) e.2)))
    (with_escaped inside d c e.0 e.1 takes e.3)
further inside x cs more escaped_more d c rest (opens sign goes) is =
    let e = more (suc d) c rest (sym (after-goes (at inside d) (at inside (suc d)) x cs goes) ∙ is) in
    subst (Ended inside d c) (sym (prefix-goes (at inside d) (at inside (suc d)) x cs goes ∙ ap (λ y. y ∷ prefix_of (at inside (suc d)) cs) sign))
    (with_opened inside d c (prefix_of (at inside (suc d)) cs) e)
further inside x cs more escaped_more d c rest (closes b deep sign goes) is =
    let e = more b c rest (sym (after-goes (at inside d) (at inside b) x cs goes) ∙ is) in
    subst (Ended inside d c) (sym (prefix-goes (at inside d) (at inside b) x cs goes ∙ ap (λ y. y ∷ prefix_of (at inside b) cs) sign))
    (subst (λ n. Ended inside n c (125 ∷ prefix_of (at inside b) cs)) (sym deep) (with_closed inside b c (prefix_of (at inside b) cs) e))

record BothEnd (inside : Inside) (cs : List ℕ) : Type 0 where
  shown : Ends inside cs
  behind : EndsEscaped inside cs

both-end : (inside : Inside) (cs : List ℕ) → BothEnd inside cs
both-end inside [] = record { shown = λ d c rest is. absurd cc; behind = λ d c rest takes is. absurd cc }
both-end inside (x ∷ cs) =
    let more = both-end inside cs in
    record {
      shown = λ d c rest is. further inside x cs more.shown more.behind d c rest (step inside d x) is;
      behind = λ d c rest takes is.
          let goes = escaped-next inside d x takes in
          (x, prefix_of (at inside d) cs, prefix-goes (escape inside d) (at inside d) x cs goes, more.shown d c rest (sym (after-goes (escape inside d) (at inside d) x cs goes) ∙ is));
    }

none_open : (inside : Inside) (text : List ℕ) (tree : Balanced) (others : List Balanced) → OthersStand inside 0 others → text ≡ written tree ++ others_written others → text ≡ written tree
none_open inside text tree [] stand is = is ∙ append-nil (written tree)
none_open inside text tree (t ∷ ts) stand is = absurd stand

-- the run stops at the character that it ended before
pub ends-stops : (inside : Inside) (c : ℕ) (cs rest : List ℕ) → after (at inside 0) cs ≡ c ∷ rest → next (at inside 0) c ≡ None
ends-stops inside c cs rest is = ((both-end inside cs).shown 0 c rest is).stops

pub balanced-takes : (inside : Inside) (c : ℕ) (cs rest : List ℕ) → after (at inside 0) cs ≡ c ∷ rest → IsBalanced inside c cs (prefix_of (at inside 0) cs) rest
balanced-takes inside c cs rest is =
    let e = (both-end inside cs).shown 0 c rest is in
    (e.tree, e.stand, none_open inside (prefix_of (at inside 0) cs) e.tree e.others e.others_stand e.is, parts (at inside 0) cs ∙ ap (λ (x : List ℕ). prefix_of (at inside 0) cs ++ x) is)

-- which character that is
pub remark-ends : (c : ℕ) → next (at Remark 0) c ≡ None → c ≡ 125
unfolding braced_at quoted_at
remark-ends c none = by_tests (eqb c 123) (eqb c 125) refl none
  where
    by_tests : (a b : Bool) → eqb c 125 ≡ b → option_map (λ n. remark n) (cond a (Some (0 + 1)) (cond b None (Some 0))) ≡ None → c ≡ 125
    by_tests true b f h = absurd cc
    by_tests false true f h = eqb-true c 125 f
    by_tests false false f h = absurd cc

pub braced-ends : (c : ℕ) → next (at Braces 0) c ≡ None → c ≡ 125
unfolding braced_at quoted_at
braced-ends c none = by_tests (eqb c 92) (eqb c 123) (eqb c 125) refl none
  where
    by_tests : (k a b : Bool) → eqb c 125 ≡ b → cond k (Some (braced_escape 0)) (option_map (λ n. braced n) (cond a (Some (0 + 1)) (cond b None (Some 0)))) ≡ None → c ≡ 125
    by_tests true a b f h = absurd cc
    by_tests false true b f h = absurd cc
    by_tests false false true f h = eqb-true c 125 f
    by_tests false false false f h = absurd cc

-- the marks that end a text with balanced braces
pub remark-stops : next (at Remark 0) 125 ≡ None
remark-stops = refl

pub braces-stop : next (at Braces 0) 125 ≡ None
unfolding braced_at
braces-stop = refl

pub quotes-stop : next (at Quotes 0) 34 ≡ None
unfolding quoted_at
quotes-stop = refl
