-- From each place of the machine some text leads to its end.
use Rattle.std.proofs.Common.{◌≡◌, ℕ, zero, suc, Bool, true, false, cond, List, [], ◌∷◌, ◌++◌, codes, refl, ap, ◌∙◌}
use Rattle.biblatex_text.specs.Items.{is_named}
use Rattle.biblatex_grammar.proofs.Machine.{Shape, curly, round, Holder, of_field, of_preamble, Class, gap, Point, item, kind_first, kind_done, remark_end, key_first, key_done, comma_or_end, field_or_end, name_done, equals, piece_first, brace_end, quote_end, bare_done, piece_or_end, class_of, Place, before, naming, passes, starts, opened, decides, whole, continued, verdict}

abbrev pub Completes : Place → Type 0
Completes place = (more : List ℕ) × (verdict place more ≡ whole)

-- a text that leads to the end from a point, whatever was counted before it
record Shown (k : Point) : Type 0 where
  more : List ℕ
  leads : (d : ℕ) → verdict (before false d k) more ≡ whole

-- a line feed ends a comment before it
of_gap : (k : Point) → class_of k ≡ gap → Shown k → (hides : Bool) (d : ℕ) → Completes (before hides d k)
of_gap k is s false d = (s.more, s.leads d)
of_gap k is s true d = (10 ∷ s.more, ap (λ (class : Class). continued (passes class true d k 10 (decides k 10)) (10 ∷ s.more) (λ then. verdict then s.more)) is ∙ s.leads 0)

-- what closes braces that are open
abbrev closings : ℕ → List ℕ
closings zero = []
closings (suc d) = 125 ∷ closings d

-- ---- what closes an item

shown_comma : (s : Shape) → Shown (comma_or_end s)
shown_comma curly = record { more = 125 ∷ []; leads = λ d. refl }
shown_comma round = record { more = 41 ∷ []; leads = λ d. refl }

shown_field : (s : Shape) → Shown (field_or_end s)
shown_field curly = record { more = 125 ∷ []; leads = λ d. refl }
shown_field round = record { more = 41 ∷ []; leads = λ d. refl }

shown_key : (s : Shape) → Shown (key_first s)
shown_key curly = record { more = 125 ∷ []; leads = λ d. refl }
shown_key round = record { more = 41 ∷ []; leads = λ d. refl }

key-completes : (s : Shape) (hides : Bool) (d : ℕ) → Completes (before hides d (key_done s))
key-completes curly hides d = (125 ∷ [], refl)
key-completes round hides d = (41 ∷ [], refl)

-- ---- values

shown_end : (h : Holder) → Shown (piece_or_end h)
shown_end (of_field curly) = record { more = 125 ∷ []; leads = λ d. refl }
shown_end (of_field round) = record { more = 41 ∷ []; leads = λ d. refl }
shown_end (of_preamble curly) = record { more = 125 ∷ []; leads = λ d. refl }
shown_end (of_preamble round) = record { more = 41 ∷ []; leads = λ d. refl }

shown_piece : (h : Holder) → Shown (piece_first h)
shown_piece (of_field curly) = record { more = 97 ∷ 125 ∷ []; leads = λ d. refl }
shown_piece (of_field round) = record { more = 97 ∷ 41 ∷ []; leads = λ d. refl }
shown_piece (of_preamble curly) = record { more = 97 ∷ 125 ∷ []; leads = λ d. refl }
shown_piece (of_preamble round) = record { more = 97 ∷ 41 ∷ []; leads = λ d. refl }

bare-completes : (h : Holder) (hides : Bool) (d : ℕ) → Completes (before hides d (bare_done h))
bare-completes (of_field curly) hides d = (125 ∷ [], refl)
bare-completes (of_field round) hides d = (41 ∷ [], refl)
bare-completes (of_preamble curly) hides d = (125 ∷ [], refl)
bare-completes (of_preamble round) hides d = (41 ∷ [], refl)

shown_equals : (s : Shape) → Shown (equals s)
shown_equals curly = record { more = 61 ∷ 97 ∷ 125 ∷ []; leads = λ d. refl }
shown_equals round = record { more = 61 ∷ 97 ∷ 41 ∷ []; leads = λ d. refl }

name-completes : (s : Shape) (hides : Bool) (d : ℕ) → Completes (before hides d (name_done s))
name-completes curly hides d = (61 ∷ 97 ∷ 125 ∷ [], refl)
name-completes round hides d = (61 ∷ 97 ∷ 41 ∷ [], refl)

braces-lead : (h : Holder) (d : ℕ) → verdict (before false d (brace_end h)) (closings d ++ 125 ∷ (shown_end h).more) ≡ whole
braces-lead h zero = (shown_end h).leads 0
braces-lead h (suc d) = braces-lead h d

quotes-lead : (h : Holder) (d : ℕ) → verdict (before false d (quote_end h)) (closings d ++ 34 ∷ (shown_end h).more) ≡ whole
quotes-lead h zero = (shown_end h).leads 0
quotes-lead h (suc d) = quotes-lead h d

braces-complete : (h : Holder) (hides : Bool) (d : ℕ) → Completes (before hides d (brace_end h))
braces-complete h false d = (closings d ++ 125 ∷ (shown_end h).more, braces-lead h d)
braces-complete h true d = (97 ∷ closings d ++ 125 ∷ (shown_end h).more, braces-lead h d)

quotes-complete : (h : Holder) (hides : Bool) (d : ℕ) → Completes (before hides d (quote_end h))
quotes-complete h false d = (closings d ++ 34 ∷ (shown_end h).more, quotes-lead h d)
quotes-complete h true d = (97 ∷ closings d ++ 34 ∷ (shown_end h).more, quotes-lead h d)

-- ---- comments and kinds

remark-leads : (d : ℕ) (hides : Bool) → verdict (before hides d remark_end) (closings d ++ 125 ∷ []) ≡ whole
remark-leads zero hides = refl
remark-leads (suc d) hides = remark-leads d false

opened-completes : (name : List ℕ) → Completes (opened name curly)
opened-completes name = by_word (is_named name (codes "preamble")) (is_named name (codes "string"))
  where
    by_word : (a b : Bool) → Completes (cond a (starts (piece_first (of_preamble curly))) (cond b (starts (field_or_end curly)) (starts (key_first curly))))
    by_word true b = (97 ∷ 125 ∷ [], refl)
    by_word false true = (125 ∷ [], refl)
    by_word false false = (125 ∷ [], refl)

-- from a kind, where its name may go on and where it may not
record Named (name : List ℕ) : Type 0 where
  more : List ℕ
  leads : (d : ℕ) → verdict (before false d (kind_done name)) more ≡ whole
  goes_on : verdict (naming name) more ≡ whole

named : (name : List ℕ) → Named name
named name = by_comment (is_named name (codes "comment")) refl
  where
    by_comment : (b : Bool) → is_named name (codes "comment") ≡ b → Named name
    by_comment true is = record { more = []; leads = λ d. rw is refl; goes_on = rw is refl }
    by_comment false other =
        let body = opened-completes name in
        let here : continued (decides (kind_done name) 123) (123 ∷ body.0) (λ then. verdict then body.0) ≡ verdict (opened name curly) body.0 = rw other refl in
        record { more = 123 ∷ body.0; leads = λ d. here ∙ body.1; goes_on = here ∙ body.1 }

-- ---- all places

pub completes : (place : Place) → Completes place
completes (naming name) = ((named name).more, (named name).goes_on)
completes (before hides d item) = ([], refl)
completes (before hides d kind_first) = of_gap kind_first refl (record { more = 97 ∷ (named (97 ∷ [])).more; leads = λ e. (named (97 ∷ [])).goes_on }) hides d
completes (before hides d (kind_done name)) = of_gap (kind_done name) refl (record { more = (named name).more; leads = (named name).leads }) hides d
completes (before hides d remark_end) = (closings d ++ 125 ∷ [], remark-leads d hides)
completes (before hides d (key_first s)) = of_gap (key_first s) refl (shown_key s) hides d
completes (before hides d (key_done s)) = key-completes s hides d
completes (before hides d (comma_or_end s)) = of_gap (comma_or_end s) refl (shown_comma s) hides d
completes (before hides d (field_or_end s)) = of_gap (field_or_end s) refl (shown_field s) hides d
completes (before hides d (name_done s)) = name-completes s hides d
completes (before hides d (equals s)) = of_gap (equals s) refl (shown_equals s) hides d
completes (before hides d (piece_first h)) = of_gap (piece_first h) refl (shown_piece h) hides d
completes (before hides d (brace_end h)) = braces-complete h hides d
completes (before hides d (quote_end h)) = quotes-complete h hides d
completes (before hides d (bare_done h)) = bare-completes h hides d
completes (before hides d (piece_or_end h)) = of_gap (piece_or_end h) refl (shown_end h) hides d
