-- What is appended after a close quote, and where a space is.
use Rattle.std.proofs.Common.{◌≡◌, ◌&&◌, ◌||◌, ℕ, Bool, true, false, true≢false, not, List, [], ◌∷◌, refl, sym, ap, ◌∙◌, Option, Some, None}
use Rattle.std.specs.Prelude.{if◌then◌else◌, is_some, length}
use Rattle.std.specs.Option.{option_map}
use Rattle.laws.specs.Characters.{space}
use Rattle.rendering_taxonomy.specs.Formats.{plain}
use Rattle.rendering_taxonomy.specs.declared.formatting.Display.{Display}
use Rattle.rendering_tree.specs.Metas.{Meta}
use Rattle.rendering_taxonomy.specs.declared.page.PageRule.{PageRule}
use Rattle.rendering_tree.specs.Tokens.{Token, link, last_backwards, mark, unmark, with_letter_before, with_letters}
use Rattle.rendering_page.specs.Pages.{Page, Manner, uncased, Frame, Quotes, appended, before_mark, before_prefix, closed_off, end_token, ended, ended_as, ends_spaced, is_begun, is_joined, is_repeated, last_token, append_as_written, append_normal, append_quote, append_to_join, append_token, in_manner, prints, punctuated, quote_at_end, append_space, append_suffix, append_verbatim}
use Rattle.laws.specs.Text.{is_filled}
use Rattle.rendering_page.specs.Tail.{is_punctuation, remaining}

-- after punctuation no close quote is the last text
pub no_more_quote : (m : Manner) (c : ℕ) (cs : List ℕ) (o : Option (List ℕ)) (p : Page) → (punctuated m c cs o p).after_quote ≡ false
no_more_quote m c cs None p = refl
no_more_quote m c cs (Some q) p = refl

-- a page by its parts
abbrev pub page : List Token → Bool → PageRule → Page
page ts b r = record { tokens = ts; after_quote = b; rule = r }

page_of : (p q : Page) → p.tokens ≡ q.tokens → p.after_quote ≡ q.after_quote → p.rule ≡ q.rule → p ≡ q
page_of p q e f g i = record { tokens = e i; after_quote = f i; rule = g i }

same_rule : (m : Manner) (c : ℕ) (cs : List ℕ) (o : Option (List ℕ)) (p : Page) → (punctuated m c cs o p).rule ≡ p.rule
same_rule m c cs None p = refl
same_rule m c cs (Some q) p = refl

-- where a first character goes inside a quote, what follows it is appended
pub follows_inside : (m : Manner) (c : ℕ) (cs : List ℕ) (o : Option (List ℕ)) (count : ℕ) (ts us : List Token) (b : Bool) (r : PageRule) → Some count ≡ option_map length o
    → us ≡ with_letters m.formatting (in_manner m cs) (remaining cs (with_letter_before count c ts)) → us ≡ (punctuated m c cs o (page ts b r)).tokens
follows_inside m c cs None count ts us b r found is = absurd (true≢false (ap is_some found))
follows_inside m c cs (Some q) count ts us b r found is =
    is ∙ ap (λ n. with_letters m.formatting (in_manner m cs) (remaining cs (with_letter_before n c ts))) (long found)
  where
    long : Some count ≡ Some (length q) → count ≡ length q
    long e = cc

-- punctuation after a close quote is appended
pub append_punctuation : (quotes : Quotes) (m : Manner) (cs ds : List ℕ) (c : ℕ) (p : Page) (ts : List Token)
    → cs ≡ c ∷ ds → p.after_quote ≡ true → is_punctuation c ≡ true → ts ≡ (punctuated m c ds (quote_at_end quotes p.tokens) p).tokens
    → page ts false p.rule ≡ append_as_written quotes m cs p
append_punctuation quotes m cs ds c p ts is after stop e =
    let inside = punctuated m c ds (quote_at_end quotes p.tokens) p in
    let test : (p.after_quote && is_punctuation c) ≡ true = λ i. after i && stop i in
    page_of (page ts false p.rule) inside e (sym (no_more_quote m c ds (quote_at_end quotes p.tokens) p)) (sym (same_rule m c ds (quote_at_end quotes p.tokens) p))
    ∙ sym (ap (λ b. if b then inside else appended m (c ∷ ds) p) test)
    ∙ ap (λ xs. append_as_written quotes m xs p) (sym is)

-- a text to be joined
pub append_filled : (m : Manner) (cs : List ℕ) (p q : Page) → is_filled cs ≡ true
    → q ≡ record p { tokens = with_letters m.formatting (in_manner m cs) (unmark ∷ mark ∷ p.tokens) } → q ≡ append_to_join m cs p
append_filled m [] p q some e = absurd (true≢false (sym some))
append_filled m (c ∷ cs) p q some e = e

-- a close quote
pub append_closing : (quotes : Quotes) (m : Manner) (cs : List ℕ) (p q : Page) → is_filled cs ≡ true → is_joined p.rule ≡ true → q ≡ append_token (link m.formatting cs []) p → q ≡ append_quote quotes m cs p
append_closing quotes m [] p q some rule e = absurd (true≢false (sym some))
append_closing quotes m (c ∷ cs) p q some rule e =
    e ∙ sym (ap (λ b. if b then append_token (link m.formatting (c ∷ cs) []) p else record (append_as_written quotes m (c ∷ cs) p) { after_quote = true }) rule)

pub append_closing_written : (quotes : Quotes) (m : Manner) (cs : List ℕ) (p q : Page) → is_filled cs ≡ true → is_joined p.rule ≡ false
    → q ≡ record (append_as_written quotes m cs p) { after_quote = true } → q ≡ append_quote quotes m cs p
append_closing_written quotes m [] p q some rule e = absurd (true≢false (sym some))
append_closing_written quotes m (c ∷ cs) p q some rule e =
    e ∙ sym (ap (λ b. if b then append_token (link m.formatting (c ∷ cs) []) p else record (append_as_written quotes m (c ∷ cs) p) { after_quote = true }) rule)

-- a space is appended where something was and the last text ends in none
pub space_there : (p : Page) (cs : List ℕ) → cs ≡ space ∷ [] → is_begun p.tokens ≡ true → ends_spaced (last_backwards p.tokens) ≡ false → append_verbatim plain cs p ≡ append_space p
space_there p cs is begun none =
    let test : (not (is_begun p.tokens) || ends_spaced (last_backwards p.tokens)) ≡ false = λ i. not (begun i) || none i in
    ap (λ xs. append_verbatim plain xs p) is ∙ sym (ap (λ b. if b then p else append_verbatim plain (space ∷ []) p) test)

-- an element ends where the last text ends with its suffix
pub suffix_there : (quotes : Quotes) (m : Manner) (cs : List ℕ) (is_element : Bool) (p q : Page) → is_repeated cs p ≡ true → q ≡ record p { tokens = end_token is_element ∷ unmark ∷ p.tokens } → q ≡ ended_as quotes m cs is_element p
suffix_there quotes m cs is_element p q there is =
    let inside : Page = record p { tokens = unmark ∷ p.tokens } in
    is ∙ sym (ap (λ b. let r = if b then inside else append_normal quotes (uncased m) cs inside in record r { tokens = end_token is_element ∷ r.tokens }) there)

either_same : (b : Bool) (p q : Page) → p ≡ q → (if b then p else q) ≡ p
either_same true p q e = refl
either_same false p q e = sym e

-- an element without a suffix ends
pub ended_without : (quotes : Quotes) (m : Manner) (cs : List ℕ) (is_element : Bool) (p q : Page) (ts : List Token) → is_filled cs ≡ false → q ≡ record p { tokens = ts } → ts ≡ end_token is_element ∷ unmark ∷ p.tokens
    → q ≡ ended_as quotes m cs is_element p
ended_without quotes m [] is_element p q ts none is same =
    let inside : Page = record p { tokens = unmark ∷ p.tokens } in
    is
    ∙ ap (λ (us : List Token). record p { tokens = us }) same
    ∙ ap (λ (r : Page). record r { tokens = end_token is_element ∷ r.tokens })
    (sym (either_same (is_repeated [] p) inside (append_normal quotes (uncased m) [] inside) (sym (either_same (is_joined p.rule) inside inside refl))))
ended_without quotes m (c ∷ cs) is_element p q ts none is same = absurd (true≢false none)

-- or after the suffix
pub suffix_added : (quotes : Quotes) (m : Manner) (cs : List ℕ) (is_element : Bool) (p q r s : Page) → is_repeated cs p ≡ false → q ≡ record p { tokens = unmark ∷ p.tokens } → r ≡ append_normal quotes (uncased m) cs q
    → s ≡ record r { tokens = end_token is_element ∷ r.tokens } → s ≡ ended_as quotes m cs is_element p
suffix_added quotes m cs is_element p q r s none first second third =
    let inside : Page = record p { tokens = unmark ∷ p.tokens } in
    let with_piece : r ≡ append_normal quotes (uncased m) cs inside = second ∙ ap (append_normal quotes (uncased m) cs) first in
    third
    ∙ ap (λ (t : Page). record t { tokens = end_token is_element ∷ t.tokens }) with_piece
    ∙ sym (ap (λ b. let t = if b then inside else append_normal quotes (uncased m) cs inside in record t { tokens = end_token is_element ∷ t.tokens }) none)

-- an element that is part of the tree, or is only marked, ends
pub ended_by : (quotes : Quotes) (f : Frame) (is_element : Bool) (p q : Page) → end_token is_element ≡ last_token f.display f.meta → prints 0 p.tokens ≡ true → q ≡ ended_as quotes f.manner f.suffix is_element p → q ≡ ended quotes f p
ended_by quotes f is_element p q last printed is =
    let inside = append_suffix quotes f.manner f.suffix (record p { tokens = unmark ∷ p.tokens }) in
    is
    ∙ ap (λ t. record inside { tokens = t ∷ inside.tokens }) last
    ∙ sym (ap (λ b. if b then closed_off f inside else record p { tokens = before_prefix (before_mark 0 p.tokens) }) printed)

-- where an element has printed nothing it is removed
pub undone : (quotes : Quotes) (f : Frame) (p q : Page) → prints 0 p.tokens ≡ false → q ≡ record p { tokens = before_prefix (before_mark 0 p.tokens) } → q ≡ ended quotes f p
undone quotes f p q none is =
    let inside = append_suffix quotes f.manner f.suffix (record p { tokens = unmark ∷ p.tokens }) in
    is ∙ sym (ap (λ b. if b then closed_off f inside else record p { tokens = before_prefix (before_mark 0 p.tokens) }) none)

-- what stands for something is part of the tree
pub last_of_some : (d : Option Display) (m : Meta) → end_token true ≡ last_token d (Some m)
last_of_some None m = refl
last_of_some (Some d) m = refl
