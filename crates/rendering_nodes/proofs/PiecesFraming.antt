-- Pieces end what they begin: after them the elements and marks of a page that are open are those before.
use Rattle.std.proofs.Common.{◌≡◌, ℕ, zero, suc, Bool, true, false, ◌&&◌, List, [], ◌∷◌, ◌++◌, length, map, refl, sym, ap, ◌∙◌, Option, Some, None}
use Rattle.std.specs.Prelude.{if◌then◌else◌}
use Rattle.std.specs.List.{flat_map}
use Rattle.std.specs.Str.{drop_trailing_whitespace}
use Rattle.std.specs.Char.Unicode.Alphabetic.{is_alphabetic}
use Rattle.std.specs.List.{list_any}
use Rattle.std.proofs.lemmas.List.Sums.{fold-append}
use Rattle.literature_values.specs.TextViews.{Chunk}
use Rattle.literature_values.specs.declared.text.ChunkKind.{ChunkKind}
use Rattle.literature_values.specs.declared.text.ChunkKind.TheVariants as kinds
use Rattle.rendering_taxonomy.specs.declared.formatting.Display.{Display}
use Rattle.rendering_taxonomy.specs.declared.formatting.Formatting.{Formatting}
use Rattle.rendering_tree.specs.Laws.{says_something, Bracket, of_mark, of_element, closes_mark, closes_element, are_nested}
use Rattle.rendering_tree.specs.Metas.{Meta}
use Rattle.rendering_tree.specs.Tokens.{Token, letter, formula, link, transparent, opening, closing, mark, unmark, with_letters, without_letters, with_letter_before, last_text}
use Rattle.rendering_page.specs.Pages.{Page, Manner, uncased, Quotes, Frame, in_manner, appended, punctuated, quote_at_end, is_joined, is_repeated, append_as_written, append_to_join, append_normal, append_further, append_token, append_verbatim, append_quote, append_suffix, first_token, last_token, before_mark, before_prefix, prints, begun, closed_off, ended}
use Rattle.rendering_page.specs.Pieces.{Piece, normal, further, close_quote, linked, own_locator, end, append_piece, append_pieces, framed, chunk_by, chunk_piece, chunk_pieces, each_piece, further_by, further_piece}
use Rattle.rendering_cases.specs.Cases.{cased_chunks}
use Rattle.rendering_page.specs.Tail.{is_punctuation, begins_close, trailing, closed_up, ends_in, without_end, unrepeated, remaining}

-- where elements and marks begin and end on a page
abbrev pub frames_of : List Token → List Token
frames_of [] = []
frames_of (opening d m ∷ ts) = opening d m ∷ frames_of ts
frames_of (closing ∷ ts) = closing ∷ frames_of ts
frames_of (mark ∷ ts) = mark ∷ frames_of ts
frames_of (unmark ∷ ts) = unmark ∷ frames_of ts
frames_of (t ∷ ts) = frames_of ts

frames_more : (t : Token) (ts us : List Token) → frames_of ts ≡ frames_of us → frames_of (t ∷ ts) ≡ frames_of (t ∷ us)
frames_more (letter f c) ts us e = e
frames_more (formula cs) ts us e = e
frames_more (link f cs url) ts us e = e
frames_more (transparent f n) ts us e = e
frames_more (opening d m) ts us e = ap (λ (vs : List Token). opening d m ∷ vs) e
frames_more closing ts us e = ap (λ (vs : List Token). closing ∷ vs) e
frames_more mark ts us e = ap (λ (vs : List Token). mark ∷ vs) e
frames_more unmark ts us e = ap (λ (vs : List Token). unmark ∷ vs) e

-- they alone say whether a page is properly nested
pub nested_frames : (ts : List Token) (bs : List Bracket) → are_nested (frames_of ts) bs ≡ are_nested ts bs
nested_frames [] bs = refl
nested_frames (letter f c ∷ ts) bs = nested_frames ts bs
nested_frames (formula cs ∷ ts) bs = nested_frames ts bs
nested_frames (link f cs url ∷ ts) bs = nested_frames ts bs
nested_frames (transparent f n ∷ ts) bs = nested_frames ts bs
nested_frames (opening d m ∷ ts) bs = λ i. says_something d m && closes_element bs (λ cs. nested_frames ts cs i)
nested_frames (closing ∷ ts) bs = nested_frames ts (of_element ∷ bs)
nested_frames (mark ∷ ts) bs = λ i. closes_mark bs (λ cs. nested_frames ts cs i)
nested_frames (unmark ∷ ts) bs = nested_frames ts (of_mark ∷ bs)

-- and how far a page is cut back
frames_before_mark : (n : ℕ) (ts : List Token) → frames_of (before_mark n ts) ≡ before_mark n (frames_of ts)
frames_before_mark n [] = refl
frames_before_mark n (unmark ∷ ts) = frames_before_mark (suc n) ts
frames_before_mark zero (mark ∷ ts) = refl
frames_before_mark (suc n) (mark ∷ ts) = frames_before_mark n ts
frames_before_mark zero (letter f c ∷ ts) = frames_before_mark zero ts
frames_before_mark (suc n) (letter f c ∷ ts) = frames_before_mark (suc n) ts
frames_before_mark zero (formula cs ∷ ts) = frames_before_mark zero ts
frames_before_mark (suc n) (formula cs ∷ ts) = frames_before_mark (suc n) ts
frames_before_mark zero (link f cs url ∷ ts) = frames_before_mark zero ts
frames_before_mark (suc n) (link f cs url ∷ ts) = frames_before_mark (suc n) ts
frames_before_mark zero (transparent f k ∷ ts) = frames_before_mark zero ts
frames_before_mark (suc n) (transparent f k ∷ ts) = frames_before_mark (suc n) ts
frames_before_mark zero (opening d m ∷ ts) = frames_before_mark zero ts
frames_before_mark (suc n) (opening d m ∷ ts) = frames_before_mark (suc n) ts
frames_before_mark zero (closing ∷ ts) = frames_before_mark zero ts
frames_before_mark (suc n) (closing ∷ ts) = frames_before_mark (suc n) ts

frames_before_prefix : (ts : List Token) → frames_of (before_prefix ts) ≡ before_prefix (frames_of ts)
frames_before_prefix [] = refl
frames_before_prefix (opening d m ∷ ts) = refl
frames_before_prefix (mark ∷ ts) = refl
frames_before_prefix (letter f c ∷ ts) = frames_before_prefix ts
frames_before_prefix (formula cs ∷ ts) = frames_before_prefix ts
frames_before_prefix (link f cs url ∷ ts) = frames_before_prefix ts
frames_before_prefix (transparent f n ∷ ts) = frames_before_prefix ts
frames_before_prefix (closing ∷ ts) = frames_before_prefix ts
frames_before_prefix (unmark ∷ ts) = frames_before_prefix ts

-- texts begin and end nothing
frames_letters : (f : Formatting) (cs : List ℕ) (ts : List Token) → frames_of (with_letters f cs ts) ≡ frames_of ts
frames_letters f [] ts = refl
frames_letters f (c ∷ cs) ts = frames_letters f cs (letter f c ∷ ts)

frames_without : (n : ℕ) (ts : List Token) → frames_of (without_letters n ts) ≡ frames_of ts
frames_without zero ts = refl
frames_without (suc n) [] = refl
frames_without (suc n) (letter f c ∷ ts) = frames_without n ts
frames_without (suc n) (t ∷ ts) = frames_more t (without_letters (suc n) ts) ts (frames_without (suc n) ts)

frames_inside : (n c : ℕ) (ts : List Token) → frames_of (with_letter_before n c ts) ≡ frames_of ts
frames_inside n c [] = refl
frames_inside zero c (t ∷ ts) = refl
frames_inside (suc zero) c (letter f d ∷ ts) = refl
frames_inside (suc zero) c (t ∷ ts) = frames_more t (with_letter_before 1 c ts) ts (frames_inside 1 c ts)
frames_inside (suc (suc n)) c (letter f d ∷ ts) = frames_inside (suc n) c ts
frames_inside (suc (suc n)) c (t ∷ ts) = frames_more t (with_letter_before (suc (suc n)) c ts) ts (frames_inside (suc (suc n)) c ts)

frames_either : (b : Bool) (us vs : List Token) (ts : List Token) → frames_of us ≡ ts → frames_of vs ≡ ts → frames_of (if b then us else vs) ≡ ts
frames_either true us vs ts e f = e
frames_either false us vs ts e f = f

frames_closed_up : (next : List ℕ) (ts : List Token) → frames_of (closed_up next ts) ≡ frames_of ts
frames_closed_up next ts = frames_either (begins_close next) (without_letters (trailing (last_text ts)) ts) ts (frames_of ts) (frames_without (trailing (last_text ts)) ts) refl

frames_without_end : (last : List ℕ) (ts : List Token) → frames_of (without_end last ts) ≡ frames_of ts
frames_without_end last ts = frames_either (ends_in last (last_text ts)) (without_letters (length last) ts) ts (frames_of ts) (frames_without (length last) ts) refl

frames_unrepeated : (next : List ℕ) (ts : List Token) → frames_of (unrepeated next ts) ≡ frames_of ts
frames_unrepeated next ts =
    frames_either (list_any is_alphabetic next) ts (without_end (drop_trailing_whitespace next) ts) (frames_of ts) refl (frames_without_end (drop_trailing_whitespace next) ts)

frames_remaining : (next : List ℕ) (ts : List Token) → frames_of (remaining next ts) ≡ frames_of ts
frames_remaining next ts = frames_unrepeated next (closed_up next ts) ∙ frames_closed_up next ts

-- a page after which the frames are those
page_either : (b : Bool) (p q : Page) (ts : List Token) → frames_of p.tokens ≡ ts → frames_of q.tokens ≡ ts → frames_of (if b then p else q).tokens ≡ ts
page_either true p q ts e f = e
page_either false p q ts e f = f

frames_appended : (m : Manner) (cs : List ℕ) (p : Page) → frames_of (appended m cs p).tokens ≡ frames_of p.tokens
frames_appended m cs p = frames_letters m.formatting (in_manner m cs) (remaining cs p.tokens) ∙ frames_remaining cs p.tokens

frames_punctuated : (m : Manner) (c : ℕ) (cs : List ℕ) (o : Option (List ℕ)) (p : Page) → frames_of (punctuated m c cs o p).tokens ≡ frames_of p.tokens
frames_punctuated m c cs None p = frames_appended m (c ∷ cs) p
frames_punctuated m c cs (Some q) p =
    frames_appended m cs (record p { tokens = with_letter_before (length q) c p.tokens }) ∙ frames_inside (length q) c p.tokens

frames_as_written : (quotes : Quotes) (m : Manner) (cs : List ℕ) (p : Page) → frames_of (append_as_written quotes m cs p).tokens ≡ frames_of p.tokens
frames_as_written quotes m [] p = refl
frames_as_written quotes m (c ∷ cs) p =
    page_either (p.after_quote && is_punctuation c) (punctuated m c cs (quote_at_end quotes p.tokens) p) (appended m (c ∷ cs) p) (frames_of p.tokens)
    (frames_punctuated m c cs (quote_at_end quotes p.tokens) p) (frames_appended m (c ∷ cs) p)

frames_verbatim : (f : Formatting) (cs : List ℕ) (p : Page) → frames_of (append_verbatim f cs p).tokens ≡ frames_of p.tokens
frames_verbatim f [] p = refl
frames_verbatim f (c ∷ cs) p = frames_letters f (c ∷ cs) p.tokens

frames_quote : (quotes : Quotes) (m : Manner) (cs : List ℕ) (p : Page) → frames_of (append_quote quotes m cs p).tokens ≡ frames_of p.tokens
frames_quote quotes m [] p = refl
frames_quote quotes m (c ∷ cs) p =
    page_either (is_joined p.rule) (append_token (link m.formatting (c ∷ cs) []) p) (record (append_as_written quotes m (c ∷ cs) p) { after_quote = true }) (frames_of p.tokens) refl
    (frames_as_written quotes m (c ∷ cs) p)

-- frames after which the same are open as after others, in whatever stands around, and which are cut back as far
pub record LevelFrames (ts us : List Token) : Type 0 where
  pub nested : (bs : List Bracket) → are_nested us bs ≡ are_nested ts bs
  pub marks : (n : ℕ) → before_mark n us ≡ before_mark n ts

-- what is open on a page is what was on another one
abbrev pub AreLevel : List Token → List Token → Type 0
AreLevel ts us = LevelFrames (frames_of ts) (frames_of us)

level_of : (ts us : List Token) → us ≡ ts → LevelFrames ts us
level_of ts us e = record { nested = λ bs. ap (λ vs. are_nested vs bs) e; marks = λ n. ap (before_mark n) e }

-- the same frames
pub level : (ts us : List Token) → frames_of us ≡ frames_of ts → AreLevel ts us
level ts us e = level_of (frames_of ts) (frames_of us) e

pub level_as : (ts : List Token) → AreLevel ts ts
level_as ts = level ts ts refl

-- one after the other
pub level_on : (ts us vs : List Token) → AreLevel ts us → AreLevel us vs → AreLevel ts vs
level_on ts us vs a b = record { nested = λ bs. b.nested bs ∙ a.nested bs; marks = λ n. b.marks n ∙ a.marks n }

level_either : (b : Bool) (ts : List Token) (p q : Page) → AreLevel ts p.tokens → AreLevel ts q.tokens → AreLevel ts (if b then p else q).tokens
level_either true ts p q a b = a
level_either false ts p q a b = b

-- a mark and its end
level_pair : (ts : List Token) → AreLevel ts (unmark ∷ mark ∷ ts)
level_pair ts = record { nested = λ bs. refl; marks = λ n. refl }

level_to_join : (m : Manner) (cs : List ℕ) (p : Page) → AreLevel p.tokens (append_to_join m cs p).tokens
level_to_join m [] p = level_as p.tokens
level_to_join m (c ∷ cs) p =
    let us : List Token = unmark ∷ mark ∷ p.tokens in
    level_on p.tokens us (append_to_join m (c ∷ cs) p).tokens (level_pair p.tokens) (level us (append_to_join m (c ∷ cs) p).tokens (frames_letters m.formatting (in_manner m (c ∷ cs)) us))

level_normal : (quotes : Quotes) (m : Manner) (cs : List ℕ) (p : Page) → AreLevel p.tokens (append_normal quotes m cs p).tokens
level_normal quotes m cs p =
    level_either (is_joined p.rule) p.tokens (append_to_join m cs p) (append_as_written quotes m cs p) (level_to_join m cs p)
    (level p.tokens (append_as_written quotes m cs p).tokens (frames_as_written quotes m cs p))

level_further : (quotes : Quotes) (m : Manner) (cs : List ℕ) (p : Page) → AreLevel p.tokens (append_further quotes m cs p).tokens
level_further quotes m cs p =
    let on : Page = record p { tokens = with_letters m.formatting (in_manner m cs) p.tokens } in
    level_either (is_joined p.rule) p.tokens on (append_as_written quotes m cs p) (level p.tokens on.tokens (frames_letters m.formatting (in_manner m cs) p.tokens))
    (level p.tokens (append_as_written quotes m cs p).tokens (frames_as_written quotes m cs p))

level_suffix : (quotes : Quotes) (m : Manner) (cs : List ℕ) (p : Page) → AreLevel p.tokens (append_suffix quotes m cs p).tokens
level_suffix quotes m cs p = level_either (is_repeated cs p) p.tokens p (append_normal quotes (uncased m) cs p) (level_as p.tokens) (level_normal quotes (uncased m) cs p)

past_closing : (n : ℕ) (ts : List Token) → before_mark n (closing ∷ ts) ≡ before_mark n ts
past_closing zero ts = refl
past_closing (suc n) ts = refl

-- the end of an element after one or the other
last_more : (d : Option Display) (m : Option Meta) (ts us : List Token) → LevelFrames ts us → LevelFrames (last_token d m ∷ ts) (last_token d m ∷ us)
last_more None None ts us h = record { nested = λ bs. h.nested (of_mark ∷ bs); marks = λ n. h.marks (suc n) }
last_more None (Some m) ts us h = record { nested = λ bs. h.nested (of_element ∷ bs); marks = λ n. past_closing n us ∙ h.marks n ∙ sym (past_closing n ts) }
last_more (Some d) None ts us h = record { nested = λ bs. h.nested (of_element ∷ bs); marks = λ n. past_closing n us ∙ h.marks n ∙ sym (past_closing n ts) }
last_more (Some d) (Some m) ts us h = record { nested = λ bs. h.nested (of_element ∷ bs); marks = λ n. past_closing n us ∙ h.marks n ∙ sym (past_closing n ts) }

-- an element begins
first_frames : (d : Option Display) (m : Option Meta) (ts : List Token) → frames_of (first_token d m ∷ ts) ≡ first_token d m ∷ frames_of ts
first_frames None None ts = refl
first_frames None (Some m) ts = refl
first_frames (Some d) None ts = refl
first_frames (Some d) (Some m) ts = refl

last_frames : (d : Option Display) (m : Option Meta) (ts : List Token) → frames_of (last_token d m ∷ ts) ≡ last_token d m ∷ frames_of ts
last_frames None None ts = refl
last_frames None (Some m) ts = refl
last_frames (Some d) None ts = refl
last_frames (Some d) (Some m) ts = refl

abbrev frames_begun : Frame → List Token → List Token
frames_begun f ts = mark ∷ first_token f.display f.meta ∷ ts

begun_frames : (f : Frame) (p : Page) → frames_of (begun f p).tokens ≡ frames_begun f (frames_of p.tokens)
begun_frames f p =
    ap (λ (ts : List Token). mark ∷ ts) (frames_letters f.manner.formatting f.prefix (first_token f.display f.meta ∷ p.tokens) ∙ first_frames f.display f.meta p.tokens)

-- an element that is whole
past_opening : (n : ℕ) (d : Option Display) (m : Option Meta) (ts : List Token) → before_mark n (opening d m ∷ ts) ≡ before_mark n ts
past_opening zero d m ts = refl
past_opening (suc n) d m ts = refl

whole : (d : Option Display) (m : Option Meta) (ts us : List Token) → LevelFrames (mark ∷ first_token d m ∷ ts) us → LevelFrames ts (last_token d m ∷ unmark ∷ us)
whole None None ts us h = record { nested = λ bs. h.nested (of_mark ∷ of_mark ∷ bs); marks = λ n. h.marks (suc (suc n)) }
whole None (Some m) ts us h = record {
  nested = λ bs. h.nested (of_mark ∷ of_element ∷ bs);
  marks = λ n. past_closing n (unmark ∷ us) ∙ h.marks (suc n) ∙ past_opening n None (Some m) ts;
}
whole (Some d) None ts us h = record {
  nested = λ bs. h.nested (of_mark ∷ of_element ∷ bs);
  marks = λ n. past_closing n (unmark ∷ us) ∙ h.marks (suc n) ∙ past_opening n (Some d) None ts;
}
whole (Some d) (Some m) ts us h = record {
  nested = λ bs. h.nested (of_mark ∷ of_element ∷ bs);
  marks = λ n. past_closing n (unmark ∷ us) ∙ h.marks (suc n) ∙ past_opening n (Some d) (Some m) ts;
}

-- and one that is cut back
first_gone : (d : Option Display) (m : Option Meta) (ts : List Token) → before_prefix (first_token d m ∷ ts) ≡ ts
first_gone None None ts = refl
first_gone None (Some m) ts = refl
first_gone (Some d) None ts = refl
first_gone (Some d) (Some m) ts = refl

ended_by : (b : Bool) (quotes : Quotes) (f : Frame) (ts : List Token) (q : Page) → LevelFrames (frames_begun f (frames_of ts)) (frames_of q.tokens)
    → AreLevel ts (if b then closed_off f (append_suffix quotes f.manner f.suffix (record q { tokens = unmark ∷ q.tokens }))
    else record q { tokens = before_prefix (before_mark 0 q.tokens) }).tokens
ended_by true quotes f ts q h =
    let inside : Page = record q { tokens = unmark ∷ q.tokens } in
    let suffixed = append_suffix quotes f.manner f.suffix inside in
    let e : frames_of (last_token f.display f.meta ∷ suffixed.tokens) ≡ last_token f.display f.meta ∷ frames_of suffixed.tokens = last_frames f.display f.meta suffixed.tokens in
    let more = last_more f.display f.meta (unmark ∷ frames_of q.tokens) (frames_of suffixed.tokens) (level_suffix quotes f.manner f.suffix inside) in
    let w = whole f.display f.meta (frames_of ts) (frames_of q.tokens) h in
    record { nested = λ bs. ap (λ us. are_nested us bs) e ∙ more.nested bs ∙ w.nested bs; marks = λ n. ap (before_mark n) e ∙ more.marks n ∙ w.marks n }
ended_by false quotes f ts q h =
    level ts (before_prefix (before_mark 0 q.tokens))
    (frames_before_prefix (before_mark 0 q.tokens)
    ∙ ap before_prefix (frames_before_mark 0 q.tokens ∙ h.marks 0)
    ∙ first_gone f.display f.meta (frames_of ts))

-- after an element that was appended whole or cut back the same is open as before it
pub level_ended : (quotes : Quotes) (f : Frame) (p q : Page) → AreLevel (begun f p).tokens q.tokens → AreLevel p.tokens (ended quotes f q).tokens
level_ended quotes f p q h =
    let e = begun_frames f p in
    ended_by (prints 0 q.tokens) quotes f p.tokens q
    (record { nested = λ bs. h.nested bs ∙ ap (λ us. are_nested us bs) e; marks = λ n. h.marks n ∙ ap (before_mark n) e })

-- a page by its tokens
pub level_to : (ts : List Token) (p q : Page) → q ≡ p → AreLevel ts p.tokens → AreLevel ts q.tokens
level_to ts p q e h =
    record { nested = λ bs. ap (λ (r : Page). are_nested (frames_of r.tokens) bs) e ∙ h.nested bs; marks = λ n. ap (λ (r : Page). before_mark n (frames_of r.tokens)) e ∙ h.marks n }

-- pieces that end what they begin
pub record EndAll (ps : List Piece) : Type 0 where
  pub on_page : (quotes : Quotes) (p : Page) → AreLevel p.tokens (append_pieces quotes ps p).tokens

pub ends_none : EndAll []
ends_none = record { on_page = λ quotes p. level_as p.tokens }

pub ends_more : (x : Piece) (ps : List Piece) → EndAll (x ∷ []) → EndAll ps → EndAll (x ∷ ps)
ends_more x ps a b = record {
  on_page = λ quotes p. level_on p.tokens (append_piece quotes p x).tokens (append_pieces quotes ps (append_piece quotes p x)).tokens (a.on_page quotes p) (b.on_page quotes (append_piece quotes p x));
}

pub ends_both : (ps qs : List Piece) → EndAll ps → EndAll qs → EndAll (ps ++ qs)
ends_both ps qs a b = record {
  on_page = λ quotes p.
      let middle = append_pieces quotes ps p in
      level_to p.tokens (append_pieces quotes qs middle) (append_pieces quotes (ps ++ qs) p) (fold-append (append_piece quotes) p ps qs)
      (level_on p.tokens middle.tokens (append_pieces quotes qs middle).tokens (a.on_page quotes p) (b.on_page quotes middle));
}

pub ends_either : (b : Bool) (ps qs : List Piece) → EndAll ps → EndAll qs → EndAll (if b then ps else qs)
ends_either true ps qs e f = e
ends_either false ps qs e f = f

pub ends_normal : (m : Manner) (cs : List ℕ) → EndAll (normal m cs ∷ [])
ends_normal m cs = record { on_page = λ quotes p. level_normal quotes m cs p }

pub ends_further : (m : Manner) (cs : List ℕ) → EndAll (further m cs ∷ [])
ends_further m cs = record { on_page = λ quotes p. level_further quotes m cs p }

pub ends_quote : (m : Manner) (cs : List ℕ) → EndAll (close_quote m cs ∷ [])
ends_quote m cs = record { on_page = λ quotes p. level p.tokens (append_quote quotes m cs p).tokens (frames_quote quotes m cs p) }

pub ends_link : (f : Formatting) (cs url : List ℕ) → EndAll (linked f cs url ∷ [])
ends_link f cs url = record { on_page = λ quotes p. level_as p.tokens }

pub ends_locator : (f : Formatting) (n : ℕ) → EndAll (own_locator f n ∷ [])
ends_locator f n = record { on_page = λ quotes p. level_as p.tokens }

pub ends_chunk : (kind : ChunkKind) (m : Manner) (cs : List ℕ) → EndAll (chunk_by kind m cs ∷ [])
ends_chunk kinds.Normal m cs = ends_normal m cs
ends_chunk kinds.Verbatim m cs = record { on_page = λ quotes p. level p.tokens (append_verbatim m.formatting cs p).tokens (frames_verbatim m.formatting cs p) }
ends_chunk kinds.Math m cs = record { on_page = λ quotes p. level_as p.tokens }

ends_further_by : (kind : ChunkKind) (m : Manner) (cs : List ℕ) → EndAll (further_by kind m cs ∷ [])
ends_further_by kinds.Normal m cs = ends_further m cs
ends_further_by kinds.Verbatim m cs = ends_chunk kinds.Verbatim m cs
ends_further_by kinds.Math m cs = ends_chunk kinds.Math m cs

ends_furthers : (m : Manner) (cs : List Chunk) → EndAll (map (further_piece m) cs)
ends_furthers m [] = ends_none
ends_furthers m (c ∷ cs) = ends_more (further_piece m c) (map (further_piece m) cs) (ends_further_by c.kind m c.value) (ends_furthers m cs)

ends_pieces : (m : Manner) (cs : List Chunk) → EndAll (each_piece m cs)
ends_pieces m [] = ends_none
ends_pieces m (c ∷ cs) = ends_more (chunk_piece m c) (map (further_piece m) cs) (ends_chunk c.kind m c.value) (ends_furthers m cs)

pub ends_chunks : (m : Manner) (cs : List Chunk) → EndAll (chunk_pieces m cs)
ends_chunks m cs = ends_pieces (uncased m) (cased_chunks m.text_case m.is_english cs)

pub ends_framed : (f : Frame) (ps : List Piece) → EndAll ps → EndAll (framed f ps)
ends_framed f ps h = record {
  on_page = λ quotes p.
      let inside = append_pieces quotes ps (begun f p) in
      level_to p.tokens (ended quotes f inside) (append_pieces quotes (framed f ps) p) (fold-append (append_piece quotes) (begun f p) ps (end f ∷ []))
      (level_ended quotes f p inside (h.on_page quotes (begun f p)));
}

pub ends_each : {X : Type 0} (f : X → List Piece) → ((x : X) → EndAll (f x)) → (xs : List X) → EndAll (flat_map f xs)
ends_each f h [] = ends_none
ends_each f h (x ∷ xs) = ends_both (f x) (flat_map f xs) (h x) (ends_each f h xs)
