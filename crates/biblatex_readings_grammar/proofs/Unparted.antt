-- Cuts of words at small words are those that are made of a name.
use Rattle.std.proofs.Common.{◌≡◌, ℕ, zero, suc, ◌-◌, Bool, true, false, List, [], ◌∷◌, ◌++◌, length, take, drop, refl, sym, ap, ◌∙◌, subst, inl, inr, append_assoc, arith}
use Rattle.std.proofs.lemmas.List.{length-append, take_at, drop_at}
use Rattle.biblatex_lists.specs.Words.{joined_words, is_small, small_at, lead_count}
use Rattle.biblatex_lists.specs.Reading.{Named, by_last_word, by_small_words, by_count, without_commas, with_commas}
use Rattle.biblatex_readings_grammar.specs.Words.{Text, IsFilled}
use Rattle.biblatex_readings_grammar.specs.Names.{begins_small, NoneIsSmall, NoneIsSmallBeforeLast, BeginsSmall, EndsSmall, IsLed, AreSaid, IsUnparted}
use Rattle.biblatex_readings_grammar.proofs.Words.{said_are, are_said}

-- a name by the words of its parts
abbrev pub named : List Text → List Text → List Text → List Text → Named
named given prefix name suffix = record { name = joined_words name; given_name = joined_words given; prefix = joined_words prefix; suffix = joined_words suffix }

pub same_named : (n m : Named) → n.name ≡ m.name → n.given_name ≡ m.given_name → n.prefix ≡ m.prefix → n.suffix ≡ m.suffix → n ≡ m
same_named n m a b c d = λ i. record { name = a i; given_name = b i; prefix = c i; suffix = d i }

pub named_is : (given prefix name suffix : List Text) (n : Named) → AreSaid given prefix name suffix n → named given prefix name suffix ≡ n
named_is given prefix name suffix n (a, b, c, d) =
    same_named (named given prefix name suffix) n (said_are name n.name c) (said_are given n.given_name a) (said_are prefix n.prefix b) (said_are suffix n.suffix d)

pub named_said : (given prefix name suffix : List Text) → AreSaid given prefix name suffix (named given prefix name suffix)
named_said given prefix name suffix = (are_said given, are_said prefix, are_said name, are_said suffix)

-- which words are small
smalls : (w : Text) → is_small w ≡ begins_small w
smalls [] = refl
smalls (s ∷ ss) = refl

-- how many words are counted up to a small one
none_counts : (ws : List Text) → NoneIsSmallBeforeLast ws → lead_count ws ≡ 0
none_counts [] none = refl
none_counts (w ∷ []) none = refl
none_counts (w ∷ v ∷ ws) none =
    let here : is_small w ≡ false = smalls w ∙ none.0 in
    let more : lead_count (v ∷ ws) ≡ 0 = none_counts (v ∷ ws) none.1 in
    rw (here, more) refl

some_count : (ws name : List Text) → EndsSmall ws → IsFilled name → NoneIsSmallBeforeLast name → lead_count (ws ++ name) ≡ length ws
some_count [] name small some none = absurd small
some_count (w ∷ []) [] small some none = absurd some
some_count (w ∷ []) (n ∷ name) small some none =
    let here : is_small w ≡ true = smalls w ∙ small in
    let more : lead_count (n ∷ name) ≡ 0 = none_counts (n ∷ name) none in
    rw (here, more) refl
some_count (w ∷ v ∷ ws) name small some none =
    let more : lead_count ((v ∷ ws) ++ name) ≡ length (v ∷ ws) = some_count (v ∷ ws) name small some none in
    rw more (omega arith)

-- words cut by the count
record Parts (ws lead name : List Text) : Type 0 where
  pub first : take (lead_count ws) ws ≡ lead
  pub rest : drop (lead_count ws) ws ≡ name

counted_parts : (ws lead name : List Text) → ws ≡ lead ++ name → lead_count ws ≡ length lead → Parts ws lead name
counted_parts ws lead name e count = record {
  first = (λ i. take (count i) (e i)) ∙ take_at lead name (length lead) refl;
  rest = (λ i. drop (count i) (e i)) ∙ drop_at lead name (length lead) refl;
}

led_parts : (ws lead name : List Text) → IsLed ws lead name → Parts ws lead name
led_parts ws [] name (e, none) = counted_parts ws [] name e (ap lead_count e ∙ none_counts name none)
led_parts ws (v ∷ vs) name (e, small, some, none) = counted_parts ws (v ∷ vs) name e (ap lead_count e ∙ some_count (v ∷ vs) name small some none)

-- a name with commas is that of its parts
pub commas_are : (ws prefix name suffix given : List Text) → IsLed ws prefix name → with_commas ws suffix given ≡ named given prefix name suffix
commas_are ws prefix name suffix given led =
    let parts = led_parts ws prefix name led in
    λ i. named given (parts.first i) (parts.rest i) suffix

-- the words before the last one, and the last one
pub all_but_last : (ws : List Text) (w : Text) → take (length (ws ++ w ∷ []) - 1) (ws ++ w ∷ []) ≡ ws
all_but_last ws w =
    let count : length (ws ++ w ∷ []) - 1 ≡ length ws = omega (arith, length-append ws (w ∷ [])) in
    ap (λ (k : ℕ). take k (ws ++ w ∷ [])) count ∙ take_at ws (w ∷ []) (length ws) refl

last_alone : (ws : List Text) (w : Text) → drop (length (ws ++ w ∷ []) - 1) (ws ++ w ∷ []) ≡ w ∷ []
last_alone ws w =
    let count : length (ws ++ w ∷ []) - 1 ≡ length ws = omega (arith, length-append ws (w ∷ [])) in
    ap (λ (k : ℕ). drop k (ws ++ w ∷ [])) count ∙ drop_at ws (w ∷ []) (length ws) refl

last_named : (given : List Text) (w : Text) → by_last_word (given ++ w ∷ []) ≡ named given [] (w ∷ []) []
last_named given w = λ i. named (all_but_last given w i) [] (last_alone given w i) []

none_before : (given : List Text) (w : Text) → NoneIsSmall given → NoneIsSmallBeforeLast (given ++ w ∷ [])
none_before [] w none = tt
none_before (v ∷ []) w none = (none.0, tt)
none_before (v ∷ u ∷ given) w none = (none.0, none_before (u ∷ given) w none.1)

-- the first small word ends the given names
small_after : (given prefix : List Text) → NoneIsSmall given → BeginsSmall prefix → small_at (given ++ prefix) ≡ length given
small_after [] [] none begins = absurd begins
small_after [] (p ∷ prefix) none begins = let here : is_small p ≡ true = smalls p ∙ begins in rw here refl
small_after (v ∷ given) prefix none begins =
    let here : is_small v ≡ false = smalls v ∙ none.0 in
    let more : small_at (given ++ prefix) ≡ length given = small_after given prefix none.1 begins in
    rw (here, more) (omega arith)

small_named : (given prefix name : List Text) → NoneIsSmall given → BeginsSmall prefix → by_small_words (given ++ prefix) name ≡ named given prefix name []
small_named given prefix name none begins =
    let count : small_at (given ++ prefix) ≡ length given = small_after given prefix none begins in
    let first : take (small_at (given ++ prefix)) (given ++ prefix) ≡ given = ap (λ (k : ℕ). take k (given ++ prefix)) count ∙ take_at given prefix (length given) refl in
    let rest : drop (small_at (given ++ prefix)) (given ++ prefix) ≡ prefix = ap (λ (k : ℕ). drop k (given ++ prefix)) count ∙ drop_at given prefix (length given) refl in
    λ i. named (first i) (rest i) name []

ends_after : (given prefix : List Text) → EndsSmall prefix → EndsSmall (given ++ prefix)
ends_after [] prefix small = small
ends_after (v ∷ []) [] small = absurd small
ends_after (v ∷ []) (p ∷ prefix) small = small
ends_after (v ∷ u ∷ given) prefix small = ends_after (u ∷ given) prefix small

some_small : (ws : List Text) → EndsSmall ws → IsFilled ws
some_small [] small = absurd small
some_small (w ∷ ws) small = tt

some_counted : (n : ℕ) (ws : List Text) → IsFilled (take n ws) → by_count n ws ≡ by_small_words (take n ws) (drop n ws)
some_counted zero ws some = absurd some
some_counted (suc n) ws some = refl

-- a name without commas is that of its cut
pub unparted_is : (ws : List Text) (n : Named) → IsUnparted ws n → without_commas ws ≡ n
unparted_is ws n (inl (e, said)) = ap without_commas e ∙ named_is [] [] [] [] n said
unparted_is ws n (inr (inl (given, w, e, none, said))) =
    let count : lead_count ws ≡ 0 = ap lead_count e ∙ none_counts (given ++ w ∷ []) (none_before given w none) in
    ap (λ (k : ℕ). by_count k ws) count ∙ (ap by_last_word e ∙ (last_named given w ∙ named_is given [] (w ∷ []) [] n said))
unparted_is ws n (inr (inr (given, prefix, name, e, none, begins, small, some, before, said))) =
    let whole : ws ≡ (given ++ prefix) ++ name = e ∙ sym (append_assoc given prefix name) in
    let ends : EndsSmall (given ++ prefix) = ends_after given prefix small in
    let parts = counted_parts ws (given ++ prefix) name whole (ap lead_count whole ∙ some_count (given ++ prefix) name ends some before) in
    let filled : IsFilled (take (lead_count ws) ws) = subst (λ (x : List Text). IsFilled x) (sym parts.first) (some_small (given ++ prefix) ends) in
    some_counted (lead_count ws) ws filled
    ∙ ((λ i. by_small_words (parts.first i) (parts.rest i)) ∙ (small_named given prefix name none begins ∙ named_is given prefix name [] n said))

-- Words up to the last small one, the last word apart, and the others.
pub record Led (ws : List Text) : Type 0 where
  pub lead : List Text
  pub name : List Text
  pub is : IsLed ws lead name

one_more_word : (w v : Text) (ws lead name : List Text) → IsLed (v ∷ ws) lead name → (b : Bool) → begins_small w ≡ b → Led (w ∷ v ∷ ws)
one_more_word w v ws [] name (e, none) true small = record { lead = w ∷ []; name = v ∷ ws; is = (refl, small, tt, subst (λ (x : List Text). NoneIsSmallBeforeLast x) (sym e) none) }
one_more_word w v ws [] name (e, none) false small = record { lead = []; name = w ∷ v ∷ ws; is = (refl, (small, subst (λ (x : List Text). NoneIsSmallBeforeLast x) (sym e) none)) }
one_more_word w v ws (u ∷ lead) name (e, ends, some, none) b small = record { lead = w ∷ u ∷ lead; name = name; is = (ap (λ (x : List Text). w ∷ x) e, ends, some, none) }

pub led_of : (ws : List Text) → Led ws
led_of [] = record { lead = []; name = []; is = (refl, tt) }
led_of (w ∷ []) = record { lead = []; name = w ∷ []; is = (refl, tt) }
led_of (w ∷ v ∷ ws) =
    let more = led_of (v ∷ ws) in
    one_more_word w v ws more.lead more.name more.is (begins_small w) refl

-- Texts before the last one, and the last one.
pub record Ends (ws : List Text) : Type 0 where
  pub front : List Text
  pub last : Text
  pub is : ws ≡ front ++ last ∷ []

pub ends_of : (w : Text) (ws : List Text) → Ends (w ∷ ws)
ends_of w [] = record { front = []; last = w; is = refl }
ends_of w (v ∷ ws) =
    let more = ends_of v ws in
    record { front = w ∷ more.front; last = more.last; is = ap (λ (x : List Text). w ∷ x) more.is }

none_in_front : (front : List Text) (w : Text) → NoneIsSmallBeforeLast (front ++ w ∷ []) → NoneIsSmall front
none_in_front [] w none = tt
none_in_front (v ∷ []) w none = (none.0, tt)
none_in_front (v ∷ u ∷ front) w none = (none.0, none_in_front (u ∷ front) w none.1)

-- Words before the first small one, and the others, of which the last one is small.
record Small (ws : List Text) : Type 0 where
  pub front : List Text
  pub rest : List Text
  pub is : ws ≡ front ++ rest
  pub none : NoneIsSmall front
  pub begins : BeginsSmall rest
  pub ends : EndsSmall rest

one_more_small : (w v : Text) (ws : List Text) → EndsSmall (v ∷ ws) → Small (v ∷ ws) → (b : Bool) → begins_small w ≡ b → Small (w ∷ v ∷ ws)
one_more_small w v ws ends more true small = record { front = []; rest = w ∷ v ∷ ws; is = refl; none = tt; begins = small; ends = ends }
one_more_small w v ws ends more false small = record {
  front = w ∷ more.front;
  rest = more.rest;
  is = ap (λ (x : List Text). w ∷ x) more.is;
  none = (small, more.none);
  begins = more.begins;
  ends = more.ends;
}

small_of : (ws : List Text) → EndsSmall ws → Small ws
small_of [] small = absurd small
small_of (w ∷ []) small = record { front = []; rest = w ∷ []; is = refl; none = tt; begins = small; ends = small }
small_of (w ∷ v ∷ ws) small = one_more_small w v ws small (small_of (v ∷ ws) small) (begins_small w) refl

-- The name of words without commas.
pub record Unparted (ws : List Text) : Type 0 where
  pub name : Named
  pub is : IsUnparted ws name

pub unparted_of : (ws : List Text) → Unparted ws
unparted_of [] = record { name = named [] [] [] []; is = inl (refl, named_said [] [] [] []) }
unparted_of (w ∷ ws) =
    let led = led_of (w ∷ ws) in
    by_lead led.lead led.name led.is
  where
    by_lead : (lead name : List Text) → IsLed (w ∷ ws) lead name → Unparted (w ∷ ws)
    by_lead [] name (e, none) =
        let cut = ends_of w ws in
        let before : NoneIsSmallBeforeLast (cut.front ++ cut.last ∷ []) = subst (λ (x : List Text). NoneIsSmallBeforeLast x) (sym e ∙ cut.is) none in
        record {
          name = named cut.front [] (cut.last ∷ []) [];
          is = inr (inl (cut.front, cut.last, cut.is, none_in_front cut.front cut.last before, named_said cut.front [] (cut.last ∷ []) []));
        }
    by_lead (v ∷ vs) name (e, ends, some, none) =
        let cut = small_of (v ∷ vs) ends in
        let whole : w ∷ ws ≡ cut.front ++ (cut.rest ++ name) = e ∙ (ap (λ (x : List Text). x ++ name) cut.is ∙ append_assoc cut.front cut.rest name) in
        record {
          name = named cut.front cut.rest name [];
          is = inr (inr (cut.front, cut.rest, name, whole, cut.none, cut.begins, cut.ends, some, none, named_said cut.front cut.rest name []));
        }
