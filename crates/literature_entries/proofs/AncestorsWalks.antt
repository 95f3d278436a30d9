-- Levels of ancestors, and questions to entries one after the other.
use Rattle.std.proofs.Common.{◌≡◌, ℕ, suc, ◌+◌, ◌<◌, ◌≤◌, max, List, [], ◌∷◌, ◌++◌, length, drop, get_or, drop-cons, add-one, refl, sym, ap, subst, ◌∙◌, Option, Some, None, Result, Ok, Err, IfOk, Bor, arith, rules}
use Rattle.std.specs.List.{flat_map}
use Rattle.std.specs.Option.{option_or}
use Rattle.laws.specs.Borrowed.{borrowed}
use Rattle.literature_entries.specs.Ancestors.{height, levels, level_by_level, upwards, Ends, Asks, AsksFrom, first_of}
use Rattle.literature_entries.specs.Views.{parents, view_in}
use Rattle.literature_entries.specs.declared.entry.Entry.{Entry, the_lemmas}

-- an entry is one level above its parents
pub height_is : (e : Entry) → height e ≡ suc (levels (parents e))
height_is e = search (rules, the_lemmas)

levels_append : (xs ys : List Entry) → levels (xs ++ ys) ≡ max (levels xs) (levels ys)
levels_append [] ys = omega arith
levels_append (x ∷ xs) ys = let more = levels_append xs ys in omega (arith, more)

-- above entries there is one level less than from them up
levels_more : (e : Entry) (es : List Entry) → levels (e ∷ es) ≡ suc (levels (flat_map parents (e ∷ es)))
levels_more e [] = let own = height_is e in let rest = levels_append (parents e) [] in omega (arith, own, rest)
levels_more e (x ∷ xs) = let own = height_is e in let rest = levels_append (parents e) (flat_map parents (x ∷ xs)) in let others = levels_more x xs in omega (arith, own, rest, others)

-- entries, and then what is above them
pub upwards_more : (e : Entry) (es : List Entry) → upwards (e ∷ es) ≡ (e ∷ es) ++ upwards (flat_map parents (e ∷ es))
upwards_more e es = ap (λ n. level_by_level n (e ∷ es)) (levels_more e es)

module _ {F T : Type 0} (step : F → Bor Entry → Option T → F → Type 0) where
  abbrev IsNothing : Option T → Type 0
  IsNothing None = Unit {0}
  IsNothing (Some x) = ⊥

  unanswered : (o : Option T) (g : F) (xs ys : List Entry) (h last : F) (answer : Option T) → Ends o g (Asks step g xs) None h
      → (Asks step g xs None h → Asks step g (xs ++ ys) answer last) → Ends o g (Asks step g (xs ++ ys)) answer last
  unanswered None g xs ys h last answer e more = more e
  unanswered (Some x) g xs ys h last answer e more = absurd (subst IsNothing e.0 tt)

  -- where the first of the entries give no answer, the others are asked
  pub asks_more : (f : F) (xs ys : List Entry) (g last : F) (answer : Option T) → Asks step f xs None g → Asks step g ys answer last → Asks step f (xs ++ ys) answer last
  asks_more f [] ys g last answer a b = subst (λ h. Asks step h ys answer last) a.1 b
  asks_more f (x ∷ xs) ys g last answer a b =
      (a.0, a.1, a.2, a.3, a.4, unanswered a.1 a.2 xs ys g last answer a.5 (λ rest. asks_more a.2 xs ys g last answer rest b))

  answered : (o : Option T) (g : F) (xs ys : List Entry) (last : F) (y : T) → Ends o g (Asks step g xs) (Some y) last
      → (Asks step g xs (Some y) last → Asks step g (xs ++ ys) (Some y) last) → Ends o g (Asks step g (xs ++ ys)) (Some y) last
  answered None g xs ys last y e more = more e
  answered (Some x) g xs ys last y e more = e

  -- where they give one, the others are not asked
  pub asks_no_more : (f : F) (xs ys : List Entry) (last : F) (y : T) → Asks step f xs (Some y) last → Asks step f (xs ++ ys) (Some y) last
  asks_no_more f [] ys last y a = absurd (subst IsNothing (sym a.0) tt)
  asks_no_more f (x ∷ xs) ys last y a =
      (a.0, a.1, a.2, a.3, a.4, answered a.1 a.2 xs ys last y a.5 (λ rest. asks_no_more a.2 xs ys last y rest))

  -- an answer of the first is that of all
  pub asks_answered : (f g : F) (b : Bor Entry) (o : Option T) (es : List Entry) (y : T) → step f b o g → o ≡ Some y → Asks step f (b.now ∷ es) (Some y) g
  asks_answered f g b o es y s e = (b, o, g, refl, s, subst (λ p. Ends p g (Asks step g es) (Some y) g) (sym e) (refl, refl))

  -- without one the others are asked
  pub asks_on : (f g last : F) (b : Bor Entry) (o : Option T) (es : List Entry) (answer : Option T) → step f b o g → o ≡ None
      → Asks step g es answer last → Asks step f (b.now ∷ es) answer last
  asks_on f g last b o es answer s e rest = (b, o, g, refl, s, subst (λ p. Ends p g (Asks step g es) answer last) (sym e) rest)

-- an entry and those after it
borrowed_next : (bs : List (Bor Entry)) (i : ℕ) (b : Bor Entry) → i < length bs → b ≡ get_or bs i b → borrowed (drop i bs) ≡ b.now ∷ borrowed (drop (i + 1) bs)
borrowed_next bs i b below e =
    let cut : drop i bs ≡ get_or bs i b ∷ drop (i + 1) bs = rw add-one (drop-cons bs i b below) in
    ap (borrowed {T = Entry}) (cut ∙ (λ j. sym e j ∷ drop (i + 1) bs))

-- above entries there are fewer levels than from them up
pub levels_below : (bs : List (Bor Entry)) (new : List Entry) → (length bs ≡ 0 → ⊥) → new ≡ flat_map parents (borrowed bs) → suc (levels new) ≤ levels (borrowed bs)
levels_below [] new some e = absurd (some refl)
levels_below (b ∷ bs) new some e = let more = levels_more b.now (borrowed bs) in let same = ap levels e in omega (arith, more, same)

module _ {F T : Type 0} (step : F → Bor Entry → Option T → F → Type 0) where
  -- the next of the entries is asked, and then those after it
  pub asks_next : (f last : F) (bs : List (Bor Entry)) (i : ℕ) (b : Bor Entry) (answer : Option T) → i < length bs → b ≡ get_or bs i b
      → Asks step f (b.now ∷ borrowed (drop (i + 1) bs)) answer last → Asks step f (borrowed (drop i bs)) answer last
  asks_next f last bs i b answer below e a = subst (λ es. Asks step f es answer last) (sym (borrowed_next bs i b below e)) a

  -- the same of what a call returned
  pub asked_on : {E : Type 0} (f g : F) (b : Bor Entry) (o : Option T) (es : List Entry) (r : Result (Option T) E) → step f b o g → o ≡ None
      → IfOk r (AsksFrom step g es) → IfOk r (AsksFrom step f (b.now ∷ es))
  asked_on f g b o es (Ok answer) s e a = record { last = a.last; asked = asks_on step f g a.last b o es answer s e a.asked }
  asked_on f g b o es (Err x) s e a = tt

  -- where there are no entries, no question is asked
  pub asks_none : (f : F) (bs : List (Bor Entry)) → length bs ≡ 0 → Asks step f (upwards (borrowed bs)) None f
  asks_none f [] e = (refl, refl)
  asks_none f (b ∷ bs) e = absurd (not_suc e) where
    not_suc : suc (length bs) ≡ 0 → ⊥
    not_suc e = omega (arith, e)

  level_answered : (f last : F) (es : List Entry) (y : T) → Asks step f es (Some y) last → Asks step f (upwards es) (Some y) last
  level_answered f last [] y a = a
  level_answered f last (e ∷ es) y a = subst (λ l. Asks step f l (Some y) last) (sym (upwards_more e es)) (asks_no_more step f (e ∷ es) _ last y a)

  -- an answer on a level is that of all levels
  pub asks_level_answered : (f last : F) (bs cs : List (Bor Entry)) (o : Option T) (y : T) → bs ≡ cs → o ≡ Some y → Asks step f (borrowed bs) o last
      → Asks step f (upwards (borrowed cs)) (Some y) last
  asks_level_answered f last bs cs o y same e a = level_answered f last (borrowed cs) y (subst (λ p. Asks step f (borrowed cs) p last) e (subst (λ l. Asks step f (borrowed l) o last) same a))

  level_on : (f g last : F) (es new : List Entry) (answer : Option T) → Asks step f es None g → new ≡ flat_map parents es
      → Asks step g (upwards new) answer last → Asks step f (upwards es) answer last
  level_on f g last [] new answer a n b = asks_more step f [] [] g last answer a (subst (λ l. Asks step g (upwards l) answer last) n b)
  level_on f g last (e ∷ es) new answer a n b =
      subst (λ l. Asks step f l answer last) (sym (upwards_more e es))
      (asks_more step f (e ∷ es) _ g last answer a (subst (λ l. Asks step g (upwards l) answer last) n b))

  -- without an answer on a level the next one is asked
  pub asks_level_on : (f g last : F) (bs cs : List (Bor Entry)) (new : List Entry) (o answer : Option T) → bs ≡ cs → o ≡ None → Asks step f (borrowed bs) o g
      → new ≡ flat_map parents (borrowed cs) → Asks step g (upwards new) answer last → Asks step f (upwards (borrowed cs)) answer last
  asks_level_on f g last bs cs new o answer same e a n b =
      level_on f g last (borrowed cs) new answer (subst (λ p. Asks step f (borrowed cs) p g) e (subst (λ l. Asks step f (borrowed l) o g) same a)) n b

module _ {F X V : Type 0} (step : F → Bor Entry → Option (Bor X) → F → Type 0) (view : X → V) (look : Entry → Option V) where
  found_or : (o answer : Option (Bor X)) (g last : F) (es : List Entry) → Ends o g (Asks step g es) answer last
      → (Asks step g es answer last → view_in view answer ≡ first_of look es) → view_in view answer ≡ option_or (view_in view o) (first_of look es)
  found_or None answer g last es e more = more e
  found_or (Some x) answer g last es e more = ap (view_in view) e.0

  -- where each answer is a look at the entry, the first answer is what the look finds first
  pub first_found : ((f g : F) (b : Bor Entry) (o : Option (Bor X)) → step f b o g → view_in view o ≡ look b.now)
      → (f last : F) (es : List Entry) (answer : Option (Bor X)) → Asks step f es answer last → view_in view answer ≡ first_of look es
  first_found says f last [] answer a = ap (view_in view) a.0
  first_found says f last (e ∷ es) answer a =
      found_or a.1 answer a.2 last es a.5 (λ rest. first_found says a.2 last es answer rest)
      ∙ ap (λ o. option_or o (first_of look es)) (says f a.2 a.0 a.1 a.4 ∙ ap look a.3)

  -- the same of what a call returned
  pub found_ok : {E : Type 0} → (f : F) (es : List Entry) (r : Result (Option (Bor X)) E) → IfOk r (AsksFrom step f es)
      → ((f g : F) (b : Bor Entry) (o : Option (Bor X)) → step f b o g → view_in view o ≡ look b.now) → IfOk r (λ answer. view_in view answer ≡ first_of look es)
  found_ok f es (Ok answer) a says = first_found says f a.last es answer a.asked
  found_ok f es (Err x) a says = tt
