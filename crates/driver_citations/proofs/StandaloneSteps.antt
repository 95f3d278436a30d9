-- Items of citations outside of any document, one after the other.
use Rattle.std.proofs.Common.{◌≡◌, ℕ, ◌+◌, ◌<◌, ◌≤◌, Bool, true, false, true≢false, not, List, [], ◌∷◌, ◌++◌, append_assoc, append-nil, filter, length, map, drop, get_or, refl, sym, ap, ◌∙◌, Option, Result, Ok, Err, IfOk}
use Rattle.std.specs.Prelude.{if◌then◌else◌}
use Rattle.std.proofs.lemmas.List.{drop_all, drop_more}
use Rattle.rendering_context.specs.Views as contexts
use Rattle.rendering_page.specs.Pages.{Quotes}
use Rattle.rendering_style.specs.Styles.{Layout}
use Rattle.rendering_context.specs.declared.locator.LocatorPayload.{LocatorPayload}
use Rattle.rendering_context.specs.declared.locator.LocatorPayload.TheVariants as payloads
use Rattle.rendering_context.specs.declared.locator.SpecificLocator.{SpecificLocator}
use Rattle.rendering_tree.specs.Trees.{Children}
use Rattle.rendering_tree.specs.Views.{tree_view}
use Rattle.rendering_tree.specs.declared.element.ElemChildren.{ElemChildren}
use Rattle.rendering_context.specs.Contexts.{StyleContext}
use Rattle.driver_requests.specs.Requests.{Item, plain_locator, plain_payload}
use Rattle.driver_requests.specs.Views.{request_locator_view, request_payload_view}
use Rattle.driver_citations.specs.Standalone.{has_content, joined_alone, printed_alone, all_alone, alone, with_content}

payload_plain : {P : Type 0} (p : LocatorPayload P) → contexts.payload_view p ≡ plain_payload (request_payload_view p)
payload_plain (payloads.Str s) = refl
payload_plain (payloads.Transparent t) = refl

-- a locator without what the caller prints by itself
pub locator_plain : {P : Type 0} (l : SpecificLocator P) → contexts.locator_view l ≡ plain_locator (request_locator_view l)
locator_plain l = λ k. record { label = l.label; payload = payload_plain l.payload k }

alone_if : (b : Bool) (t : Children) (ts : List Children) → (if b then t ∷ ts else ts) ≡ (if b then t ∷ [] else []) ++ ts
alone_if true t ts = refl
alone_if false t ts = refl

alone_unless : {P : Type 0} (x : StyleContext) (hidden : Bool) (i : Item P) (is : List (Item P))
    → filter has_content (map (printed_alone x) (if not hidden then i ∷ filter (λ j. not j.is_hidden) is else filter (λ j. not j.is_hidden) is))
    ≡ (if hidden then [] else (if has_content (printed_alone x i) then printed_alone x i ∷ [] else [])) ++ all_alone x is
alone_unless x true i is = refl
alone_unless x false i is = alone_if (has_content (printed_alone x i)) (printed_alone x i) (all_alone x is)

-- the first item, then the others
pub alone_first : {P : Type 0} (x : StyleContext) (i : Item P) (is : List (Item P)) → all_alone x (i ∷ is) ≡ alone x i ++ all_alone x is
alone_first x i is = alone_unless x i.is_hidden i is

-- one item more
pub items_go_on : {A P : Type 0} (x : StyleContext) (view : A → Item P) (items : List A) (n : ℕ) (i : A) (now new all : List Children) → n < length items → i ≡ get_or items n i
    → now ++ all_alone x (map view (drop n items)) ≡ all → new ≡ now ++ alone x (view i) → new ++ all_alone x (map view (drop (n + 1) items)) ≡ all
items_go_on x view items n i now new all less is h e =
    let rest = map view (drop (n + 1) items) in
    ap (λ ts. ts ++ all_alone x rest) e
    ∙ append_assoc now (alone x (view i)) (all_alone x rest)
    ∙ ap (λ ts. now ++ ts) (sym (alone_first x (view i) rest))
    ∙ ap (λ j. now ++ all_alone x (view j ∷ rest)) is
    ∙ ap (λ js. now ++ all_alone x (map view js)) (sym (drop_more items n i less))
    ∙ h

pub items_end : {A P : Type 0} (x : StyleContext) (view : A → Item P) (items : List A) (n : ℕ) (now all : List Children) → length items ≤ n → now ++ all_alone x (map view (drop n items)) ≡ all → now ≡ all
items_end x view items n now all le h = sym (append-nil now) ∙ ap (λ js. now ++ all_alone x (map view js)) (sym (drop_all n items le)) ∙ h

-- what a hidden item prints is nothing
pub hidden_alone : {P : Type 0} (x : StyleContext) (i : Item P) (now : List Children) → i.is_hidden ≡ true → now ≡ now ++ alone x i
hidden_alone x i now h = sym (append-nil now) ∙ ap (λ b. now ++ (if b then [] else with_content (printed_alone x i))) (sym h)

-- what another one prints is there where it has content
pub shown_alone : {P : Type 0} (x : StyleContext) (i : Item P) (now new : List Children) (t : Children) → i.is_hidden ≡ false → t ≡ printed_alone x i → new ≡ now ++ with_content t → new ≡ now ++ alone x i
shown_alone x i now new t h is e = e ∙ ap (λ u. now ++ with_content u) is ∙ ap (λ b. now ++ (if b then [] else with_content (printed_alone x i))) (sym h)

-- a tree without content, and one with content
pub no_content : (t : Children) (b : Bool) (now : List Children) → b ≡ has_content t → b ≡ false → now ≡ now ++ with_content t
no_content t true now is h = absurd (true≢false h)
no_content t false now is h = sym (append-nil now) ∙ ap (λ b. now ++ (if b then t ∷ [] else [])) is

pub some_content : (t : Children) (b : Bool) (now new : List Children) → b ≡ has_content t → b ≡ true → new ≡ now ++ t ∷ [] → new ≡ now ++ with_content t
some_content t true now new is h e = e ∙ ap (λ b. now ++ (if b then t ∷ [] else [])) is
some_content t false now new is h e = absurd (true≢false (sym h))

-- what items print in a style is what they print in the style of their request
pub alone_is : {E : Type 0} (o p : Option Quotes) (l m : Layout) (ts us : List Children) (r : Result ElemChildren E) → o ≡ p → l ≡ m → ts ≡ us → IfOk r (λ t. tree_view t ≡ joined_alone o l ts) → IfOk r (λ t. tree_view t ≡ joined_alone p m us)
alone_is o p l m ts us (Err e) a b c h = tt
alone_is o p l m ts us (Ok t) a b c h = h ∙ (λ k. joined_alone (a k) (b k) (c k))
