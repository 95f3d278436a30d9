-- Copies of items, where clones are the same as what they copy.
use Rattle.std.proofs.Common.{◌≡◌, refl, sym, ap, Option, Some, None}
use Rattle.std.specs.Str.{chars}
use Rattle.rendering_context.specs.Views.{is_copy}
use Rattle.rendering_context.specs.declared.locator.LocatorPayload.{LocatorPayload}
use Rattle.rendering_context.specs.declared.locator.LocatorPayload.TheVariants as payloads
use Rattle.driver_requests.specs.Copies.{IsPayloadCopy, IsLocatorCopy, IsItemCopy}
use Rattle.driver_requests.specs.Requests.{Payload, written, own, SpecificLocator}
use Rattle.driver_requests.specs.Views.{Parts, request_payload_view}

-- a copy of a payload
pub payload_copied : {P : Type 0} (is_clone : P → P → Type 0) (a b : LocatorPayload P) → is_copy is_clone a b → IsPayloadCopy is_clone (request_payload_view a) (request_payload_view b)
payload_copied is_clone (payloads.Str s) (payloads.Str t) h = ap chars (sym h)
payload_copied is_clone (payloads.Str s) (payloads.Transparent q) h = h
payload_copied is_clone (payloads.Transparent p) (payloads.Str t) h = h
payload_copied is_clone (payloads.Transparent p) (payloads.Transparent q) h = h

same_payload : {P : Type 0} (is_clone : P → P → Type 0) → ((p q : P) → is_clone p q → q ≡ p) → (a b : Payload P) → IsPayloadCopy is_clone a b → b ≡ a
same_payload is_clone same (written cs) (written ds) h = ap written h
same_payload is_clone same (written cs) (own q) h = absurd h
same_payload is_clone same (own p) (written ds) h = absurd h
same_payload is_clone same (own p) (own q) h = ap own (same p q h)

same_locator : {P : Type 0} (is_clone : P → P → Type 0) → ((p q : P) → is_clone p q → q ≡ p) → (l m : Option (SpecificLocator P)) → IsLocatorCopy is_clone l m → m ≡ l
same_locator is_clone same None None h = refl
same_locator is_clone same None (Some m) h = absurd h
same_locator is_clone same (Some l) None h = absurd h
same_locator is_clone same (Some l) (Some m) h = λ k. Some (record { label = h.0 k; payload = same_payload is_clone same l.payload m.payload h.1 k })

-- a copy of an item
pub item_copied : {T P : Type 0} (is_clone : P → P → Type 0) → ((p q : P) → is_clone p q → q ≡ p) → (i j : Parts T P) → IsItemCopy is_clone i j → j ≡ i
item_copied is_clone same i j h = λ k. record {
  entry = h.entry k;
  locator = same_locator is_clone same i.locator j.locator h.locator k;
  locale = h.locale k;
  is_hidden = h.is_hidden k;
  purpose = h.purpose k;
}
