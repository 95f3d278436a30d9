-- Copies of items.
use Rattle.std.specs.Prelude.{◌≡◌, Option, Some, None}
use Rattle.driver_requests.specs.Requests.{Payload, written, own, SpecificLocator}
use Rattle.driver_requests.specs.Views.{Parts}

-- whether a payload is a copy of another: the same text, or a clone of what the caller prints by itself
abbrev pub IsPayloadCopy : {P : Type 0} → (P → P → Type 0) → Payload P → Payload P → Type 0
IsPayloadCopy is_clone (written cs) (written ds) = ds ≡ cs
IsPayloadCopy is_clone (written cs) (own q) = ⊥
IsPayloadCopy is_clone (own p) (written ds) = ⊥
IsPayloadCopy is_clone (own p) (own q) = is_clone p q

-- whether a locator is a copy of another, or neither is there
abbrev pub IsLocatorCopy : {P : Type 0} → (P → P → Type 0) → Option (SpecificLocator P) → Option (SpecificLocator P) → Type 0
IsLocatorCopy is_clone None None = Unit
IsLocatorCopy is_clone None (Some m) = ⊥
IsLocatorCopy is_clone (Some l) None = ⊥
IsLocatorCopy is_clone (Some l) (Some m) = (m.label ≡ l.label) × IsPayloadCopy is_clone l.payload m.payload

-- whether an item is a copy of another
pub record IsItemCopy {T P : Type 0} (is_clone : P → P → Type 0) (i j : Parts T P) : Type 0 where
  pub entry : j.entry ≡ i.entry
  pub locator : IsLocatorCopy is_clone i.locator j.locator
  pub locale : j.locale ≡ i.locale
  pub is_hidden : j.is_hidden ≡ i.is_hidden
  pub purpose : j.purpose ≡ i.purpose
