-- Which slots the terms of a component use.
--   Fits u ts            the terms ts may follow where the slots u are used: each slot at most once
--   with-has, with-keeps, with-only     what is used with one slot more
--   not-full             where a slot is free, not all are used
--   fits-distinct, fits-lacks, distinct-fits     that is: the slots of ts are distinct, and none is used
--   fits-component, component-fits     a component is its first term, and terms that fit behind it
use Rattle.std.proofs.Common.{◌≡◌, ◌≢◌, refl, sym, ◌∙◌, ap, subst, Bool, true, false, List, [], ◌∷◌, ◌&&◌, ◌⊎◌, inl, inr}
use Rattle.irr_triplet.specs.declared.shape.Slot.{Slot}
use Rattle.irr_triplet.specs.declared.shape.Slot.TheVariants.{X, Y, Z, Constant}
use Rattle.irr_triplet.specs.declared.shape.Used.{Used}
use Rattle.irr_triplet.specs.TripletFront.{is_used, with_slot, is_full, unused}
use Rattle.irr_triplet.specs.WrittenTriplet.{Term, slot_of, Lacks, AreDistinct, WrittenComponent, IsComponent}

abbrev pub Fits : Used → List Term → Type 0
Fits u [] = Unit {0}
Fits u (t ∷ ts) = (is_used u (slot_of t.body) ≡ false) × Fits (with_slot u (slot_of t.body)) ts

pub with-has : (u : Used) (s : Slot) → is_used (with_slot u s) s ≡ true
with-has u X = refl
with-has u Y = refl
with-has u Z = refl
with-has u Constant = refl

pub with-keeps : (u : Used) (r s : Slot) → is_used u s ≡ true → is_used (with_slot u r) s ≡ true
with-keeps u X X e = refl
with-keeps u X Y e = e
with-keeps u X Z e = e
with-keeps u X Constant e = e
with-keeps u Y X e = e
with-keeps u Y Y e = refl
with-keeps u Y Z e = e
with-keeps u Y Constant e = e
with-keeps u Z X e = e
with-keeps u Z Y e = e
with-keeps u Z Z e = refl
with-keeps u Z Constant e = e
with-keeps u Constant X e = e
with-keeps u Constant Y e = e
with-keeps u Constant Z e = e
with-keeps u Constant Constant e = refl

pub with-only : (u : Used) (r s : Slot) → is_used (with_slot u r) s ≡ true → (s ≡ r) ⊎ (is_used u s ≡ true)
with-only u X X e = inl refl
with-only u X Y e = inr e
with-only u X Z e = inr e
with-only u X Constant e = inr e
with-only u Y X e = inr e
with-only u Y Y e = inl refl
with-only u Y Z e = inr e
with-only u Y Constant e = inr e
with-only u Z X e = inr e
with-only u Z Y e = inr e
with-only u Z Z e = inl refl
with-only u Z Constant e = inr e
with-only u Constant X e = inr e
with-only u Constant Y e = inr e
with-only u Constant Z e = inr e
with-only u Constant Constant e = inl refl

unused-none : (s : Slot) → is_used unused s ≡ true → ⊥
unused-none X e = cc
unused-none Y e = cc
unused-none Z e = cc
unused-none Constant e = cc

and-false : (b : Bool) → b && false ≡ false
and-false true = refl
and-false false = refl

pub not-full : (u : Used) (s : Slot) → is_used u s ≡ false → is_full u ≡ false
not-full u X e = ap (λ b. b && (u.y && (u.z && u.constant))) e
not-full u Y e = ap (λ b. u.x && (b && (u.z && u.constant))) e ∙ and-false u.x
not-full u Z e = ap (λ b. u.x && (u.y && (b && u.constant))) e ∙ ap (λ b. u.x && b) (and-false u.y) ∙ and-false u.x
not-full u Constant e = ap (λ b. u.x && (u.y && (u.z && b))) e ∙ ap (λ b. u.x && (u.y && b)) (and-false u.z) ∙ ap (λ b. u.x && b) (and-false u.y) ∙ and-false u.x

free-other : (u : Used) (r s : Slot) → is_used u r ≡ true → is_used u s ≡ false → r ≢ s
free-other u r s e f same = let g : is_used u s ≡ true = subst (λ t. is_used u t ≡ true) same e in absurd (cc)

pub fits-lacks : (u : Used) (s : Slot) (ts : List Term) → is_used u s ≡ true → Fits u ts → Lacks s ts
fits-lacks u s [] e h = tt
fits-lacks u s (t ∷ ts) e h = (free-other u s (slot_of t.body) e h.0, fits-lacks (with_slot u (slot_of t.body)) s ts (with-keeps u (slot_of t.body) s e) h.1)

pub fits-distinct : (u : Used) (ts : List Term) → Fits u ts → AreDistinct ts
fits-distinct u [] h = tt
fits-distinct u (t ∷ ts) h = (
  fits-lacks (with_slot u (slot_of t.body)) (slot_of t.body) ts (with-has u (slot_of t.body)) h.1,
  fits-distinct (with_slot u (slot_of t.body)) ts h.1,
)

free_of : (b : Bool) → (b ≡ true → ⊥) → b ≡ false
free_of true n = absurd (n refl)
free_of false n = refl

pub distinct-fits : (u : Used) (ts : List Term) → AreDistinct ts → ((s : Slot) → is_used u s ≡ true → Lacks s ts) → Fits u ts
distinct-fits u [] d h = tt
distinct-fits u (t ∷ ts) d h = (
  free_of (is_used u (slot_of t.body)) (λ e. (h (slot_of t.body) e).0 refl),
  distinct-fits (with_slot u (slot_of t.body)) ts d.1 (λ s e. elim (with-only u (slot_of t.body) s e) [
    | inl same ↦ subst (λ r. Lacks r ts) (sym same) d.0
    | inr used ↦ (h s used).1
  ]),
)

pub fits-component : (c : WrittenComponent) → Fits (with_slot unused (slot_of c.front)) c.later → IsComponent c
fits-component c h = (
  fits-lacks (with_slot unused (slot_of c.front)) (slot_of c.front) c.later (with-has unused (slot_of c.front)) h,
  fits-distinct (with_slot unused (slot_of c.front)) c.later h,
)

pub component-fits : (c : WrittenComponent) → IsComponent c → Fits (with_slot unused (slot_of c.front)) c.later
component-fits c h = distinct-fits (with_slot unused (slot_of c.front)) c.later h.1 (λ s e. elim (with-only unused (slot_of c.front) s e) [
  | inl same ↦ subst (λ r. Lacks r c.later) (sym same) h.0
  | inr used ↦ absurd (unused-none s used)
])

pub unused-free : (s : Slot) → is_used unused s ≡ false
unused-free X = refl
unused-free Y = refl
unused-free Z = refl
unused-free Constant = refl
