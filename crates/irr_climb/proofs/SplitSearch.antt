-- The search for the power of the generator and the member of a place.
--   NoMember, IsMember       no member, and this one, has the product x with the place `left`
--   power_start, power_step  the powers of the generator, one after another
--   split_none, split_found  so the place does not split at this power, or does
--   below_or_last            what holds below a number and at it
use Rattle.std.specs.Prelude.{ℕ, suc, ◌≡◌, ◌<◌, ◌+◌, ◌⊎◌, List, length, slice_index}
use Rattle.std.proofs.Common.{sym, subst, refl, inl, inr, arith}
use Rattle.irr_algebra.specs.Fin.{Fin, to_nat}
use Rattle.irr_algebra.proofs.Indices.{from_nat, to_nat-from_nat}
use Rattle.irr_char.proofs.RowForms.{before_or_at}
use Rattle.irr_space.specs.PhaseTable.{PhaseTable, place_power}
use Rattle.irr_chain.specs.Quotient.{power}
use Rattle.irr_climb.specs.Splits.{IsSplit}

abbrev pub IsMember : {h : ℕ} (T : PhaseTable h) (members : List ℕ) (left x n : ℕ) → Type 0
IsMember {h} T members left x n = (a b : Fin h) → to_nat a ≡ left → to_nat b ≡ slice_index members n → to_nat (T.product a b) ≡ x

abbrev pub NoMember : {h : ℕ} (T : PhaseTable h) (members : List ℕ) (left x : ℕ) → Type 0
NoMember {h} T members left x = (n : ℕ) → n < length members → (a b : Fin h) → to_nat a ≡ left → to_nat b ≡ slice_index members n
    → to_nat (T.product a b) ≡ x → ⊥

module _ {h : ℕ} (T : PhaseTable h) (members : List ℕ) (below : (a : ℕ) → a < length members → slice_index members a < h) (g p x e left : ℕ)
    (generator : g < h) (is_power : (a : Fin h) → to_nat a ≡ g → left ≡ to_nat (power T a e)) where
  place : Fin h
  place = from_nat h g generator

  place-number : to_nat place ≡ g
  unfolding place
  place-number = to_nat-from_nat h g generator

  pub split_none : NoMember T members left x → (n : ℕ) → IsSplit T members g p x e n → ⊥
  split_none none n split =
      let b = from_nat h (slice_index members n) (below n split.part_inside) in
      let is = to_nat-from_nat h (slice_index members n) (below n split.part_inside) in
      none n split.part_inside (power T place e) b (sym (is_power place place-number)) is (split.is_product place b place-number is)

  pub split_found : e < p → (n : ℕ) → n < length members → IsMember T members left x n → IsSplit T members g p x e n
  split_found exponent n inside member = record {
    exponent_below = exponent;
    part_inside = inside;
    is_product = λ a b d f. member (power T a e) b (sym (is_power a d)) f;
  }

pub power_start : {h : ℕ} (T : PhaseTable h) (a : Fin h) → 0 ≡ to_nat (power T a 0)
unfolding place_power
power_start T a = sym T.start_first

pub power_step : {h : ℕ} (T : PhaseTable h) (a : Fin h) (e left next : ℕ) → left ≡ to_nat (power T a e)
    → ((p q : Fin h) → to_nat p ≡ to_nat a → to_nat q ≡ left → next ≡ to_nat (T.product p q)) → next ≡ to_nat (power T a (e + 1))
unfolding place_power
power_step T a e left next is step =
    let one : suc e ≡ e + 1 = omega arith in
    subst (λ k. next ≡ to_nat (power T a k)) one (step a (power T a e) refl (sym is))

pub below_or_last : (P : ℕ → Type 0) (e k : ℕ) → e < k + 1 → (e < k → P e) → P k → P e
below_or_last P e k l before last = at (before_or_at e k l)
  where
    at : (e < k) ⊎ (e ≡ k) → P e
    at (inl m) = before m
    at (inr q) = subst P (sym q) last
