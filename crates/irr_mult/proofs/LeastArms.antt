-- The least of the wave vectors of some arms.
--   LeastSoFar, least_first, least_more      that of the first ones
--   limits_of_least                          it is within limits
use Rattle.std.proofs.Common.{◌≡◌, sym, ◌∙◌, ap, subst, ℕ, ◌+◌, ◌<◌, ◌⊎◌, inl, inr, List, length, get_or, arith}
use Rattle.std.specs.List.{All}
use Rattle.std.proofs.lemmas.Bool.{cases_lt}
use Rattle.irr_algebra.specs.Fin.{Fin, to_nat}
use Rattle.irr_algebra.proofs.Indices.{from_nat, to_nat-from_nat, to_nat-lt, to_nat_inj}
use Rattle.irr_rational.specs.Order.{IsAtMost}
use Rattle.irr_rational.proofs.Lexicographic.{at_most_trans}
use Rattle.irr_space.specs.Operation.{wave_component}
use Rattle.irr_kvec.specs.Centrings.{IsWithinLimits}
use Rattle.irr_kvec.specs.WaveMeaning.{wave_vector}
use Rattle.irr_kvec.specs.declared.wave.Wave.{Wave}
use Rattle.irr_little.specs.declared.arms.Arm.{Arm}
use Rattle.irr_mult.specs.Listing.{item}
use Rattle.irr_mult.proofs.Listings.{item-get, item-read}

abbrev pub AtMost : Wave → Wave → Type 0
AtMost v w = IsAtMost (wave_component (wave_vector v)) (wave_component (wave_vector w))

pub record LeastSoFar (arms : List Arm) (k : ℕ) (chosen : Wave) : Type 0 where
  pub arm : (i : Fin (length arms)) × ((item arms i).wave ≡ chosen)
  pub least : (i : Fin (length arms)) → to_nat i < k → AtMost chosen (item arms i).wave

module _ (arms : List Arm) (k : ℕ) (l : k < length arms) (a : Arm) (is : a ≡ get_or arms k a) where
  place : Fin (length arms)
  place = from_nat (length arms) k l

  same : a ≡ item arms (from_nat (length arms) k l)
  same = item-read arms k l a is

  pub least_first : LeastSoFar arms 0 a.wave
  least_first = record {
    arm = (from_nat (length arms) k l, ap (λ (b : Arm). b.wave) (sym same));
    least = λ i m. absurd (omega (arith, m));
  }

  pub least_more : (old new : Wave) → (new ≡ old) ⊎ (new ≡ a.wave) → AtMost new old → AtMost new a.wave
      → LeastSoFar arms k old → LeastSoFar arms (k + 1) new
  least_more old new one first second h = record {
    arm = elim one [
      | inl e ↦ (h.arm.0, h.arm.1 ∙ sym e)
      | inr e ↦ (from_nat (length arms) k l, ap (λ (b : Arm). b.wave) (sym same) ∙ sym e)
    ];
    least = λ i m. elim (cases_lt (to_nat i) k) [
      | inl b ↦ at_most_trans (wave_component (wave_vector new)) (wave_component (wave_vector old))
          (wave_component (wave_vector (item arms i).wave)) first (h.least i b)
      | inr g ↦ (
          let e : i ≡ from_nat (length arms) k l = to_nat_inj i (from_nat (length arms) k l)
          (let t = to_nat-from_nat (length arms) k l in omega (arith, m, g, t)) in
          subst (λ (b : Arm). AtMost new b.wave) (same ∙ ap (item arms) (sym e)) second)
    ];
  }

pub limits_of_least : (arms : List Arm) (w : Wave) → All (λ (a : Arm). IsWithinLimits a.wave) arms
    → (i : Fin (length arms)) × ((item arms i).wave ≡ w) → IsWithinLimits w
limits_of_least arms w limits (i, e) =
    let d : Arm = record { wave = w; op = 0 } in
    subst IsWithinLimits (ap (λ (a : Arm). a.wave) (sym (item-get arms i d)) ∙ e) (limits (to_nat i) d (to_nat-lt i))
