-- Entries of monomial matrices.
--   power_at, none_at         a power of z in the row of the column, and 0 elsewhere
--   entry-power, entry-none   the entry in the row of its column, and the others
--   entry-is                  an entry of the matrix
use Rattle.std.proofs.Common.{◌≡◌, sym, ◌∙◌, ap, ap₂, ℕ, List, slice_index}
use Rattle.irr_algebra.proofs.Rings.{one-mul, zero-mul}
use Rattle.irr_number.specs.Element.{delta}
use Rattle.irr_number.specs.Number.{Number, numbers, root_power}
use Rattle.irr_number.specs.SumLaws.{delta-other, delta-same}
use Rattle.irr_mat.specs.Entries.{IsEntry}
use Rattle.irr_mono.specs.Monomial.{monomial, monomial_entry}

module _ (N : ℕ) where
  pub power_at : (p i : ℕ) (x : Number N) → p ≡ i → (numbers N).mul (delta (numbers N) p i) x ≡ x
  power_at p i x e = ap (λ k. (numbers N).mul (delta (numbers N) p k) x) (sym e) ∙ ap (λ y. (numbers N).mul y x) (delta-same (numbers N) p) ∙ one-mul (numbers N) x

  pub none_at : (p i : ℕ) (x : Number N) → (p ≡ i → ⊥) → (numbers N).mul (delta (numbers N) p i) x ≡ (numbers N).zero
  none_at p i x h = ap (λ y. (numbers N).mul y x) (delta-other (numbers N) p i h) ∙ zero-mul (numbers N) x

  pub entry-power : (place exp : List ℕ) (i j : ℕ) → slice_index place j ≡ i → monomial_entry N place exp i j ≡ root_power N (slice_index exp j)
  unfolding monomial_entry
  entry-power place exp i j e = power_at (slice_index place j) i (root_power N (slice_index exp j)) e

  pub entry-none : (place exp : List ℕ) (i j : ℕ) → (slice_index place j ≡ i → ⊥) → monomial_entry N place exp i j ≡ (numbers N).zero
  unfolding monomial_entry
  entry-none place exp i j h = none_at (slice_index place j) i (root_power N (slice_index exp j)) h

  pub entry-is : (n : ℕ) (place exp : List ℕ) (i j : ℕ) (x : Number N) → x ≡ monomial_entry N place exp i j → IsEntry (monomial N n place exp) i j x
  unfolding monomial
  entry-is n place exp i j x e = record { is_entry = λ k l p q. e ∙ ap₂ (monomial_entry N place exp) (sym p) (sym q) }
