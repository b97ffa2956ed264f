-- The blocks of a full representation, entry by entry, and its trace.
--   block_here, block_else     the block that is not 0 in a column, and the others
--   entry_of_blocks            an entry of a matrix is one of a block
--   trace_of_blocks            the trace is the sum of those of the diagonal blocks
--   numbered_at                a family on the first numbers, by number
use Rattle.std.proofs.Common.{◌≡◌, sym, ◌∙◌, ap₂, subst, refl, ℕ, zero, suc, ◌<◌, ◌/◌, ◌%◌}
use Rattle.std.specs.Int.{◌∣◌}
use Rattle.irr_algebra.specs.Ring.{Ring}
use Rattle.irr_algebra.specs.Fin.{Fin, to_nat}
use Rattle.irr_algebra.specs.Fin.Fin.{first, next}
use Rattle.irr_algebra.specs.Listed.{sum_below}
use Rattle.irr_algebra.specs.Matrix.{Matrix, scale, null, trace}
use Rattle.irr_algebra.specs.Pair.{times, pair}
use Rattle.irr_algebra.specs.Sum.{sum}
use Rattle.irr_algebra.proofs.Indices.{from_nat, to_nat-from_nat, to_nat-lt}
use Rattle.irr_algebra.proofs.Listed.{sum-to_nat}
use Rattle.irr_algebra.proofs.Pairs.{sum-times}
use Rattle.irr_algebra.proofs.Sums.{sum-ext}
use Rattle.irr_number.specs.Number.{numbers, root_power}
use Rattle.irr_theory.specs.FactorSystem.{Representation}
use Rattle.irr_space.specs.Operation.{Operation, WaveVector, ◌⊙◌, translation}
use Rattle.irr_space.specs.Reciprocal.{Sign}
use Rattle.irr_space.specs.PhaseTable.{phases_over}
use Rattle.irr_cocycle.specs.SpaceGroupLaws.{IsGroup, HasCanonical}
use Rattle.irr_mat.specs.Entries.{IsEntry}
use Rattle.irr_mat.proofs.Blocks.{pair-index, quotient-lt, remainder-lt}
use Rattle.irr_full.specs.Star.{Star}
use Rattle.irr_full.specs.Full.{IsFullOf, block}
use Rattle.irr_full.proofs.StarLaws.{same_arm}
use Rattle.irr_star.specs.declared.lists.Block.{Block}
use Rattle.irr_star.specs.Blocks.{IsBlockAt}

module _ (G : Operation → Type 0) (group : IsGroup G) (chosen : HasCanonical G) {s : Sign} {k : WaveVector}
    (S : Star s G k) (M : ℕ)
    (v : S.table.order ∣ M) {d : ℕ} (D : Representation (phases_over S.table M v) d)
    (A : Operation → Matrix (numbers M) (times S.arms d) (times S.arms d))
    (full : IsFullOf S M v D A) (g : Operation) (m : G g) (j : Fin S.arms) (b : Block) (at : IsBlockAt S M g j b) where
  pub block_here : block d (A g) at.to j ≡ scale (numbers M) (root_power M b.exponent) (D.at at.inner)
  block_here = full.carried g m at.to j (translation at.shift ⊙ S.operation at.inner) at.little at.carries
      (scale (numbers M) (root_power M b.exponent) (D.at at.inner))
      (record {
        vector = at.shift;
        place = at.inner;
        exponent = b.exponent;
        is_product = refl;
        is_phase = at.is_phase;
        is_matrix = refl;
      })

  pub block_else : (i : Fin S.arms) → (i ≡ at.to → ⊥) → block d (A g) i j ≡ null
  block_else i other = full.apart g m i j (λ n in_n w. other
      (same_arm G group chosen S i at.to n (translation at.shift ⊙ S.operation at.inner) in_n at.little
      (sym w ∙ at.carries)))

block-at : {R : Ring} {a : ℕ} (d : ℕ) (m : Matrix R (times a d) (times a d)) (i j : Fin a) (x y : Fin d)
    → (block d m i j).at x y ≡ m.at (pair d i x) (pair d j y)
unfolding block
block-at d m i j x y = refl

pub entry_of_blocks : {R : Ring} {a : ℕ} (d : ℕ) (m : Matrix R (times a d) (times a d)) → 0 < d → (i j : ℕ)
    (z : R.Carrier)
    → ((p q : Fin a) → to_nat p ≡ i / d → to_nat q ≡ j / d → IsEntry (block d m p q) (i % d) (j % d) z)
    → IsEntry m i j z
entry_of_blocks {a = a} d m positive i j z h = record {
  is_entry = λ u w e f.
      let qi : i / d < a = quotient-lt a d i positive (subst (λ n. n < times a d) e (to_nat-lt u)) in
      let qj : j / d < a = quotient-lt a d j positive (subst (λ n. n < times a d) f (to_nat-lt w)) in
      let ri : i % d < d = remainder-lt d i positive in
      let rj : j % d < d = remainder-lt d j positive in
      let p = from_nat a (i / d) qi in
      let q = from_nat a (j / d) qj in
      let x = from_nat d (i % d) ri in
      let y = from_nat d (j % d) rj in
      (h p q (to_nat-from_nat a (i / d) qi) (to_nat-from_nat a (j / d) qj)).is_entry x y (to_nat-from_nat d (i % d) ri)
      (to_nat-from_nat d (j % d) rj)
      ∙ block-at d m p q x y
      ∙ ap₂ (λ (b c : Fin (times a d)). m.at b c) (pair-index a d positive i u e qi ri)
      (pair-index a d positive j w f qj rj);
}

pub trace_of_blocks : {R : Ring} (a d : ℕ) (m : Matrix R (times a d) (times a d)) → trace m ≡ sum R a
    (λ i. trace (block d m i i))
unfolding trace block
trace_of_blocks {R = R} a d m = sum-times R a d (λ x. m.at x x)

-- x past the end
pub numbered_at : {X : Type 0} (a : ℕ) → (Fin a → X) → X → ℕ → X
numbered_at zero f x k = x
numbered_at (suc a) f x zero = f first
numbered_at (suc a) f x (suc k) = numbered_at a (λ i. f (next i)) x k

pub numbered_at-is : {X : Type 0} {a : ℕ} (f : Fin a → X) (x : X) (i : Fin a) → numbered_at a f x (to_nat i) ≡ f i
unfolding numbered_at to_nat
numbered_at-is f x first = refl
numbered_at-is f x (next i) = numbered_at-is (λ j. f (next j)) x i

pub sum_by_number : (R : Ring) (a : ℕ) (f : Fin a → R.Carrier) (x : R.Carrier) → sum_below R a
    (numbered_at a f x) ≡ sum R a f
sum_by_number R a f x = sym (sum-to_nat R a (numbered_at a f x)) ∙ sum-ext R a (λ i. numbered_at a f x (to_nat i)) f
    (λ i. numbered_at-is f x i)
