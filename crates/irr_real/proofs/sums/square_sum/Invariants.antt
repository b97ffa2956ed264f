-- The sum of the first terms.
use Rattle.std.proofs.Common.{ℕ, ◌≡◌, ◌*◌}
use Rattle.irr_algebra.specs.Fin.{Fin}
use Rattle.irr_algebra.specs.Matrix.{Matrix}
use Rattle.irr_number.specs.Number.{numbers}
use Rattle.irr_canonical.specs.RootSum.{IsRootSum}
use Rattle.irr_kvec.specs.WaveMeaning.{wave_vector}
use Rattle.irr_real.specs.Families.{IsFamilyOf}
use Rattle.irr_real.proofs.TermSums.{TermsSoFar}
use Rattle.irr_real.proofs.sums.square_sum.Given as goal

abbrev pub invariant-loop-i : goal.invariant-loop-i
invariant-loop-i g l =
    let n = l.order.n in
    record {
      has_order : g.S.Scalar.order_of l.sum ≡ n;
      few : IsRootSum n (l.i * 48) 1 (g.S.Scalar.value n l.sum);
      so_far : (h d : ℕ) (D : Fin h → Matrix (numbers n) d d) → IsFamilyOf n D l.f
          → TermsSoFar l.group (wave_vector l.k) l.t n D l.places.items l.i (g.S.Scalar.value n l.sum);
    }
