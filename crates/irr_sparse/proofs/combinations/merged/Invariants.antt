-- The terms so far on the left, and those before the place on the right, are added.
use Rattle.std.proofs.Common.{◌≡◌, ◌+◌, ◌*◌, ◌≤◌, ℕ, drop, length, take}
use Rattle.std.specs.Int.RustNames.{unsigned_abs}
use Rattle.irr_number.specs.Number.{numbers}
use Rattle.irr_rational.specs.Integer.{integer}
use Rattle.irr_cyc.specs.Terms.{terms_sum}
use Rattle.irr_sparse.specs.TermList.{AreTerms, total}
use Rattle.irr_sparse.proofs.combinations.merged.Given as goal

abbrev pub invariant-loop-exponent : goal.invariant-loop-exponent
invariant-loop-exponent l = record {
  within : l.from ≤ length l.ys;
  terms : (n : ℕ) → AreTerms n 0 l.xs → AreTerms n 0 l.ys → AreTerms n 0 l.sums.items;
  sum : (n : ℕ) → (numbers n).add (terms_sum n l.sums.items) ((numbers n).mul (integer (numbers n) l.right) (terms_sum n (drop l.from l.ys)))
      ≡ (numbers n).add ((numbers n).mul (integer (numbers n) l.left) (terms_sum n (take l.exponent-index l.xs))) ((numbers n).mul (integer (numbers n) l.right) (terms_sum n l.ys));
  most : total l.sums.items + total (drop l.from l.ys) * unsigned_abs l.right ≤ total (take l.exponent-index l.xs) * unsigned_abs l.left + total l.ys * unsigned_abs l.right;
}
