-- Sizes of the entries and traces of families on a subgroup of n elements.
--   size_bound n             (1 + n/2)(1 + n/4)(1 + n/8)(1 + n/16)(1 + n/32), at most 18,200 for n up to 48
--   IsSized M n f            each entry of each matrix of f is a sum of at most b * b powers of z, over one number of at most b,
--                            for b = size_bound n; and f is sharply sized
--   AreSized M n fs          so for each family of a list
--   AreFew n d s             s powers of z serve the entries of a family of d rows on n places: an extension from h places to 2 h or more
--                            has h d times as many, which comes only where d d is at most h
--   IsSmallOver n e          e serves as their denominator: an extension has h/d times as great a one
--   IsSharplySized M n f     the rows of f divide n, its entries are sums of few powers of z over one small number, and a trace is a sum of
--                            as many powers of z as f has rows
--   HasSharpSizes M n f      each entry and each trace of f is a sum of at most 13,824 powers of z over one number of at most 2^11; so its
--                            size over this number is at most 13,824 M
--   IsSmallNumber M e x      e is a multiple of the denominator of x, and the size of x over e is at most 2^28
--   HasSmallNumbers M n f    one number of at most 2^11 is so for each entry and each trace of f
use Rattle.std.specs.Prelude.{ℕ, ◌+◌, ◌*◌, ◌/◌, ◌^◌, ◌<◌, ◌≤◌, List, All}
use Rattle.std.specs.Int.{◌∣◌}
use Rattle.irr_algebra.specs.Fin.{Fin}
use Rattle.irr_algebra.specs.Matrix.{trace}
use Rattle.irr_number.specs.Number.{Number}
use Rattle.irr_canonical.specs.Coefficient.{denominator, size}
use Rattle.irr_canonical.specs.RootSum.{IsRootSum}
use Rattle.irr_cyc.specs.declared.scalars.Scalar.{Ghosts}
use Rattle.irr_mat.specs.Size.{IsWithin}
use Rattle.irr_rep.specs.declared.family.Family.{Family}
use Rattle.irr_rep.specs.Family.{matrix_at}

-- a number that grows by a factor of n or more from n to 2 n or 3 n, for n up to 24
unfoldable pub size_bound : ℕ → ℕ
size_bound n = (1 + n / 2) * (1 + n / 4) * (1 + n / 8) * (1 + n / 16) * (1 + n / 32)

-- the most powers that an entry takes: an extension of two rows has 8 places or more, one of more rows 18 or more
pub record AreFew (n d s : ℕ) : Type 0 where
  pub single : d ≤ 1 → s ≤ 1
  pub pair_below_8 : d ≤ 2 → n < 8 → s ≤ 1
  pub pair_below_16 : d ≤ 2 → n < 16 → s ≤ 12
  pub pair_below_25 : d ≤ 2 → n < 25 → s ≤ 288
  pub more_below_16 : 2 < d → n < 16 → s ≤ 1
  pub more_below_25 : 2 < d → n < 25 → s ≤ 36
  pub always : s ≤ 13824

-- the largest denominator, by the number of places
pub record IsSmallOver (n e : ℕ) : Type 0 where
  pub below_8 : n < 8 → e ≤ 1
  pub below_16 : n < 16 → e ≤ 3
  pub below_25 : n < 25 → e ≤ 18
  pub always : e ≤ 216

-- few powers over a small denominator, and traces that are sums of as many powers as there are rows
pub record IsSharplySized {S : Type 0} {G : Ghosts S} (M n : ℕ) (f : Family S G) : Type 0 where
  pub divides : f.dim ∣ n
  pub powers : ℕ
  pub over : ℕ
  pub few : AreFew n f.dim powers
  pub small : IsSmallOver n over
  pub entries : (i : Fin n) → IsWithin M powers over (matrix_at M f.dim f.mats.items i)
  pub traces : (i : Fin n) → IsRootSum M f.dim 1 (trace (matrix_at M f.dim f.mats.items i))

-- the entries are sums of few powers over one small denominator
pub record IsSized {S : Type 0} {G : Ghosts S} (M n : ℕ) (f : Family S G) : Type 0 where
  pub denominator : ℕ
  pub small : denominator ≤ size_bound n
  pub within : (i : Fin n) → IsWithin M (size_bound n * size_bound n) denominator (matrix_at M f.dim f.mats.items i)
  pub sharp : IsSharplySized M n f

-- so for each family
abbrev pub AreSized : {S : Type 0} {G : Ghosts S} (M n : ℕ) → List (Family S G) → Type 0
AreSized M n fs = All (λ f. IsSized M n f) fs

-- what a reader of the list needs: one denominator for all numbers of a family, and no more than so many powers over it
pub record HasSharpSizes {S : Type 0} {G : Ghosts S} (M n : ℕ) (f : Family S G) : Type 0 where
  pub denominator : ℕ
  pub small : denominator ≤ 2 ^ 11
  pub entries : (i : Fin n) → IsWithin M 13824 denominator (matrix_at M f.dim f.mats.items i)
  pub traces : (i : Fin n) → IsRootSum M 13824 denominator (trace (matrix_at M f.dim f.mats.items i))

-- e is a denominator for x, over which it is small
pub record IsSmallNumber (M e : ℕ) (x : Number M) : Type 0 where
  pub divides : denominator M x ∣ e
  pub size_over : size M x * (e / denominator M x) ≤ 2 ^ 28

-- a common denominator of all entries and traces, and their sizes over it
pub record HasSmallNumbers {S : Type 0} {G : Ghosts S} (M n : ℕ) (f : Family S G) : Type 0 where
  pub common : ℕ
  pub positive : 0 < common
  pub small : common ≤ 2 ^ 11
  pub entries : (i : Fin n) (j k : Fin f.dim) → IsSmallNumber M common ((matrix_at M f.dim f.mats.items i).at j k)
  pub traces : (i : Fin n) → IsSmallNumber M common (trace (matrix_at M f.dim f.mats.items i))
