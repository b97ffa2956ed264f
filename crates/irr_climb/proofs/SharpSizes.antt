-- Few powers over small denominators, from the members of a subgroup to what it and one more element generate.
--   few_one, small_one       one power over 1
--   few_induced, small_induced        an induced family has the entries of the family, up to powers of z
--   few_extension, small_extension    an extension of a family of two rows or more: d/h times h terms, each of them d powers times an entry
--   factor_positive          a factor of a positive number
--   one_over                 d over h as one power over h/d
--   single_within            a matrix of one row, by its trace
--   read_within, sharply_sized    the sizes of a family, by the representation that it is read as
--   sharp_sizes, all_sharp   sizes of families that are sharply sized
use Rattle.std.proofs.Common.{◌≡◌, sym, ◌∙◌, ap, ap₂, subst, ℕ, ◌+◌, ◌*◌, ◌<◌, ◌≤◌, inl, inr, List, All, arith}
use Rattle.std.specs.Int.{◌∣◌}
use Rattle.std.proofs.lemmas.Bool.{cases_lt}
use native.Mathlib.Nat as Nat
use Rattle.irr_algebra.specs.Fin.{Fin}
use Rattle.irr_algebra.specs.Fin.Fin.{first}
use Rattle.irr_algebra.specs.Ring.{whole}
use Rattle.irr_algebra.specs.Sum.{sum}
use Rattle.irr_algebra.specs.Matrix.{Matrix, trace}
use Rattle.irr_algebra.proofs.Fields.{mul_cancel, whole-ne-zero}
use Rattle.irr_algebra.proofs.Indices.{only_first}
use Rattle.irr_algebra.proofs.Rings.{one-mul}
use Rattle.irr_algebra.proofs.Whole.{whole-mul, whole-one}
use Rattle.irr_number.specs.Number.{Number, numbers}
use Rattle.irr_number.proofs.NumberField.{number_field}
use Rattle.irr_theory.specs.FactorSystem.{FactorSystem, Representation}
use Rattle.irr_canonical.specs.RootSum.{IsRootSum}
use Rattle.irr_canonical.proofs.RootSums.{IsRootSum-many, IsRootSum-more, IsRootSum-one}
use Rattle.irr_cyc.specs.declared.scalars.Scalar.{Ghosts}
use Rattle.irr_mat.specs.Size.{IsWithin}
use Rattle.irr_mat.proofs.Bounds.{within-more}
use Rattle.irr_rep.specs.declared.family.Family.{Family}
use Rattle.irr_rep.specs.Family.{matrix_at}
use Rattle.irr_climb.specs.Families.{IsRead}
use Rattle.irr_climb.specs.Sizes.{AreFew, AreSized, HasSharpSizes, IsSharplySized, IsSmallOver}

pub few_one : (n d : ℕ) → AreFew n d 1
few_one n d = record {
  single = λ a. omega arith;
  pair_below_8 = λ a b. omega arith;
  pair_below_16 = λ a b. omega arith;
  pair_below_25 = λ a b. omega arith;
  more_below_16 = λ a b. omega arith;
  more_below_25 = λ a b. omega arith;
  always = omega arith;
}

pub small_one : (n : ℕ) → IsSmallOver n 1
small_one n = record { below_8 = λ a. omega arith; below_16 = λ a. omega arith; below_25 = λ a. omega arith; always = omega arith }

-- twice as many places or more, and twice as many rows or more
module _ (h n : ℕ) (places : 2 * h ≤ n) where
  pub few_induced : (d s t : ℕ) → 2 * d ≤ t → AreFew h d s → AreFew n t s
  few_induced d s t rows few = record {
    single = λ a. few.single (omega (arith, rows, a));
    pair_below_8 = λ a b. few.single (omega (arith, rows, a));
    pair_below_16 = λ a b. (let l : s ≤ 1 = few.single (omega (arith, rows, a)) in omega (arith, l));
    pair_below_25 = λ a b. (let l : s ≤ 1 = few.single (omega (arith, rows, a)) in omega (arith, l));
    more_below_16 = λ a b. (elim (cases_lt 2 d) [
      | inl m ↦ few.more_below_16 m (omega (arith, places, b))
      | inr m ↦ few.pair_below_8 m (omega (arith, places, b))
    ]);
    more_below_25 = λ a b. (elim (cases_lt 2 d) [
      | inl m ↦ (let l : s ≤ 1 = few.more_below_16 m (omega (arith, places, b)) in omega (arith, l))
      | inr m ↦ (let l : s ≤ 12 = few.pair_below_16 m (omega (arith, places, b)) in omega (arith, l))
    ]);
    always = few.always;
  }

  pub small_induced : (e : ℕ) → IsSmallOver h e → IsSmallOver n e
  small_induced e small = record {
    below_8 = λ a. small.below_8 (omega (arith, places, a));
    below_16 = λ a. small.below_16 (omega (arith, places, a));
    below_25 = λ a. small.below_25 (omega (arith, places, a));
    always = small.always;
  }

module _ (h d q n : ℕ) (split : h ≡ d * q) (square : d * d ≤ h) (limit : h ≤ 24) (places : 2 * h ≤ n) (many : 1 < d) where
  two : 2 ≤ d
  two = omega (arith, many)

  four_places : 4 ≤ h
  four_places = let l : 2 * 2 ≤ d * d = Nat.mul-le-mul two two in omega (arith, l, square)

  half : 2 * q ≤ h
  half = subst (λ k. 2 * q ≤ k) (sym split) (Nat.mul-le-mul_right q two)

  even : d ≤ 2 → h ≡ 2 * q
  even l = let e : d ≡ 2 = omega (arith, l, two) in subst (λ k. h ≡ k * q) e split

  nine_places : 2 < d → 9 ≤ h
  nine_places l = let m : 3 * 3 ≤ d * d = (let t : 3 ≤ d = omega (arith, l) in Nat.mul-le-mul t t) in omega (arith, m, square)

  -- no more rows than the root of the number of places
  rows_limited : (k : ℕ) → h < (k + 1) * (k + 1) → d ≤ k
  rows_limited k l = elim (cases_lt k d) [
    | inl m ↦ (let t : k + 1 ≤ d = omega (arith, m) in let s : (k + 1) * (k + 1) ≤ d * d = Nat.mul-le-mul t t in absurd (omega (arith, s, square, l)))
    | inr m ↦ m
  ]

  product : (s a b c : ℕ) → h ≤ a → d ≤ b → s ≤ c → h * (d * s) ≤ a * (b * c)
  product s a b c p q r = Nat.mul-le-mul p (Nat.mul-le-mul q r)

  pub few_extension : (s : ℕ) → AreFew h d s → AreFew n d (h * (d * s))
  few_extension s few = record {
    single = λ a. absurd (omega (arith, two, a));
    pair_below_8 = λ a b. absurd (omega (arith, four_places, places, b));
    pair_below_16 = λ a b. product s 6 2 1 (let e = even a in omega (arith, e, places, b)) a (few.pair_below_8 a (omega (arith, places, b)));
    pair_below_25 = λ a b. product s 12 2 12 (omega (arith, places, b)) a (few.pair_below_16 a (omega (arith, places, b)));
    more_below_16 = λ a b. absurd (let l = nine_places a in omega (arith, l, places, b));
    more_below_25 = λ a b. (let l : h ≤ 12 = omega (arith, places, b) in
        product s 12 3 1 l (rows_limited 3 (omega (arith, l))) (few.more_below_16 a (omega (arith, l))));
    always = elim (cases_lt 2 d) [
      | inl m ↦ (let l : h * (d * s) ≤ 24 * (4 * 36) = product s 24 4 36 limit (rows_limited 4 (omega (arith, limit)))
          (few.more_below_25 m (omega (arith, limit))) in omega (arith, l))
      | inr m ↦ product s 24 2 288 limit m (few.pair_below_25 m (omega (arith, limit)))
    ];
  }

  over_product : (e a b : ℕ) → q ≤ a → e ≤ b → q * e ≤ a * b
  over_product e a b p r = Nat.mul-le-mul p r

  pub small_extension : (e : ℕ) → IsSmallOver h e → IsSmallOver n (q * e)
  small_extension e small =
      let m = half in
      record {
        below_8 = λ a. absurd (omega (arith, four_places, places, a));
        below_16 = λ a. over_product e 3 1 (omega (arith, m, places, a)) (small.below_8 (omega (arith, places, a)));
        below_25 = λ a. over_product e 6 3 (omega (arith, m, places, a)) (small.below_16 (omega (arith, places, a)));
        always = over_product e 12 18 (omega (arith, m, limit)) (small.below_25 (omega (arith, limit)));
      }

-- a factor of a positive number
pub factor_positive : (d q h : ℕ) → 0 < h → h ≡ d * q → 0 < q
factor_positive d q h some split = elim (cases_lt 0 q) [
  | inl l ↦ l
  | inr n ↦ (let e : q ≡ 0 = omega (arith, n) in let z : d * q ≡ d * 0 = ap (λ k. d * k) e in absurd (omega (arith, z, some, split)))
]

-- y is 1 over q, where h is d q and h y is d
pub one_over : (N h d q : ℕ) (positive : 0 < N) (y : Number N) → 0 < d → 0 < q → h ≡ d * q
    → (numbers N).mul (whole (numbers N) h) y ≡ whole (numbers N) d → IsRootSum N 1 q y
one_over N h d q positive y some rest split e =
    let R = numbers N in
    let w : R.mul (whole R d) (R.mul (whole R q) y) ≡ R.mul (whole R d) R.one =
    sym (R.mul_assoc (whole R d) (whole R q) y) ∙ ap (λ k. R.mul k y) (sym (whole-mul R d q) ∙ ap (whole R) (sym split)) ∙ e
    ∙ sym (one-mul R (whole R d)) ∙ R.mul_comm R.one (whole R d) in
    let u : R.mul (whole R q) y ≡ R.one =
    mul_cancel (number_field N positive) (whole R d) (R.mul (whole R q) y) R.one (whole-ne-zero (number_field N positive) d some) w in
    let one = IsRootSum-one N in
    record {
      positive = rest;
      powers = one.powers;
      few = one.few;
      multiple = u ∙ sym (one-mul R R.one) ∙ ap (λ k. R.mul k R.one) (sym (whole-one R)) ∙ one.multiple;
    }

one_entry : (N : ℕ) (a : Matrix (numbers N) 1 1) → IsRootSum N 1 1 (trace a) → IsWithin N 1 1 a
unfolding trace sum
one_entry N a t = record {
  positive = omega arith;
  entry = λ i j. subst (IsRootSum N 1 1) ((numbers N).add-zero (a.at first first) ∙ ap₂ a.at (only_first i) (only_first j)) t;
}

-- the entry of a matrix of one row is its trace
pub single_within : (N d : ℕ) (a : Matrix (numbers N) d d) → d ≡ 1 → IsRootSum N d 1 (trace a) → IsWithin N 1 1 a
single_within N d a e t = subst (λ k. (b : Matrix (numbers N) k k) → IsRootSum N k 1 (trace b) → IsWithin N 1 1 b) (sym e) (one_entry N) a t

module _ {S : Type 0} {G : Ghosts S} (M : ℕ) (P : FactorSystem (numbers M)) {d : ℕ} (D : Representation P d) (f : Family S G) (r : IsRead M P D f) where
  -- the matrices that a family has are those that it is read as
  pub read_within : (s e : ℕ) → ((i : Fin P.places) → IsWithin M s e (matrix_at M f.dim f.mats.items i)) → (i : Fin P.places) → IsWithin M s e (D.at i)
  read_within s e within i = subst (IsWithin M s e) (r.matrices i)
      (subst (λ k. IsWithin M s e (matrix_at M k f.mats.items i)) r.size (within i))

  pub sharply_sized : d ∣ P.places → (s e : ℕ) → AreFew P.places d s → IsSmallOver P.places e → ((i : Fin P.places) → IsWithin M s e (D.at i))
      → ((i : Fin P.places) → IsRootSum M d 1 (trace (D.at i))) → IsSharplySized M P.places f
  sharply_sized divides s e few small within traces = record {
    divides = subst (λ k. k ∣ P.places) (sym r.size) divides;
    powers = s;
    over = e;
    few = subst (λ k. AreFew P.places k s) (sym r.size) few;
    small = small;
    entries = λ i. subst (λ k. IsWithin M s e (matrix_at M k f.mats.items i)) (sym r.size) (subst (IsWithin M s e) (sym (r.matrices i)) (within i));
    traces = λ i. subst (λ k. IsRootSum M k 1 (trace (matrix_at M k f.mats.items i))) (sym r.size)
        (subst (λ (a : Matrix (numbers M) d d). IsRootSum M d 1 (trace a)) (sym (r.matrices i)) (traces i));
  }

-- the sizes of a family on at most 48 places
pub sharp_sizes : {S : Type 0} {G : Ghosts S} (M n : ℕ) (f : Family S G) → 0 < n → n ≤ 48 → IsSharplySized M n f → HasSharpSizes M n f
sharp_sizes M n f some limit sharp =
    let rows : f.dim ≤ 48 = Nat.le_trans (Nat.le_of_dvd some sharp.divides) limit in
    let over : sharp.over * f.dim ≤ 216 * 48 = Nat.mul-le-mul sharp.small.always rows in
    record {
      denominator = sharp.over;
      small = (let l : sharp.over ≤ 216 = sharp.small.always in omega (arith, l));
      entries = λ i. within-more M f.dim f.dim sharp.powers 13824 sharp.over (matrix_at M f.dim f.mats.items i) sharp.few.always (sharp.entries i);
      traces = λ i. (let trace_at = trace (matrix_at M f.dim f.mats.items i) in
          subst (λ k. IsRootSum M 13824 k trace_at) (Nat.mul-one sharp.over)
          (IsRootSum-more M 13824 (omega (arith, over)) (IsRootSum-many M sharp.over (sharp.entries i).positive (sharp.traces i))));
    }

pub all_sharp : {S : Type 0} {G : Ghosts S} (M n : ℕ) (fs : List (Family S G)) → 0 < n → n ≤ 48 → AreSized M n fs → All (λ f. HasSharpSizes M n f) fs
all_sharp M n fs some limit sized = λ a e l. sharp_sizes M n _ some limit (sized a e l).sharp
