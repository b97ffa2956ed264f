-- The matrix of an extension as a multiple of the sum of its terms, and the sizes of both.
--   root_over                a power of z of the order N among the numbers of the order M
--   outer_count              the larger table has as many places as the index times the members
--   term_is                  a term is the phase times the trace times the inverse of a matrix
--   ratio_is                 d over h
--   matrix_is                d over h times the sum of the terms is the matrix
--   member_within            sizes of the matrices at the members
--   term_few, sum_few, total_few      of the terms and of sums of them, from those of the matrices at the members
--   term_within, sum_within, total_within, extension_within, extension_sized      of the terms, of sums of them, and of the extension
--   over_quotient, extension_sharp    sharp sizes of the extension
use Rattle.std.proofs.Common.{◌≡◌, sym, ◌∙◌, ap, ap₂, subst, ℕ, ◌-◌, ◌*◌, ◌/◌, ◌%◌, ◌<◌, ◌≤◌, ◌⊎◌, inl, inr, arith}
use native.Mathlib.Nat as Nat
use Rattle.std.specs.Int.{◌∣◌}
use Rattle.std.proofs.lemmas.Bool.{cases_lt}
use mathlib.Core.Path.{fun_ext}
use Rattle.irr_algebra.specs.Ring.{whole}
use Rattle.irr_algebra.specs.Fin.{Fin}
use Rattle.irr_algebra.specs.Matrix.{Matrix, scale, total, trace}
use Rattle.irr_algebra.proofs.Fields.{mul-inverse_left, mul_cancel, whole-ne-zero, whole_inj}
use Rattle.irr_algebra.proofs.Indices.{to_nat-lt}
use Rattle.irr_algebra.proofs.Matrices.{scale-scale}
use Rattle.irr_algebra.proofs.Whole.{whole-mul}
use Rattle.irr_number.specs.Number.{Number, numbers, root_power}
use Rattle.irr_number.proofs.Lifts.{lift-root_power}
use Rattle.irr_number.proofs.NumberField.{number_field}
use Rattle.irr_number.proofs.Primes.{cofactor}
use Rattle.irr_number.proofs.RootPowers.{root_power-mod, root_power-mul}
use Rattle.irr_number.specs.Lift.{lift}
use Rattle.irr_theory.specs.FactorSystem.{Representation}
use Rattle.irr_theory.specs.Traces.{back}
use Rattle.irr_clifford.specs.FromTraces.{matrix_from_traces}
use Rattle.irr_clifford.proofs.FromTraces.{extension-from_traces}
use Rattle.irr_clifford.proofs.Squares.{places-index}
use Rattle.irr_canonical.specs.RootSum.{IsRootSum}
use Rattle.irr_canonical.proofs.RootSums.{IsRootSum-mul, IsRootSum-root}
use Rattle.irr_cyc.specs.declared.scalars.Scalar.{Ghosts}
use Rattle.irr_mat.specs.Size.{IsWithin}
use Rattle.irr_mat.proofs.Bounds.{within-more, within-scale}
use Rattle.irr_level.specs.Part.{as_subgroup}
use Rattle.irr_level.specs.Scalar.{phase_number}
use Rattle.irr_rep.specs.declared.family.Family.{Family}
use Rattle.irr_rep.specs.Family.{matrix_at}
use Rattle.irr_rep.specs.Twisted.{phase_table, place_count}
use Rattle.irr_rep.proofs.TraceRoots.{trace-IsRootSum}
use Rattle.irr_climb.specs.declared.step.Step.{Step}
use Rattle.irr_climb.specs.Extensions.{term_exponent, trace_factor, trace_term}
use Rattle.irr_climb.specs.Families.{IsRead}
use Rattle.irr_climb.specs.Sizes.{AreFew, IsSharplySized, IsSized, size_bound}
use Rattle.irr_climb.specs.Steps.{IsFixedFamily, IsStep, large, small}
use Rattle.irr_climb.proofs.ExtensionSizes.{ratio_powers, size_grows, square_bound}
use Rattle.irr_climb.proofs.ExtensionSums.{first_all, first_terms, first_within}
use Rattle.irr_climb.proofs.SharpSizes.{factor_positive, few_extension, few_one, one_over, read_within, sharply_sized, single_within, small_extension, small_one}

-- z^x for z of the order N, among the numbers of the order M
pub root_over : (N M : ℕ) (positive : 0 < N) (v : N ∣ M) (x : ℕ) → root_power M (x % N * (M / N)) ≡ (lift N M positive v).map (root_power N x)
root_over N M positive v x = ap (root_power M) (Nat.mul_comm (x % N) (M / N)) ∙ sym (lift-root_power N M positive v (x % N))
    ∙ ap (lift N M positive v).map (root_power-mod N x)

module _ {M : ℕ} {step : Step} (is : IsStep M step) where
  -- the number of members, and of places
  abbrev h : ℕ
  h = place_count step.inner

  abbrev o : ℕ
  o = place_count step.outer

  pub outer_count : o ≡ is.quotient.index * h
  outer_count = whole_inj (number_field M is.positive) o (is.quotient.index * h)
      (places-index (numbers M) is.quotient ∙ sym (whole-mul (numbers M) is.quotient.index h))

  pub twice_members : 2 * h ≤ o
  twice_members = subst (λ k. 2 * h ≤ k) (sym outer_count) (Nat.mul-le-mul_right h (above is.two_or_three))
    where
      above : (is.quotient.index ≡ 2) ⊎ (is.quotient.index ≡ 3) → 2 ≤ is.quotient.index
      above (inl e) = omega (arith, e)
      above (inr e) = omega (arith, e)

  pub members_positive : 0 < h
  members_positive = let l = to_nat-lt (phase_table step.inner).start in omega (arith, l)

  term_phase : (x : Fin o) (m : Fin h) → phase_number (phase_table step.outer) M (term_exponent is x m)
      ≡ (numbers M).mul ((large is).phase x (is.part.place m)) ((small is).phase-invertible m ((phase_table step.inner).opposite m)).inverse
  term_phase x m =
      let T = phase_table step.outer in
      let S = phase_table step.inner in
      let a = T.exponent x (is.part.place m) in
      let b = (S.order - 1) * S.exponent m (S.opposite m) in
      ap (root_power M) (Nat.mul-add (M / T.order) a b) ∙ sym (root_power-mul M (M / T.order * a) (M / T.order * b))
      ∙ ap₂ (numbers M).mul (sym (lift-root_power T.order M T.order_positive is.outer_divides a))
      (ap (λ k. root_power M (M / k * b)) (sym is.same_order) ∙ sym (lift-root_power S.order M S.order_positive is.inner_divides b))

  swap : (p i t : Number M) → (numbers M).mul ((numbers M).mul p i) t ≡ (numbers M).mul ((numbers M).mul p t) i
  swap p i t = simp ((numbers M).mul_assoc, (numbers M).mul_comm)

  module _ {d : ℕ} (D : Representation (small is) d) (E : Representation (large is) d) (x : Fin o) where
    abbrev traced : Fin h → Number M
    traced m = (numbers M).mul ((large is).phase x (is.part.place m)) (trace (E.at ((large is).product x (is.part.place m))))

    pub term_is : (m : Fin h) → trace_term is D E x m ≡ scale (numbers M) (traced m) (back D m)
    unfolding trace_term trace_factor back
    term_is m =
        let p = (large is).phase x (is.part.place m) in
        let i = ((small is).phase-invertible m ((phase_table step.inner).opposite m)).inverse in
        let t = trace (E.at ((large is).product x (is.part.place m))) in
        let a = D.at ((phase_table step.inner).opposite m) in
        ap (λ k. scale (numbers M) ((numbers M).mul k t) a) (term_phase x m) ∙ ap (λ k. scale (numbers M) k a) (swap p i t)
        ∙ sym (scale-scale (numbers M) ((numbers M).mul p t) i a)

    -- a term is a sum of d powers times a matrix at a member
    pub factor_powers : (m : Fin h) → IsRootSum M (1 * d) (1 * 1) (trace_factor is E x m)
    unfolding trace_factor
    factor_powers m = IsRootSum-mul M (IsRootSum-root M (M / (phase_table step.outer).order * term_exponent is x m))
        (trace-IsRootSum M is.positive (phase_table step.outer) is.outer_divides E ((phase_table step.outer).product x (is.part.place m)))

    ratio_is : 0 < d → (y : Number M) → (numbers M).mul (whole (numbers M) h) y ≡ whole (numbers M) d
        → y ≡ (numbers M).mul (whole (numbers M) d) ((number_field M is.positive).inverse (whole (numbers M) h))
    ratio_is l y e =
        let F = number_field M is.positive in
        let n = whole-ne-zero F h members_positive in
        let w = whole (numbers M) h in
        let v = whole (numbers M) d in
        mul_cancel F w y ((numbers M).mul v (F.inverse w)) n
        (e ∙ sym (ap ((numbers M).mul w) ((numbers M).mul_comm v (F.inverse w)) ∙ mul-inverse_left F w v n))

-- matrices at the members whose entries are sums of s powers over den
module _ {M : ℕ} {step : Step} (is : IsStep M step) {d : ℕ} (D : Representation (small is) d) (E : Representation (large is) d) (s den : ℕ)
    (within : (i : Fin (place_count step.inner)) → IsWithin M s den (D.at i)) where
  term_few : (x : Fin (place_count step.outer)) (m : Fin (place_count step.inner)) → IsWithin M (d * s) den (trace_term is D E x m)
  unfolding trace_term
  term_few x m =
      let w = within ((phase_table step.inner).opposite m) in
      let p : 1 * d ≡ d = omega arith in
      let q : 1 * 1 * den ≡ den = omega arith in
      subst (λ k. IsWithin M (k * s) den (trace_term is D E x m)) p
      (subst (λ k. IsWithin M (1 * d * s) k (trace_term is D E x m)) q
      (within-scale M d d (1 * d) (1 * 1) s den (trace_factor is E x m) (D.at ((phase_table step.inner).opposite m)) (factor_powers is D E x m) w))

  sum_few : (x : Fin (place_count step.outer)) (k : ℕ) → ((q : ℕ) → q < k → q < place_count step.inner)
      → IsWithin M (k * (d * s)) den (first_terms M (trace_term is D E x) k)
  sum_few x k below = first_within M (trace_term is D E x) (d * s) den (term_few x (phase_table step.inner).start).positive (term_few x) k below

  total_few : (x : Fin (place_count step.outer))
      → IsWithin M (place_count step.inner * (d * s)) den (total (place_count step.inner) (trace_term is D E x))
  total_few x = subst (IsWithin M (place_count step.inner * (d * s)) den) (first_all M (trace_term is D E x)) (sum_few x (place_count step.inner) (λ q l. l))

module _ {S : Type 0} {G : Ghosts S} {M : ℕ} {step : Step} (is : IsStep M step) {d : ℕ} (D : Representation (small is) d) (E : Representation
    (large is) d)
    {f : Family S G} (fixed : IsFixedFamily is D f) (at-member : (n : Fin (place_count step.inner)) → E.at (is.part.place n) ≡ D.at n) where
  -- d over h times the sum of the terms is the matrix
  pub matrix_is : (x : Fin (place_count step.outer)) (y : Number M)
      → (numbers M).mul (whole (numbers M) (place_count step.inner)) y ≡ whole (numbers M) d
      → scale (numbers M) y (total (place_count step.inner) (trace_term is D E x)) ≡ E.at x
  unfolding matrix_from_traces
  matrix_is x y r =
      ap₂ (λ k (g : Fin (place_count step.inner) → Matrix (numbers M) d d). scale (numbers M) k (total (place_count step.inner) g))
      (ratio_is is D E x fixed.positive y r) (fun_ext (λ m. term_is is D E x m))
      ∙ sym (extension-from_traces (number_field M is.positive) (as_subgroup is.part) D fixed.positive fixed.simple E at-member x)

  abbrev pub bound : ℕ
  bound = size_bound (place_count step.inner)

  abbrev pub denominator : ℕ
  denominator = fixed.sized.denominator

  pub member_within : (i : Fin (place_count step.inner)) → IsWithin M (bound * bound) denominator (D.at i)
  member_within i = subst (IsWithin M (bound * bound) denominator) (fixed.read.matrices i)
      (subst (λ k. IsWithin M (bound * bound) denominator (matrix_at M k f.mats.items i)) fixed.read.size (fixed.sized.within i))

  pub term_within : (x : Fin (place_count step.outer)) (m : Fin (place_count step.inner)) → IsWithin M (d * (bound * bound)) denominator
      (trace_term is D E x m)
  term_within x m = term_few is D E (bound * bound) denominator member_within x m

  pub sum_within : (x : Fin (place_count step.outer)) (k : ℕ) → ((q : ℕ) → q < k → q < place_count step.inner)
      → IsWithin M (k * (d * (bound * bound))) denominator (first_terms M (trace_term is D E x) k)
  sum_within x k below = sum_few is D E (bound * bound) denominator member_within x k below

  pub total_within : (x : Fin (place_count step.outer))
      → IsWithin M (place_count step.inner * (d * (bound * bound))) denominator (total (place_count step.inner) (trace_term is D E x))
  total_within x = total_few is D E (bound * bound) denominator member_within x

  pub ratio_within : (y : Number M) → (numbers M).mul (whole (numbers M) (place_count step.inner)) y ≡ whole (numbers M) d
      → IsRootSum M d (place_count step.inner) y
  ratio_within y r = ratio_powers M d (place_count step.inner) y (members_positive is) r

  -- d over h
  inverse_ratio : Number M
  inverse_ratio = (numbers M).mul (whole (numbers M) d) ((number_field M is.positive).inverse (whole (numbers M) (place_count step.inner)))

  inverse_ratio-is : (numbers M).mul (whole (numbers M) (place_count step.inner)) inverse_ratio ≡ whole (numbers M) d
  unfolding inverse_ratio
  inverse_ratio-is =
      let F = number_field M is.positive in
      let w = whole (numbers M) (place_count step.inner) in
      let v = whole (numbers M) d in
      ap ((numbers M).mul w) ((numbers M).mul_comm v (F.inverse w)) ∙ mul-inverse_left F w v (whole-ne-zero F (place_count step.inner)
      (members_positive is))

  pub extension_within : (x : Fin (place_count step.outer))
      → IsWithin M (d * (place_count step.inner * (d * (bound * bound)))) (place_count step.inner * denominator) (E.at x)
  extension_within x = subst (IsWithin M (d * (place_count step.inner * (d * (bound * bound)))) (place_count step.inner * denominator))
      (matrix_is x inverse_ratio inverse_ratio-is)
      (within-scale M d d d (place_count step.inner) (place_count step.inner * (d * (bound * bound))) denominator inverse_ratio
      (total (place_count step.inner) (trace_term is D E x)) (ratio_within inverse_ratio inverse_ratio-is) (total_within x))

  abbrev sharp : IsSharplySized M (place_count step.inner) f
  sharp = fixed.sized.sharp

  rows_divide : d ∣ place_count step.inner
  rows_divide = subst (λ k. k ∣ place_count step.inner) fixed.read.size sharp.divides

  few_of_family : AreFew (place_count step.inner) d sharp.powers
  few_of_family = subst (λ k. AreFew (place_count step.inner) k sharp.powers) fixed.read.size sharp.few

  divides_places : d ∣ place_count step.outer
  divides_places = subst (λ k. d ∣ k) (sym (outer_count is)) (Nat.dvd-mul_left_of_dvd d rows_divide is.quotient.index)

  -- over h/d, where d q is h
  over_quotient : (q : ℕ) → 0 < q → place_count step.inner ≡ d * q → (x : Fin (place_count step.outer))
      → IsWithin M (place_count step.inner * (d * sharp.powers)) (q * sharp.over) (E.at x)
  over_quotient q some split x =
      let s = place_count step.inner * (d * sharp.powers) in
      subst (λ k. IsWithin M k (q * sharp.over) (E.at x)) (Nat.one-mul s)
      (subst (IsWithin M (1 * s) (q * sharp.over)) (matrix_is x inverse_ratio inverse_ratio-is)
      (within-scale M d d 1 q s sharp.over inverse_ratio (total (place_count step.inner) (trace_term is D E x))
      (one_over M (place_count step.inner) d q is.positive inverse_ratio fixed.positive some split inverse_ratio-is)
      (total_few is D E sharp.powers sharp.over (read_within M (small is) D f fixed.read sharp.powers sharp.over sharp.entries) x)))

  trace_powers : (x : Fin (place_count step.outer)) → IsRootSum M d 1 (trace (E.at x))
  trace_powers x = trace-IsRootSum M is.positive (phase_table step.outer) is.outer_divides E x

  extension_sharp : place_count step.inner ≤ 24 → (k : Family S G) → IsRead M (large is) E k → IsSharplySized M (place_count step.outer) k
  extension_sharp few k r = elim (cases_lt 1 d) [
    | inl many ↦ (
        let c = cofactor d (place_count step.inner) rows_divide in
        let some : 0 < c.0 = factor_positive d c.0 (place_count step.inner) (members_positive is) c.1 in
        let o = place_count step.outer in
        sharply_sized M (large is) E k r divides_places (place_count step.inner * (d * sharp.powers)) (c.0 * sharp.over)
        (few_extension (place_count step.inner) d c.0 o c.1 fixed.few few (twice_members is) many sharp.powers few_of_family)
        (small_extension (place_count step.inner) d c.0 o c.1 fixed.few few (twice_members is) many sharp.over sharp.small)
        (over_quotient c.0 some c.1) trace_powers)
    | inr single ↦ (
        let one : d ≡ 1 = (let l = fixed.positive in omega (arith, l, single)) in
        let o = place_count step.outer in
        sharply_sized M (large is) E k r divides_places 1 1 (few_one o d) (small_one o)
        (λ i. single_within M d (E.at i) one (trace_powers i)) trace_powers)
  ]

  -- a family with the matrices of the extension
  pub extension_sized : place_count step.inner ≤ 24 → (k : Family S G) → IsRead M (large is) E k → IsSized M (place_count step.outer) k
  extension_sized few k r =
      let B = size_bound (place_count step.outer) in
      let grows = size_grows (place_count step.inner) (place_count step.outer) (twice_members is) few in
      record {
        denominator = place_count step.inner * denominator;
        small = Nat.le_trans (Nat.mul-le-mul_left (place_count step.inner) fixed.sized.small) grows;
        within = λ i. subst (λ q. IsWithin M (B * B) (place_count step.inner * denominator) (matrix_at M q k.mats.items i)) (sym r.size)
            (subst (IsWithin M (B * B) (place_count step.inner * denominator)) (sym (r.matrices i))
            (within-more M d d (d * (place_count step.inner * (d * (bound * bound)))) (B * B) (place_count step.inner * denominator) (E.at i)
            (square_bound d (place_count step.inner) bound B fixed.few grows) (extension_within i)));
        sharp = extension_sharp few k r;
      }
