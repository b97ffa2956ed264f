-- One more row.
use Rattle.std.proofs.Common.{◌≡◌, sym, ◌∙◌, ap, subst, rules, ℕ, ℤ, ◌+◌, ◌*◌, ◌%◌, ◌<◌, ◌≤◌, ◌^◌, ◌+ℤ◌, ◌*ℤ◌, List, length, ◌++◌, take, drop, unsigned_abs, FitsSigned, to_z, of_z, arith}
use Rattle.std.proofs.lemmas.Int.{to_z-of_z}
use mir.Syntax.{w128}
use Rattle.irr_number.specs.Element.{delta, weighted_sum}
use Rattle.irr_number.specs.Integers.{integers}
use Rattle.irr_canonical.specs.Coefficient.{total_below}
use Rattle.irr_cyc.specs.Form.{at}
use Rattle.irr_cyc.proofs.Placed.{rows, rows-all, rows-bound, rows-next, rows-step, rows-zero}
use Rattle.irr_cyc.proofs.Values.{written-back}
use Rattle.irr_cyc.proofs.polynomials.product.Goals as goal

pub loop-i-init : goal.loop-i-init
loop-i-init c = record {
  len = c.in_ok-sums.ensures.len;
  value = λ k lk. c.in_ok-sums.ensures.zeros k ∙ sym (rows-zero (length c.args.xs.now) (at c.args.xs.now) (at c.args.ys.now) k);
}

-- what the next row needs
next-small : (slice sums : List ℤ) (n : ℕ) (f g : ℕ → ℤ) (x : ℤ) (i : ℕ) → slice ≡ sums → length sums ≡ n → x ≡ f i → i < n → ((k : ℕ) → k < n → at sums k ≡ rows n f g i k)
    → total_below n (λ j. unsigned_abs (f j)) * total_below n (λ j. unsigned_abs (g j)) ≤ 2 ^ 100
    → (k : ℕ) → k < length slice → unsigned_abs (at slice k) + unsigned_abs x * total_below (length slice) (λ j. unsigned_abs (g j)) ≤ 2 ^ 100
next-small slice sums n f g x i e len ex lt value h =
    let size : length slice ≡ n = ap length e ∙ len in
    subst (λ m. (k : ℕ) → k < m → unsigned_abs (at slice k) + unsigned_abs x * total_below m (λ j. unsigned_abs (g j)) ≤ 2 ^ 100) (sym size)
    (λ k lk. subst (λ m. m ≤ 2 ^ 100) (λ t. unsigned_abs (sym (ap (λ ys. at ys k) e ∙ value k lk) t) + unsigned_abs (sym ex t) * total_below n (λ j. unsigned_abs (g j))) (rows-next n f g i k (2 ^ 100) lt h))

pub add_turned-requires-clause-small : goal.add_turned-requires-clause-small
add_turned-requires-clause-small c =
    let fx : FitsSigned w128 (at c.args.xs.now c.loop-i.i) = search rules in
    next-small c.as_mut_slice.result.now c.loop-i.sums.items (length c.args.xs.now) (at c.args.xs.now) (at c.args.ys.now) (to_z w128 (of_z w128 (at c.args.xs.now c.loop-i.i))) c.loop-i.i
    c.as_mut_slice.ensures.value c.loop-i.invariant.len (to_z-of_z w128 (at c.args.xs.now c.loop-i.i) fx) c.loop-i-test.true c.loop-i.invariant.value c.requires.small

-- the sums after the row
next-rows : (slice sums new : List ℤ) (n : ℕ) (f g : ℕ → ℤ) (x : ℤ) (i : ℕ) → slice ≡ sums → length sums ≡ n → x ≡ f i → ((k : ℕ) → k < n → at sums k ≡ rows n f g i k)
    → ((k : ℕ) → k < length slice → at new k ≡ at slice k +ℤ (x *ℤ weighted_sum (length slice) g (λ j. delta integers ((i + j) % length slice) k)))
    → (k : ℕ) → k < n → at new k ≡ rows n f g (i + 1) k
next-rows slice sums new n f g x i e len ex value h =
    let size : length slice ≡ n = ap length e ∙ len in
    let s : (k : ℕ) → k < n → at new k ≡ at slice k +ℤ (x *ℤ weighted_sum n g (λ j. delta integers ((i + j) % n) k)) = subst (λ m. (k : ℕ) → k < m → at new k ≡ at slice k +ℤ (x *ℤ weighted_sum m g (λ j. delta integers ((i + j) % m) k))) size h in
    λ k lk. s k lk ∙ (λ t. (ap (λ ys. at ys k) e ∙ value k lk) t +ℤ (ex t *ℤ weighted_sum n g (λ j. delta integers ((i + j) % n) k))) ∙ sym (rows-step n f g i k)

pub loop-i-preserved : goal.loop-i-preserved
loop-i-preserved c =
    let fx : FitsSigned w128 (at c.args.xs.now c.loop-i.i) = search rules in
    let back : take c.loop-i.sums.len (c.add_turned.new.sums ++ drop (length c.add_turned.new.sums) c.loop-i.sums.items) ≡ c.add_turned.new.sums =
    written-back c.loop-i.sums.items c.add_turned.new.sums c.loop-i.sums.len (c.add_turned.auto.sums ∙ c.as_mut_slice.ensures.len) in
    record {
      len = ap length back ∙ c.add_turned.auto.sums ∙ ap length c.as_mut_slice.ensures.value ∙ c.loop-i.invariant.len;
      value = λ k lk. ap (λ ys. at ys k) back ∙ next-rows c.as_mut_slice.result.now c.loop-i.sums.items c.add_turned.new.sums (length c.args.xs.now) (at c.args.xs.now) (at c.args.ys.now) (to_z w128 (of_z w128 (at c.args.xs.now c.loop-i.i))) c.loop-i.i
          c.as_mut_slice.ensures.value c.loop-i.invariant.len (to_z-of_z w128 (at c.args.xs.now c.loop-i.i) fx) c.loop-i.invariant.value c.add_turned.ensures k lk;
    }

pub returns-clause-value : goal.returns-clause-value
returns-clause-value c = λ k lk.
    let all : c.loop-i.i ≡ length c.args.xs.now = omega (arith, c.loop-i-test.false, c.loop-i.auto.i-end) in
    c.loop-i.invariant.value k lk ∙ ap (λ i. rows (length c.args.xs.now) (at c.args.xs.now) (at c.args.ys.now) i k) all ∙ rows-all (length c.args.xs.now) (at c.args.xs.now) (at c.args.ys.now) k

pub returns-clause-small : goal.returns-clause-small
returns-clause-small c = λ k lk.
    let all : c.loop-i.i ≡ length c.args.xs.now = omega (arith, c.loop-i-test.false, c.loop-i.auto.i-end) in
    let is : unsigned_abs (at c.loop-i.sums.items k) ≡ unsigned_abs (rows (length c.args.xs.now) (at c.args.xs.now) (at c.args.ys.now) (length c.args.xs.now) k) = ap unsigned_abs (c.loop-i.invariant.value k lk ∙ ap (λ i. rows (length c.args.xs.now) (at c.args.xs.now) (at c.args.ys.now) i k) all) in
    omega (arith, is, rows-bound (length c.args.xs.now) (at c.args.xs.now) (at c.args.ys.now) (length c.args.xs.now) k, c.requires.small)
