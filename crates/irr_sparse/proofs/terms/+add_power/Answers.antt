-- The term where no prime is left, the same power where it is no top power, and the others of its class.
use Rattle.std.proofs.Common.{rules, ◌≡◌, sym, ◌∙◌, ap, subst, ℕ, ℤ, pos, ◌+◌, ◌*◌, ◌-◌, ◌<◌, ◌≤◌, ◌^◌, ◌-ℤ◌, FitsSigned, take, drop, Bool, true, false, ◌==◌, length, slice_index_or, neg_ℤ, unsigned_abs, to_z, of_z, arith}
use mir.Syntax.{w128}
use native.Mathlib.Nat as Nat
use Rattle.std.proofs.lemmas.Grind.{common_steps}
use Rattle.irr_number.specs.Number.{numbers}
use Rattle.irr_rational.specs.Integer.{integer}
use Rattle.irr_canonical.proofs.Sizes.{unsigned_abs-neg}
use Rattle.irr_cyc.specs.Terms.{terms_sum}
use Rattle.irr_sparse.specs.Parts.{IsFreeOutside, weight}
use Rattle.irr_sparse.specs.TermList.{IsTerm, total}
use Rattle.irr_sparse.proofs.Lists.{terms-increasing}
use Rattle.irr_sparse.proofs.Powers.{first_part, last_term, prime-pos, rest_are, rest_free, skip_le, turn_below, turn_free, turn_most, turn_small, turns-end, turns-next, turns-start, turns_most, weight-nil, weight-pos}
use Rattle.irr_sparse.proofs.Sums.{term_value}
use Rattle.irr_sparse.proofs.Tops.{others}
use Rattle.irr_sparse.proofs.Words.{neg-ne-zero, neg_fits, neg_read}
use Rattle.irr_cyc.proofs.Written.{kept}
use Rattle.irr_sparse.proofs.terms.+add_power.Goals as goal

pub add_term-requires-clause-increasing : goal.add_term-requires-clause-increasing
add_term-requires-clause-increasing m c = terms-increasing c.args.n 0 c.args.terms.now.items c.requires.terms

positive : (j n : ℕ) → j < n → 0 < n
positive j n h = omega arith

some_parts : (n : ℕ) (b : Bool) → b ≡ (n == 0) → b ≡ false → 0 < n
some_parts n b e f = grind (arith, common_steps)

no_parts : (n : ℕ) (b : Bool) → b ≡ (n == 0) → b ≡ true → n ≡ 0
no_parts n b e f = grind (arith, common_steps)

-- what is read is the coefficient
small : (c : ℤ) (t w : ℕ) → 1 ≤ w → t + unsigned_abs c * w < 2 ^ 126 → unsigned_abs c < 2 ^ 126
small c t w one h = omega (arith, h, Nat.mul-le-mul_left (unsigned_abs c) one)

small_read : (c : ℤ) (t w : ℕ) → 1 ≤ w → t + unsigned_abs c * w < 2 ^ 126 → to_z w128 (of_z w128 c) ≡ c
small_read c t w one h = let s : unsigned_abs c < 2 ^ 126 = small c t w one h in kept c (omega arith)

times_one : (t a w : ℕ) → w ≡ 1 → t + a * w ≡ t + a
times_one t a w e = ap (λ x. t + a * x) e ∙ (let s : t + a * 1 ≡ t + a = omega arith in s)

pub add_term-requires-clause-small : goal.add_term-requires-clause-small
add_term-requires-clause-small m c =
    let none : length c.args.parts.now ≡ 0 = no_parts (length c.args.parts.now) c.is_empty.result c.is_empty.ensures c.if-is_empty.true in
    let r : to_z w128 (of_z w128 c.args.coefficient) ≡ c.args.coefficient = small_read c.args.coefficient (total c.args.terms.now.items) (weight c.args.parts.now) (weight-pos c.args.n c.args.parts.now c.requires.parts) c.requires.small in
    subst (λ x. total c.args.terms.now.items + unsigned_abs x < 2 ^ 126) (sym r)
    (subst (λ k. k < 2 ^ 126) (times_one (total c.args.terms.now.items) (unsigned_abs c.args.coefficient) (weight c.args.parts.now) (weight-nil c.args.parts.now none)) c.requires.small)

pub returns-then-is_empty-clause-terms : goal.returns-then-is_empty-clause-terms
returns-then-is_empty-clause-terms m c =
    let none : length c.args.parts.now ≡ 0 = no_parts (length c.args.parts.now) c.is_empty.result c.is_empty.ensures c.if-is_empty.true in
    let r : to_z w128 (of_z w128 c.args.coefficient) ≡ c.args.coefficient = small_read c.args.coefficient (total c.args.terms.now.items) (weight c.args.parts.now) (weight-pos c.args.n c.args.parts.now c.requires.parts) c.requires.small in
    c.in_ok-add_term.ensures.terms c.args.n c.requires.terms (subst (IsTerm c.args.n 0 c.args.exponent) (sym r) (last_term c.args.n c.args.exponent c.args.coefficient c.args.parts.now none c.requires.free c.requires.inside c.requires.nonzero))

pub returns-then-is_empty-clause-total : goal.returns-then-is_empty-clause-total
returns-then-is_empty-clause-total m c =
    let none : length c.args.parts.now ≡ 0 = no_parts (length c.args.parts.now) c.is_empty.result c.is_empty.ensures c.if-is_empty.true in
    let r : to_z w128 (of_z w128 c.args.coefficient) ≡ c.args.coefficient = small_read c.args.coefficient (total c.args.terms.now.items) (weight c.args.parts.now) (weight-pos c.args.n c.args.parts.now c.requires.parts) c.requires.small in
    let h : total c.add_term.new.terms.items ≤ total c.args.terms.now.items + unsigned_abs (to_z w128 (of_z w128 c.args.coefficient)) = c.in_ok-add_term.ensures.total in
    subst (λ k. total c.add_term.new.terms.items ≤ k) (ap (λ x. total c.args.terms.now.items + unsigned_abs x) r ∙ sym (times_one (total c.args.terms.now.items) (unsigned_abs c.args.coefficient) (weight c.args.parts.now) (weight-nil c.args.parts.now none))) h

pub add_power-requires : goal.add_power-requires
add_power-requires m c =
    let r : to_z w128 (of_z w128 c.args.coefficient) ≡ c.args.coefficient = small_read c.args.coefficient (total c.args.terms.now.items) (weight c.args.parts.now) (weight-pos c.args.n c.args.parts.now c.requires.parts) c.requires.small in (
      (let less : length (take (length c.args.parts.now - 1) (drop 1 c.args.parts.now)) < length c.args.parts.now = omega (arith, ap length (first_part c.args.parts.now (record { prime = 0; base = 0 }) (some_parts (length c.args.parts.now) c.is_empty.result c.is_empty.ensures c.if-is_empty.false))) in search rules),
      (
        c.requires.few,
        (
          c.requires.inside,
          (
            (λ z. c.requires.nonzero (sym r ∙ z)),
            (
              rest_are c.args.n (positive c.args.exponent c.args.n c.requires.inside) c.args.parts.now (take (length c.args.parts.now - 1) (drop 1 c.args.parts.now)) (slice_index_or c.args.parts.now 0 (record { prime = 0; base = 0 })) (first_part c.args.parts.now (record { prime = 0; base = 0 }) (some_parts (length c.args.parts.now) c.is_empty.result c.is_empty.ensures c.if-is_empty.false)) c.requires.parts,
              (
                rest_free c.args.n (positive c.args.exponent c.args.n c.requires.inside) c.args.parts.now (take (length c.args.parts.now - 1) (drop 1 c.args.parts.now)) (slice_index_or c.args.parts.now 0 (record { prime = 0; base = 0 })) (first_part c.args.parts.now (record { prime = 0; base = 0 }) (some_parts (length c.args.parts.now) c.is_empty.result c.is_empty.ensures c.if-is_empty.false)) c.requires.parts c.args.exponent c.requires.free c.if-exponent-part.true,
                (
                  c.requires.terms,
                  subst (λ x. total c.args.terms.now.items + unsigned_abs x * weight (take (length c.args.parts.now - 1) (drop 1 c.args.parts.now)) < 2 ^ 126) (sym r) (omega (arith, c.requires.small, skip_le c.args.n (positive c.args.exponent c.args.n c.requires.inside) c.args.parts.now (take (length c.args.parts.now - 1) (drop 1 c.args.parts.now)) (slice_index_or c.args.parts.now 0 (record { prime = 0; base = 0 })) (first_part c.args.parts.now (record { prime = 0; base = 0 }) (some_parts (length c.args.parts.now) c.is_empty.result c.is_empty.ensures c.if-is_empty.false)) c.requires.parts (unsigned_abs c.args.coefficient))),
                ),
              ),
            ),
          ),
        ),
      ),
    )

pub returns-then-exponent-part-clause-total : goal.returns-then-exponent-part-clause-total
returns-then-exponent-part-clause-total m c =
    let r : to_z w128 (of_z w128 c.args.coefficient) ≡ c.args.coefficient = small_read c.args.coefficient (total c.args.terms.now.items) (weight c.args.parts.now) (weight-pos c.args.n c.args.parts.now c.requires.parts) c.requires.small in
    let most : total c.add_power.new.terms.items ≤ total c.args.terms.now.items + unsigned_abs (to_z w128 (of_z w128 c.args.coefficient)) * weight (take (length c.args.parts.now - 1) (drop 1 c.args.parts.now)) = c.in_ok-add_power.ensures.total in
    omega (arith, subst (λ x. total c.add_power.new.terms.items ≤ total c.args.terms.now.items + unsigned_abs x * weight (take (length c.args.parts.now - 1) (drop 1 c.args.parts.now))) r most, skip_le c.args.n (positive c.args.exponent c.args.n c.requires.inside) c.args.parts.now (take (length c.args.parts.now - 1) (drop 1 c.args.parts.now)) (slice_index_or c.args.parts.now 0 (record { prime = 0; base = 0 })) (first_part c.args.parts.now (record { prime = 0; base = 0 }) (some_parts (length c.args.parts.now) c.is_empty.result c.is_empty.ensures c.if-is_empty.false)) c.requires.parts (unsigned_abs c.args.coefficient))

pub loop-turns-init : goal.loop-turns-init
loop-turns-init m c = record {
  terms = c.requires.terms;
  sum = turns-start c.args.n (slice_index_or c.args.parts.now 0 (record { prime = 0; base = 0 })).prime c.args.exponent (terms_sum c.args.n c.args.terms.now.items) (neg_ℤ (to_z w128 (of_z w128 c.args.coefficient)));
  most = omega arith;
}

pub turned-place-requires-clause-second : goal.turned-place-requires-clause-second
turned-place-requires-clause-second m c = turn_below c.args.n (positive c.args.exponent c.args.n c.requires.inside) c.args.parts.now (take (length c.args.parts.now - 1) (drop 1 c.args.parts.now)) (slice_index_or c.args.parts.now 0 (record { prime = 0; base = 0 })) (first_part c.args.parts.now (record { prime = 0; base = 0 }) (some_parts (length c.args.parts.now) c.is_empty.result c.is_empty.ensures c.if-is_empty.false)) c.requires.parts c.loop-turns.turns c.loop-turns-test.true

pub overflow_sub-coefficient : goal.overflow_sub-coefficient
overflow_sub-coefficient m c =
    let fits : FitsSigned w128 (pos 0 -ℤ to_z w128 (of_z w128 c.args.coefficient)) = neg_fits c.args.coefficient (small c.args.coefficient (total c.args.terms.now.items) (weight c.args.parts.now) (weight-pos c.args.n c.args.parts.now c.requires.parts) c.requires.small) in
    search rules

pub add_power-requires-in-loop-turns : goal.add_power-requires-in-loop-turns
add_power-requires-in-loop-turns m c =
    let low : unsigned_abs c.args.coefficient < 2 ^ 126 = small c.args.coefficient (total c.args.terms.now.items) (weight c.args.parts.now) (weight-pos c.args.n c.args.parts.now c.requires.parts) c.requires.small in
    let r : to_z w128 (of_z w128 c.args.coefficient) ≡ c.args.coefficient = kept c.args.coefficient (omega (arith, low)) in
    let n : to_z w128 (of_z w128 (pos 0 -ℤ to_z w128 (of_z w128 c.args.coefficient))) ≡ neg_ℤ c.args.coefficient = neg_read c.args.coefficient low in
    let size : unsigned_abs (to_z w128 (of_z w128 (pos 0 -ℤ to_z w128 (of_z w128 c.args.coefficient)))) ≡ unsigned_abs c.args.coefficient = ap unsigned_abs n ∙ unsigned_abs-neg c.args.coefficient in (
      (let less : length (take (length c.args.parts.now - 1) (drop 1 c.args.parts.now)) < length c.args.parts.now = omega (arith, ap length (first_part c.args.parts.now (record { prime = 0; base = 0 }) (some_parts (length c.args.parts.now) c.is_empty.result c.is_empty.ensures c.if-is_empty.false))) in search rules),
      (
        c.requires.few,
        (
          c.turned-place.ensures.inside,
          (
            (λ z. neg-ne-zero c.args.coefficient c.requires.nonzero (sym n ∙ z)),
            (
              rest_are c.args.n (positive c.args.exponent c.args.n c.requires.inside) c.args.parts.now (take (length c.args.parts.now - 1) (drop 1 c.args.parts.now)) (slice_index_or c.args.parts.now 0 (record { prime = 0; base = 0 })) (first_part c.args.parts.now (record { prime = 0; base = 0 }) (some_parts (length c.args.parts.now) c.is_empty.result c.is_empty.ensures c.if-is_empty.false)) c.requires.parts,
              (
                subst (IsFreeOutside c.args.n (take (length c.args.parts.now - 1) (drop 1 c.args.parts.now))) (sym c.turned-place.ensures.value)
                    (turn_free c.args.n (positive c.args.exponent c.args.n c.requires.inside) c.args.parts.now (take (length c.args.parts.now - 1) (drop 1 c.args.parts.now)) (slice_index_or c.args.parts.now 0 (record { prime = 0; base = 0 })) (first_part c.args.parts.now (record { prime = 0; base = 0 }) (some_parts (length c.args.parts.now) c.is_empty.result c.is_empty.ensures c.if-is_empty.false)) c.requires.parts c.args.exponent c.loop-turns.turns c.requires.inside c.requires.free c.if-exponent-part.false (omega (arith, c.loop-turns.auto.turns)) c.loop-turns-test.true),
                (
                  c.loop-turns.invariant.terms,
                  subst (λ k. total c.loop-turns.terms.items + k * weight (take (length c.args.parts.now - 1) (drop 1 c.args.parts.now)) < 2 ^ 126) (sym size)
                      (turn_small c.args.n (positive c.args.exponent c.args.n c.requires.inside) c.args.parts.now (take (length c.args.parts.now - 1) (drop 1 c.args.parts.now)) (slice_index_or c.args.parts.now 0 (record { prime = 0; base = 0 })) (first_part c.args.parts.now (record { prime = 0; base = 0 }) (some_parts (length c.args.parts.now) c.is_empty.result c.is_empty.ensures c.if-is_empty.false)) c.requires.parts (total c.args.terms.now.items) (total c.loop-turns.terms.items) (unsigned_abs c.args.coefficient) c.loop-turns.turns (2 ^ 126) c.loop-turns-test.true c.loop-turns.auto.turns
                      (subst (λ x. total c.loop-turns.terms.items ≤ total c.args.terms.now.items + unsigned_abs x * weight (take (length c.args.parts.now - 1) (drop 1 c.args.parts.now)) * (c.loop-turns.turns - 1)) r c.loop-turns.invariant.most) c.requires.small),
                ),
              ),
            ),
          ),
        ),
      ),
    )

pub loop-turns-preserved : goal.loop-turns-preserved
loop-turns-preserved m c =
    let low : unsigned_abs c.args.coefficient < 2 ^ 126 = small c.args.coefficient (total c.args.terms.now.items) (weight c.args.parts.now) (weight-pos c.args.n c.args.parts.now c.requires.parts) c.requires.small in
    let r : to_z w128 (of_z w128 c.args.coefficient) ≡ c.args.coefficient = kept c.args.coefficient (omega (arith, low)) in
    let n : to_z w128 (of_z w128 (pos 0 -ℤ to_z w128 (of_z w128 c.args.coefficient))) ≡ neg_ℤ c.args.coefficient = neg_read c.args.coefficient low in
    let to : to_z w128 (of_z w128 (pos 0 -ℤ to_z w128 (of_z w128 c.args.coefficient))) ≡ neg_ℤ (to_z w128 (of_z w128 c.args.coefficient)) = n ∙ ap neg_ℤ (sym r) in
    let size : unsigned_abs (to_z w128 (of_z w128 (pos 0 -ℤ to_z w128 (of_z w128 c.args.coefficient)))) ≡ unsigned_abs (to_z w128 (of_z w128 c.args.coefficient)) = ap unsigned_abs to ∙ unsigned_abs-neg (to_z w128 (of_z w128 c.args.coefficient)) in
    record {
      terms = c.in_ok-add_power-2.ensures.terms;
      sum = turns-next c.args.n (slice_index_or c.args.parts.now 0 (record { prime = 0; base = 0 })).prime c.args.exponent (terms_sum c.args.n c.args.terms.now.items) (neg_ℤ (to_z w128 (of_z w128 c.args.coefficient))) (terms_sum c.args.n c.loop-turns.terms.items)
          (terms_sum c.args.n c.add_power-in-loop-turns.new.terms.items) c.loop-turns.turns c.turned-place.result c.loop-turns.auto.turns c.turned-place.ensures.value c.loop-turns.invariant.sum
          (subst (λ k. terms_sum c.args.n c.add_power-in-loop-turns.new.terms.items ≡ (numbers c.args.n).add (terms_sum c.args.n c.loop-turns.terms.items) (term_value c.args.n c.turned-place.result k)) to c.in_ok-add_power-2.ensures.sum);
      most = turn_most c.args.n (positive c.args.exponent c.args.n c.requires.inside) c.args.parts.now (take (length c.args.parts.now - 1) (drop 1 c.args.parts.now)) (slice_index_or c.args.parts.now 0 (record { prime = 0; base = 0 })) (first_part c.args.parts.now (record { prime = 0; base = 0 }) (some_parts (length c.args.parts.now) c.is_empty.result c.is_empty.ensures c.if-is_empty.false)) c.requires.parts (total c.args.terms.now.items) (total c.loop-turns.terms.items) (total c.add_power-in-loop-turns.new.terms.items) (unsigned_abs (to_z w128 (of_z w128 c.args.coefficient))) c.loop-turns.turns c.loop-turns.auto.turns
          c.loop-turns.invariant.most (subst (λ k. total c.add_power-in-loop-turns.new.terms.items ≤ total c.loop-turns.terms.items + k * weight (take (length c.args.parts.now - 1) (drop 1 c.args.parts.now))) size c.in_ok-add_power-2.ensures.total);
    }

at_end : (turns p : ℕ) → (1 ≤ p → turns ≤ p) → p ≤ turns → 1 < p → turns ≡ p
at_end turns p le ge one = let l : turns ≤ p = le (omega arith) in omega arith

pub returns-clause-terms : goal.returns-clause-terms
returns-clause-terms m c = c.loop-turns.invariant.terms

pub returns-clause-sum : goal.returns-clause-sum
returns-clause-sum m c =
    let r : to_z w128 (of_z w128 c.args.coefficient) ≡ c.args.coefficient = small_read c.args.coefficient (total c.args.terms.now.items) (weight c.args.parts.now) (weight-pos c.args.n c.args.parts.now c.requires.parts) c.requires.small in
    let end : c.loop-turns.turns ≡ (slice_index_or c.args.parts.now 0 (record { prime = 0; base = 0 })).prime = at_end c.loop-turns.turns (slice_index_or c.args.parts.now 0 (record { prime = 0; base = 0 })).prime c.loop-turns.auto.turns-end c.loop-turns-test.false (prime-pos c.args.n (positive c.args.exponent c.args.n c.requires.inside) c.args.parts.now (take (length c.args.parts.now - 1) (drop 1 c.args.parts.now)) (slice_index_or c.args.parts.now 0 (record { prime = 0; base = 0 })) (first_part c.args.parts.now (record { prime = 0; base = 0 }) (some_parts (length c.args.parts.now) c.is_empty.result c.is_empty.ensures c.if-is_empty.false)) c.requires.parts) in
    turns-end c.args.n (positive c.args.exponent c.args.n c.requires.inside) c.args.parts.now (take (length c.args.parts.now - 1) (drop 1 c.args.parts.now)) (slice_index_or c.args.parts.now 0 (record { prime = 0; base = 0 })) (first_part c.args.parts.now (record { prime = 0; base = 0 }) (some_parts (length c.args.parts.now) c.is_empty.result c.is_empty.ensures c.if-is_empty.false)) c.requires.parts (terms_sum c.args.n c.args.terms.now.items) (terms_sum c.args.n c.loop-turns.terms.items) c.args.exponent c.args.coefficient
    (subst (λ x. terms_sum c.args.n c.loop-turns.terms.items ≡ (numbers c.args.n).add (terms_sum c.args.n c.args.terms.now.items) ((numbers c.args.n).mul (integer (numbers c.args.n) (neg_ℤ x)) (others c.args.n (slice_index_or c.args.parts.now 0 (record { prime = 0; base = 0 })).prime c.args.exponent ((slice_index_or c.args.parts.now 0 (record { prime = 0; base = 0 })).prime - 1)))) r
    (subst (λ t. terms_sum c.args.n c.loop-turns.terms.items ≡ (numbers c.args.n).add (terms_sum c.args.n c.args.terms.now.items) ((numbers c.args.n).mul (integer (numbers c.args.n) (neg_ℤ (to_z w128 (of_z w128 c.args.coefficient)))) (others c.args.n (slice_index_or c.args.parts.now 0 (record { prime = 0; base = 0 })).prime c.args.exponent (t - 1)))) end c.loop-turns.invariant.sum))

pub returns-clause-total : goal.returns-clause-total
returns-clause-total m c =
    let r : to_z w128 (of_z w128 c.args.coefficient) ≡ c.args.coefficient = small_read c.args.coefficient (total c.args.terms.now.items) (weight c.args.parts.now) (weight-pos c.args.n c.args.parts.now c.requires.parts) c.requires.small in
    let one : 1 < (slice_index_or c.args.parts.now 0 (record { prime = 0; base = 0 })).prime = prime-pos c.args.n (positive c.args.exponent c.args.n c.requires.inside) c.args.parts.now (take (length c.args.parts.now - 1) (drop 1 c.args.parts.now)) (slice_index_or c.args.parts.now 0 (record { prime = 0; base = 0 })) (first_part c.args.parts.now (record { prime = 0; base = 0 }) (some_parts (length c.args.parts.now) c.is_empty.result c.is_empty.ensures c.if-is_empty.false)) c.requires.parts in
    turns_most c.args.n (positive c.args.exponent c.args.n c.requires.inside) c.args.parts.now (take (length c.args.parts.now - 1) (drop 1 c.args.parts.now)) (slice_index_or c.args.parts.now 0 (record { prime = 0; base = 0 })) (first_part c.args.parts.now (record { prime = 0; base = 0 }) (some_parts (length c.args.parts.now) c.is_empty.result c.is_empty.ensures c.if-is_empty.false)) c.requires.parts (total c.args.terms.now.items) (total c.loop-turns.terms.items) (unsigned_abs c.args.coefficient) c.loop-turns.turns (c.loop-turns.auto.turns-end (omega arith))
    (subst (λ x. total c.loop-turns.terms.items ≤ total c.args.terms.now.items + unsigned_abs x * weight (take (length c.args.parts.now - 1) (drop 1 c.args.parts.now)) * (c.loop-turns.turns - 1)) r c.loop-turns.invariant.most)
