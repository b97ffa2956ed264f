use Rattle.std.proofs.Common.{◌≡◌, inl, inr, subst, ℕ, ◌+◌, ◌<◌, ◌≤◌, true, arith}
use Rattle.std.proofs.lemmas.Bool.{cases_lt}
use Rattle.irr_seitz.specs.declared.op.Op.{Op}
use Rattle.std.proofs.Common.{List}
use Rattle.irr_close.specs.Exponent.{Return}
use Rattle.irr_close.proofs.exponent.exponent.Goals as goal

-- one is still to come
still : (ops : List Op) (n h : ℕ) → 0 < h → Return ops h → ((k : ℕ) → 0 < k → k < n → Return ops k → ⊥) → ¬ (Return ops n) → n < h
still ops n h p r none denied = elim (cases_lt n h) [
  | inl l ↦ l
  | inr m ↦ elim (cases_lt h n) [ inl l ↦ absurd (none h p l r) | inr l ↦ absurd (denied (let e : h ≡ n = omega arith in subst (Return ops) e r)) ]
]

more : (ops : List Op) (n : ℕ) → ((k : ℕ) → 0 < k → k < n → Return ops k → ⊥) → ¬ (Return ops n) → (k : ℕ) → 0 < k → k < n + 1 → Return ops k → ⊥
more ops n none denied k p l r = elim (cases_lt k n) [ inl m ↦ none k p m r | inr m ↦ denied (let e : k ≡ n = omega arith in subst (Return ops) e r) ]

least_at : (ops : List Op) (n k : ℕ) → ((k : ℕ) → 0 < k → k < n → Return ops k → ⊥) → 0 < k → Return ops k → n ≤ k
least_at ops n k none p r = elim (cases_lt k n) [ inl l ↦ absurd (none k p l r) | inr l ↦ l ]

pub loop-n-init : goal.loop-n-init
loop-n-init c = record { positive = omega arith; before = omega arith; none = λ k p l r. absurd (omega arith) }

pub overflow_add-n : goal.overflow_add-n
overflow_add-n c = record { fits = omega (arith, c.loop-n.invariant.before) }

pub loop-n-smaller : goal.loop-n-smaller
loop-n-smaller c = let l = still c.args.ops.now c.loop-n.n c.requires.some.0 c.requires.some.1 c.requires.some.3 c.loop-n.invariant.none
    (λ e. cc (c.all_return.ensures.1 e, c.loop-n-test.true)) in let m = c.requires.some.2 in omega arith

pub loop-n-preserved : goal.loop-n-preserved
loop-n-preserved c = let l = still c.args.ops.now c.loop-n.n c.requires.some.0 c.requires.some.1 c.requires.some.3 c.loop-n.invariant.none
    (λ e. cc (c.all_return.ensures.1 e, c.loop-n-test.true)) in let m = c.requires.some.2 in record {
      positive = omega arith;
      before = omega arith;
      none = more c.args.ops.now c.loop-n.n c.loop-n.invariant.none (λ e. cc (c.all_return.ensures.1 e, c.loop-n-test.true));
    }

pub returns-clause-least : goal.returns-clause-least
returns-clause-least c = record {
  positive = c.loop-n.invariant.positive;
  power = c.all_return.ensures.0 (let t : c.all_return.result ≡ true = c.loop-n-test.false in t);
  least = λ k p r. least_at c.args.ops.now c.loop-n.n k c.loop-n.invariant.none p r;
}
