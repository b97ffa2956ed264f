-- One more full representation.
use Rattle.std.proofs.Common.{◌≡◌, ◌∙◌, sym, ap, subst, ℕ, ◌+◌, ◌<◌, ◌≤◌, List, [], ◌∷◌, ◌++◌, length, get_or, arith}
use Rattle.std.proofs.lemmas.List.{get_or_default, length-append}
use Rattle.irr_rep.specs.declared.family.Family.{Family}
use Rattle.irr_star.specs.declared.full.Full.{Full}
use Rattle.irr_side.specs.Sides.{IsInducedFrom, IsInducible}
use Rattle.irr_mult.proofs.StarFacts.{pushed}
use Rattle.irr_side.proofs.sides.induced.Goals as goal

none_made : {A : Type 0} (xs : List A) → xs ≡ [] → length xs ≡ 0
none_made xs e = ap length e

one_more : {A : Type 0} (xs ys : List A) (x : A) (n : ℕ) → ys ≡ xs ++ x ∷ [] → length xs ≡ n → length ys ≡ n + 1
one_more xs ys x n e c = ap length e ∙ length-append xs (x ∷ []) ∙ ap (λ k. k + 1) c

next_within : (n k : ℕ) → n < k → n + 1 ≤ k
next_within n k l = omega (arith, l)

all_reached : (n k l : ℕ) → l ≡ n → n ≤ k → k ≤ n → l ≡ k
all_reached n k l e below above = omega (arith, e, below, above)

before_end : (i n k : ℕ) → i < k → k ≤ n → i < n
before_end i n k l m = omega (arith, l, m)

pub loop-family-init : goal.loop-family-init
loop-family-init g c = record {
  count = none_made c.new-fulls.result.items c.new-fulls.ensures.items;
  within = omega arith;
  each = λ n x l f. absurd (omega (arith, l));
}

pub induce-requires-clause-small : goal.induce-requires-clause-small
induce-requires-clause-small g c = subst (λ (f : Family g.row.S.Denot g.S.Scalar). IsInducible c.args.group.now c.args.star.now.arms.items c.args.t.now f)
    (sym c.family-item.is) (c.requires.families c.loop-family.family-index c.family-item.result c.loop-family-test.true)

pub loop-family-preserved : goal.loop-family-preserved
loop-family-preserved g c =
    let group = c.args.group.now in
    let arms = c.args.star.now.arms.items in
    let n = c.loop-family.family-index in
    let xs = c.loop-family.fulls.items in
    let here : (f : Family g.row.S.Denot g.S.Scalar) → IsInducedFrom group arms c.args.t.now (get_or c.args.families.now n f) c.in_ok-full.full =
    λ f. subst (λ (h : Family g.row.S.Denot g.S.Scalar). IsInducedFrom group arms c.args.t.now h c.in_ok-full.full)
    (c.family-item.is ∙ get_or_default c.args.families.now n c.family-item.result f c.loop-family-test.true)
    (record { induced = c.in_ok-full.ensures }) in
    record {
      count = one_more xs c.push.new.self.items c.in_ok-full.full n c.in_ok-push.ensures.items c.loop-family.invariant.count;
      within = next_within n (length c.args.families.now) c.loop-family-test.true;
      each = pushed (λ i (x : Full g.row.S.Denot g.S.Scalar). (f : Family g.row.S.Denot g.S.Scalar) → IsInducedFrom group arms c.args.t.now
          (get_or c.args.families.now i f) x) xs c.push.new.self.items c.in_ok-full.full n c.loop-family.invariant.count c.in_ok-push.ensures.items
          c.loop-family.invariant.each here;
    }

pub returns : goal.returns
returns g c =
    let n = c.loop-family.family-index in
    let made = c.loop-family.invariant in
    record {
      count = all_reached n (length c.args.families.now) (length c.loop-family.fulls.items) made.count made.within c.loop-family-test.false;
      each = λ i f x l. made.each i x (before_end i n (length c.args.families.now) l c.loop-family-test.false) f;
    }
