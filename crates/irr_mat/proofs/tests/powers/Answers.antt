-- Powers of z over a denominator.
use Rattle.std.proofs.Common.{◌≡◌, sym, ◌∙◌, ap, subst, ◌+◌, ◌*◌, ◌<◌, All, [], ◌∷◌, ◌++◌, length, length-append, arith}
use native.Mathlib.Nat as Nat
use Rattle.std.proofs.lemmas.List.Elements.{All-push}
use Rattle.irr_canonical.specs.RootSum.{IsRootSum}
use Rattle.irr_mat.specs.Entries.{first_order, matrix_of}
use Rattle.irr_mat.specs.Size.{IsWithin}
use Rattle.irr_mat.proofs.Bounds.{one_power, within-list}
use Rattle.irr_mat.proofs.Entries.{one_order}
use Rattle.irr_mat.proofs.tests.powers.Goals as goal

pub loop-e-preserved : goal.loop-e-preserved
loop-e-preserved g c =
    let n = c.args.order.now.n in
    let x = c.in_ok-entry.entry in
    let xs = c.loop-e.entries.items in
    let total : length (xs ++ x ∷ []) ≡ length xs + 1 = length-append xs (x ∷ []) in
    record {
      count = ap length c.in_ok-push.ensures.items ∙ total ∙ ap (λ k. k + 1) c.loop-e.invariant.count;
      orders = subst (All (λ y. g.S.Scalar.order_of y ≡ n)) (sym c.in_ok-push.ensures.items) (All-push (λ y. g.S.Scalar.order_of y ≡ n) xs x c.loop-e.invariant.orders c.in_ok-entry.ensures.order);
      sums = subst (All (λ y. IsRootSum n 1 c.args.den (g.S.Scalar.value n y))) (sym c.in_ok-push.ensures.items)
          (All-push (λ y. IsRootSum n 1 c.args.den (g.S.Scalar.value n y)) xs x c.loop-e.invariant.sums
          (one_power n c.args.den _ (g.S.Scalar.value n x) c.requires.positive c.in_ok-entry.ensures.value));
    }

pub from_entries-requires-clause-one_order : goal.from_entries-requires-clause-one_order
from_entries-requires-clause-one_order g c =
    let full : length c.loop-e.entries.items ≡ c.args.size * c.args.size = omega (arith, c.loop-e.invariant.count, c.requires.full) in
    (one_order g.S.Scalar.order_of c.args.order.now.n c.loop-e.entries.items c.loop-e.invariant.orders (subst (λ k. 0 < k) (sym full) (Nat.mul-pos c.requires.some c.requires.some))).1

pub returns-clause-order : goal.returns-clause-order
returns-clause-order g c =
    let full : length c.loop-e.entries.items ≡ c.args.size * c.args.size = omega (arith, c.loop-e.invariant.count, c.requires.full) in
    ap (first_order g.S.Scalar.order_of) c.from_entries.ensures.entries
    ∙ (one_order g.S.Scalar.order_of c.args.order.now.n c.loop-e.entries.items c.loop-e.invariant.orders (subst (λ k. 0 < k) (sym full) (Nat.mul-pos c.requires.some c.requires.some))).0

pub returns-clause-within : goal.returns-clause-within
returns-clause-within g c =
    let n = c.args.order.now.n in
    let full : length c.loop-e.entries.items ≡ c.args.size * c.args.size = omega (arith, c.loop-e.invariant.count, c.requires.full) in
    subst (λ xs. IsWithin n 1 c.args.den (matrix_of g.S.Scalar.value n c.args.size c.args.size xs)) (sym c.from_entries.ensures.entries)
    (within-list g.S.Scalar.value n c.args.size c.args.size 1 c.args.den c.loop-e.entries.items c.requires.positive full c.loop-e.invariant.sums)
