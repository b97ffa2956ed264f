-- The order of the sum is that of the character, and the listed sums are those over the members.
use Rattle.std.proofs.Common.{◌≡◌, sym, ◌∙◌, subst, ℕ, length, map, IfOk, arith}
use Rattle.std.specs.Int.{◌∣◌}
use Rattle.std.proofs.lemmas.Result.{IfOk-weaker}
use Rattle.irr_theory.specs.Lifted.{Lifted}
use Rattle.irr_eigen.specs.Step.{at_place}
use Rattle.irr_space.specs.PhaseTable.{phases_over}
use Rattle.irr_rep.specs.Twisted.{phase_table}
use Rattle.irr_root.specs.RootSums.{IsSmall}
use Rattle.irr_root.specs.Sandwiches.{IsTurned, sandwich_sum, sandwich_sums}
use Rattle.irr_root.proofs.ProductTerms.{row_order, sum-is-two, sums-are-three}
use Rattle.irr_root.proofs.Smalls.{small-more}
use Rattle.irr_root.proofs.TurnedProducts.{unit-turned}
use Rattle.irr_root.proofs.TurnedTraces.{own_order}
use Rattle.irr_root.proofs.products.product_sum.Goals as goal

pub sandwich_sum-requires-clause-divides : goal.sandwich_sum-requires-clause-divides
sandwich_sum-requires-clause-divides g c =
    subst (λ k. (phase_table c.args.t.now).order ∣ k) (sym (own_order g.S.Scalar.order_of g.S.Scalar.value c.requires.row.0
    (length c.args.members.now) c.args.character.now c.requires.row.2
    c.requires.not_empty c.index-character-0.result c.index-character-0.is c.in_ok-order.order.n c.order.result c.in_ok-order.ensures
    c.order.ensures)) c.requires.row.1

pub sandwich_sums-requires-clause-divides : goal.sandwich_sums-requires-clause-divides
sandwich_sums-requires-clause-divides g c =
    subst (λ k. (phase_table c.args.t.now).order ∣ k) (sym (own_order g.S.Scalar.order_of g.S.Scalar.value c.requires.row.0
    (length c.args.members.now) c.args.character.now c.requires.row.2
    c.requires.not_empty c.index-character-0.result c.index-character-0.is c.in_ok-order.order.n c.order.result c.in_ok-order.ensures
    c.order.ensures)) c.requires.row.1

pub returns-then-p-eq2-clause-small : goal.returns-then-p-eq2-clause-small
returns-then-p-eq2-clause-small g c n small =
    let order = g.S.Scalar.order_of in
    let value = g.S.Scalar.value in
    let own = own_order order value n (length c.args.members.now) c.args.character.now small c.requires.not_empty c.index-character-0.result
    c.index-character-0.is
    c.in_ok-order.order.n c.order.result c.in_ok-order.ensures c.order.ensures in
    IfOk-weaker c.sandwich_sum.result (IsSmall order value n 2304) (IsSmall order value n 110592)
    (λ x h. small-more order value n 2304 110592 x (omega arith) h)
    (subst (λ (k : ℕ). IfOk c.sandwich_sum.result (IsSmall order value k 2304)) own c.sandwich_sum.ensures.small)

pub returns-then-p-eq2-clause-sum : goal.returns-then-p-eq2-clause-sum
returns-then-p-eq2-clause-sum g c M v H count are position at f is a b first second =
    let order = g.S.Scalar.order_of in
    let value = g.S.Scalar.value in
    let T = phase_table c.args.t.now in
    let members = c.args.members.now in
    let positions = c.args.positions.now in
    let row = c.args.character.now in
    let x = c.args.x in
    let y = c.args.y in
    let W = phases_over T M v in
    let own = row_order order value M f row is c.requires.not_empty count c.index-character-0.result c.index-character-0.is c.in_ok-order.order.n
    c.order.result c.in_ok-order.ensures c.order.ensures in
    let sum = subst (λ (k : ℕ). (v : T.order ∣ k) (a b : Lifted (phases_over T k v)) → IsTurned T k v x 0 a → IsTurned T k v y 0 b
    → IfOk c.sandwich_sum.result (λ z. value k z ≡ sandwich_sum T k v members positions (map (value k) row) a b)) own c.sandwich_sum.ensures.sum
    v (at_place W a) (at_place W b) (unit-turned T M v a x first) (unit-turned T M v b y second) in
    IfOk-weaker c.sandwich_sum.result _ _ (λ z e. record {
      two = λ t. e ∙ sum-is-two T M v members positions (map (value M) row) H count are position at f is.numbers_at a b;
      three = λ t. absurd (omega (arith, t, c.if-p-eq2.true));
    }) sum

pub returns-else-p-eq2-clause-sum : goal.returns-else-p-eq2-clause-sum
returns-else-p-eq2-clause-sum g c M v H count are position at f is a b first second =
    let order = g.S.Scalar.order_of in
    let value = g.S.Scalar.value in
    let T = phase_table c.args.t.now in
    let members = c.args.members.now in
    let positions = c.args.positions.now in
    let row = c.args.character.now in
    let x = c.args.x in
    let y = c.args.y in
    let W = phases_over T M v in
    let own = row_order order value M f row is c.requires.not_empty count c.index-character-0.result c.index-character-0.is c.in_ok-order.order.n
    c.order.result c.in_ok-order.ensures c.order.ensures in
    let sum = subst (λ (k : ℕ). (v : T.order ∣ k) (a b : Lifted (phases_over T k v)) → IsTurned T k v x 0 a → IsTurned T k v y 0 b
    → IfOk c.sandwich_sums.result (λ z. value k z ≡ sandwich_sums T k v members positions (map (value k) row) a b)) own c.sandwich_sums.ensures.sum
    v (at_place W a) (at_place W b) (unit-turned T M v a x first) (unit-turned T M v b y second) in
    IfOk-weaker c.sandwich_sums.result _ _ (λ z e. record {
      two = λ t. absurd (c.if-p-eq2.false t);
      three = λ t. e ∙ sums-are-three T M v members positions (map (value M) row) H count are position at f is.numbers_at a b;
    }) sum
