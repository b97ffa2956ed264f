-- One more trace.
use Rattle.std.proofs.Common.{rules, ◌≡◌, ◌∙◌, sym, ap, subst, length, get_or, w64}
use Rattle.std.proofs.lemmas.Int.{to_z-of_z}
use Rattle.irr_algebra.proofs.Indices.{from_nat}
use Rattle.irr_algebra.specs.Matrix.{trace}
use Rattle.irr_number.specs.Number.{numbers}
use Rattle.irr_rational.specs.Integer.{integer}
use Rattle.irr_seitz.specs.OperationMeaning.{operation}
use Rattle.irr_seitz.specs.Rotation.{IsWithin}
use Rattle.irr_seitz.specs.declared.op.Op.{Op}
use Rattle.irr_mult.specs.Listing.{item}
use Rattle.irr_mult.proofs.Listings.{item-get}
use Rattle.irr_side.specs.ArmTraces.{AreEach}
use Rattle.irr_side.proofs.EachItems.{each_none, each_of_list}
use Rattle.irr_power.specs.Tensors.{form_matrix}
use Rattle.irr_power.proofs.ReturnItems.{row_of_each}
use Rattle.irr_power.proofs.tensors.form_row.Goals as goal

pub loop-op-init : goal.loop-op-init
loop-op-init g c = each_none _ c.new-row.result.items c.new-row.ensures.items

pub form_trace-requires : goal.form_trace-requires
form_trace-requires g c = record {
  within = subst (λ (o : Op). IsWithin 9 (operation o).rotation) (sym c.op-item.is)
      (c.requires.within c.loop-op.op-index c.op-item.result c.loop-op-test.true);
}

pub loop-op-preserved : goal.loop-op-preserved
loop-op-preserved g c = each_of_list (λ (o : Op) (x : g.row.S.Denot). (g.S.Scalar.order_of x ≡ c.args.order.now.n)
    × (g.S.Scalar.value c.args.order.now.n x ≡ trace (form_matrix (numbers c.args.order.now.n) c.args.form (operation o))))
    c.args.ops.now c.loop-op.op-index c.loop-op-test.true c.op-item.result c.op-item.is c.loop-op.row.items
    c.push.new.self.items c.in_ok-trace.trace c.in_ok-push.ensures.items c.loop-op.invariant (
      c.in_ok-trace.ensures.order,
      c.in_ok-trace.ensures.value
          ∙ ap (integer (numbers c.args.order.now.n)) (to_z-of_z w64 c.form_trace.result (record { sfits = c.form_trace.type_inv }))
          ∙ c.form_trace.ensures.value c.args.order.now.n,
    )

pub returns : goal.returns
returns g c =
    let done : c.loop-op.op-index ≡ length c.args.ops.now = search rules in
    let all = subst (λ m. AreEach (λ k (x : g.row.S.Denot). (o : Op) → (g.S.Scalar.order_of x ≡ c.args.order.now.n)
    × (g.S.Scalar.value c.args.order.now.n x ≡ trace (form_matrix (numbers c.args.order.now.n) c.args.form (operation (get_or c.args.ops.now k o)))))
    m c.loop-op.row.items) done c.loop-op.invariant in
    row_of_each g.S.Scalar.order_of g.S.Scalar.value c.args.order.now.n (length c.args.ops.now)
    (λ p. trace (form_matrix (numbers c.args.order.now.n) c.args.form (operation (item c.args.ops.now p)))) c.loop-op.row.items
    (record {
      count = all.count;
      each = λ k x l. (
        (all.each k x l (item c.args.ops.now (from_nat (length c.args.ops.now) k l))).0,
        λ p e. (all.each k x l (item c.args.ops.now p)).1
            ∙ ap (λ (o : Op). trace (form_matrix (numbers c.args.order.now.n) c.args.form (operation o)))
            (ap (λ j. get_or c.args.ops.now j (item c.args.ops.now p)) (sym e) ∙ sym (item-get c.args.ops.now p (item c.args.ops.now p))),
      );
    })
