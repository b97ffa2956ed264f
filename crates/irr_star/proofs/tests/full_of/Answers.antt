-- The family that is tried, and what it induces.
use Rattle.std.proofs.Common.{◌≡◌, sym, ◌∙◌, subst, refl, length, rules}
use native.Mathlib.Nat as Nat
use Rattle.std.specs.Int.{◌∣◌}
use Rattle.irr_kvec.specs.WaveMeaning.{wave_vector}
use Rattle.irr_rep.specs.Family.{representation}
use Rattle.irr_rep.specs.Twisted.{phase_table}
use Rattle.irr_rep.proofs.SingleEntries.{SinglesSoFar, singles-more}
use Rattle.irr_close.proofs.Bareness.{first_of}
use Rattle.irr_little.specs.declared.arms.Arm.{Arm}
use Rattle.irr_little.proofs.Spaces.{form_of, numbering_of}
use Rattle.irr_star.specs.Stars.{star_of}
use Rattle.irr_star.proofs.SingleFamilies.{checkable, represented, small_singles}
use Rattle.irr_star.proofs.StarLists.{star_of_lists}
use Rattle.irr_star.proofs.tests.full_of.Goals as goal

pub loop-e-preserved : goal.loop-e-preserved
loop-e-preserved g c = singles-more c.in_ok-order.order.n c.loop-e.e-index c.loop-e.mats.items c.push.new.self.items
    c.in_ok-matrix.matrix
    c.loop-e.invariant c.in_ok-push.ensures.items
    (record {
      rows = c.in_ok-matrix.ensures.rows;
      cols = c.in_ok-matrix.ensures.cols;
      order =
          c.in_ok-matrix.ensures.order;
      within = c.in_ok-matrix.ensures.within;
    })

pub first_defect-requires : goal.first_defect-requires
first_defect-requires g c =
    let n = c.in_ok-order.order.n in
    let T = phase_table c.in-Ok.t in
    let done : c.loop-e.e-index ≡ length c.args.exponents.now = search rules in
    let v = subst (λ u. T.order ∣ u) (sym (c.in_ok-order.ensures ∙ c.order.ensures.order)) (Nat.dvd_refl T.order) in
    checkable T n v c.loop-e.mats.items
    (subst (λ k. SinglesSoFar n k c.loop-e.mats.items) (done ∙ c.if-exponents-len.false ∙ c.len.ensures.count)
    c.loop-e.invariant)

pub induce-requires-clause-small : goal.induce-requires-clause-small
induce-requires-clause-small g c =
    let group = c.in-Some.group in
    let arms = c.in_ok-star.star.arms.items in
    let t = c.in-Ok.t in
    let k = wave_vector c.args.k.now in
    let d = first_of group.ops.items (form_of group).nonempty in
    let a : Arm = record { wave = c.args.k.now; op = 0 } in
    let n = c.in_ok-order.order.n in
    let T = phase_table t in
    let done : c.loop-e.e-index ≡ length c.args.exponents.now = search rules in
    let v = subst (λ u. T.order ∣ u) (sym (c.in_ok-order.ensures ∙ c.order.ensures.order)) (Nat.dvd_refl T.order) in
    let mats = c.loop-e.mats.items in
    let so = subst (λ k. SinglesSoFar n k mats) (done ∙ c.if-exponents-len.false ∙ c.len.ensures.count)
    c.loop-e.invariant in
    let p = represented T n v mats so c.in_ok-_defect.field-0 c.in-None.is
    (c.in_ok-_defect.ensures (checkable T n v mats so)) in (
      k,
      star_of group k arms t d a (numbering_of group d) c.in_ok-star.ensures c.in-Ok.ensures.table,
      n,
      v,
      1,
      representation T n v 1 mats p,
      star_of_lists group k arms t d a (numbering_of group d) c.in_ok-star.ensures c.in-Ok.ensures.table,
      small_singles T n v mats so p _ refl refl,
    )

pub returns : goal.returns
returns g c =
    let group = c.in-Some.group in
    let arms = c.in_ok-star.star.arms.items in
    let t = c.in-Ok.t in
    let k = wave_vector c.args.k.now in
    let d = first_of group.ops.items (form_of group).nonempty in
    let a : Arm = record { wave = c.args.k.now; op = 0 } in
    let n = c.in_ok-order.order.n in
    let T = phase_table t in
    let done : c.loop-e.e-index ≡ length c.args.exponents.now = search rules in
    let v = subst (λ u. T.order ∣ u) (sym (c.in_ok-order.ensures ∙ c.order.ensures.order)) (Nat.dvd_refl T.order) in
    let mats = c.loop-e.mats.items in
    let so = subst (λ k. SinglesSoFar n k mats) (done ∙ c.if-exponents-len.false ∙ c.len.ensures.count)
    c.loop-e.invariant in
    let p = represented T n v mats so c.in_ok-_defect.field-0 c.in-None.is
    (c.in_ok-_defect.ensures (checkable T n v mats so)) in
    let U = star_of group k arms t d a (numbering_of group d) c.in_ok-star.ensures c.in-Ok.ensures.table in
    record {
      group = group;
      wave = k;
      star = U;
      number = n;
      divides = v;
      size = 1;
      small = representation T n v 1 mats p;
      induced = c.in_ok-full-in-None.ensures k U n v 1 (representation T n v 1 mats p)
          (star_of_lists group k arms t d a (numbering_of group d) c.in_ok-star.ensures c.in-Ok.ensures.table)
          (small_singles T n v mats so p _ refl refl);
    }
