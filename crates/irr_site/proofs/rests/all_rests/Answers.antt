-- Operation by operation.
use Rattle.std.proofs.Common.{rules, refl, ◌≡◌, sym, ◌∙◌, ap, subst, ◌+◌, ◌<◌, ◌∷◌, [], length, length-append, get_or, slice_index, arith}
use Rattle.irr_algebra.specs.Fin.{to_nat}
use Rattle.irr_algebra.proofs.Indices.{to_nat-lt}
use Rattle.irr_seitz.specs.OperationMeaning.{operation}
use Rattle.irr_seitz.specs.PhaseMeaning.{sign_of}
use Rattle.irr_kvec.specs.WaveMeaning.{wave_vector}
use Rattle.irr_little.specs.Table.{listed_operations}
use Rattle.irr_rep.specs.Twisted.{operation_places, place_count}
use Rattle.irr_site.specs.Rests.{AreRests}
use Rattle.irr_site.proofs.SiteCalls.{rows_so_far}
use Rattle.irr_site.proofs.rests.all_rests.Goals as goal

pub loop-i-init : goal.loop-i-init
loop-i-init c = (ap length c.new-rows.ensures.items, λ O places sites d i e l. absurd (omega (arith, l)))

pub rests-requires-clause-left : goal.rests-requires-clause-left
rests-requires-clause-left c = subst (λ p. p < length c.args.group.now.ops.items) (sym c.place.ensures)
    (c.requires.little c.loop-i.i 0 (subst (λ n. c.loop-i.i < n) (c.len-i-end.ensures.count ∙ c.args.t.now.places.ok.0) c.loop-i-test.true))

pub loop-i-preserved : goal.loop-i-preserved
loop-i-preserved c =
    let group = c.args.group.now in
    let t = c.args.t.now in
    let n = c.loop-i.i in (
      ap length c.in_ok-push.ensures.items ∙ length-append c.loop-i.rows.items (c.in_ok-row.row ∷ [])
          ∙ ap (λ m. m + 1) c.loop-i.invariant.0,
      λ O places sites d. rows_so_far (sign_of group.phase) (wave_vector c.args.k.now) c.args.order O (place_count t)
          (listed_operations group (place_count t) (operation_places t) d) c.loop-i.rows.items c.push.new.self.items c.in_ok-row.row n
          c.loop-i.invariant.0 c.in_ok-push.ensures.items (c.loop-i.invariant.1 O places sites d)
          (λ i same. subst (λ p. AreRests (sign_of group.phase) (wave_vector c.args.k.now) c.args.order O
          (operation (get_or group.ops.items p d)) c.in_ok-row.row.items)
          (c.place.ensures ∙ sym (ap (slice_index (operation_places t)) same))
          (c.in_ok-row.ensures O places sites d)),
    )

pub returns : goal.returns
returns c O places sites d =
    let t = c.args.t.now in
    let all : c.loop-i.i ≡ place_count t = search rules in
    record {
      count = c.loop-i.invariant.0 ∙ all;
      each = λ i e. c.loop-i.invariant.1 O places sites d i e (subst (λ n. to_nat i < n) (sym all) (to_nat-lt i));
    }
