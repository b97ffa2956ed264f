-- The block that an operation has in a column: what the calls for it ask, and what they give.
use Rattle.std.proofs.Common.{◌≡◌, sym, ◌∙◌, ap, ap₂, subst, ℕ, ◌+◌, ◌*◌, ◌<◌, ◌≤◌, ◌^◌, pos, List, length, get_or}
use Rattle.std.proofs.Common.{unsigned_abs, Contains, lit<, arith}
use Rattle.std.specs.Int.{◌∣◌}
use Rattle.std.specs.List.{HoldsAt}
use Rattle.std.proofs.lemmas.List.{get_or_default}
use Rattle.irr_algebra.specs.Fin.{Fin, to_nat}
use Rattle.irr_algebra.specs.Matrix.{◌⊖◌}
use Rattle.irr_algebra.proofs.Indices.{to_nat-lt}
use Rattle.irr_rational.specs.Integer.{integer}
use Rattle.irr_rational.specs.Rational.{rationals, IsWhole}
use Rattle.irr_rational.specs.Ratio.{entry}
use Rattle.irr_theory.specs.FactorSystem.{Representation}
use Rattle.irr_space.specs.Operation.{Operation, WaveVector, ◌⊙◌, dot}
use Rattle.irr_space.specs.CanonicalOperation.{IsInCell}
use Rattle.irr_space.specs.Reciprocal.{IsPhase}
use Rattle.irr_space.specs.PhaseTable.{phases_over}
use Rattle.irr_cocycle.specs.SpaceGroupLaws.{IsGroup, HasCanonical}
use Rattle.irr_rat.specs.Lcm.{IsLcm}
use Rattle.irr_rat.specs.VectorMeaning.{Fits, vector_of}
use Rattle.irr_rat.specs.declared.vec3.Vec3.{Vec3}
use Rattle.irr_seitz.specs.Rotation.{IsWithin}
use Rattle.irr_seitz.specs.OperationMeaning.{operation, AreWithin}
use Rattle.irr_seitz.specs.PhaseMeaning.{sign_of}
use Rattle.irr_seitz.specs.declared.op.Op.{Op}
use Rattle.irr_kvec.specs.Centrings.{IsWithinLimits}
use Rattle.irr_kvec.specs.WaveMeaning.{wave_vector}
use Rattle.irr_cyc.specs.declared.scalars.Scalar.{Ghosts}
use Rattle.irr_close.specs.StandsFor.{stands_for}
use Rattle.irr_close.specs.declared.group.Group.{Group}
use Rattle.irr_close.proofs.SpaceGroups.{space_group}
use Rattle.irr_little.specs.declared.arms.Arm.{Arm}
use Rattle.irr_little.proofs.Spaces.{has_canonical}
use Rattle.irr_full.specs.Star.{Star, carrier}
use Rattle.irr_full.proofs.StarLaws.{carrier_member, start}
use Rattle.irr_star.specs.declared.full.Full.{Full}
use Rattle.irr_star.specs.declared.lists.Product.{Product}
use Rattle.irr_star.specs.Sizes.{HasSmallVector}
use Rattle.irr_star.specs.Products.{IsProductOf}
use Rattle.irr_star.specs.Blocks.{IsBlockAt}
use Rattle.irr_star.specs.Induced.{IsInduced}
use Rattle.irr_star.proofs.Landings.{before, between, found, landed, landed-little, phase_whole, turned_phase}
use Rattle.irr_star.proofs.MemberSizes.{cell_sizes, member_denominator, members_lcm, same_member, shift_denominator}
use Rattle.irr_star.proofs.MemberSizes.{within_member}
use Rattle.irr_star.proofs.ShiftSizes.{difference_fits, difference_sizes, product_sizes}
use Rattle.irr_star.proofs.StarLists.{arm_below, arm_index, carrier_at}

at_most : (n den : ℕ) → n ≤ 100000 * den → den ≤ 100000 → n ≤ 10 ^ 12
at_most n den l m = omega (arith, l, m)

at_most_one : (n den : ℕ) → n ≤ 1 * den → den ≤ 100000 → n ≤ 10 ^ 12
at_most_one n den l m = omega (arith, l, m)

at_most_both : (n den : ℕ) → n ≤ (100000 + 27 * 1) * den → den ≤ 100000 → n ≤ 10002700000
at_most_both n den l m = omega (arith, l, m)

at_most_inner : (n den : ℕ) → n ≤ 28 * den → den ≤ 100000 → n ≤ 2800000
at_most_inner n den l m = omega (arith, l, m)

at_most_shift : (n den : ℕ) → n ≤ ((100000 + 27 * 1) + 28) * den → den ≤ 100000 → n ≤ 10 ^ 12
at_most_shift n den l m = omega (arith, l, m)

module _ {X : Type 0} {V : Ghosts X} (full : Full X V) (group : Group) {k : WaveVector}
    (S : Star (sign_of group.phase) (stands_for group) k) (M : ℕ)
    (v : S.table.order ∣ M) {d : ℕ} (D : Representation (phases_over S.table M v) d)
    (is : IsInduced group S M v D full) where
  abbrev G : Operation → Type 0
  G = stands_for group

  is_group : IsGroup (stands_for group)
  is_group = (space_group group).is_group

  chosen : HasCanonical (stands_for group)
  chosen = has_canonical group

  pub order_positive : 0 < M
  order_positive = subst (λ n. 0 < n) is.order full.order.positive

  pub order_limited : M ≤ 12000
  order_limited = subst (λ n. n ≤ 12000) is.order full.order.limited

  pub some_arms : 0 < S.arms
  some_arms =
      let p = start (stands_for group) is_group chosen S in
      let l = to_nat-lt p.0 in
      omega (arith, l)

  module _ (op : Op) (member : stands_for full.group (operation op)) (near : HasSmallVector op) where
    pub in_group : stands_for group (operation op)
    in_group = same_member group full.group is.same (operation op) member

    pub entries_of : IsWithin 9 (operation op).rotation
    entries_of = within_member group (operation op) in_group

    pub numerators_of : AreWithin (10 ^ 12) op.num
    numerators_of i = at_most (unsigned_abs (entry op.num i)) op.den (near i) (member_denominator group op in_group)

    module _ (column : ℕ) (below : column < length full.arms.items) (a : Arm) (at : a ≡ get_or full.arms.items column a)
        (ops : List Op)
        (list : ops ≡ full.group.ops.items) where
      pub number_below : a.op < length ops
      number_below = subst (λ (xs : List Op). a.op < length xs) (sym (list ∙ is.same.ops))
          (subst (λ (b : Arm). b.op < length group.ops.items) (sym at)
          (arm_below group full.arms.items S is.arms column below a))

      module _ (h : Op) (h-at : h ≡ get_or ops a.op h) where
        pub carrier_is : (j : Fin S.arms) → to_nat j ≡ column → operation h ≡ carrier S j
        carrier_is j e = carrier_at group full.arms.items S is.arms column a ops h (list ∙ is.same.ops)
            (h-at ∙ ap (λ (b : Arm). get_or ops b.op h) at) j e

        this : (j : Fin S.arms) × (to_nat j ≡ column)
        this = arm_index group full.arms.items S is.arms column below

        carrier_this : operation h ≡ carrier S this.0
        carrier_this = carrier_is this.0 this.1

        h_member : stands_for group (operation h)
        h_member = subst (stands_for group) (sym carrier_this)
            (carrier_member (stands_for group) is_group chosen S this.0)

        h_cell : IsInCell (operation h).vector
        h_cell = subst (λ (f : Operation). IsInCell f.vector) (sym carrier_this)
            (S.canonical_numbering.canonical (S.number this.0)).in_cell

        pub entries_of_carrier : IsWithin 9 (operation h).rotation
        entries_of_carrier = within_member group (operation h) h_member

        pub denominators : (m : ℕ) → IsLcm op.den h.den m → m ≤ 100000
        denominators = members_lcm group op h in_group h_member

        pub numerators_of_carrier : AreWithin (10 ^ 12) h.num
        numerators_of_carrier i = at_most_one (unsigned_abs (entry h.num i)) h.den (cell_sizes h h_cell i)
            (member_denominator group h h_member)

        module _ (both : Op) (both-is : operation both ≡ operation op ⊙ operation h) where
          both_member : stands_for group (operation both)
          both_member = subst (stands_for group) (sym both-is)
              (is_group.has_product (operation op) (operation h) in_group h_member)

          both_sizes : (i : Fin 3) → unsigned_abs (entry both.num i) ≤ (100000 + 27 * 1) * both.den
          both_sizes = product_sizes op h both 100000 1 entries_of near (cell_sizes h h_cell) both-is

          pub some_product : (n : ℕ) × (n < length full.products.items)
              × HoldsAt (λ p. (operation p.op).rotation ≡ (operation both).rotation) full.products.items n
          some_product = from_found (found (stands_for group) is_group chosen S M order_positive v
              (operation op) in_group this.0)
            where
              from_found : (i : Fin S.arms) × (p : Fin S.places) ×
                  ((operation op ⊙ carrier S this.0).rotation ≡ (carrier S i ⊙ S.operation p).rotation)
                  → (n : ℕ) × (n < length full.products.items)
                  × HoldsAt (λ p. (operation p.op).rotation ≡ (operation both).rotation) full.products.items n
              from_found (i, p, e) =
                  let q = is.products.all i p in
                  let c = q.1 in (
                    c.0,
                    c.1,
                    λ f. ap (λ (x : Product). (operation x.op).rotation)
                        (get_or_default full.products.items c.0 f q.0 c.1 ∙ c.2)
                        ∙ ap (λ (f : Operation). f.rotation) q.2 ∙ sym e
                        ∙ ap (λ (f : Operation). f.rotation) (sym (both-is ∙ ap (λ f. operation op ⊙ f) carrier_this)),
                  )

          module _ (q : Product) (inside : Contains full.products.items q)
              (rotation : (operation q.op).rotation ≡ (operation both).rotation) where
            made : IsProductOf S q
            made = is.products.each q inside

            q_member : stands_for group (operation q.op)
            q_member = subst (stands_for group) (sym made.is)
                (is_group.has_product (carrier S made.row) (S.operation made.inner)
                (carrier_member (stands_for group) is_group chosen S made.row) (S.numbering.member made.inner).member)

            pub fits_shift : Fits (vector_of both.num both.den ⊖ vector_of q.op.num q.op.den)
            fits_shift = difference_fits both.num q.op.num both.den q.op.den 10002700000 2800000 both.lowest.positive
                q.op.lowest.positive
                (members_lcm group both q.op both_member q_member)
                (λ i. at_most_both (unsigned_abs (entry both.num i)) both.den (both_sizes i)
                (member_denominator group both both_member))
                (λ i. at_most_inner (unsigned_abs (entry q.op.num i)) q.op.den (made.numbers i)
                (member_denominator group q.op q_member))
                (lit< tt)

            pub row_below : q.arm < length full.arms.items
            row_below = subst (λ n. n < length full.arms.items) made.row-number
                (subst (λ n. to_nat made.row < n) (sym is.arms.count) (to_nat-lt made.row))

            pub place_below : q.place < length full.family.mats.items
            place_below = subst (λ n. n < length full.family.mats.items) made.inner-number
                (subst (λ n. to_nat made.inner < n) (sym is.family.shape.count) (to_nat-lt made.inner))

            pub wave_limits : (w : Arm) → w ≡ get_or full.arms.items q.arm w → IsWithinLimits w.wave
            wave_limits w w-at = subst (λ (b : Arm). IsWithinLimits b.wave) (sym w-at) (is.limits q.arm w row_below)

            wave_is : (w : Arm) → w ≡ get_or full.arms.items q.arm w → wave_vector w.wave ≡ S.arm made.row
            wave_is w w-at = ap (λ (b : Arm). wave_vector b.wave) w-at
                ∙ ap (λ n. wave_vector (get_or full.arms.items n w).wave) (sym made.row-number)
                ∙ is.arms.wave made.row w

            same_rotation : (j : Fin S.arms) → to_nat j ≡ column → (operation op ⊙ carrier S j).rotation ≡
                (carrier S made.row ⊙ S.operation made.inner).rotation
            same_rotation j e = ap (λ f. (operation op ⊙ f).rotation) (sym (carrier_is j e)) ∙ ap
                (λ (f : Operation). f.rotation) (sym both-is)
                ∙ sym rotation ∙ ap (λ (f : Operation). f.rotation) made.is

            module _ (t : Vec3) (t-is : vector_of t.num t.den ≡ (operation both).vector ⊖ (operation q.op).vector) where
              pub small_shift : AreWithin (10 ^ 12) t.num
              small_shift i = at_most_shift (unsigned_abs (entry t.num i)) t.den
                  (difference_sizes both q.op t (100000 + 27 * 1) 28 both_sizes made.numbers t-is i)
                  (shift_denominator group both q.op t both_member q_member t-is)

              vector_is : (j : Fin S.arms) (e : to_nat j ≡ column)
                  → vector_of t.num t.den ≡ (operation op ⊙ carrier S j).vector ⊖
                  (carrier S made.row ⊙ S.operation made.inner).vector
              vector_is j e = t-is ∙ ap₂ (λ (f g : Operation). f.vector ⊖ g.vector)
                  (both-is ∙ ap (λ f. operation op ⊙ f) (carrier_is j e)) made.is

              module _ (w : Arm) (w-at : w ≡ get_or full.arms.items q.arm w) (n : ℕ) (n-is : n ≡ full.order.n) where
                pub turns_whole : IsWhole (rationals.mul (integer rationals (pos n))
                    (dot (wave_vector w.wave) (vector_of t.num t.den)))
                turns_whole = subst (λ m. IsWhole (rationals.mul (integer rationals (pos m))
                    (dot (wave_vector w.wave) (vector_of t.num t.den))))
                    (sym (n-is ∙ is.order))
                    (subst (λ u. IsWhole (rationals.mul (integer rationals (pos M)) (dot u (vector_of t.num t.den))))
                    (sym (wave_is w w-at))
                    (subst (λ u. IsWhole (rationals.mul (integer rationals (pos M)) (dot (S.arm made.row) u)))
                    (sym (vector_is this.0 this.1))
                    (phase_whole (stands_for group) is_group chosen S M order_positive v
                    (operation op) in_group made.row this.0 made.inner
                    (same_rotation this.0 this.1))))

                pub block_made : (x : ℕ) → IsPhase (sign_of full.group.phase) n (wave_vector w.wave)
                    (vector_of t.num t.den) x
                    → (j : Fin S.arms) → to_nat j ≡ column → IsBlockAt S M (operation op) j
                    (record { row = q.arm; place = q.place; exponent = x })
                block_made x phase j e =
                    let same = same_rotation j e in
                    let at_arm : IsPhase (sign_of group.phase) M (S.arm made.row)
                    (between (stands_for group) is_group chosen S M order_positive v
                    (operation op) in_group made.row j made.inner same) x
                    = subst (λ u. IsPhase (sign_of group.phase) M (S.arm made.row) u x) (vector_is j e)
                    (subst (λ u. IsPhase (sign_of group.phase) M u (vector_of t.num t.den) x) (wave_is w w-at)
                    (subst (λ m. IsPhase (sign_of group.phase) m (wave_vector w.wave) (vector_of t.num t.den) x)
                    (n-is ∙ is.order)
                    (subst (λ s. IsPhase (sign_of s) n (wave_vector w.wave) (vector_of t.num t.den) x) is.same.phase
                    phase))) in
                    record {
                      to = made.row;
                      inner = made.inner;
                      row-number = made.row-number;
                      inner-number = made.inner-number;
                      shift = before (stands_for group) is_group chosen S M order_positive v
                          (operation op) in_group made.row j made.inner same;
                      little = landed-little (stands_for group) is_group chosen S M order_positive v
                          (operation op) in_group made.row j made.inner same;
                      carries = landed (stands_for group) is_group chosen S M order_positive v
                          (operation op) in_group made.row j made.inner same;
                      is_phase = turned_phase (stands_for group) is_group chosen S M order_positive v
                          (operation op) in_group made.row j made.inner same x at_arm;
                    }
