-- The families over a member: its extensions, the induced family, or none.
use Rattle.std.proofs.Common.{◌≡◌, ◌<◌, sym, ◌∙◌, ap, subst, ℕ, length, slice_index, refl, true, false, IsTrue, List, [], ◌++◌, ◌∷◌}
use Rattle.irr_algebra.specs.Fin.{Fin, to_nat}
use Rattle.irr_algebra.proofs.Indices.{from_nat, to_nat-from_nat, to_nat-lt}
use Rattle.irr_rep.specs.Twisted.{place_count}
use Rattle.irr_climb.specs.Steps.{AreFamiliesOver}
use Rattle.irr_climb.proofs.OverMember.{fixed_family, member_read, member_sized, over_fixed, over_least, over_other, sized_of_one, turn_fixed, turn_free, turns_inside}
use Rattle.irr_climb.proofs.FullRows.{square_few}
use Rattle.irr_climb.proofs.step.Step.families_over.Goals as goal

not_true : IsTrue false → ⊥
not_true h = let e : false ≡ true = h in cc

pushed_one : {X : Type 0} (xs ys : List X) (x : X) → xs ≡ [] → ys ≡ xs ++ x ∷ [] → ys ≡ x ∷ []
pushed_one xs ys x e p = p ∙ ap (λ zs. zs ++ x ∷ []) e

pub extensions-requires : goal.extensions-requires
extensions-requires g c =
    let r = c.requires.list in
    let is = r.1 in
    let L = r.2 in
    let l = c.args.l in
    let below = subst (λ n. l < n) r.4.count c.requires.place in
    let k = from_nat L.count l below in
    let at = to_nat-from_nat L.count l below in (
      r.0,
      is,
      L.size k,
      L.member k,
      fixed_family is L r.3 c.args.turns.now r.5 k l at c.args.families.now r.4 r.6 c.index-families-l.result c.index-families-l.is
          (turn_fixed is L r.3 c.args.turns.now r.5 k l at c.if-turns-l.true),
    )

pub returns-then-turns-l-clause-over : goal.returns-then-turns-l-clause-over
returns-then-turns-l-clause-over g c M is L full read turns sized k at =
    let l = c.args.l in
    let fixed = turn_fixed is L full c.args.turns.now turns k l at c.if-turns-l.true in
    over_fixed is L full c.args.turns.now turns k l at fixed c.in_ok-extended.extended.items
    (c.in_ok-extended.ensures.extensions M is (L.size k) (L.member k)
    (fixed_family is L full c.args.turns.now turns k l at c.args.families.now read sized c.index-families-l.result c.index-families-l.is fixed))

pub returns-then-turns-l-clause-sizes : goal.returns-then-turns-l-clause-sizes
returns-then-turns-l-clause-sizes g c M is L full read turns sized =
    let l = c.args.l in
    let below = subst (λ n. l < n) read.count c.requires.place in
    let k = from_nat L.count l below in
    let at = to_nat-from_nat L.count l below in
    c.in_ok-extended.ensures.sizes M is (L.size k) (L.member k)
    (fixed_family is L full c.args.turns.now turns k l at c.args.families.now read sized c.index-families-l.result c.index-families-l.is
    (turn_fixed is L full c.args.turns.now turns k l at c.if-turns-l.true))

pub is_least-requires-clause-turns : goal.is_least-requires-clause-turns
is_least-requires-clause-turns g c = let r = c.requires.list in turns_inside r.1 r.2 c.args.turns.now r.5

pub returns-then-not-is_least-clause-over : goal.returns-then-not-is_least-clause-over
returns-then-not-is_least-clause-over g c M is L full read turns sized k at =
    let l = c.args.l in
    let free = turn_free is L full c.args.turns.now turns k l at c.if-turns-l.false in
    subst (λ xs. AreFamiliesOver is L turns.turn k xs) (sym c.new.ensures.items)
    (over_other is L full c.args.turns.now turns k l at free
    (λ h. not_true ((c.if-not-is_least.ensures L.count turns.turn (sym turns.count) turns.listed_turn k at).1 h)))

pub induced-requires : goal.induced-requires
induced-requires g c =
    let r = c.requires.list in
    let is = r.1 in
    let L = r.2 in
    let l = c.args.l in
    let below = subst (λ n. l < n) r.4.count c.requires.place in
    let k = from_nat L.count l below in
    let at = to_nat-from_nat L.count l below in (
      r.0,
      is,
      L.size k,
      L.member k,
      member_read is L r.3 c.args.turns.now r.5 k l at c.args.families.now r.4 r.6 c.index-families-l.result c.index-families-l.is,
      square_few L r.3 k,
      member_sized is L r.3 c.args.turns.now r.5 k l at c.args.families.now r.4 r.6 c.index-families-l.result c.index-families-l.is,
    )

pub returns-clause-over : goal.returns-clause-over
returns-clause-over g c M is L full read turns sized k at =
    let l = c.args.l in
    let free = turn_free is L full c.args.turns.now turns k l at c.if-turns-l.false in
    let least = (c.if-not-is_least.ensures L.count turns.turn (sym turns.count) turns.listed_turn k at).0 refl in
    let member = member_read is L full c.args.turns.now turns k l at c.args.families.now read sized c.index-families-l.result c.index-families-l.is in
    subst (λ xs. AreFamiliesOver is L turns.turn k xs) (sym (pushed_one c.new-over.result.items c.push.new.self.items c.in_ok-induced.induced
    c.new-over.ensures.items c.in_ok-push.ensures.items))
    (over_least is L full c.args.turns.now turns k l at free least c.in_ok-induced.induced
    (c.in_ok-induced.ensures.induced M is (L.size k) (L.member k) member))

pub returns-clause-sizes : goal.returns-clause-sizes
returns-clause-sizes g c M is L full read turns sized =
    let l = c.args.l in
    let below = subst (λ n. l < n) read.count c.requires.place in
    let k = from_nat L.count l below in
    let at = to_nat-from_nat L.count l below in
    let f = c.index-families-l.result in
    let own = c.index-families-l.is in
    let member = member_read is L full c.args.turns.now turns k l at c.args.families.now read sized f own in
    let small = member_sized is L full c.args.turns.now turns k l at c.args.families.now read sized f own in
    sized_of_one M (place_count c.args.self.now.outer) c.push.new.self.items c.in_ok-induced.induced
    (pushed_one c.new-over.result.items c.push.new.self.items c.in_ok-induced.induced c.new-over.ensures.items c.in_ok-push.ensures.items)
    (c.in_ok-induced.ensures.sizes M is (L.size k) (L.member k) member small)
