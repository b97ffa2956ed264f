-- The character of one more member.
use Rattle.std.proofs.Common.{◌≡◌, ◌<◌, sym, ◌∙◌, ap, subst, ℕ, length, map, get_or, [], ◌∷◌, rules}
use Rattle.std.proofs.lemmas.List.{map-append}
use Rattle.std.proofs.lemmas.List.Elements.{All-get_or}
use Rattle.irr_algebra.specs.Fin.{to_nat}
use Rattle.irr_algebra.proofs.Indices.{from_nat, to_nat-from_nat}
use Rattle.irr_rep.specs.declared.family.Family.{Family}
use Rattle.irr_climb.specs.Families.{IsRead}
use Rattle.irr_climb.specs.Sizes.{IsSized}
use Rattle.irr_climb.proofs.FullRows.{size_few}
use Rattle.irr_climb.proofs.MemberTraces.{character_row, own_shape, rows_all, rows_more, rows_none, traces_fit}
use Rattle.irr_climb.proofs.families.characters.Goals as goal

pub character-requires-clause-shape : goal.character-requires-clause-shape
character-requires-clause-shape g c =
    let r = c.requires in
    let k = c.loop-family.family-index in
    let l : k < length c.args.families.now = search rules in
    let f = c.family-item.result in
    let below = subst (λ n. k < n) r.4.count l in
    let m = from_nat r.2.count k below in
    let at = to_nat-from_nat r.2.count k below in
    let is = subst (IsRead r.0 r.1 (r.2.member m)) (ap (λ i. get_or c.args.families.now i f) at ∙ sym c.family-item.is) (r.4.read m f) in
    let sized = subst (IsSized r.0 r.1.places) (sym c.family-item.is)
    (All-get_or (λ (h : Family g.row.S.Denot g.S.Scalar). IsSized r.0 r.1.places h) c.args.families.now k f l r.5) in (
      r.0,
      own_shape (λ x. g.met.S.Scalar.admitted_limited (g.S.Scalar.order_of x) (g.met.S.Scalar.order_admitted x)) r.0 r.1 r.6 (r.2.member m)
          (size_few r.2 r.3 m r.6) f is sized,
    )

pub character-requires-clause-sizes : goal.character-requires-clause-sizes
character-requires-clause-sizes g c =
    let r = c.requires in
    let k = c.loop-family.family-index in
    let l : k < length c.args.families.now = search rules in
    let f = c.family-item.result in
    let below = subst (λ n. k < n) r.4.count l in
    let m = from_nat r.2.count k below in
    let at = to_nat-from_nat r.2.count k below in
    let is = subst (IsRead r.0 r.1 (r.2.member m)) (ap (λ i. get_or c.args.families.now i f) at ∙ sym c.family-item.is) (r.4.read m f) in
    let sized = subst (IsSized r.0 r.1.places) (sym c.family-item.is)
    (All-get_or (λ (h : Family g.row.S.Denot g.S.Scalar). IsSized r.0 r.1.places h) c.args.families.now k f l r.5) in
    traces_fit (λ x. g.met.S.Scalar.admitted_limited (g.S.Scalar.order_of x) (g.met.S.Scalar.order_admitted x)) r.0 r.1 r.6 (r.2.member m)
    (size_few r.2 r.3 m r.6) f is sized

pub loop-family-init : goal.loop-family-init
loop-family-init g c M P L read =
    rows_none g.S.Scalar.order_of g.S.Scalar.value M P L (map (λ row. row.items) c.new-rows.result.items)
    (ap (map (λ row. row.items)) c.new-rows.ensures.items)

pub loop-family-preserved : goal.loop-family-preserved
loop-family-preserved g c M P L read =
    let k = c.loop-family.family-index in
    let f = c.family-item.result in
    rows_more g.S.Scalar.order_of g.S.Scalar.value M P L k (map (λ row. row.items) c.loop-family.rows.items)
    (map (λ row. row.items) c.push.new.self.items)
    c.in_ok-row.row.items (c.loop-family.invariant M P L read)
    (ap (map (λ row. row.items)) c.in_ok-push.ensures.items ∙ map-append (λ row. row.items) c.loop-family.rows.items (c.in_ok-row.row ∷ []))
    (λ m at. character_row M P (L.member m) f
    (subst (IsRead M P (L.member m)) (ap (λ i. get_or c.args.families.now i f) at ∙ sym c.family-item.is) (read.read m f)) c.in_ok-row.row.items
    c.in_ok-row.ensures)

pub returns : goal.returns
returns g c M P L read =
    let k = c.loop-family.family-index in
    let e : k ≡ length c.args.families.now = search rules in
    rows_all g.S.Scalar.order_of g.S.Scalar.value M P L k (map (λ row. row.items) c.loop-family.rows.items) (c.loop-family.invariant M P L read)
    (e ∙ read.count)
