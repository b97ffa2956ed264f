-- A term with a number that is 0 is 0.
use Rattle.std.proofs.Common.{◌≡◌, sym, ◌∙◌, subst, IsTrue, map, rules}
use Rattle.irr_number.specs.Number.{numbers}
use Rattle.irr_rep.specs.Twisted.{place_count, phase_table}
use Rattle.irr_char.specs.Rows.{row_of}
use Rattle.irr_char.proofs.AverageTerms.{item-order, item-value, term-zero_left, term-zero_right}
use Rattle.irr_char.proofs.characters.vanishes.Goals as goal

pub returns-then-is_zero : goal.returns-then-is_zero
returns-then-is_zero g c n small within t p e =
    let order = g.S.Scalar.order_of in
    let value = g.S.Scalar.value in
    let h = place_count c.args.t.now in
    let T = phase_table c.args.t.now in
    let x = c.index-a-back.result in
    let l = c.inverse-back.ensures.within in
    let none = c.is_zero.ensures.zero.0 (let b : IsTrue c.is_zero.result = search rules in b) in
    term-zero_left T n (row_of n (map (value n) c.args.a.now)) (row_of n (map (value n) c.args.b.now)) p
    (sym (item-value order value n h c.args.a.now small c.inverse-back.result l x c.index-a-back.is (T.opposite p) (sym (c.inverse-back.ensures.inverse p e)))
    ∙ subst (λ u. value u x ≡ (numbers u).zero) (item-order order value n h c.args.a.now small c.inverse-back.result l x c.index-a-back.is) none)

pub returns : goal.returns
returns g c n small within t p e =
    let order = g.S.Scalar.order_of in
    let value = g.S.Scalar.value in
    let h = place_count c.args.t.now in
    let T = phase_table c.args.t.now in
    let y = c.index-b-i.result in
    let none = c.is_zero-2.ensures.zero.0 t in
    term-zero_right T n (row_of n (map (value n) c.args.a.now)) (row_of n (map (value n) c.args.b.now)) p
    (sym (item-value order value n h c.args.b.now within c.args.i c.requires.place y c.index-b-i.is p e)
    ∙ subst (λ u. value u y ≡ (numbers u).zero) (item-order order value n h c.args.b.now within c.args.i c.requires.place y c.index-b-i.is) none)
