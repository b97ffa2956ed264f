-- The numbers of two small rows can be compared.
use Rattle.std.proofs.Common.{◌≡◌, sym, ◌∙◌, subst, ℕ, ◌<◌, ◌≤◌, ◌*◌, ◌+◌, ◌^◌, map, refl, IsTrue, true, false, arith, rules}
use Rattle.irr_algebra.specs.Fin.{to_nat}
use Rattle.irr_algebra.proofs.Indices.{from_nat, to_nat-from_nat}
use Rattle.irr_char.proofs.AverageTerms.{item-order, item-small, item-value}
use Rattle.irr_mat.proofs.Sizes.{sum_denominators, sum_sizes}
use Rattle.irr_char.specs.Rows.{row_of}
use Rattle.irr_climb.proofs.SplitSearch.{below_or_last}
use Rattle.irr_climb.proofs.turns.is_same_row.Goals as goal

few : (n m : ℕ) → m ≤ 12000 → m ≡ n → 48 * n * 1 + 48 * n * 1 < 2 ^ 110
few n m l e = omega (arith, l, e)

pub equal-requires-clause-denominators : goal.equal-requires-clause-denominators
equal-requires-clause-denominators g c =
    let small = c.requires.2 in
    let other = c.requires.3 in
    let within : c.loop-i.i < c.requires.1 = subst (λ k. c.loop-i.i < k) small.count (search rules) in
    let x = c.index-left-i.result in
    sum_denominators g.S.Scalar.value (g.S.Scalar.order_of x) c.requires.0
    (g.met.S.Scalar.admitted_positive (g.S.Scalar.order_of x) (g.met.S.Scalar.order_admitted x))
    (item-order g.S.Scalar.order_of g.S.Scalar.value c.requires.0 c.requires.1 c.args.left.now small c.loop-i.i within x c.index-left-i.is)
    48 1 48 1 x c.index-right-i.result
    (item-small g.S.Scalar.order_of g.S.Scalar.value c.requires.0 c.requires.1 c.args.left.now small c.loop-i.i within x c.index-left-i.is)
    (item-small g.S.Scalar.order_of g.S.Scalar.value c.requires.0 c.requires.1 c.args.right.now other c.loop-i.i within c.index-right-i.result
    c.index-right-i.is)
    (2 ^ 60) (omega arith)

pub equal-requires-clause-sizes : goal.equal-requires-clause-sizes
equal-requires-clause-sizes g c =
    let small = c.requires.2 in
    let other = c.requires.3 in
    let within : c.loop-i.i < c.requires.1 = subst (λ k. c.loop-i.i < k) small.count (search rules) in
    let x = c.index-left-i.result in
    sum_sizes g.S.Scalar.value (g.S.Scalar.order_of x) c.requires.0
    (g.met.S.Scalar.admitted_positive (g.S.Scalar.order_of x) (g.met.S.Scalar.order_admitted x))
    (item-order g.S.Scalar.order_of g.S.Scalar.value c.requires.0 c.requires.1 c.args.left.now small c.loop-i.i within x c.index-left-i.is)
    48 1 48 1 x c.index-right-i.result
    (item-small g.S.Scalar.order_of g.S.Scalar.value c.requires.0 c.requires.1 c.args.left.now small c.loop-i.i within x c.index-left-i.is)
    (item-small g.S.Scalar.order_of g.S.Scalar.value c.requires.0 c.requires.1 c.args.right.now other c.loop-i.i within c.index-right-i.result
    c.index-right-i.is)
    (2 ^ 110) (few c.requires.0 (g.S.Scalar.order_of x) (g.met.S.Scalar.admitted_limited (g.S.Scalar.order_of x) (g.met.S.Scalar.order_admitted x))
    (item-order g.S.Scalar.order_of g.S.Scalar.value c.requires.0 c.requires.1 c.args.left.now small c.loop-i.i within x c.index-left-i.is))

not_true : IsTrue false → ⊥
not_true h = let e : false ≡ true = h in cc

pub returns-then-not-equal : goal.returns-then-not-equal
returns-then-not-equal g c M h s r =
    let order = g.S.Scalar.order_of in
    let value = g.S.Scalar.value in
    let k = c.loop-i.i in
    let within : k < h = subst (λ m. k < m) s.count c.loop-i-test.true in
    let p = from_nat h k within in
    let e = to_nat-from_nat h k within in
    let x = c.index-left-i.result in
    let y = c.index-right-i.result in
    let left = c.args.left.now in
    let right = c.args.right.now in (
      λ t. absurd (not_true t),
      λ all. absurd (
          let same : value (order x) x ≡ value (order x) y = subst (λ m. value m x ≡ value m y)
          (sym (item-order order value M h left s k within x c.index-left-i.is))
          (item-value order value M h left s k within x c.index-left-i.is p e ∙ all p
          ∙ sym (item-value order value M h right r k within y c.index-right-i.is p e)) in
          let t : c.equal.result ≡ true = c.equal.ensures.1 same in
          let f : c.equal.result ≡ false = c.if-not-equal.true in
          let bad : false ≡ true = sym f ∙ t in cc),
    )

pub loop-i-preserved : goal.loop-i-preserved
loop-i-preserved g c M h s r i l =
    let order = g.S.Scalar.order_of in
    let value = g.S.Scalar.value in
    let k = c.loop-i.i in
    let within : k < h = subst (λ m. k < m) s.count c.loop-i-test.true in
    let x = c.index-left-i.result in
    let y = c.index-right-i.result in
    let left = c.args.left.now in
    let right = c.args.right.now in
    let t : c.equal.result ≡ true = c.if-not-equal.false in
    let same : value M x ≡ value M y = subst (λ m. value m x ≡ value m y) (item-order order value M h left s k within x c.index-left-i.is)
    (c.equal.ensures.0 t) in
    below_or_last (λ j. to_nat i ≡ j → row_of M (map (value M) left) i ≡ row_of M (map (value M) right) i) (to_nat i) k l
    (λ m e. c.loop-i.invariant M h s r i m)
    (λ e. sym (item-value order value M h left s k within x c.index-left-i.is i e) ∙ same
    ∙ item-value order value M h right r k within y c.index-right-i.is i e)
    refl
