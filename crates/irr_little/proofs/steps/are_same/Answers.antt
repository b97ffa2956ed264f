-- Place by place.
use Rattle.std.proofs.Common.{◌≡◌, sym, ◌∙◌, ℤ, pos, get_or, FitsSigned, to_z, of_z, rules, true, false}
use Rattle.std.specs.Int.{w64, w128}
use Rattle.std.proofs.lemmas.Int.{to_z-of_z}
use Rattle.irr_algebra.specs.Fin.{to_nat}
use Rattle.irr_algebra.specs.Fin.Fin.{first, next}
use Rattle.irr_rational.specs.Ratio.{entry}
use Rattle.irr_rat.proofs.Vectors.{each_of_three}
use Rattle.irr_little.proofs.steps.are_same.Goals as goal

-- the numbers that the program reads are the entries
entries_of : (x y : ℤ) → FitsSigned w128 x → FitsSigned w64 y → to_z w128 (of_z w128 x) ≡ to_z w64 (of_z w64 y) → x ≡ y
entries_of x y f g e = sym (to_z-of_z w128 x f) ∙ e ∙ to_z-of_z w64 y g

read : (x y : ℤ) → FitsSigned w128 x → FitsSigned w64 y → x ≡ y → to_z w128 (of_z w128 x) ≡ to_z w64 (of_z w64 y)
read x y f g e = to_z-of_z w128 x f ∙ e ∙ sym (to_z-of_z w64 y g)

pub returns-then-not-is_same : goal.returns-then-not-is_same
unfolding to_nat
returns-then-not-is_same c = (
  λ t. absurd (let f : false ≡ true = t in cc),
  λ all. let t = c.is_same.ensures.1 (read (get_or c.args.a.now 0 (pos 0)) (get_or c.args.b.now 0 (pos 0)) (search rules) (search rules) (all first)) in
      absurd (cc (t, c.if-not-is_same.true)),
)

pub returns-then-not-is_same-2 : goal.returns-then-not-is_same-2
unfolding to_nat
returns-then-not-is_same-2 c = (
  λ t. absurd (let f : false ≡ true = t in cc),
  λ all. let t = c.is_same-2.ensures.1 (read (get_or c.args.a.now 1 (pos 0)) (get_or c.args.b.now 1 (pos 0)) (search rules) (search rules) (all (next first))) in
      absurd (cc (t, c.if-not-is_same-2.true)),
)

pub returns : goal.returns
unfolding to_nat
returns c = (
  λ t. each_of_three (λ i. entry c.args.a.now i ≡ entry c.args.b.now i)
      (entries_of (get_or c.args.a.now 0 (pos 0)) (get_or c.args.b.now 0 (pos 0)) (search rules) (search rules) (c.is_same.ensures.0 c.if-not-is_same.false))
      (entries_of (get_or c.args.a.now 1 (pos 0)) (get_or c.args.b.now 1 (pos 0)) (search rules) (search rules) (c.is_same-2.ensures.0 c.if-not-is_same-2.false))
      (entries_of (get_or c.args.a.now 2 (pos 0)) (get_or c.args.b.now 2 (pos 0)) (search rules) (search rules) (c.is_same-3.ensures.0 t)),
  λ all. c.is_same-3.ensures.1 (read (get_or c.args.a.now 2 (pos 0)) (get_or c.args.b.now 2 (pos 0)) (search rules) (search rules) (all (next (next first)))),
)
