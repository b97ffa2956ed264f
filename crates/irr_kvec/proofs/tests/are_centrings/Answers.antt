use Rattle.std.proofs.Common.{◌≡◌, sym, ◌∙◌, ap, subst, ℕ, ◌<◌, ◌≤◌, ◌%◌, List, length, All, Contains, rules, arith}
use Rattle.std.proofs.lemmas.Grind.{common_steps}
use Rattle.std.proofs.lemmas.List.Elements.{All-contains}
use Rattle.std.proofs.lemmas.Nat.Gcd.{dvd_of_mod-eq-zero}
use Rattle.irr_algebra.specs.Fin.{Fin}
use Rattle.irr_algebra.specs.Matrix.{◌⊖◌, null}
use Rattle.irr_algebra.specs.Ring.{whole}
use Rattle.irr_rational.specs.Rational.{rationals, IsWhole}
use Rattle.irr_rational.specs.Ratio.{entry}
use Rattle.irr_rational.proofs.WholeNumbers.{whole_multiple}
use Rattle.irr_space.specs.Operation.{Vector, component}
use Rattle.irr_lattice.proofs.Vectors.{whole_zero, component-scale}
use Rattle.irr_rat.specs.declared.vec3.Vec3.{Vec3}
use Rattle.irr_rat.specs.VectorMeaning.{vector}
use Rattle.irr_rat.proofs.Vectors.{component-sub, component-vector_of}
use Rattle.irr_kvec.specs.Centrings.{IsCentringList}
use Rattle.irr_kvec.proofs.tests.are_centrings.Goals as goal

list : (cs : List Vec3) (z : Vec3) → Contains cs z → vector z ≡ null → length cs ≤ 32 → All (λ c. length cs % c.den ≡ 0) cs → IsCentringList cs
list cs z m e few d = record {
  zero = record {
    centring = z;
    member = m;
    is_whole = λ i. subst (λ (v : Vector). IsWhole (component (null ⊖ v) i)) (sym e) (subst IsWhole (sym (component-sub null null i ∙ rationals.add-neg (component null i))) whole_zero);
  };
  few = few;
  multiple = λ c h i. subst IsWhole (sym (component-scale (whole rationals (length cs)) (vector c) i ∙ ap (rationals.mul (whole rationals (length cs))) (component-vector_of c.num c.den i)))
      (whole_multiple (entry c.num i) c.den (length cs) c.lowest.positive (dvd_of_mod-eq-zero c.den (All-contains (λ (v : Vec3). length cs % v.den ≡ 0) cs c d h)));
}

pub returns : goal.returns
returns c = λ t.
    let p : 0 < length c.args.centrings.now = first_of (search rules, grind (arith, common_steps)) in
    list c.args.centrings.now c.index-centrings-0.result (0, p, sym c.index-centrings-0.is) (c.is_zero.ensures c.if-not-is_zero.false) c.if-centrings-gt32.false (c.divide_count.ensures t)
