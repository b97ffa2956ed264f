-- Lists of operations with their least vectors.
--   more_canonical      one more operation
--   canonical_small     an operation over a small common denominator
--   apart_canonical     they have different rotations where the operations have
use Rattle.std.proofs.Common.{◌≡◌, sym, ◌∙◌, ap, subst, ℕ, ◌+◌, ◌<◌, ◌≤◌, inl, inr, List, [], ◌∷◌, ◌++◌, length, get_or, arith}
use Rattle.std.specs.List.{All, AllPairs}
use Rattle.std.specs.Int.{◌∣◌}
use Rattle.std.proofs.lemmas.Bool.{cases_lt}
use Rattle.std.proofs.lemmas.List.{get_or_default, get_or_push, get_or_append_left, length_push}
use Rattle.irr_rat.specs.declared.vec3.Vec3.{Vec3}
use Rattle.irr_seitz.specs.OperationMeaning.{operation}
use Rattle.irr_seitz.specs.declared.op.Op.{Op}
use Rattle.irr_close.specs.Canonical.{IsCanonicalOf, AreCanonicalOf}
use Rattle.irr_close.specs.Centring.{AreOverOne}
use Rattle.irr_close.proofs.Lattice.{divisor_small}

pub more_canonical : (cs : List Vec3) (ops made new : List Op) (g h : Op) (n : ℕ) → AreCanonicalOf cs ops made n → n < length ops → g ≡ get_or ops n g
    → IsCanonicalOf cs g h → new ≡ made ++ h ∷ [] → AreCanonicalOf cs ops new (n + 1)
more_canonical cs ops made new g h n all l e one is = subst (λ xs. AreCanonicalOf cs ops xs (n + 1)) (sym is) (record {
  long = (let a : length (made ++ h ∷ []) ≡ length made + 1 = length_push made h in let b = all.long in omega arith);
  each = λ j m d f. elim (cases_lt j n) [
    | inl less ↦ subst (IsCanonicalOf cs (get_or ops j d)) (sym (get_or_append_left made (h ∷ []) f j (let b = all.long in omega arith)))
        (all.each j less d f)
    | inr more ↦
        let here : j ≡ n = omega arith in
        let at : get_or (made ++ h ∷ []) j f ≡ h = get_or_push made h f j (all.long ∙ sym here) in
        let old : get_or ops j d ≡ g = ap (λ k. get_or ops k d) here ∙ get_or_default ops n d g l ∙ sym e in
        subst (λ x. IsCanonicalOf cs (get_or ops j d) x) (sym at) (subst (λ x. IsCanonicalOf cs x h) (sym old) one)
  ];
})

pub canonical_small : (ops : List Op) (cs : List Vec3) (g : Op) (k : ℕ) (over : AreOverOne ops cs) → k < length ops → g ≡ get_or ops k g
    → (g.den ≤ 100000) × ((D : ℕ) × (0 < D) × (D ≤ 100000) × (g.den ∣ D) × All (λ c. c.den ∣ D) cs)
canonical_small ops cs g k over l e =
    let d : g.den ∣ over.common = subst (λ (x : Op). x.den ∣ over.common) (sym e) (over.kept_divide k g l) in
    (divisor_small g.den over.common over.positive over.small d, (over.common, over.positive, over.small, d, over.divide))

pub apart_canonical : (cs : List Vec3) (ops made : List Op) → AreCanonicalOf cs ops made (length ops)
    → AllPairs (λ g h. ¬ ((operation g).rotation ≡ (operation h).rotation)) ops
    → AllPairs (λ g h. ¬ ((operation g).rotation ≡ (operation h).rotation)) made
apart_canonical cs ops made all apart i j d l m e =
    let long = all.long in
    apart i j d l (omega arith) (sym (all.each i (omega arith) d d).rotation ∙ e ∙ (all.each j (omega arith) d d).rotation)
