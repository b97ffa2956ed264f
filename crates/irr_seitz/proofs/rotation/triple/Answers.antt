use Rattle.std.proofs.Common.{◌≡◌, sym, ◌∙◌, ap, ap₂, subst, ◌≤◌, ◌^◌, ℤ, ◌*ℤ◌, unsigned_abs, FitsSigned, to_z, of_z}
use Rattle.std.specs.Int.{w64}
use Rattle.std.proofs.lemmas.Int.{to_z-of_z}
use Rattle.irr_seitz.proofs.Sizes.{product_fits}
use Rattle.irr_seitz.proofs.rotation.triple.Goals as goal

read_back : (p z : ℤ) → FitsSigned w64 p → FitsSigned w64 z → unsigned_abs p ≤ 2 ^ 30 → unsigned_abs z ≤ 2 ^ 15
    → to_z w64 (of_z w64 (to_z w64 (of_z w64 p) *ℤ to_z w64 (of_z w64 z))) ≡ p *ℤ z
read_back p z f g h k = ap (λ a. to_z w64 (of_z w64 a)) (ap₂ ◌*ℤ◌ (to_z-of_z w64 p f) (to_z-of_z w64 z g)) ∙ to_z-of_z w64 (p *ℤ z) (product_fits p z h k).1

pub returns-clause-value : goal.returns-clause-value
returns-clause-value c = read_back c.pair.result c.args.z (record { sfits = c.pair.type_inv }) c.ranges.z c.pair.ensures.small c.requires.z
    ∙ ap (λ a. a *ℤ c.args.z) (c.pair.ensures.value ∙ ap₂ ◌*ℤ◌ (to_z-of_z w64 c.args.x c.ranges.x) (to_z-of_z w64 c.args.y c.ranges.y))

pub returns-clause-small : goal.returns-clause-small
returns-clause-small c = subst (λ a. unsigned_abs a ≤ 2 ^ 45) (sym (read_back c.pair.result c.args.z (record { sfits = c.pair.type_inv }) c.ranges.z c.pair.ensures.small c.requires.z))
    (product_fits c.pair.result c.args.z c.pair.ensures.small c.requires.z).0
