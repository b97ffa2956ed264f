-- Forms are equal exactly where their numbers are.
use Rattle.std.proofs.Common.{◌≡◌, subst, ℕ, ℤ, ◌<◌, ◌↔◌, Bool, IsTrue, List, length, rules}
use Rattle.irr_canonical.specs.Coefficient.{number_of}
use Rattle.irr_cyc.specs.Form.{IsForm, at}
use Rattle.irr_cyc.proofs.Values.{same-coefficients, same-denominators, same-value}
use Rattle.irr_cyc.proofs.coefficients.DenseScalar.equal.Goals as goal

same-test : (left right xs ys : List ℤ) (d e : ℕ) (b : Bool) → IsForm xs d → IsForm ys e → length ys ≡ length xs → left ≡ xs → right ≡ ys → d ≡ e
    → IsTrue b ↔ ((j : ℕ) → j < length left → at left j ≡ at right j) → IsTrue b ↔ (number_of (length xs) xs d ≡ number_of (length xs) ys e)
same-test left right xs ys d e b f g len p q de t =
    let s : IsTrue b ↔ ((j : ℕ) → j < length xs → at xs j ≡ at right j) = subst (λ (zs : List ℤ). IsTrue b ↔ ((j : ℕ) → j < length zs → at zs j ≡ at right j)) p t in
    let r : IsTrue b ↔ ((j : ℕ) → j < length xs → at xs j ≡ at ys j) = subst (λ (zs : List ℤ). IsTrue b ↔ ((j : ℕ) → j < length xs → at xs j ≡ at zs j)) q s in
    (λ h. same-value (length xs) xs ys d e f.positive de (r.0 h), λ h. r.1 (same-coefficients xs ys d e f g len h))

pub returns-then-self-other : goal.returns-then-self-other
returns-then-self-other c = ((λ h. absurd (search rules)), λ h. absurd (c.if-self-other.true (same-denominators c.args.self.now.coefficients.items c.args.other.now.coefficients.items c.args.self.now.den c.args.other.now.den c.args.self.now.form c.args.other.now.form c.requires.orders h)))

pub returns : goal.returns
returns c = same-test c.as_slice.result.now c.as_slice-2.result.now c.args.self.now.coefficients.items c.args.other.now.coefficients.items c.args.self.now.den c.args.other.now.den c.are_same.result
    c.args.self.now.form c.args.other.now.form c.requires.orders c.as_slice.ensures.value c.as_slice-2.ensures.value c.if-self-other.false c.are_same.ensures
