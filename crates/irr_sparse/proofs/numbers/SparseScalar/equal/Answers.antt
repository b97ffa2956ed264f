-- Forms are equal exactly where their numbers are.
use Rattle.std.proofs.Common.{◌≡◌, sym, ◌∙◌, ap₂, rules, ℕ, ℤ, ◌↔◌, Bool, IsTrue, List}
use Rattle.irr_sparse.specs.Value.{value_of}
use Rattle.irr_sparse.proofs.Arithmetic.{IsForm}
use Rattle.irr_sparse.proofs.Forms.{same-denominators, same-terms}
use Rattle.irr_sparse.proofs.FormsOf.{form_at, form_of}
use Rattle.irr_sparse.proofs.numbers.SparseScalar.equal.Goals as goal

pub returns-then-self-other : goal.returns-then-self-other
returns-then-self-other c = let f = form_of c.args.self.now in let g = form_at c.args.other.now c.args.self.now.n c.requires.orders in
    ((λ h. absurd (search rules)), λ h. absurd (c.if-self-other.true (same-denominators c.args.self.now.n c.args.self.now.some c.args.self.now.terms.items c.args.self.now.den f.positive f.terms f.lowest c.args.other.now.terms.items c.args.other.now.den g.positive g.terms g.lowest h)))

same-test : (n : ℕ) (left right xs ys : List (ℕ × ℤ)) (d e : ℕ) (b : Bool) → IsForm n xs d → IsForm n ys e → left ≡ xs → right ≡ ys → d ≡ e → IsTrue b ↔ (left ≡ right) → IsTrue b ↔ (value_of n xs d ≡ value_of n ys e)
same-test n left right xs ys d e b f g p q de t = (
  λ h. ap₂ (value_of n) (sym p ∙ t.0 h ∙ q) de,
  λ h. t.1 (p ∙ same-terms n f.some xs d f.positive f.terms f.lowest ys e g.positive g.terms g.lowest h ∙ sym q),
)

pub returns : goal.returns
returns c = same-test c.args.self.now.n c.as_slice.result.now c.as_slice-2.result.now c.args.self.now.terms.items c.args.other.now.terms.items c.args.self.now.den c.args.other.now.den c.are_same.result
    (form_of c.args.self.now) (form_at c.args.other.now c.args.self.now.n c.requires.orders) c.as_slice.ensures c.as_slice-2.ensures c.if-self-other.false c.are_same.ensures
