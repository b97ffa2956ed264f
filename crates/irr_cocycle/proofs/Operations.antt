-- Laws of products of operations, and of products of rows and columns.
--   op-assoc, identity-op, op-identity, inverse_unique
--   translation_between    operations with one rotation differ by a translation
--   turned-op, turned-identity, dot-add, dot-turned, dot-sub, dot-times
use Rattle.std.proofs.Common.{◌≡◌, sym, ◌∙◌, ap, ap₂, refl, ℕ}
use Rattle.irr_algebra.specs.Fin.Fin.{first}
use Rattle.irr_algebra.specs.Ring.{Ring, whole}
use Rattle.irr_algebra.specs.Matrix.{Matrix, ◌·◌, ◌⊕◌, ◌⊖◌, unit, null, scale}
use Rattle.irr_algebra.proofs.Matrices as M
use Rattle.irr_algebra.proofs.Matrices.{matrix-ext, unit-mul, mul-unit, mul-null, null-add, add-null, mul-add, scale-mul, sub-mul}
use Rattle.irr_number.specs.Integers.{integers}
use Rattle.irr_rational.specs.Integer.{whole_matrix}
use Rattle.irr_rational.specs.Rational.{rationals}
use Rattle.irr_rational.proofs.Integers.{whole_matrix-mul, whole_matrix-unit}
use Rattle.irr_space.specs.Operation.{Operation, Vector, WaveVector, ◌⊙◌, identity, translation, IsInverse, dot, turned}
use Rattle.irr_space.specs.Reciprocal.{times}
use Rattle.irr_lattice.proofs.Translations.{operation-ext}

module _ {R : Ring} {m n : ℕ} where
  pub add_matrix_assoc : (a b c : Matrix R m n) → (a ⊕ b) ⊕ c ≡ a ⊕ (b ⊕ c)
  unfolding ◌⊕◌
  add_matrix_assoc a b c = matrix-ext (λ i j. R.add_assoc (a.at i j) (b.at i j) (c.at i j))

  pub add_matrix_comm : (a b : Matrix R m n) → a ⊕ b ≡ b ⊕ a
  unfolding ◌⊕◌
  add_matrix_comm a b = matrix-ext (λ i j. R.add_comm (a.at i j) (b.at i j))

  -- a is (a - b) + b
  pub sub-add : (a b : Matrix R m n) → (a ⊖ b) ⊕ b ≡ a
  unfolding ◌⊕◌ ◌⊖◌
  sub-add a b = matrix-ext (λ i j. R.add_assoc (a.at i j) (R.neg (b.at i j)) (b.at i j) ∙ ap (R.add (a.at i j)) (R.add_comm (R.neg (b.at i j)) (b.at i j) ∙ R.add-neg (b.at i j)) ∙ R.add-zero (a.at i j))

  pub add-sub : (a b : Matrix R m n) → (a ⊕ b) ⊖ b ≡ a
  unfolding ◌⊕◌ ◌⊖◌
  add-sub a b = matrix-ext (λ i j. R.add_assoc (a.at i j) (b.at i j) (R.neg (b.at i j)) ∙ ap (R.add (a.at i j)) (R.add-neg (b.at i j)) ∙ R.add-zero (a.at i j))

abbrev pub wide : Operation → Matrix rationals 3 3
wide g = whole_matrix rationals g.rotation

pub rotation-op : (g h : Operation) → (g ⊙ h).rotation ≡ g.rotation · h.rotation
unfolding ◌⊙◌
rotation-op g h = refl

pub vector-op : (g h : Operation) → (g ⊙ h).vector ≡ g.vector ⊕ (wide g · h.vector)
unfolding ◌⊙◌
vector-op g h = refl

pub wide-op : (g h : Operation) → wide (g ⊙ h) ≡ wide g · wide h
wide-op g h = ap (whole_matrix rationals) (rotation-op g h) ∙ whole_matrix-mul rationals g.rotation h.rotation

pub op-assoc : (f g h : Operation) → (f ⊙ g) ⊙ h ≡ f ⊙ (g ⊙ h)
op-assoc f g h = operation-ext ((f ⊙ g) ⊙ h) (f ⊙ (g ⊙ h))
    (rotation-op (f ⊙ g) h ∙ ap (λ R. R · h.rotation) (rotation-op f g) ∙ M.mul_assoc f.rotation g.rotation h.rotation ∙ ap (λ R. f.rotation · R) (sym (rotation-op g h)) ∙ sym (rotation-op f (g ⊙ h)))
    (vector-op (f ⊙ g) h ∙ ap₂ (λ v W. v ⊕ (W · h.vector)) (vector-op f g) (wide-op f g)
    ∙ ap (λ v. (f.vector ⊕ (wide f · g.vector)) ⊕ v) (M.mul_assoc (wide f) (wide g) h.vector) ∙ add_matrix_assoc f.vector (wide f · g.vector) (wide f · (wide g · h.vector))
    ∙ ap (λ v. f.vector ⊕ v) (sym (mul-add (wide f) g.vector (wide g · h.vector)) ∙ ap (λ v. wide f · v) (sym (vector-op g h))) ∙ sym (vector-op f (g ⊙ h)))

pub rotation-identity : identity.rotation ≡ unit integers 3
unfolding identity
rotation-identity = refl

pub vector-identity : identity.vector ≡ null
unfolding identity
vector-identity = refl

pub wide_unit : (g : Operation) → g.rotation ≡ unit integers 3 → wide g ≡ unit rationals 3
wide_unit g e = ap (whole_matrix rationals) e ∙ whole_matrix-unit rationals 3

pub identity-op : (g : Operation) → identity ⊙ g ≡ g
identity-op g = operation-ext (identity ⊙ g) g
    (rotation-op identity g ∙ ap (λ R. R · g.rotation) rotation-identity ∙ unit-mul g.rotation)
    (vector-op identity g ∙ ap₂ (λ v W. v ⊕ (W · g.vector)) vector-identity (wide_unit identity rotation-identity) ∙ null-add (unit rationals 3 · g.vector) ∙ unit-mul g.vector)

pub op-identity : (g : Operation) → g ⊙ identity ≡ g
op-identity g = operation-ext (g ⊙ identity) g
    (rotation-op g identity ∙ ap (λ R. g.rotation · R) rotation-identity ∙ mul-unit g.rotation)
    (vector-op g identity ∙ ap (λ v. g.vector ⊕ (wide g · v)) vector-identity ∙ ap (λ v. g.vector ⊕ v) (mul-null (wide g)) ∙ add-null g.vector)

pub rotation-translation : (t : Vector) → (translation t).rotation ≡ unit integers 3
unfolding translation
rotation-translation t = refl

pub vector-translation : (t : Vector) → (translation t).vector ≡ t
unfolding translation
vector-translation t = refl

pub rotation-translation-op : (t : Vector) (g : Operation) → (translation t ⊙ g).rotation ≡ g.rotation
rotation-translation-op t g = rotation-op (translation t) g ∙ ap (λ R. R · g.rotation) (rotation-translation t) ∙ unit-mul g.rotation

pub vector-translation-op : (t : Vector) (g : Operation) → (translation t ⊙ g).vector ≡ t ⊕ g.vector
vector-translation-op t g = vector-op (translation t) g ∙ ap₂ (λ v W. v ⊕ (W · g.vector)) (vector-translation t) (wide_unit (translation t) (rotation-translation t)) ∙ ap (λ v. t ⊕ v) (unit-mul g.vector)

-- operations with one rotation differ by a translation
pub translation_between : (g h : Operation) → g.rotation ≡ h.rotation → g ≡ translation (g.vector ⊖ h.vector) ⊙ h
translation_between g h e = operation-ext g (translation (g.vector ⊖ h.vector) ⊙ h)
    (e ∙ sym (rotation-translation-op (g.vector ⊖ h.vector) h))
    (sym (sub-add g.vector h.vector) ∙ sym (vector-translation-op (g.vector ⊖ h.vector) h))

-- the translation is the product with the inverse
pub translation-quotient : (g h f : Operation) → g.rotation ≡ h.rotation → IsInverse h f → translation (g.vector ⊖ h.vector) ≡ g ⊙ f
translation-quotient g h f e i = sym (op-identity (translation (g.vector ⊖ h.vector))) ∙ ap (λ x. translation (g.vector ⊖ h.vector) ⊙ x) (sym i.right)
    ∙ sym (op-assoc (translation (g.vector ⊖ h.vector)) h f) ∙ ap (λ x. x ⊙ f) (sym (translation_between g h e))

-- the rotation of the inverse undoes the rotation
pub rotation-inverse : (g h : Operation) → IsInverse g h → g.rotation · h.rotation ≡ unit integers 3
rotation-inverse g h i = sym (rotation-op g h) ∙ ap (λ (x : Operation). x.rotation) i.right ∙ rotation-identity

-- g (1|t) g^-1 is (1|Rt)
pub conjugate-translation : (g h : Operation) (t : Vector) → IsInverse g h → translation (wide g · t) ≡ (g ⊙ translation t) ⊙ h
conjugate-translation g h t i =
    ap translation (sym (add-sub (wide g · t) g.vector)) ∙ ap (λ v. translation (v ⊖ g.vector)) (add_matrix_comm (wide g · t) g.vector ∙ ap (λ v. g.vector ⊕ (wide g · v)) (sym (vector-translation t)) ∙ sym (vector-op g (translation t)))
    ∙ translation-quotient (g ⊙ translation t) g h (rotation-op g (translation t) ∙ ap (λ R. g.rotation · R) (rotation-translation t) ∙ mul-unit g.rotation) i

pub turned-op : (k : WaveVector) (g h : Operation) → turned k (g ⊙ h) ≡ turned (turned k g) h
unfolding turned
turned-op k g h = ap (λ W. k · W) (wide-op g h) ∙ sym (M.mul_assoc k (wide g) (wide h))

pub turned-identity : (k : WaveVector) → turned k identity ≡ k
unfolding turned
turned-identity k = ap (λ W. k · W) (wide_unit identity rotation-identity) ∙ mul-unit k

-- only the rotation turns
pub turned-rotation : (k : WaveVector) (g h : Operation) → g.rotation ≡ h.rotation → turned k g ≡ turned k h
unfolding turned
turned-rotation k g h e = ap (λ R. k · whole_matrix rationals R) e

pub turned-sub : (k l : WaveVector) (g : Operation) → turned (k ⊖ l) g ≡ turned k g ⊖ turned l g
unfolding turned
turned-sub k l g = sub-mul k l (wide g)

pub dot-add : (k : WaveVector) (s t : Vector) → dot k (s ⊕ t) ≡ rationals.add (dot k s) (dot k t)
unfolding dot ◌⊕◌
dot-add k s t = ap (λ (m : Matrix rationals 1 1). m.at first first) (mul-add k s t)

pub dot-sub : (k l : WaveVector) (t : Vector) → dot (k ⊖ l) t ≡ rationals.add (dot k t) (rationals.neg (dot l t))
unfolding dot ◌⊖◌
dot-sub k l t = ap (λ (m : Matrix rationals 1 1). m.at first first) (sub-mul k l t)

pub dot-turned : (k : WaveVector) (g : Operation) (t : Vector) → dot k (wide g · t) ≡ dot (turned k g) t
unfolding dot turned
dot-turned k g t = ap (λ (m : Matrix rationals 1 1). m.at first first) (sym (M.mul_assoc k (wide g) t))

pub dot-times : (n : ℕ) (k : WaveVector) (t : Vector) → dot (times n k) t ≡ rationals.mul (whole rationals n) (dot k t)
unfolding dot scale
dot-times n k t = ap (λ (m : Matrix rationals 1 1). m.at first first) (scale-mul rationals (whole rationals n) k t)

pub dot-null : (k : WaveVector) → dot k null ≡ rationals.zero
unfolding dot null
dot-null k = ap (λ (m : Matrix rationals 1 1). m.at first first) (mul-null k)
