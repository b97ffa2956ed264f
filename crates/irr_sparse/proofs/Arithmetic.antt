-- The numbers that sums, products, multiples and lifts of terms stand for.
--   combined-number, multiplied-number, scaled-number, lifted-number     by their terms and denominators
--   size-bound, product-bound ..    what the conditions on sizes and denominators say of terms
use Rattle.std.proofs.Common.{◌≡◌, sym, ◌∙◌, ap, ap₂, subst, ℕ, ℤ, pos, negsuc, ◌+◌, ◌*◌, ◌/◌, ◌^◌, ◌<◌, ◌≤◌, ◌*ℤ◌, List, All, inl, inr, arith, Bool, true, ◌==◌, length}
use Rattle.std.proofs.lemmas.List.{nil_from_length}
use Rattle.std.proofs.lemmas.Grind.{common_steps}
use Rattle.std.proofs.lemmas.Bool.{cases_lt}
use Rattle.std.proofs.lemmas.List.Elements.{All-weaker}
use Rattle.std.specs.Int.{◌∣◌}
use native.Mathlib.Nat as Nat
use Rattle.irr_algebra.specs.Ring.{Ring, whole}
use Rattle.irr_algebra.proofs.Homomorphisms.{map-whole}
use Rattle.irr_algebra.proofs.Rings.{mul-zero, mul_left_comm, neg-mul, one-mul, ring_laws, zero-mul, neg-zero, zero-add}
use Rattle.irr_algebra.proofs.Whole.{whole-mul, whole-one}
use Rattle.irr_number.specs.Lift.{lift, lift_of}
use Rattle.irr_number.specs.Number.{Number, numbers, root_power}
use Rattle.irr_number.proofs.Lifts.{lift_of-lift}
use Rattle.irr_rational.specs.Integer.{integer}
use Rattle.irr_rational.proofs.Integers.{integer-mul, integer-neg, integer-one, integer-pos, integer-zero}
use Rattle.irr_canonical.specs.Coefficient.{denominator, size}
use Rattle.irr_canonical.proofs.Sums.{eq_of_mul}
use Rattle.irr_cyc.specs.Terms.{terms_sum}
use Rattle.irr_sparse.specs.TermList.{AreTerms, IsLowest, row_sum, total}
use Rattle.irr_sparse.specs.Value.{value_of}
use Rattle.irr_sparse.proofs.Forms.{form-denominator, form-size}
use Rattle.irr_sparse.proofs.Sums.{row-lift}
use Rattle.irr_sparse.proofs.Values.{exponents-below, value-is, value-mul, value-none}

-- a number with terms in the basis and in lowest terms
pub record IsForm (n : ℕ) (ts : List (ℕ × ℤ)) (d : ℕ) : Type 0 where
  pub some : 0 < n
  pub positive : 0 < d
  pub terms : AreTerms n 0 ts
  pub lowest : IsLowest ts d

module _ (n : ℕ) (ts : List (ℕ × ℤ)) (d : ℕ) (f : IsForm n ts d) where
  pub den-is : denominator n (value_of n ts d) ≡ d
  den-is = form-denominator n f.some ts d f.positive f.terms f.lowest

  pub size-is : size n (value_of n ts d) ≡ total ts
  size-is = form-size n f.some ts d f.positive f.terms f.lowest

  sum-is : (numbers n).mul (whole (numbers n) d) (value_of n ts d) ≡ terms_sum n ts
  sum-is = value-mul n ts d f.positive (exponents-below n 0 ts f.terms)

  -- multiples over more
  pub scaled-number : (zs : List (ℕ × ℤ)) (k : ℤ) (c : ℕ) → 0 < c → AreTerms n 0 zs → terms_sum n zs ≡ (numbers n).mul (integer (numbers n) k) (terms_sum n ts)
      → (numbers n).mul (whole (numbers n) c) (value_of n zs (d * c)) ≡ (numbers n).mul (integer (numbers n) k) (value_of n ts d)
  scaled-number zs k c pc h e = eq_of_mul n f.some d f.positive ((numbers n).mul (whole (numbers n) c) (value_of n zs (d * c))) ((numbers n).mul (integer (numbers n) k) (value_of n ts d))
      (sym ((numbers n).mul_assoc (whole (numbers n) d) (whole (numbers n) c) (value_of n zs (d * c)))
      ∙ ap (λ x. (numbers n).mul x (value_of n zs (d * c))) (sym (whole-mul (numbers n) d c))
      ∙ value-mul n zs (d * c) (Nat.mul-pos f.positive pc) (exponents-below n 0 zs h) ∙ e
      ∙ ap ((numbers n).mul (integer (numbers n) k)) (sym sum-is)
      ∙ mul_left_comm (numbers n) (integer (numbers n) k) (whole (numbers n) d) (value_of n ts d))

  pub scaled-den : (c : ℕ) → denominator n (value_of n ts d) * c ≤ 2 ^ 60 → d * c ≤ 2 ^ 60
  scaled-den c h = subst (λ m. m * c ≤ 2 ^ 60) den-is h

  pub scaled-small : (k : ℕ) → size n (value_of n ts d) * k ≤ 2 ^ 100 → total ts * k ≤ 2 ^ 100
  scaled-small k h = subst (λ m. m * k ≤ 2 ^ 100) size-is h

  -- at a multiple of the order
  pub lifted-number : (m : ℕ) → 0 < m → (v : n ∣ m) → (zs : List (ℕ × ℤ)) → AreTerms m 0 zs → terms_sum m zs ≡ row_sum m (pos 1) 0 (m / n) ts → value_of m zs d ≡ lift_of n m (value_of n ts d)
  lifted-number m hm v zs h e = value-is m hm zs d f.positive (exponents-below m 0 zs h) (lift_of n m (value_of n ts d))
      (ap ((numbers m).mul (whole (numbers m) d)) (lift_of-lift n m f.some v (value_of n ts d))
      ∙ ap (λ x. (numbers m).mul x ((lift n m f.some v).map (value_of n ts d))) (sym (map-whole (lift n m f.some v) d))
      ∙ sym ((lift n m f.some v).map-mul (whole (numbers n) d) (value_of n ts d)) ∙ ap (lift n m f.some v).map sum-is ∙ sym (row-lift n m f.some v ts) ∙ sym e)

module _ (n : ℕ) (xs ys : List (ℕ × ℤ)) (d e : ℕ) (f : IsForm n xs d) (g : IsForm n ys e) where
  pub dens-bound : denominator n (value_of n xs d) * denominator n (value_of n ys e) ≤ 2 ^ 60 → d * e ≤ 2 ^ 60
  dens-bound h = subst (λ m. m ≤ 2 ^ 60) (λ i. den-is n xs d f i * den-is n ys e g i) h

  pub sums-bound : size n (value_of n xs d) * denominator n (value_of n ys e) + size n (value_of n ys e) * denominator n (value_of n xs d) < 2 ^ 110 → total xs * e + total ys * d < 2 ^ 110
  sums-bound h = subst (λ m. m < 2 ^ 110) (λ i. size-is n xs d f i * den-is n ys e g i + size-is n ys e g i * den-is n xs d f i) h

  pub sums-bound_same : size n (value_of n xs d) * denominator n (value_of n ys e) + size n (value_of n ys e) * denominator n (value_of n xs d) < 2 ^ 110 → total xs * 1 + total ys * 1 < 2 ^ 110
  sums-bound_same h = omega (arith, sums-bound h, Nat.mul-le-mul_left (total xs) g.positive, Nat.mul-le-mul_left (total ys) f.positive)

  pub products-bound : size n (value_of n xs d) * size n (value_of n ys e) ≤ 2 ^ 100 → total xs * total ys ≤ 2 ^ 100
  products-bound h = subst (λ m. m ≤ 2 ^ 100) (λ i. size-is n xs d f i * size-is n ys e g i) h

  -- sums over the product of the denominators, with a factor on the right
  pub combined-number : (zs : List (ℕ × ℤ)) (l r k : ℤ) → AreTerms n 0 zs → l ≡ pos e → r ≡ pos d *ℤ k
      → terms_sum n zs ≡ (numbers n).add ((numbers n).mul (integer (numbers n) l) (terms_sum n xs)) ((numbers n).mul (integer (numbers n) r) (terms_sum n ys))
      → value_of n zs (d * e) ≡ (numbers n).add (value_of n xs d) ((numbers n).mul (integer (numbers n) k) (value_of n ys e))
  combined-number zs l r k h el er s = value-is n f.some zs (d * e) (Nat.mul-pos f.positive g.positive) (exponents-below n 0 zs h) ((numbers n).add (value_of n xs d) ((numbers n).mul (integer (numbers n) k) (value_of n ys e)))
      (ap (λ w. (numbers n).mul w ((numbers n).add (value_of n xs d) ((numbers n).mul (integer (numbers n) k) (value_of n ys e)))) (whole-mul (numbers n) d e)
      ∙ spread (numbers n) (whole (numbers n) d) (whole (numbers n) e) (integer (numbers n) k) (value_of n xs d) (value_of n ys e)
      ∙ (λ i. (numbers n).add ((numbers n).mul ((sym (integer-pos (numbers n) e) ∙ ap (integer (numbers n)) (sym el)) i) (sum-is n xs d f i))
      ((numbers n).mul ((ap (λ w. (numbers n).mul w (integer (numbers n) k)) (sym (integer-pos (numbers n) d)) ∙ sym (integer-mul (numbers n) (pos d) k) ∙ ap (integer (numbers n)) (sym er)) i) (sum-is n ys e g i)))
      ∙ sym s)
    where
      spread : (R : Ring) (d e k x y : R.Carrier) → R.mul (R.mul d e) (R.add x (R.mul k y)) ≡ R.add (R.mul e (R.mul d x)) (R.mul (R.mul d k) (R.mul e y))
      spread R d e k x y = simp (ring_laws, R)

  -- and over one denominator
  pub combined-same : (zs : List (ℕ × ℤ)) (l k : ℤ) → d ≡ e → AreTerms n 0 zs → l ≡ pos 1
      → terms_sum n zs ≡ (numbers n).add ((numbers n).mul (integer (numbers n) l) (terms_sum n xs)) ((numbers n).mul (integer (numbers n) k) (terms_sum n ys))
      → value_of n zs d ≡ (numbers n).add (value_of n xs d) ((numbers n).mul (integer (numbers n) k) (value_of n ys e))
  combined-same zs l k de h el s = value-is n f.some zs d f.positive (exponents-below n 0 zs h) ((numbers n).add (value_of n xs d) ((numbers n).mul (integer (numbers n) k) (value_of n ys e)))
      (spread (numbers n) (whole (numbers n) d) (integer (numbers n) k) (value_of n xs d) (value_of n ys e)
      ∙ (λ i. (numbers n).add ((numbers n).mul ((sym (integer-one (numbers n)) ∙ ap (integer (numbers n)) (sym el)) i) (sum-is n xs d f i))
      ((numbers n).mul (integer (numbers n) k) ((ap (λ w. (numbers n).mul (whole (numbers n) w) (value_of n ys e)) de ∙ sum-is n ys e g) i)))
      ∙ sym s)
    where
      spread : (R : Ring) (d k x y : R.Carrier) → R.mul d (R.add x (R.mul k y)) ≡ R.add (R.mul R.one (R.mul d x)) (R.mul k (R.mul d y))
      spread R d k x y = simp (ring_laws, R)

  pub multiplied-number : (zs : List (ℕ × ℤ)) → AreTerms n 0 zs → terms_sum n zs ≡ (numbers n).mul (terms_sum n xs) (terms_sum n ys) → value_of n zs (d * e) ≡ (numbers n).mul (value_of n xs d) (value_of n ys e)
  multiplied-number zs h s = value-is n f.some zs (d * e) (Nat.mul-pos f.positive g.positive) (exponents-below n 0 zs h) ((numbers n).mul (value_of n xs d) (value_of n ys e))
      (ap (λ w. (numbers n).mul w ((numbers n).mul (value_of n xs d) (value_of n ys e))) (whole-mul (numbers n) d e)
      ∙ spread (numbers n) (whole (numbers n) d) (whole (numbers n) e) (value_of n xs d) (value_of n ys e)
      ∙ ap₂ (numbers n).mul (sum-is n xs d f) (sum-is n ys e g) ∙ sym s)
    where
      spread : (R : Ring) (d e x y : R.Carrier) → R.mul (R.mul d e) (R.mul x y) ≡ R.mul (R.mul d x) (R.mul e y)
      spread R d e x y = simp (ring_laws, R)

-- the factors 1 and -1
pub once : (n : ℕ) (x y : Number n) → (numbers n).add x ((numbers n).mul (integer (numbers n) (pos 1)) y) ≡ (numbers n).add x y
once n x y = ap (λ k. (numbers n).add x ((numbers n).mul k y)) (integer-one (numbers n)) ∙ ap ((numbers n).add x) (one-mul (numbers n) y)

pub minus_once : (n : ℕ) (x y : Number n) → (numbers n).add x ((numbers n).mul (integer (numbers n) (negsuc 0)) y) ≡ (numbers n).add x ((numbers n).neg y)
minus_once n x y = ap (λ k. (numbers n).add x ((numbers n).mul k y)) (integer-neg (numbers n) (pos 1) ∙ ap (numbers n).neg (integer-one (numbers n))) ∙ ap ((numbers n).add x) (neg-mul (numbers n) (numbers n).one y ∙ ap (numbers n).neg (one-mul (numbers n) y))

-- nothing added, or taken away
no_items : (n : ℕ) (b : Bool) → b ≡ (n == 0) → b ≡ true → n ≡ 0
no_items n b e t = grind (arith, common_steps)

nothing-is : (n : ℕ) (ts : List (ℕ × ℤ)) (d : ℕ) (b : Bool) → 0 < d → b ≡ (length ts == 0) → b ≡ true → value_of n ts d ≡ (numbers n).zero
nothing-is n ts d b p e t = ap (λ (us : List (ℕ × ℤ)). value_of n us d) (nil_from_length ts (no_items (length ts) b e t)) ∙ value-none n d p

pub plus-nothing : (n : ℕ) (ts : List (ℕ × ℤ)) (d : ℕ) (b : Bool) (x : Number n) → 0 < d → b ≡ (length ts == 0) → b ≡ true → (numbers n).add x (value_of n ts d) ≡ x
plus-nothing n ts d b x p e t = ap ((numbers n).add x) (nothing-is n ts d b p e t) ∙ (numbers n).add-zero x

pub nothing-plus : (n : ℕ) (ts : List (ℕ × ℤ)) (d : ℕ) (b : Bool) (x : Number n) → 0 < d → b ≡ (length ts == 0) → b ≡ true → (numbers n).add (value_of n ts d) x ≡ x
nothing-plus n ts d b x p e t = ap (λ y. (numbers n).add y x) (nothing-is n ts d b p e t) ∙ zero-add (numbers n) x

pub minus-nothing : (n : ℕ) (ts : List (ℕ × ℤ)) (d : ℕ) (b : Bool) (x : Number n) → 0 < d → b ≡ (length ts == 0) → b ≡ true → (numbers n).add x ((numbers n).neg (value_of n ts d)) ≡ x
minus-nothing n ts d b x p e t = ap (λ y. (numbers n).add x ((numbers n).neg y)) (nothing-is n ts d b p e t) ∙ ap ((numbers n).add x) (neg-zero (numbers n)) ∙ (numbers n).add-zero x

-- over 1
pub whole-number : (n : ℕ) (zs : List (ℕ × ℤ)) (x : Number n) → 0 < n → AreTerms n 0 zs → terms_sum n zs ≡ x → value_of n zs 1 ≡ x
whole-number n zs x hn h e = value-is n hn zs 1 (omega arith) (exponents-below n 0 zs h) x (ap (λ w. (numbers n).mul w x) (whole-one (numbers n)) ∙ one-mul (numbers n) x ∙ sym e)

-- over a denominator
pub over-number : (n : ℕ) (zs ts : List (ℕ × ℤ)) (d : ℕ) → 0 < d → AreTerms n 0 zs → terms_sum n zs ≡ terms_sum n ts → (numbers n).mul (whole (numbers n) d) (value_of n zs d) ≡ terms_sum n ts
over-number n zs ts d p h e = value-mul n zs d p (exponents-below n 0 zs h) ∙ e

-- 0 times a number, over any denominator
pub none-number : (n : ℕ) (k : ℤ) (c : ℕ) (x y : Number n) → k ≡ pos 0 → x ≡ (numbers n).zero → (numbers n).mul (whole (numbers n) c) x ≡ (numbers n).mul (integer (numbers n) k) y
none-number n k c x y ek ex = ap ((numbers n).mul (whole (numbers n) c)) ex ∙ mul-zero (numbers n) (whole (numbers n) c)
    ∙ sym (ap (λ w. (numbers n).mul w y) (ap (integer (numbers n)) ek ∙ integer-zero (numbers n)) ∙ zero-mul (numbers n) y)

-- factors between orders
pub factor-below : (n m : ℕ) → 0 < m → n ∣ m → (ts : List (ℕ × ℤ)) → AreTerms n 0 ts → All (λ t. m / n * t.0 < m) ts
factor-below n m p v ts h = All-weaker (λ (t : ℕ × ℤ). t.0 < n) (λ (t : ℕ × ℤ). m / n * t.0 < m) (λ t lt. below t.0 lt) ts (exponents-below n 0 ts h)
  where
    all : n * (m / n) ≡ m
    all = Nat.mul-div_cancel' n v

    some : 0 < m / n
    some = elim (cases_lt 0 (m / n)) [ inl l ↦ l | inr g ↦ (let z : m / n ≡ 0 = omega arith in absurd (omega (arith, all, p, ap (λ x. n * x) z))) ]

    below : (j : ℕ) → j < n → m / n * j < m
    below j lt = let more : j + 1 ≤ n = omega arith in omega (arith, all, some, Nat.mul-le-mul_left (m / n) more)

-- through slices and orders that are equal
module _ (n : ℕ) (left right xs ys zs : List (ℕ × ℤ)) (el : left ≡ xs) (er : right ≡ ys) where
  pub terms_of_slices : ((n : ℕ) → AreTerms n 0 left → AreTerms n 0 right → AreTerms n 0 zs) → AreTerms n 0 xs → AreTerms n 0 ys → AreTerms n 0 zs
  terms_of_slices h a b = h n (subst (AreTerms n 0) (sym el) a) (subst (AreTerms n 0) (sym er) b)

  pub sum_of_slices : (l r : ℤ) → terms_sum n zs ≡ (numbers n).add ((numbers n).mul (integer (numbers n) l) (terms_sum n left)) ((numbers n).mul (integer (numbers n) r) (terms_sum n right))
      → terms_sum n zs ≡ (numbers n).add ((numbers n).mul (integer (numbers n) l) (terms_sum n xs)) ((numbers n).mul (integer (numbers n) r) (terms_sum n ys))
  sum_of_slices l r h = h ∙ λ i. (numbers n).add ((numbers n).mul (integer (numbers n) l) (terms_sum n (el i))) ((numbers n).mul (integer (numbers n) r) (terms_sum n (er i)))

  pub product_of_slices : terms_sum n zs ≡ (numbers n).mul (terms_sum n left) (terms_sum n right) → terms_sum n zs ≡ (numbers n).mul (terms_sum n xs) (terms_sum n ys)
  product_of_slices h = h ∙ λ i. (numbers n).mul (terms_sum n (el i)) (terms_sum n (er i))

  pub small_of_slices : (l r most : ℕ) → total xs * l + total ys * r < most → total left * l + total right * r < most
  small_of_slices l r most h = subst (λ m. m < most) (λ i. total (sym el i) * l + total (sym er i) * r) h

  pub small_product : (most : ℕ) → total xs * total ys ≤ most → total left * total right ≤ most
  small_product most h = subst (λ m. m ≤ most) (λ i. total (sym el i) * total (sym er i)) h

module _ (n a b : ℕ) (zs rs : List (ℕ × ℤ)) (r : ℕ) (ea : a ≡ n) (eb : b ≡ n) where
  pub root-value : (j : ℕ) → 0 < n → AreTerms a 0 zs → terms_sum a zs ≡ root_power a j → value_of b rs r ≡ value_of b zs 1 → value_of n rs r ≡ root_power n j
  root-value j p h s v = subst (λ m. value_of m rs r ≡ value_of m zs 1) eb v
      ∙ whole-number n zs (root_power n j) p (subst (λ m. AreTerms m 0 zs) ea h) (subst (λ m. terms_sum m zs ≡ root_power m j) ea s)

  pub sum-value : (ts : List (ℕ × ℤ)) (d : ℕ) → 0 < d → AreTerms a 0 zs → terms_sum a zs ≡ terms_sum a ts → value_of b rs r ≡ value_of b zs d → (numbers n).mul (whole (numbers n) d) (value_of n rs r) ≡ terms_sum n ts
  sum-value ts d p h s v = ap ((numbers n).mul (whole (numbers n) d)) (subst (λ m. value_of m rs r ≡ value_of m zs d) eb v)
      ∙ over-number n zs ts d p (subst (λ m. AreTerms m 0 zs) ea h) (subst (λ m. terms_sum m zs ≡ terms_sum m ts) ea s)

pub lift-value : (n m a : ℕ) (slice ts zs rs : List (ℕ × ℤ)) (d r : ℕ) → IsForm n ts d → a ≡ m → 0 < m → n ∣ m → slice ≡ ts → AreTerms a 0 zs → terms_sum a zs ≡ row_sum a (pos 1) 0 (a / n) slice
    → value_of a rs r ≡ value_of a zs d → value_of m rs r ≡ lift_of n m (value_of n ts d)
lift-value n m a slice ts zs rs d r f ea p v es h s w = subst (λ k. value_of k rs r ≡ value_of k zs d) ea w
    ∙ lifted-number n ts d f m p v zs (subst (λ k. AreTerms k 0 zs) ea h) (subst (λ k. terms_sum k zs ≡ row_sum k (pos 1) 0 (k / n) slice) ea s ∙ ap (row_sum m (pos 1) 0 (m / n)) es)
