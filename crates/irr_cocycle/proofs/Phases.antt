-- Phases of translations at a wave vector.
--   order_at                the order of a wave vector is a multiple of it
--   phase_unique            a translation has one phase
--   phase_of_translation    each translation of a group has a phase, of the order of the wave vector
--   phase-null              that of no translation is 0
--   same_residue            whole numbers that differ by a multiple of n have one remainder
use Rattle.std.proofs.Common.{◌≡◌, sym, ◌∙◌, ap, ap₂, subst, refl, ℕ, ℤ, pos, negsuc, suc, ◌<◌, ◌+◌, ◌*◌, ◌%◌, ◌-◌, ◌+ℤ◌, ◌*ℤ◌, neg_ℤ, arith}
use Rattle.std.proofs.lemmas.Int.{ints}
use Rattle.std.specs.Int.{◌∣◌, int_div_euclid, int_rem_euclid}
use native.Mathlib.Nat as Nat
use lib.IntN.{zero-*ℤ, +ℤ_comm}
use Rattle.irr_algebra.specs.Ring.{whole}
use Rattle.irr_algebra.specs.Matrix.{null}
use Rattle.irr_algebra.proofs.Rings.{ring_laws, neg-mul}
use Rattle.irr_algebra.proofs.Whole.{whole-mul}
use Rattle.irr_number.specs.Integers.{integers, +ℤ-*ℤ}
use Rattle.irr_rational.specs.Integer.{integer}
use Rattle.irr_rational.specs.Rational.{Rational, rationals, rational_field, IsWhole}
use Rattle.irr_rational.proofs.Integers.{integer-pos, integer-zero, integer-mul, integer_inj}
use Rattle.irr_lattice.proofs.Remainders.{euclid}
use Rattle.irr_space.specs.Operation.{Operation, Vector, WaveVector, dot}
use Rattle.irr_space.specs.SpaceGroup.{IsTranslation}
use Rattle.irr_space.specs.Reciprocal.{IsOrder, IsPhase, Sign, sign_number, times}
use Rattle.irr_cocycle.specs.SubgroupTable.{IsOrderAt}
use Rattle.irr_cocycle.proofs.Operations.{dot-times, dot-null}

-- a number is b and a multiple of n
pub same_residue : (a b n : ℕ) (c : ℤ) → pos a ≡ pos b +ℤ (c *ℤ pos n) → a % n ≡ b % n
same_residue a b n (pos m) e = let k : a ≡ b + m * n = let f : pos a ≡ pos b +ℤ pos (m * n) = e in omega (arith, ints) in ap (λ x. x % n) k ∙ Nat.add-mul-mod_self_right b m n
same_residue a b n (negsuc m) e =
    let f : negsuc m *ℤ pos n ≡ neg_ℤ (pos (suc m * n)) = neg-mul integers (pos (suc m)) (pos n) in
    let k : b ≡ a + suc m * n = omega (arith, ints) in sym (ap (λ x. x % n) k ∙ Nat.add-mul-mod_self_right a (suc m) n)

-- the remainder of a whole number, as a natural number
pub remainder : (y : ℤ) (n : ℕ) → 0 < n → (x : ℕ) × (x < n) × (y ≡ pos x +ℤ (int_div_euclid y (pos n) *ℤ pos n))
remainder y n p = from_rem (int_rem_euclid y (pos n)) (euclid y n p) (natural y n p)
  where
    natural : (y : ℤ) (n : ℕ) → 0 < n → (x : ℕ) × (x < n) × (int_rem_euclid y (pos n) ≡ pos x)
    natural (pos a) n p = (a % n, Nat.mod-lt a p, refl)
    natural (negsuc a) n p = (n - 1 - a % n, omega arith, refl)

    from_rem : (r : ℤ) → y ≡ (int_div_euclid y (pos n) *ℤ pos n) +ℤ r → (x : ℕ) × (x < n) × (r ≡ pos x) → (x : ℕ) × (x < n) × (y ≡ pos x +ℤ (int_div_euclid y (pos n) *ℤ pos n))
    from_rem r e t = (t.0, t.1, (let f : r ≡ pos t.0 = t.2 in e ∙ ap (λ z. (int_div_euclid y (pos n) *ℤ pos n) +ℤ z) f ∙ +ℤ_comm (int_div_euclid y (pos n) *ℤ pos n) (pos t.0)))

module _ (s : Sign) (n : ℕ) (k : WaveVector) where
  -- s n k.t
  abbrev pub turned_phase : Vector → Rational
  turned_phase t = rationals.mul (integer rationals (sign_number s *ℤ pos n)) (dot k t)

  pub phase_unique : (t : Vector) (x y : ℕ) → IsPhase s n k t x → IsPhase s n k t y → x ≡ y
  phase_unique t x y p q =
      let e : pos x +ℤ (p.turns *ℤ pos n) ≡ pos y +ℤ (q.turns *ℤ pos n) = integer_inj rational_field (pos x +ℤ (p.turns *ℤ pos n)) (pos y +ℤ (q.turns *ℤ pos n)) (sym p.congruent ∙ q.congruent) in
      let d : pos x ≡ pos y +ℤ ((q.turns +ℤ neg_ℤ p.turns) *ℤ pos n) = moved (pos x) (pos y) p.turns q.turns (pos n) e in
      sym (Nat.mod-eq_of_lt p.below) ∙ same_residue x y n (q.turns +ℤ neg_ℤ p.turns) d ∙ Nat.mod-eq_of_lt q.below
    where
      moved : (x y p q m : ℤ) → x +ℤ (p *ℤ m) ≡ y +ℤ (q *ℤ m) → x ≡ y +ℤ ((q +ℤ neg_ℤ p) *ℤ m)
      moved x y p q m e =
          let f : (q +ℤ neg_ℤ p) *ℤ m ≡ (q *ℤ m) +ℤ (neg_ℤ p *ℤ m) = +ℤ-*ℤ q (neg_ℤ p) m in
          let g : neg_ℤ p *ℤ m ≡ neg_ℤ (p *ℤ m) = neg-mul integers p m in
          omega (arith, ints)

  pub phase-null : 0 < n → IsPhase s n k null 0
  phase-null p = record {
    below = p;
    turns = pos 0;
    congruent = ap (rationals.mul (integer rationals (sign_number s *ℤ pos n))) (dot-null k) ∙ times_zero (integer rationals (sign_number s *ℤ pos n)) ∙ sym (integer-zero rationals)
        ∙ ap (integer rationals) (let e : pos 0 *ℤ pos n ≡ pos 0 = zero-*ℤ (pos n) in omega (arith, ints));
  }
    where
      times_zero : (x : Rational) → rationals.mul x rationals.zero ≡ rationals.zero
      times_zero x = simp (ring_laws, rationals)

pub order_at : (G : Operation → Type 0) (k : WaveVector) (n : ℕ) → IsOrder G k n → IsOrderAt G k n
order_at G k n order = record {
  exponent = order.exponent;
  multiple = order.period;
  is_exponent = order.is_exponent;
  positive = order.is_period.positive;
  reciprocal = order.is_period.reciprocal;
  is_product = order.is_product;
}

module _ (G : Operation → Type 0) (s : Sign) (k : WaveVector) (n : ℕ) (order : IsOrderAt G k n) where
  -- the number of turns of q k at a translation
  turns : (t : Vector) → IsTranslation G t → IsWhole (dot (times order.multiple k) t)
  turns t m = order.reciprocal.is_whole t m

  -- s n k.t is a multiple of the exponent
  pub phase-multiple : (t : Vector) → IsTranslation G t → (w : ℤ) × (turned_phase s n k t ≡ integer rationals (w *ℤ pos order.exponent))
  phase-multiple t m = (
    sign_number s *ℤ (turns t m).number,
    ap (λ x. rationals.mul x (dot k t)) (integer-mul rationals (sign_number s) (pos n) ∙ ap (rationals.mul (integer rationals (sign_number s))) (integer-pos rationals n ∙ ap (whole rationals) order.is_product ∙ whole-mul rationals order.exponent order.multiple))
        ∙ regroup (integer rationals (sign_number s)) (whole rationals order.exponent) (whole rationals order.multiple) (dot k t)
        ∙ ap (λ x. rationals.mul (rationals.mul (integer rationals (sign_number s)) x) (whole rationals order.exponent)) (sym (dot-times order.multiple k t) ∙ (turns t m).is)
        ∙ ap₂ rationals.mul (sym (integer-mul rationals (sign_number s) (turns t m).number)) (sym (integer-pos rationals order.exponent))
        ∙ sym (integer-mul rationals (sign_number s *ℤ (turns t m).number) (pos order.exponent)),
  )
    where
      regroup : (s e q d : Rational) → rationals.mul (rationals.mul s (rationals.mul e q)) d ≡ rationals.mul (rationals.mul s (rationals.mul q d)) e
      regroup s e q d = simp (ring_laws, rationals)

  pub order_at-positive : 0 < n
  order_at-positive = subst (λ x. 0 < x) (sym order.is_product) (Nat.mul-pos order.is_exponent.positive order.positive)

  pub phase_of_translation : (t : Vector) → IsTranslation G t → (x : ℕ) × IsPhase s n k t x
  phase_of_translation t m = let w = phase-multiple t m in let r = remainder (w.0 *ℤ pos order.exponent) n order_at-positive in
      (r.0, record { below = r.1; turns = int_div_euclid (w.0 *ℤ pos order.exponent) (pos n); congruent = w.1 ∙ ap (integer rationals) r.2 })

pub order-positive : (G : Operation → Type 0) (s : Sign) (k : WaveVector) (n : ℕ) → IsOrder G k n → 0 < n
order-positive G s k n order = order_at-positive G s k n (order_at G k n order)

-- congruence of whole numbers modulo n
abbrev pub AreCongruent : (n : ℕ) → ℤ → ℤ → Type 0
AreCongruent n a b = (c : ℤ) × (a ≡ b +ℤ (c *ℤ pos n))

module _ (n : ℕ) where
  pub congruent_sym : (a b : ℤ) → AreCongruent n a b → AreCongruent n b a
  congruent_sym a b t = (neg_ℤ t.0, let e : a ≡ b +ℤ (t.0 *ℤ pos n) = t.1 in let f : neg_ℤ t.0 *ℤ pos n ≡ neg_ℤ (t.0 *ℤ pos n) = neg-mul integers t.0 (pos n) in omega (arith, ints))

  pub congruent_trans : (a b c : ℤ) → AreCongruent n a b → AreCongruent n b c → AreCongruent n a c
  congruent_trans a b c t u = (t.0 +ℤ u.0, let e : a ≡ b +ℤ (t.0 *ℤ pos n) = t.1 in let f : b ≡ c +ℤ (u.0 *ℤ pos n) = u.1 in let g : (t.0 +ℤ u.0) *ℤ pos n ≡ (t.0 *ℤ pos n) +ℤ (u.0 *ℤ pos n) = +ℤ-*ℤ t.0 u.0 (pos n) in omega (arith, ints))

  pub congruent_add : (a b c d : ℤ) → AreCongruent n a b → AreCongruent n c d → AreCongruent n (a +ℤ c) (b +ℤ d)
  congruent_add a b c d t u = (t.0 +ℤ u.0, let e : a ≡ b +ℤ (t.0 *ℤ pos n) = t.1 in let f : c ≡ d +ℤ (u.0 *ℤ pos n) = u.1 in let g : (t.0 +ℤ u.0) *ℤ pos n ≡ (t.0 *ℤ pos n) +ℤ (u.0 *ℤ pos n) = +ℤ-*ℤ t.0 u.0 (pos n) in omega (arith, ints))

  pub residue_of_congruent : (a b : ℕ) → AreCongruent n (pos a) (pos b) → a % n ≡ b % n
  residue_of_congruent a b t = same_residue a b n t.0 t.1

-- a whole number that is a phase is congruent to its exponent
pub phase-congruent : (s : Sign) (n : ℕ) (k : WaveVector) (t : Vector) (x : ℕ) (y : ℤ) → IsPhase s n k t x → turned_phase s n k t ≡ integer rationals y → AreCongruent n y (pos x)
phase-congruent s n k t x y p e = (p.turns, integer_inj rational_field y (pos x +ℤ (p.turns *ℤ pos n)) (sym e ∙ p.congruent))

-- a natural number that is a whole multiple of e is a multiple of e
pub multiple_of : (x e : ℕ) (z : ℤ) → 0 < e → pos x ≡ z *ℤ pos e → e ∣ x
multiple_of x e (pos m) p h = let k : x ≡ m * e = let f : pos x ≡ pos (m * e) = h in omega (arith, ints) in subst (λ y. e ∣ y) (sym k) (Nat.dvd-mul_left e m)
multiple_of x e (negsuc m) p h =
    let f : negsuc m *ℤ pos e ≡ neg_ℤ (pos (suc m * e)) = neg-mul integers (pos (suc m)) (pos e) in
    let g : suc m * e ≡ e + m * e = Nat.suc-mul m e ∙ Nat.add_comm (m * e) e in
    absurd (omega (arith, ints))
