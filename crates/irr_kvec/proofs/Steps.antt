-- Whole wave vectors in lexicographic order, and their remainders.
--   candidate n y              the y-th of the triples of numbers, the last two below n, in lexicographic order
--   remainders n u             the remainders of three numbers by n
--   number_of n u              the number of the remainders among the candidates
--   candidate-number           the candidate of that number is the remainders
--   candidates_ordered         candidates of lesser numbers stand lexicographically before
--   listed                     a whole wave vector is three whole numbers over 1
use Rattle.std.proofs.Common.{◌≡◌, sym, ◌∙◌, ap, ap₂, refl, ℕ, suc, ◌+◌, ◌*◌, ◌/◌, ◌%◌, ◌<◌, ◌≤◌, ◌⊎◌, inl, inr, ℤ, pos, negsuc, unsigned_abs, List, [], ◌∷◌, get_or, arith}
use Rattle.std.proofs.lemmas.Int.{ints}
use Rattle.std.proofs.lemmas.Nat.{div-mul-add, mod-mul-add, div-add-mod', le-div}
use Rattle.std.specs.Int.{int_rem_euclid}
use native.Mathlib.Nat as Nat
use Rattle.irr_algebra.specs.Fin.{Fin, to_nat}
use Rattle.irr_algebra.specs.Fin.Fin.{first, next}
use Rattle.irr_rational.specs.Rational.{Rational, ratio}
use Rattle.irr_rational.specs.Ratio.{entry, ratios}
use Rattle.irr_rational.specs.Order.{◌<ℚ◌, IsBelow, IsAtMost}
use Rattle.irr_rational.proofs.Ratios.{integer-ratio}
use Rattle.irr_rational.proofs.Orders.{ratio-lt}
use Rattle.irr_space.specs.Operation.{WaveVector, wave_component}
use Rattle.irr_lattice.proofs.Vectors.{IsWholeWave, wave-ext}
use Rattle.irr_rat.proofs.Vectors.{each_of_three}
use Rattle.irr_kvec.specs.WaveMeaning.{wave_of}
use Rattle.irr_kvec.proofs.Products.{wave_component-wave_of}

abbrev pub candidate : (n y : ℕ) → List ℤ
candidate n y = pos (y / n / n) ∷ pos (y / n % n) ∷ pos (y % n) ∷ []

abbrev pub remainders : (n : ℕ) → List ℤ → List ℤ
remainders n u = int_rem_euclid (get_or u 0 (pos 0)) (pos n) ∷ int_rem_euclid (get_or u 1 (pos 0)) (pos n) ∷ int_rem_euclid (get_or u 2 (pos 0)) (pos n) ∷ []

abbrev digit : (n : ℕ) → ℤ → ℕ
digit n x = unsigned_abs (int_rem_euclid x (pos n))

abbrev code : (n x y z : ℕ) → ℕ
code n x y z = (x * n + y) * n + z

abbrev pub number_of : (n : ℕ) → List ℤ → ℕ
number_of n u = code n (digit n (get_or u 0 (pos 0))) (digit n (get_or u 1 (pos 0))) (digit n (get_or u 2 (pos 0)))

rem-digit : (x : ℤ) (n : ℕ) → pos (digit n x) ≡ int_rem_euclid x (pos n)
rem-digit (pos a) n = refl
rem-digit (negsuc a) n = refl

digit_below : (x : ℤ) (n : ℕ) → 0 < n → digit n x < n
digit_below (pos a) n h = Nat.mod-lt a h
digit_below (negsuc a) n h = omega arith

candidate-code : (n x y z : ℕ) → y < n → z < n → candidate n (code n x y z) ≡ pos x ∷ pos y ∷ pos z ∷ []
candidate-code n x y z hy hz =
    let e : code n x y z / n ≡ x * n + y = div-mul-add (x * n + y) n z hz in
    let a : code n x y z / n / n ≡ x = ap (λ v. v / n) e ∙ div-mul-add x n y hy in
    let b : code n x y z / n % n ≡ y = ap (λ v. v % n) e ∙ mod-mul-add x n y hy in
    let c : code n x y z % n ≡ z = mod-mul-add (x * n + y) n z hz in
    ap₂ (λ v w. pos v ∷ pos w ∷ pos (code n x y z % n) ∷ []) a b ∙ ap (λ v. pos x ∷ pos y ∷ pos v ∷ []) c

pub candidate-number : (n : ℕ) (u : List ℤ) → 0 < n → candidate n (number_of n u) ≡ remainders n u
candidate-number n u h = candidate-code n (digit n (get_or u 0 (pos 0))) (digit n (get_or u 1 (pos 0))) (digit n (get_or u 2 (pos 0)))
    (digit_below (get_or u 1 (pos 0)) n h) (digit_below (get_or u 2 (pos 0)) n h)
    ∙ ap₂ (λ x y. x ∷ y ∷ pos (digit n (get_or u 2 (pos 0))) ∷ []) (rem-digit (get_or u 0 (pos 0)) n) (rem-digit (get_or u 1 (pos 0)) n)
    ∙ ap (λ z. int_rem_euclid (get_or u 0 (pos 0)) (pos n) ∷ int_rem_euclid (get_or u 1 (pos 0)) (pos n) ∷ z ∷ []) (rem-digit (get_or u 2 (pos 0)) n)

code_below : (n x y z : ℕ) → x < n → y < n → z < n → code n x y z < n * n * n
code_below n x y z hx hy hz =
    let a : suc x * n ≤ n * n = Nat.mul-le-mul_right n hx in
    let l : x * n + y < n * n = omega arith in
    let b : suc (x * n + y) * n ≤ n * n * n = Nat.mul-le-mul_right n l in
    omega arith

pub number_below : (n : ℕ) (u : List ℤ) → 0 < n → number_of n u < n * n * n
number_below n u h = code_below n (digit n (get_or u 0 (pos 0))) (digit n (get_or u 1 (pos 0))) (digit n (get_or u 2 (pos 0)))
    (digit_below (get_or u 0 (pos 0)) n h) (digit_below (get_or u 1 (pos 0)) n h) (digit_below (get_or u 2 (pos 0)) n h)

-- lexicographic order of three numbers
before_one : (P : Fin 3 → Type 0) → P first → (i : Fin 3) → to_nat i < 1 → P i
unfolding to_nat
before_one P p first l = p
before_one P p (next i) l = absurd (omega arith)

before_two : (P : Fin 3 → Type 0) → P first → P (next first) → (i : Fin 3) → to_nat i < 2 → P i
unfolding to_nat
before_two P p q first l = p
before_two P p q (next first) l = q
before_two P p q (next (next i)) l = absurd (omega arith)

ratio_one-lt : (a c : ℕ) → a < c → ratio (pos a) 1 <ℚ ratio (pos c) 1
ratio_one-lt a c h = ratio-lt (pos a) (pos c) 1 1 (omega arith) (omega arith) (omega (arith, ints))

module _ (a b c d e f : ℕ) where
  abbrev left : Fin 3 → Rational
  left = wave_component (wave_of (pos a ∷ pos b ∷ pos c ∷ []) 1)

  abbrev right : Fin 3 → Rational
  right = wave_component (wave_of (pos d ∷ pos e ∷ pos f ∷ []) 1)

  below_first : a < d → IsBelow left right
  unfolding to_nat wave_component wave_of ratios
  below_first h = record { place = first; before = λ i l. absurd (omega arith); less = ratio_one-lt a d h }

  below_second : a ≡ d → b < e → IsBelow left right
  unfolding to_nat wave_component wave_of ratios
  below_second p h = record { place = next first; before = before_one (λ i. left i ≡ right i) (ap (λ x. ratio (pos x) 1) p); less = ratio_one-lt b e h }

  below_third : a ≡ d → b ≡ e → c < f → IsBelow left right
  unfolding to_nat wave_component wave_of ratios
  below_third p q h = record { place = next (next first); before = before_two (λ i. left i ≡ right i) (ap (λ x. ratio (pos x) 1) p) (ap (λ x. ratio (pos x) 1) q); less = ratio_one-lt c f h }

  all_same : a ≡ d → b ≡ e → c ≡ f → IsAtMost left right
  unfolding to_nat wave_component wave_of ratios
  all_same p q r = inl (each_of_three (λ i. left i ≡ right i) (ap (λ x. ratio (pos x) 1) p) (ap (λ x. ratio (pos x) 1) q) (ap (λ x. ratio (pos x) 1) r))

pub candidates_ordered : (n x y : ℕ) → 0 < n → x ≤ y → IsAtMost (wave_component (wave_of (candidate n x) 1)) (wave_component (wave_of (candidate n y) 1))
candidates_ordered n x y h l = by_top (Nat.eq-or-lt_of_le (quotients (x / n) (y / n) (quotients x y l)))
  where
    quotients : (a b : ℕ) → a ≤ b → a / n ≤ b / n
    quotients a b k = le-div (a / n) b n h (let e : a / n * n + a % n ≡ a = div-add-mod' a n in omega arith)

    rests : (a b : ℕ) → a ≤ b → a / n ≡ b / n → a % n ≤ b % n
    rests a b k p =
        let e : a / n * n + a % n ≡ a = div-add-mod' a n in
        let f : b / n * n + b % n ≡ b = div-add-mod' b n in
        let q : a / n * n ≡ b / n * n = ap (λ v. v * n) p in
        omega arith

    whole_same : (a b : ℕ) → a / n ≡ b / n → a % n ≡ b % n → a ≡ b
    whole_same a b p r = sym (div-add-mod' a n) ∙ ap₂ (λ v w. v * n + w) p r ∙ div-add-mod' b n

    by_last : x / n / n ≡ y / n / n → x / n % n ≡ y / n % n → (x % n ≡ y % n) ⊎ (x % n < y % n) → IsAtMost (left (x / n / n) (x / n % n) (x % n) (y / n / n) (y / n % n) (y % n)) (right (x / n / n) (x / n % n) (x % n) (y / n / n) (y / n % n) (y % n))
    by_last p q (inl r) = all_same (x / n / n) (x / n % n) (x % n) (y / n / n) (y / n % n) (y % n) p q r
    by_last p q (inr r) = inr (below_third (x / n / n) (x / n % n) (x % n) (y / n / n) (y / n % n) (y % n) p q r)

    by_middle : x / n / n ≡ y / n / n → (x / n % n ≡ y / n % n) ⊎ (x / n % n < y / n % n) → IsAtMost (left (x / n / n) (x / n % n) (x % n) (y / n / n) (y / n % n) (y % n)) (right (x / n / n) (x / n % n) (x % n) (y / n / n) (y / n % n) (y % n))
    by_middle p (inl q) = by_last p q (Nat.eq-or-lt_of_le (rests x y l (whole_same (x / n) (y / n) p q)))
    by_middle p (inr q) = inr (below_second (x / n / n) (x / n % n) (x % n) (y / n / n) (y / n % n) (y % n) p q)

    by_top : (x / n / n ≡ y / n / n) ⊎ (x / n / n < y / n / n) → IsAtMost (left (x / n / n) (x / n % n) (x % n) (y / n / n) (y / n % n) (y % n)) (right (x / n / n) (x / n % n) (x % n) (y / n / n) (y / n % n) (y % n))
    by_top (inl p) = by_middle p (Nat.eq-or-lt_of_le (rests (x / n) (y / n) (quotients x y l) p))
    by_top (inr p) = inr (below_first (x / n / n) (x / n % n) (x % n) (y / n / n) (y / n % n) (y % n) p)

pub listed : (w : WaveVector) → IsWholeWave w → (u : List ℤ) × (w ≡ wave_of u 1)
unfolding to_nat
listed w h = (numbers, wave-ext w (wave_of numbers 1) (λ i. each i ∙ sym (wave_component-wave_of numbers 1 i)))
  where
    numbers : List ℤ
    numbers = (h first).number ∷ (h (next first)).number ∷ (h (next (next first))).number ∷ []

    each : (i : Fin 3) → wave_component w i ≡ ratio (entry numbers i) 1
    each = each_of_three (λ i. wave_component w i ≡ ratio (entry numbers i) 1)
        ((h first).is ∙ integer-ratio (h first).number) ((h (next first)).is ∙ integer-ratio (h (next first)).number)
        ((h (next (next first))).is ∙ integer-ratio (h (next (next first))).number)
