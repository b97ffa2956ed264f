-- Texts of points.
--   point_unique               a text writes one point
--   point_read                 what is read with no fault is what the text writes
--   no_fault-point             a text with a fault writes none
--   beyond-point               nor does one whose least common denominator is beyond the limit
--   small_point                the sizes of what is read
--   read_parts                 the fractions of a text
--   small_of_read, read_of_small     what is read is small exactly where what is written is
--   zero_point, zero_point-text      0,0,0 writes one
use Rattle.std.proofs.Common.{◌≡◌, refl, sym, ◌∙◌, ap, subst, ℕ, zero, suc, ℤ, ◌<◌, ◌≤◌, pos, Bool, true, false, List, [], ◌∷◌, ◌++◌, Option, None, Some, IfSome, append-nil, inl, inr, lit≤, ◌*◌, arith}
use Rattle.std.specs.Prelude.{codes, neg_ℤ, unsigned_abs}
use Rattle.std.proofs.lemmas.Int.{unsigned_abs-mul}
use native.Mathlib.Nat as Nat
use Rattle.irr_algebra.specs.Fin.{Fin}
use Rattle.irr_algebra.specs.Fin.Fin.{first, next}
use Rattle.irr_algebra.proofs.Matrices.{matrix-ext}
use Rattle.irr_rational.specs.Rational.{ratio}
use Rattle.irr_rational.specs.Ratio.{entry}
use Rattle.irr_rational.proofs.LowestTerms.{are_lowest_unique}
use Rattle.irr_rational.proofs.Ratios.{cross_of_ratio}
use Rattle.irr_space.specs.Operation.{Vector, WaveVector}
use Rattle.irr_rat.specs.declared.vec3.Vec3.{Vec3}
use Rattle.irr_rat.specs.VectorMeaning.{vector, vector_of}
use Rattle.irr_rat.proofs.Vectors.{each_of_three}
use Rattle.irr_token.specs.declared.read.Quotient.{Quotient}
use Rattle.irr_token.specs.Token.{PlacedNumber, Token, value_of}
use Rattle.irr_token.specs.Token.Token.{mark}
use Rattle.irr_token.specs.Spelling.{AreSpelled}
use Rattle.irr_token.specs.Quotient.{WrittenQuotient, denominator_value, is_negative, quotient_tokens, with_sign}
use Rattle.irr_token.specs.Reading.{IsBehindQuotient, IsReadAs, written_quotient}
use Rattle.irr_token.specs.Fault.{AreNotZero, AreWithin, Limited, denominators, limited, present, present_limited}
use Rattle.irr_token.proofs.OneFault.{beyond-none, zero-none}
use Rattle.irr_kvec.specs.declared.wave.Wave.{Wave}
use Rattle.irr_kvec.specs.declared.read.WaveError.{WaveError}
use Rattle.irr_kvec.specs.declared.read.WaveError.TheVariants.{Shape, Zero, Range}
use Rattle.irr_kvec.specs.WaveMeaning.{wave_of, wave_vector}
use Rattle.irr_kvec.specs.WrittenWave.{WrittenWave, IsSpelling, IsWave}
use Rattle.irr_kvec.specs.WaveFault.{IsFault, IsTextOf, IsWritten, wave_denominators, wave_numbers}
use Rattle.irr_kvec.proofs.OneWave.{wave_unique}
use Rattle.irr_kvec.proofs.WaveAnswers.{Reads, Skips}
use Rattle.irr_input.specs.PointText.{AreSmallNumbers, HasSmallDenominator, HasSmallDenominators, IsPointOf, as_row}
use Rattle.irr_input.proofs.WaveTexts.{component-is, text-of_read, zero-text, zero_wave}

pub point_unique : (text : List ℕ) (x y : Vector) → IsPointOf text x → IsPointOf text y → x ≡ y
unfolding as_row
point_unique text x y a b =
    let e : as_row x ≡ as_row y = wave_unique text (as_row x) (as_row y) a.row b.row in
    matrix-ext (λ i j. ap (λ (k : WaveVector). k.at j i) e)

point_of_row : (text : List ℕ) (num : List ℤ) (den : ℕ) (r : IsTextOf text (wave_of num den)) → AreSmallNumbers r.wave → r.common.den ≤ 1000
    → IsPointOf text (vector_of num den)
unfolding wave_of vector_of as_row
point_of_row text num den r small common = record { row = r; small = small; common = common }

-- numbers within their limits

split : (xs ys : List Limited) → AreWithin (xs ++ ys) → AreWithin xs × AreWithin ys
split [] ys h = (tt, h)
split (x ∷ xs) ys h = let r = split xs ys h.1 in ((h.0, r.0), r.1)

join : (xs ys : List Limited) → AreWithin xs → AreWithin ys → AreWithin (xs ++ ys)
join [] ys h g = g
join (x ∷ xs) ys h g = (h.0, join xs ys h.1 g)

three : (m : ℕ) (w : WrittenWave) → AreWithin (wave_numbers m w) → AreWithin (limited m w.x) × AreWithin (limited m w.y) × AreWithin (limited m w.z)
three m w h = let r = split (limited m w.x) (limited m w.y ++ limited m w.z) h in let s = split (limited m w.y) (limited m w.z) r.1 in (r.0, s.0, s.1)

of_three : (m : ℕ) (w : WrittenWave) → AreWithin (limited m w.x) → AreWithin (limited m w.y) → AreWithin (limited m w.z) → AreWithin (wave_numbers m w)
of_three m w x y z = join (limited m w.x) (limited m w.y ++ limited m w.z) x (join (limited m w.y) (limited m w.z) y z)

more : (q : WrittenQuotient) → AreWithin (limited 1000 q) → AreWithin (limited 100000 q)
more q h = (omega (arith, h.0), h.1)

wave-more : (w : WrittenWave) → AreWithin (wave_numbers 1000 w) → AreWithin (wave_numbers 100000 w)
wave-more w h = let t = three 1000 w h in of_three 100000 w (more w.x t.0) (more w.y t.1) (more w.z t.2)

present-within : (d : Option PlacedNumber) → IfSome d (λ n. value_of n ≤ 1000) → AreWithin (present_limited d)
present-within None h = tt
present-within (Some n) h = (omega (arith, h), tt)

within : (q : WrittenQuotient) → value_of q.numerator ≤ 1000 → HasSmallDenominator q → AreWithin (limited 1000 q)
within q h g = (h, present-within q.denominator g)

wave-within : (w : WrittenWave) → AreSmallNumbers w → AreWithin (wave_numbers 1000 w)
wave-within w h = of_three 1000 w (within w.x h.0 h.3.0) (within w.y h.1 h.3.1) (within w.z h.2 h.3.2)

small-numbers : (w : WrittenWave) → AreWithin (wave_numbers 1000 w) → HasSmallDenominators w → AreSmallNumbers w
small-numbers w h g = let t = three 1000 w h in (t.0.0, t.1.0, t.2.0, g)

-- readings

abbrev pub IsReading : List ℕ → WaveVector → Type 0
IsReading text k = (w : WrittenWave) → IsSpelling w text → IsWritten 1000 w k

pub point_read : (text : List ℕ) (k : Wave) → IsWave text → IsReading text (wave_vector k) → k.den ≤ 1000
    → ((w : WrittenWave) → IsSpelling w text → HasSmallDenominators w) → IsPointOf text (vector_of k.num k.den)
point_read text k h read least small =
    let written = read h.wave h.spells in
    point_of_row text k.num k.den
    (text-of_read text k h (λ w s. let r = read w s in (r.0, wave-more w r.1, r.2)) (omega (arith, least)))
    (small-numbers h.wave written.1 (small h.wave h.spells)) least

pub no_fault-point : (text : List ℕ) (e : WaveError) (x : Vector) → IsFault 1000 text e → IsPointOf text x → ⊥
no_fault-point text (Shape p) x f h = f.0 (record { wave = h.row.wave; spells = h.row.spells })
no_fault-point text (Zero p) x f h = zero-none (wave_denominators h.row.wave) p (f.1 h.row.wave h.row.spells) h.row.written.0
no_fault-point text (Range p) x f h = elim (f.1 h.row.wave h.row.spells).1 [
  | inl b ↦ beyond-none (wave_numbers 1000 h.row.wave) p b (wave-within h.row.wave h.small)
  | inr b ↦ b.1 h.row.common
]

pub beyond-point : (text : List ℕ) (k : Wave) (x : Vector) → IsReading text (wave_vector k) → 1000 < k.den → IsPointOf text x → ⊥
beyond-point text k x read beyond h =
    let written = read h.row.wave h.row.spells in
    let c = h.row.common in
    let least : c.den ≤ 1000 = h.common in
    let same : k.den ≡ c.den = (are_lowest_unique (entry k.num) c.num k.den c.den k.lowest c.lowest
    (each_of_three (λ i. ratio (entry k.num i) k.den ≡ ratio (c.num i) c.den)
    (sym (component-is k first) ∙ written.2.x ∙ sym c.x)
    (sym (component-is k (next first)) ∙ written.2.y ∙ sym c.y)
    (sym (component-is k (next (next first))) ∙ written.2.z ∙ sym c.z))).0 in
    omega (arith, beyond, same, least)

-- sizes

nonzero : (xs ys : List PlacedNumber) → AreNotZero (xs ++ ys) → AreNotZero xs × AreNotZero ys
nonzero [] ys h = (tt, h)
nonzero (x ∷ xs) ys h = let r = nonzero xs ys h.1 in ((h.0, r.0), r.1)

positive : (d : Option PlacedNumber) → AreNotZero (present d) → 0 < denominator_value d
positive None h = omega arith
positive (Some n) h = h.0

abs_negative : (n : ℕ) → unsigned_abs (neg_ℤ (pos n)) ≡ n
abs_negative zero = refl
abs_negative (suc n) = refl

abs_with_sign : (s : Bool) (n : ℕ) → unsigned_abs (with_sign s n) ≡ n
abs_with_sign true n = abs_negative n
abs_with_sign false n = refl

numerator-size : (a : ℤ) (b : ℕ) (s : Bool) (n d : ℕ) → 0 < b → b ≤ 1000 → 0 < d → n ≤ 1000 → ratio a b ≡ ratio (with_sign s n) d → unsigned_abs a ≤ 1000000
numerator-size a b s n d p small q few e =
    let cross : unsigned_abs a * d ≡ n * b = sym (unsigned_abs-mul a (pos d)) ∙ ap unsigned_abs (cross_of_ratio a (with_sign s n) b d p q e)
    ∙ unsigned_abs-mul (with_sign s n) (pos b) ∙ ap (λ m. m * b) (abs_with_sign s n) in
    let product : n * b ≤ 1000 * 1000 = Nat.mul-le-mul few small in
    let least : unsigned_abs a * 1 ≤ unsigned_abs a * d = Nat.mul-le-mul_left (unsigned_abs a) q in
    omega (arith, cross, product, least)

pub small_point : (text : List ℕ) (k : Wave) → IsWave text → IsReading text (wave_vector k) → k.den ≤ 1000 → (i : Fin 3) → unsigned_abs (entry k.num i) ≤ 1000000
small_point text k h read small =
    let w = h.wave in
    let written = read w h.spells in
    let t = three 1000 w written.1 in
    let r = nonzero (denominators w.x) (denominators w.y ++ denominators w.z) written.0 in
    let s = nonzero (denominators w.y) (denominators w.z) r.1 in
    each_of_three (λ i. unsigned_abs (entry k.num i) ≤ 1000000)
    (numerator-size (entry k.num first) k.den (is_negative w.x.sign) (value_of w.x.numerator) (denominator_value w.x.denominator)
    k.lowest.positive small (positive w.x.denominator r.0) t.0.0 (sym (component-is k first) ∙ written.2.x))
    (numerator-size (entry k.num (next first)) k.den (is_negative w.y.sign) (value_of w.y.numerator) (denominator_value w.y.denominator)
    k.lowest.positive small (positive w.y.denominator s.0) t.1.0 (sym (component-is k (next first)) ∙ written.2.y))
    (numerator-size (entry k.num (next (next first))) k.den (is_negative w.z.sign) (value_of w.z.numerator) (denominator_value w.z.denominator)
    k.lowest.positive small (positive w.z.denominator s.1) t.2.0 (sym (component-is k (next (next first))) ∙ written.2.z))

-- the fractions of a text

comma : (ts : List Token) → IsBehindQuotient (mark 44 ∷ ts)
comma ts e = omega (arith, e)

pub read_parts : (text s t u v l : List ℕ) (a b c d e : ℕ) (x y z : Quotient) → Reads 0 text x a s → Skips a s b t → Reads b t y c u → Skips c u d v → Reads d v z e l
    → (w : WrittenWave) → IsSpelling w text → IsReadAs x w.x × IsReadAs y w.y × IsReadAs z w.z
read_parts text s t u v l a b c d e x y z fx f fy g fz w h =
    let p = fx w.x (mark 44 ∷ (quotient_tokens w.y ++ (mark 44 ∷ quotient_tokens w.z))) (comma (quotient_tokens w.y ++ (mark 44 ∷ quotient_tokens w.z))) h.spelled in
    let q = fy w.y (mark 44 ∷ quotient_tokens w.z) (comma (quotient_tokens w.z)) (f (quotient_tokens w.y ++ (mark 44 ∷ quotient_tokens w.z)) p.1) in
    let r = fz w.z [] tt (subst (λ ts. AreSpelled d ts v) (sym (append-nil (quotient_tokens w.z))) (g (quotient_tokens w.z) q.1)) in
    (p.0, q.0, r.0)

pub small_of_read : (r : Quotient) (q : WrittenQuotient) → IsReadAs r q → HasSmallDenominator (written_quotient r) → HasSmallDenominator q
small_of_read r q h = subst (λ d. IfSome d (λ n. value_of n ≤ 1000)) h.denominator

pub read_of_small : (r : Quotient) (q : WrittenQuotient) → IsReadAs r q → HasSmallDenominator q → HasSmallDenominator (written_quotient r)
read_of_small r q h = subst (λ d. IfSome d (λ n. value_of n ≤ 1000)) (sym h.denominator)

-- 0,0,0

pub zero_point : Vec3
zero_point = record { num = pos 0 ∷ pos 0 ∷ pos 0 ∷ []; den = 1; lowest = record { positive = omega arith; lowest = λ d v w. Nat.eq-one_of_dvd-one v } }

pub zero_point-text : IsPointOf (codes "0,0,0") (vector zero_point)
unfolding zero_point zero_wave
zero_point-text = point_of_row (codes "0,0,0") (pos 0 ∷ pos 0 ∷ pos 0 ∷ []) 1 zero-text (lit≤ tt, lit≤ tt, lit≤ tt, (tt, tt, tt)) (lit≤ tt)
