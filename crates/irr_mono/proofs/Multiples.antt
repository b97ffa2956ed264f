-- Monomial matrices times powers of z.
--   IsMultipleColumn          row and exponent of a column of the multiple
--   AreMultiple               the first columns of the multiple
--   monomial-times            the multiple is z^e times the matrix
--   rules-times               it is monomial
use Rattle.std.proofs.Common.{◌≡◌, sym, ◌∙◌, ap, ap₂, subst, ℕ, ◌+◌, ◌%◌, ◌^◌, ◌<◌, List, length, slice_index, arith}
use native.Mathlib.Nat as Nat
use Rattle.irr_algebra.specs.Fin.{to_nat}
use Rattle.irr_algebra.specs.Matrix.{scale}
use Rattle.irr_algebra.specs.Ring.{Ring}
use Rattle.irr_algebra.proofs.Indices.{to_nat-lt}
use Rattle.irr_algebra.proofs.Matrices.{matrix-ext}
use Rattle.irr_algebra.proofs.Rings.{ring_laws}
use Rattle.irr_number.specs.Element.{delta}
use Rattle.irr_number.specs.Number.{Number, numbers, root_power}
use Rattle.irr_number.proofs.RootPowers.{root_power-mod, root_power-mul}
use Rattle.irr_mono.specs.Monomial.{AreRules, monomial, monomial_entry}
use Rattle.irr_mono.proofs.Tables.{AreTables}

-- the row stays, and the exponent grows by e
pub record IsMultipleColumn (N e : ℕ) (place exp : List ℕ) (k i x : ℕ) : Type 0 where
  pub row : i ≡ slice_index place k
  pub exponent : x ≡ (slice_index exp k + e) % N

module _ (N e : ℕ) (place exp : List ℕ) where
  abbrev pub AreMultiple : ℕ → List ℕ → List ℕ → Type 0
  AreMultiple n ps es = AreTables (IsMultipleColumn N e place exp) n ps es

  turn : (R : Ring) (d x y : R.Carrier) → R.mul d (R.mul x y) ≡ R.mul y (R.mul d x)
  turn R d x y = simp (ring_laws, R)

  entry-times : (ps es : List ℕ) (i j : ℕ) → IsMultipleColumn N e place exp j (slice_index ps j) (slice_index es j)
      → monomial_entry N ps es i j ≡ (numbers N).mul (root_power N e) (monomial_entry N place exp i j)
  unfolding monomial_entry
  entry-times ps es i j h =
      ap₂ (λ a x. (numbers N).mul (delta (numbers N) a i) (root_power N x)) h.row h.exponent
      ∙ ap ((numbers N).mul d) (root_power-mod N (x + e) ∙ sym (root_power-mul N x e))
      ∙ turn (numbers N) d (root_power N x) (root_power N e)
    where
      x : ℕ
      x = slice_index exp j

      d : Number N
      d = delta (numbers N) (slice_index place j) i

  pub monomial-times : (n : ℕ) (ps es : List ℕ) → AreMultiple n ps es → monomial N n ps es ≡ scale (numbers N) (root_power N e) (monomial N n place exp)
  unfolding monomial scale
  monomial-times n ps es h = matrix-ext (λ i j. entry-times ps es (to_nat i) (to_nat j) (h.each (to_nat j) (to_nat-lt j)))

  pub rules-times : (n : ℕ) (ps es : List ℕ) → 0 < N → AreRules N place exp → length place ≡ n → AreMultiple n ps es → AreRules N ps es
  rules-times n ps es pos g len t = record {
    some = let s : 0 < length place = g.some in omega (arith, len, t.first);
    few = subst (λ k. k < 2 ^ 32) same g.few;
    same = t.second ∙ sym t.first;
    inside = λ j l. subst (λ i. i < length ps) (sym (t.each j (small j l)).row) (subst (λ m. slice_index place j < m) same (g.inside j (within j l)));
    distinct = λ j k lj lk s. g.distinct j k (within j lj) (within k lk) (sym (t.each j (small j lj)).row ∙ s ∙ (t.each k (small k lk)).row);
    below = λ j l. subst (λ x. x < N) (sym (t.each j (small j l)).exponent) (Nat.mod-lt (slice_index exp j + e) pos);
  }
    where
      same : length place ≡ length ps
      same = len ∙ sym t.first

      small : (j : ℕ) → j < length ps → j < n
      small j l = subst (λ m. j < m) t.first l

      within : (j : ℕ) → j < length ps → j < length place
      within j l = subst (λ m. j < m) (sym same) l
