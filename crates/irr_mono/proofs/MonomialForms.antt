-- Monomial matrices and their rows and powers.
--   monomial-is               the matrix of rows and exponents is monomial, and a monomial matrix is that of its own
--   monomial-unique           rows and powers of columns are determined
use Rattle.std.proofs.Common.{◌≡◌, sym, ◌∙◌, ap, ap₂, subst, ℕ, ◌<◌, List, length, slice_index, ◌↔◌}
use Rattle.irr_algebra.specs.Fin.{to_nat}
use Rattle.irr_algebra.specs.Matrix.{Matrix}
use Rattle.irr_algebra.proofs.Indices.{from_nat, to_nat-from_nat, to_nat-lt, to_nat_inj}
use Rattle.irr_algebra.proofs.Matrices.{matrix-ext}
use Rattle.irr_number.specs.Number.{numbers, root_power}
use Rattle.irr_mat.specs.Entries.{IsEntry}
use Rattle.irr_mono.specs.Monomial.{AreRules, HasPower, IsMonomial, monomial, monomial_entry}
use Rattle.irr_mono.proofs.ColumnPowers.{only_unique, power-only, power-value}

-- a monomial matrix, entry by entry
to-matrix : (N n : ℕ) (a : Matrix (numbers N) n n) (place exp : List ℕ) → IsMonomial N a place exp → a ≡ monomial N n place exp
unfolding monomial monomial_entry
to-matrix N n a place exp m = matrix-ext (λ i j. (m.powers (to_nat j) (to_nat-lt j)).entries i j (λ t. to_nat j))

-- the matrix of rows and exponents
of-rules : (N n : ℕ) (place exp : List ℕ) → length place ≡ n → AreRules N place exp → IsMonomial N (monomial N n place exp) place exp
unfolding monomial monomial_entry
of-rules N n place exp e rules = record {
  rules = rules;
  rows = e;
  columns = e;
  powers = λ j l. let m : j < length place = subst (λ k. j < k) (sym e) l in record {
    inside = subst (λ k. slice_index place j < k) e (rules.inside j m);
    below = rules.below j m;
    entries = λ k l s. ap (λ q. monomial_entry N place exp (to_nat k) q) s;
  };
}

pub monomial-is : (N n : ℕ) (a : Matrix (numbers N) n n) (place exp : List ℕ) → IsMonomial N a place exp ↔ ((length place ≡ n) × AreRules N place exp × (a ≡ monomial N n place exp))
monomial-is N n a place exp = (
  λ m. (m.rows, m.rules, to-matrix N n a place exp m),
  λ h. subst (λ b. IsMonomial N b place exp) (sym h.2) (of-rules N n place exp h.0 h.1),
)

-- the entry at the indices
entry-here : (N r c : ℕ) (a : Matrix (numbers N) r c) (i j : ℕ) (p : i < r) (q : j < c) → IsEntry a i j (a.at (from_nat r i p) (from_nat c j q))
entry-here N r c a i j p q = record {
  is_entry = λ k l s t. ap₂ a.at (to_nat_inj (from_nat r i p) k (to_nat-from_nat r i p ∙ sym s)) (to_nat_inj (from_nat c j q) l (to_nat-from_nat c j q ∙ sym t));
}

pub monomial-unique : (N r c : ℕ) (a : Matrix (numbers N) r c) (place exp rows exponents : List ℕ) → 0 < N → IsMonomial N a place exp → IsMonomial N a rows exponents
    → (j : ℕ) → j < c → (slice_index place j ≡ slice_index rows j) × (root_power N (slice_index exp j) ≡ root_power N (slice_index exponents j))
monomial-unique N r c a place exp rows exponents pos m n j l =
    let first : HasPower N a j (slice_index place j) (slice_index exp j) = m.powers j l in
    let second : HasPower N a j (slice_index rows j) (slice_index exponents j) = n.powers j l in
    let same : slice_index place j ≡ slice_index rows j =
    only_unique a j (slice_index place j) (slice_index rows j) l (power-only N a j (slice_index place j) (slice_index exp j) pos first) (power-only N a j (slice_index rows j) (slice_index exponents j) pos second) in
    let x = a.at (from_nat r (slice_index place j) first.inside) (from_nat c j l) in
    let entry : IsEntry a (slice_index place j) j x = entry-here N r c a (slice_index place j) j first.inside l in (
      same,
      sym (power-value N a j (slice_index place j) (slice_index exp j) x l entry first)
          ∙ power-value N a j (slice_index rows j) (slice_index exponents j) x l (subst (λ i. IsEntry a i j x) same entry) second,
    )
