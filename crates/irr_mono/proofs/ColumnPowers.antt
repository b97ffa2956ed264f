-- Columns with one power of z.
--   zeros-none, zeros-more            no row, and one more row that is 0
--   only_unique                       the row of the only entry that is not 0
--   only-from                         the only entry, from the zeros before and after it
--   power-only                        the row of a power is that of the only entry
--   only-power                        the only entry is a power
--   power-value                       the entry in the row of a power
--   no-power                          no power where the only entry is none
--   none-more                         one more number without a property
--   AreColumns N a n place exp        the first n columns have powers of z in different rows
--   columns-nil, columns-push         no column, and one more
--   monomial-from                     all columns: a monomial matrix
--   no-column, not-square, row_again  matrices that are not monomial
use Rattle.std.proofs.Common.{◌≡◌, ◌≢◌, sym, ◌∙◌, subst, ℕ, ◌+◌, ◌^◌, ◌<◌, ◌≤◌, ◌⊎◌, inl, inr, List, [], ◌∷◌, ◌++◌, length, slice_index, Contains, arith}
use Rattle.std.proofs.lemmas.Bool.{cases_lt}
use Rattle.std.proofs.lemmas.List.{get_or_default}
use native.Mathlib.Decide.{ℕ_discrete}
use Rattle.irr_algebra.specs.Fin.{Fin, to_nat}
use Rattle.irr_algebra.specs.Matrix.{Matrix}
use Rattle.irr_algebra.specs.Ring.{Ring}
use Rattle.irr_algebra.proofs.Indices.{from_nat, to_nat-from_nat, to_nat-lt}
use Rattle.irr_number.specs.Number.{Number, numbers, root_power}
use Rattle.irr_number.proofs.RootPowers.{root_power-ne-zero}
use Rattle.irr_mat.specs.Entries.{IsEntry}
use Rattle.irr_mono.specs.Columns.{AreZeros, IsNonzero, IsOnly}
use Rattle.irr_mono.specs.Monomial.{HasPower, IsMonomial}
use Rattle.irr_mono.proofs.Entries.{none_at, power_at}
use Rattle.irr_mono.proofs.Tables.{AreTables, Differ, differ-nil, differ-push, tables-nil, tables-push}

-- one more number without the property
pub none-more : (P : ℕ → Type 0) (k : ℕ) → ((e : ℕ) → e < k → P e → ⊥) → (P k → ⊥) → (e : ℕ) → e < k + 1 → P e → ⊥
none-more P k h none e l p = at (cases_lt e k)
  where
    at : (e < k) ⊎ (k ≤ e) → ⊥
    at (inl less) = h e less p
    at (inr more) = none (subst P (let s : e ≡ k = omega arith in s) p)

module _ {R : Ring} {r c : ℕ} (a : Matrix R r c) (j : ℕ) where
  pub zeros-none : (i : ℕ) → AreZeros a j i i
  zeros-none i = record { zero = λ k l e p q. absurd (omega arith) }

  pub zeros-more : (lo i : ℕ) (x : R.Carrier) → AreZeros a j lo i → IsEntry a i j x → x ≡ R.zero → AreZeros a j lo (i + 1)
  zeros-more lo i x h is z = record { zero = λ k l e p q. at k l e p q (cases_lt (to_nat k) i) }
    where
      at : (k : Fin r) (l : Fin c) → to_nat l ≡ j → lo ≤ to_nat k → to_nat k < i + 1 → (to_nat k < i) ⊎ (i ≤ to_nat k) → a.at k l ≡ R.zero
      at k l e p q (inl less) = h.zero k l e p less
      at k l e p q (inr more) = let s : to_nat k ≡ i = omega arith in sym (is.is_entry k l s e) ∙ z

  pub nonzero-at : (i : ℕ) (x : R.Carrier) → IsEntry a i j x → (x ≡ R.zero → ⊥) → IsNonzero a j i
  nonzero-at i x is n = record { nonzero = λ k l e s z. n (is.is_entry k l s e ∙ z) }

  pub nonzero-past : (i : ℕ) → r ≤ i → IsNonzero a j i
  nonzero-past i le = record { nonzero = λ k l e s z. let lt = to_nat-lt k in absurd (omega arith) }

  pub only_unique : (i k : ℕ) → j < c → IsOnly a j i → IsOnly a j k → i ≡ k
  only_unique i k h x y = elim (ℕ_discrete i k) [
    | yes e ↦ e
    | no n ↦ absurd (x.only (from_nat r i x.inside) (from_nat c j h) (to_nat-from_nat c j h) (to_nat-from_nat r i x.inside)
        (y.others (from_nat r i x.inside) (from_nat c j h) (to_nat-from_nat c j h) (λ s. n (sym (to_nat-from_nat r i x.inside) ∙ s))))
  ]

  pub only-from : (i : ℕ) → i < r → AreZeros a j 0 i → IsNonzero a j i → AreZeros a j (i + 1) r → IsOnly a j i
  only-from i h before at after = record {
    inside = h;
    only = λ k l e s z. at.nonzero k l e s z;
    others = λ k l e n. other k l e n (cases_lt (to_nat k) i);
  }
    where
      other : (k : Fin r) (l : Fin c) → to_nat l ≡ j → (to_nat k ≡ i → ⊥) → (to_nat k < i) ⊎ (i ≤ to_nat k) → a.at k l ≡ R.zero
      other k l e n (inl less) = before.zero k l e (omega arith) less
      other k l e n (inr more) = let d : to_nat k ≢ i = n in after.zero k l e (omega arith) (to_nat-lt k)

  -- no only entry where all is 0
  pub only-none : (i hi : ℕ) → j < c → r ≤ hi → AreZeros a j 0 hi → IsOnly a j i → ⊥
  only-none i hi h le z x = x.only (from_nat r i x.inside) (from_nat c j h) (to_nat-from_nat c j h) (to_nat-from_nat r i x.inside)
      (z.zero (from_nat r i x.inside) (from_nat c j h) (to_nat-from_nat c j h) (omega arith)
      (subst (λ m. m < hi) (sym (to_nat-from_nat r i x.inside)) (let lt : i < r = x.inside in omega arith)))

  -- none where two rows are not 0
  pub only-two : (i u v : ℕ) → j < c → u < v → v < r → IsNonzero a j u → IsNonzero a j v → IsOnly a j i → ⊥
  only-two i u v h uv vr p q x = elim (ℕ_discrete u i) [
    | yes e ↦ q.nonzero (from_nat r v vr) (from_nat c j h) (to_nat-from_nat c j h) (to_nat-from_nat r v vr)
        (x.others (from_nat r v vr) (from_nat c j h) (to_nat-from_nat c j h) (λ s. let t : v ≡ i = sym (to_nat-from_nat r v vr) ∙ s in absurd (omega (arith, e, t))))
    | no n ↦ p.nonzero (from_nat r u (small u v r uv vr)) (from_nat c j h) (to_nat-from_nat c j h) (to_nat-from_nat r u (small u v r uv vr))
        (x.others (from_nat r u (small u v r uv vr)) (from_nat c j h) (to_nat-from_nat c j h) (λ s. n (sym (to_nat-from_nat r u (small u v r uv vr)) ∙ s)))
  ]
    where
      small : (u v r : ℕ) → u < v → v < r → u < r
      small u v r p q = omega arith

module _ (N : ℕ) {r c : ℕ} (a : Matrix (numbers N) r c) (j : ℕ) where
  pub power-only : (i e : ℕ) → 0 < N → HasPower N a j i e → IsOnly a j i
  power-only i e pos h = record {
    inside = h.inside;
    only = λ k l s t z. root_power-ne-zero N pos e (sym (h.entries k l s ∙ power_at N i (to_nat k) (root_power N e) (sym t)) ∙ z);
    others = λ k l s n. h.entries k l s ∙ none_at N i (to_nat k) (root_power N e) (λ t. n (sym t));
  }

  pub power-value : (i e : ℕ) (x : Number N) → j < c → IsEntry a i j x → HasPower N a j i e → x ≡ root_power N e
  power-value i e x lt is h =
      is.is_entry (from_nat r i h.inside) (from_nat c j lt) (to_nat-from_nat r i h.inside) (to_nat-from_nat c j lt)
      ∙ h.entries (from_nat r i h.inside) (from_nat c j lt) (to_nat-from_nat c j lt)
      ∙ power_at N i (to_nat (from_nat r i h.inside)) (root_power N e) (sym (to_nat-from_nat r i h.inside))

  pub only-power : (i e : ℕ) (x : Number N) → IsOnly a j i → IsEntry a i j x → e < N → x ≡ root_power N e → HasPower N a j i e
  only-power i e x h is lt v = record {
    inside = h.inside;
    below = lt;
    entries = λ k l s. elim (ℕ_discrete (to_nat k) i) [
      | yes t ↦ sym (is.is_entry k l t s) ∙ v ∙ sym (power_at N i (to_nat k) (root_power N e) (sym t))
      | no n ↦ h.others k l s n ∙ sym (none_at N i (to_nat k) (root_power N e) (λ t. n (sym t)))
    ];
  }

  -- no power where the only entry is none
  pub no-power : (i : ℕ) (x : Number N) → 0 < N → j < c → IsOnly a j i → IsEntry a i j x → ((e : ℕ) → e < N → x ≡ root_power N e → ⊥) → (row exponent : ℕ) → HasPower N a j row exponent → ⊥
  no-power i x pos lt only is none row exponent h =
      let s : i ≡ row = only_unique a j i row lt only (power-only row exponent pos h) in
      none exponent h.below (power-value row exponent x lt (subst (λ m. IsEntry a m j x) s is) h)

-- the columns so far
pub record AreColumns (N : ℕ) {r c : ℕ} (a : Matrix (numbers N) r c) (n : ℕ) (place exp : List ℕ) : Type 0 where
  pub powers : AreTables (HasPower N a) n place exp
  pub distinct : Differ n place

pub columns-nil : (N : ℕ) {r c : ℕ} (a : Matrix (numbers N) r c) → AreColumns N a 0 [] []
columns-nil N a = record { powers = tables-nil (HasPower N a); distinct = differ-nil [] }

pub columns-push : (N : ℕ) {r c : ℕ} (a : Matrix (numbers N) r c) (n : ℕ) (place exp rows exponents : List ℕ) (row exponent : ℕ) → AreColumns N a n place exp → rows ≡ place ++ row ∷ [] → exponents ≡ exp ++ exponent ∷ []
    → HasPower N a n row exponent → (Contains place row → ⊥) → AreColumns N a (n + 1) rows exponents
columns-push N a n place exp rows exponents row exponent h p q power new = record {
  powers = tables-push (HasPower N a) n place exp rows exponents row exponent h.powers p q power;
  distinct = differ-push n place rows row h.powers.first p new h.distinct;
}

-- a column that has no power of z
pub no-column : (N : ℕ) {r c : ℕ} (a : Matrix (numbers N) r c) (j : ℕ) → j < c → ((row exponent : ℕ) → HasPower N a j row exponent → ⊥) → (place exp : List ℕ) → IsMonomial N a place exp → ⊥
no-column N a j lt none place exp m = none (slice_index place j) (slice_index exp j) (m.powers j lt)

-- a matrix that is not square
pub not-square : (N : ℕ) {r c : ℕ} (a : Matrix (numbers N) r c) → (r ≡ c → ⊥) → (place exp : List ℕ) → IsMonomial N a place exp → ⊥
not-square N a n place exp m = n (sym m.rows ∙ m.columns)

-- all columns
pub monomial-from : (N : ℕ) {r c : ℕ} (a : Matrix (numbers N) r c) (place exp : List ℕ) → r ≡ c → 0 < c → c < 2 ^ 32 → AreColumns N a c place exp → IsMonomial N a place exp
monomial-from N {r} {c} a place exp e some few h = record {
  rules = record {
    some = omega (arith, some, h.powers.first);
    few = omega (arith, few, h.powers.first);
    same = h.powers.second ∙ sym h.powers.first;
    inside = λ j l. subst (λ m. slice_index place j < m) (e ∙ sym h.powers.first) (h.powers.each j (small j l)).inside;
    distinct = λ j k p q s. h.distinct.differ j k (small j p) (small k q) s;
    below = λ j l. (h.powers.each j (small j l)).below;
  };
  rows = h.powers.first ∙ sym e;
  columns = h.powers.first;
  powers = λ j l. h.powers.each j l;
}
  where
    small : (j : ℕ) → j < length place → j < c
    small j l = subst (λ m. j < m) h.powers.first l

-- a row that is there already is that of no other column of a monomial matrix
row_twice : (N : ℕ) {r c : ℕ} (a : Matrix (numbers N) r c) (n : ℕ) (place exp : List ℕ) (row exponent k : ℕ) → 0 < N → n < c → AreColumns N a n place exp → HasPower N a n row exponent
    → k < n → slice_index place k ≡ row → (ps es : List ℕ) → IsMonomial N a ps es → ⊥
row_twice N {r} {c} a n place exp row exponent k pos lt h at l e ps es m =
    let lk : k < c = omega arith in
    let one : slice_index place k ≡ slice_index ps k = only_unique a k (slice_index place k) (slice_index ps k) lk
    (power-only N a k (slice_index place k) (slice_index exp k) pos (h.powers.each k l)) (power-only N a k (slice_index ps k) (slice_index es k) pos (m.powers k lk)) in
    let two : row ≡ slice_index ps n = only_unique a n row (slice_index ps n) lt
    (power-only N a n row exponent pos at) (power-only N a n (slice_index ps n) (slice_index es n) pos (m.powers n lt)) in
    let same : k ≡ n = m.rules.distinct k n (subst (λ s. k < s) (sym m.columns) lk) (subst (λ s. n < s) (sym m.columns) lt) (sym one ∙ e ∙ two) in
    absurd (omega arith)

pub row_again : (N : ℕ) {r c : ℕ} (a : Matrix (numbers N) r c) (n : ℕ) (place exp : List ℕ) (row exponent : ℕ) → 0 < N → n < c → AreColumns N a n place exp → HasPower N a n row exponent
    → Contains place row → (ps es : List ℕ) → IsMonomial N a ps es → ⊥
row_again N a n place exp row exponent pos lt h at (k, l, e) = row_twice N a n place exp row exponent k pos lt h at (subst (λ m. k < m) h.powers.first l) (get_or_default place k 0 row l ∙ e)
