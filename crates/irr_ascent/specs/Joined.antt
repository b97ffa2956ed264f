-- Lists of families, one after another.
--
-- Family     a size, and a family of matrices of this size
-- family     what a list has at a place
-- none       the list with no members
-- listed     the list of some families of one size
-- append     the members of one list, and then those of another
-- widen      an index below n as one below n + 1
-- last       the greatest index
-- on_last    f at the indices before the last, and a at the last
-- joined     the members of n lists, list by list
-- rearranged the members of a list at the places s 0, s 1, ..
-- IsUnion    a list that has each member of n lists once, in any order
use Rattle.std.specs.Prelude.{ℕ, zero, suc, ◌≡◌}
use Rattle.irr_algebra.specs.Ring.{Ring}
use Rattle.irr_algebra.specs.Fin.{Fin}
use Rattle.irr_algebra.specs.Fin.Fin.{first, next}
use Rattle.irr_algebra.specs.Pair.{plus, on_plus}
use Rattle.irr_theory.specs.FactorSystem.{FactorSystem, Representation}
use Rattle.irr_theory.specs.Representations.{Representations}

-- a size, and a family of this size
abbrev pub Family : {R : Ring} → FactorSystem R → Type 0
Family T = (d : ℕ) × Representation T d

-- what the list M has at the place m
abbrev pub family : {R : Ring} {T : FactorSystem R} (M : Representations T) → Fin M.count → Family T
family M m = (M.size m, M.member m)

-- no members
abbrev pub none : {R : Ring} (T : FactorSystem R) → Representations T
none T = record { count = 0; size = λ m. elim m [ ]; member = λ m. elim m [ ] }

-- families of one size
abbrev pub listed : {R : Ring} {T : FactorSystem R} {n : ℕ} (d : ℕ) → (Fin n → Representation T d) → Representations T
listed {n = n} d E = record { count = n; size = λ m. d; member = E }

-- the members of A, and then those of B
abbrev pub append : {R : Ring} {T : FactorSystem R} → Representations T → Representations T → Representations T
append {T = T} A B = record {
  count = plus A.count B.count;
  size = λ m. (on_plus {A = Family T} A.count B.count (family A) (family B) m).0;
  member = λ m. (on_plus {A = Family T} A.count B.count (family A) (family B) m).1;
}

-- the same number, among one more
unfoldable pub widen : {n : ℕ} → Fin n → Fin (suc n)
widen first = first
widen (next i) = next (widen i)

-- the greatest index
unfoldable pub last : {n : ℕ} → Fin (suc n)
last {n = zero} = first
last {n = suc n} = next (last {n = n})

-- f before the last index, and a there
unfoldable pub on_last : {A : Type 0} {n : ℕ} → (Fin n → A) → A → Fin (suc n) → A
on_last {n = zero} f a i = a
on_last {n = suc n} f a first = f first
on_last {n = suc n} f a (next i) = on_last (λ j. f (next j)) a i

-- the members of the lists 0, 1, .., n - 1
abbrev pub joined : {R : Ring} {T : FactorSystem R} (n : ℕ) → (Fin n → Representations T) → Representations T
joined {T = T} zero over = none T
joined (suc n) over = append (joined n (λ l. over (widen l))) (over last)

-- the members of M at the places s 0, s 1, ..
abbrev pub rearranged : {R : Ring} {T : FactorSystem R} {n : ℕ} (M : Representations T) → (Fin n → Fin M.count) → Representations T
rearranged {n = n} M s = record { count = n; size = λ m. M.size (s m); member = λ m. M.member (s m) }

-- the places of M are the places of the lists, with the same families there
pub record IsUnion {R : Ring} {T : FactorSystem R} {n : ℕ} (over : Fin n → Representations T) (M : Representations T) : Type 0 where
  pub at : Fin M.count → (l : Fin n) × Fin (over l).count
  pub index_of : (l : Fin n) → Fin (over l).count → Fin M.count
  pub at-index_of : (l : Fin n) (k : Fin (over l).count) → at (index_of l k) ≡ (l, k)
  pub index_of-at : (m : Fin M.count) → index_of (at m).0 (at m).1 ≡ m
  pub same : (m : Fin M.count) → family M m ≡ family (over (at m).0) (at m).1
