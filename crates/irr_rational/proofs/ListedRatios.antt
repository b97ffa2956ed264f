-- Lists of whole numbers over a common denominator, as a program keeps rational numbers.
--   ratios-at                             the number at a place
--   list_of, length-list_of, entry-list_of    the list of given entries
--   listed_lowest_form                    n rational numbers have such a list in lowest terms
--   listed_lowest_unique                  and only one
use Rattle.std.proofs.Common.{◌≡◌, sym, refl, ◌∙◌, ap, subst, ℕ, zero, suc, ◌<◌, ℤ, pos, List, [], ◌∷◌, length, get_or, ext_get_or, arith}
use mathlib.Core.Path.{fun_ext}
use Rattle.irr_algebra.specs.Fin.{Fin, to_nat}
use Rattle.irr_algebra.specs.Fin.Fin.{first, next}
use Rattle.irr_algebra.proofs.Indices.{from_nat, to_nat-from_nat}
use Rattle.irr_rational.specs.Rational.{Rational, ratio}
use Rattle.irr_rational.specs.Ratio.{AreLowest, entry, ratios}
use Rattle.irr_rational.proofs.LowestTerms.{are_lowest_unique, common_lowest_form}

pub ratios-at : {n : ℕ} (xs : List ℤ) (b : ℕ) (i : Fin n) → ratios xs b i ≡ ratio (entry xs i) b
unfolding ratios
ratios-at xs b i = refl

-- the list of n entries
unfoldable pub list_of : (n : ℕ) → (Fin n → ℤ) → List ℤ
list_of zero a = []
list_of (suc n) a = a first ∷ list_of n (λ i. a (next i))

pub length-list_of : (n : ℕ) (a : Fin n → ℤ) → length (list_of n a) ≡ n
unfolding list_of
length-list_of zero a = refl
length-list_of (suc n) a = ap suc (length-list_of n (λ i. a (next i)))

pub entry-list_of : (n : ℕ) (a : Fin n → ℤ) (i : Fin n) → entry (list_of n a) i ≡ a i
unfolding list_of to_nat
entry-list_of zero a i = elim i [ ]
entry-list_of (suc n) a first = refl
entry-list_of (suc n) a (next i) = entry-list_of n (λ i. a (next i)) i

-- n numbers have a list in lowest terms
pub listed_lowest_form : (n : ℕ) (f : Fin n → Rational) → (xs : List ℤ) × (b : ℕ) × (length xs ≡ n) × AreLowest {n = n} (entry xs) b × ((i : Fin n) → ratios xs b i ≡ f i)
listed_lowest_form n f = at_form (common_lowest_form n f)
  where
    at_form : (a : Fin n → ℤ) × (b : ℕ) × AreLowest a b × ((i : Fin n) → ratio (a i) b ≡ f i)
        → (xs : List ℤ) × (b : ℕ) × (length xs ≡ n) × AreLowest {n = n} (entry xs) b × ((i : Fin n) → ratios xs b i ≡ f i)
    at_form t = (
      list_of n t.0,
      t.1,
      length-list_of n t.0,
      subst (λ a. AreLowest a t.1) (fun_ext (λ i. sym (entry-list_of n t.0 i))) t.2,
      λ i. ratios-at (list_of n t.0) t.1 i ∙ ap (λ k. ratio k t.1) (entry-list_of n t.0 i) ∙ t.3 i,
    )

-- and only one
pub listed_lowest_unique : (n : ℕ) (xs ys : List ℤ) (b d : ℕ) → length xs ≡ n → length ys ≡ n → AreLowest {n = n} (entry xs) b → AreLowest {n = n} (entry ys) d
    → ((i : Fin n) → ratios xs b i ≡ ratios ys d i) → (b ≡ d) × (xs ≡ ys)
listed_lowest_unique n xs ys b d p q h k e =
    let t : (b ≡ d) × ((i : Fin n) → entry xs i ≡ entry ys i) = are_lowest_unique {n = n} (entry xs) (entry ys) b d h k (λ i. sym (ratios-at xs b i) ∙ e i ∙ ratios-at ys d i) in
    (t.0, ext_get_or (pos 0) xs ys (p ∙ sym q) (λ j lt. at_place j (omega arith) t.1))
  where
    at_place : (j : ℕ) → j < n → ((i : Fin n) → entry xs i ≡ entry ys i) → get_or xs j (pos 0) ≡ get_or ys j (pos 0)
    at_place j lt each = subst (λ m. get_or xs m (pos 0) ≡ get_or ys m (pos 0)) (to_nat-from_nat n j lt) (each (from_nat n j lt))
