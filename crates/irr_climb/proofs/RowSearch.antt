-- The search for the member with the character of the conjugate.
--   IsComing                 a row of the list from m on is the same as the row of the conjugate
--   coming_start             there is such a row
--   coming_below             so m is inside the list
--   coming_more              where the row m is another one, there is one after it
--   found_turn               a member with the row of the conjugate is its turn
use Rattle.std.specs.Prelude.{ℕ, zero, suc, ◌≡◌, ◌<◌, ◌≤◌, ◌+◌, ◌⊎◌, List, length, map}
use Rattle.std.proofs.Common.{sym, ◌∙◌, ap, subst, get_or, inl, inr, refl, arith}
use Rattle.irr_algebra.specs.Fin.{Fin, to_nat}
use Rattle.irr_algebra.proofs.Indices.{to_nat-lt}
use Rattle.irr_algebra.specs.Matrix.{trace}
use Rattle.irr_algebra.specs.Action.{Equivalent}
use Rattle.irr_number.specs.Number.{Number}
use Rattle.irr_number.proofs.NumberField.{number_field}
use Rattle.irr_theory.specs.Representations.{IsFull, Representations}
use Rattle.irr_clifford.specs.Cyclic.{conjugate}
use Rattle.irr_ascent.proofs.Turned.{member_with_traces, turned_by_traces}
use Rattle.irr_rep.specs.Twisted.{place_count}
use Rattle.irr_char.specs.Rows.{row_of}
use Rattle.irr_char.specs.Characters.{IsRowOf, IsSmallRow}
use Rattle.irr_climb.specs.declared.step.Step.{Step}
use Rattle.irr_climb.specs.Families.{AreRows}
use Rattle.irr_climb.specs.Steps.{IsStep, small}

-- the numbers of two rows are the same
abbrev pub IsSameRow : {S : Type 0} (value : (n : ℕ) → S → Number n) (M h : ℕ) (left right : List S) → Type 0
IsSameRow value M h left right = (i : Fin h) → row_of M (map (value M) left) i ≡ row_of M (map (value M) right) i

cases_le : (m k : ℕ) → m ≤ k → (m ≡ k) ⊎ (m + 1 ≤ k)
cases_le zero zero l = inl refl
cases_le zero (suc k) l = inr (omega arith)
cases_le (suc m) zero l = absurd (omega (arith, l))
cases_le (suc m) (suc k) l = next (cases_le m k (omega (arith, l)))
  where
    next : (m ≡ k) ⊎ (m + 1 ≤ k) → (suc m ≡ suc k) ⊎ (suc m + 1 ≤ suc k)
    next (inl e) = inl (ap suc e)
    next (inr l) = inr (omega (arith, l))

-- the row m or a later one is the row of the conjugate
pub record IsComing {S : Type 0} (order : S → ℕ) (value : (n : ℕ) → S → Number n) (h : ℕ) (rows : List (List S)) (row : List S) (m : ℕ) : Type 0 where
  pub M : ℕ
  pub small : IsSmallRow order value M h row
  pub smalls : (k : ℕ) (e : List S) → k < length rows → IsSmallRow order value M h (get_or rows k e)
  pub k : ℕ
  pub from : m ≤ k
  pub below : k < length rows
  pub same : (e : List S) → IsSameRow value M h row (get_or rows k e)

module _ {S : Type 0} (order : S → ℕ) (value : (n : ℕ) → S → Number n) (h : ℕ) (rows : List (List S)) (row : List S) (m : ℕ)
    (c : IsComing order value h rows row m) where
  pub coming_below : m < length rows
  coming_below = let a = c.from in let b = c.below in omega (arith, a, b)

  pub coming_more : (e : List S) → (IsSameRow value c.M h row (get_or rows m e) → ⊥) → IsComing order value h rows row (m + 1)
  coming_more e other = record {
    M = c.M;
    small = c.small;
    smalls = c.smalls;
    k = c.k;
    from = from;
    below = c.below;
    same = c.same;
  }
    where
      after : (m ≡ c.k) ⊎ (m + 1 ≤ c.k) → m + 1 ≤ c.k
      after (inl q) = absurd (other (subst (λ j. IsSameRow value c.M h row (get_or rows j e)) (sym q) (c.same e)))
      after (inr l) = l

      from : m + 1 ≤ c.k
      from = after (cases_le m c.k c.from)

module _ {S : Type 0} (order : S → ℕ) (value : (n : ℕ) → S → Number n) {M : ℕ} {step : Step} (is : IsStep M step) (L : Representations (small is))
    (full : IsFull L)
    (rows : List (List S)) (listed : AreRows order value M (small is) L rows) (row : List S) (a : Fin L.count)
    (conjugated : IsRowOf order value M (λ i. trace (conjugate is.quotient (L.member a) i)) row) where
  -- a member whose traces are those of the conjugate
  turned : (m : Fin L.count) × ((n : Fin (place_count step.inner)) → trace (conjugate is.quotient (L.member a) n) ≡ trace ((L.member m).at n))
  turned = member_with_traces (number_field M is.positive) is.quotient L full a

  same_rows : (m : Fin L.count) (e : List S) → ((n : Fin (place_count step.inner)) → trace (conjugate is.quotient (L.member a) n)
      ≡ trace ((L.member m).at n))
      → IsSameRow value M (place_count step.inner) row (get_or rows (to_nat m) e)
  same_rows m e t i = conjugated.numbers_at i ∙ t i ∙ sym ((listed.row m e).numbers_at i)

  pub coming_start : IsSmallRow order value M (place_count step.inner) row
      → ((k : ℕ) (e : List S) → k < length rows → IsSmallRow order value M (place_count step.inner) (get_or rows k e))
      → IsComing order value (place_count step.inner) rows row 0
  coming_start s ss = record {
    M = M;
    small = s;
    smalls = ss;
    k = to_nat turned.0;
    from = omega arith;
    below = subst (λ k. to_nat turned.0 < k) (sym listed.count) (to_nat-lt turned.0);
    same = λ e. same_rows turned.0 e turned.1;
  }

  pub found_turn : (b : Fin L.count) (e : List S) → IsSameRow value M (place_count step.inner) row (get_or rows (to_nat b) e)
      → Equivalent (conjugate is.quotient (L.member a)) (L.member b).at
  found_turn b e same = turned_by_traces (number_field M is.positive) is.quotient L full a b
      (λ n. sym (conjugated.numbers_at n) ∙ same n ∙ (listed.row b e).numbers_at n)
