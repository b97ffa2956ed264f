-- Pairs of representations of a list.
--   pair_characters      their characters
--   apart_any, not_apart whether they are apart, whatever stands past the end of the list
--   apart_next           apart from one more
use Rattle.std.proofs.Common.{◌≡◌, sym, subst, inl, inr, ℕ, ◌<◌, ◌+◌, List, length, get_or, All}
use Rattle.std.proofs.lemmas.List.{get_or_default}
use Rattle.irr_algebra.specs.Action.{HasDimension}
use Rattle.irr_algebra.specs.Fin.{Fin}
use Rattle.irr_number.proofs.NumberField.{number_field}
use Rattle.irr_space.specs.PhaseTable.{PhaseTable}
use Rattle.irr_cyc.specs.declared.scalars.Scalar.{Ghosts}
use Rattle.irr_rep.specs.Family.{matrix_at}
use Rattle.irr_char.specs.Characters.{AreCharacters}
use Rattle.irr_report.specs.declared.report.RepText.{RepText}
use Rattle.irr_check.specs.Faults.{IsSound}
use Rattle.irr_report.specs.Limits.{IsChecked}
use Rattle.irr_check.specs.Pairs.{AreApart, AreApartAt, AreApartBelow}
use Rattle.irr_check.proofs.FamilyFacts.{characters_of, dimension_unique, family_of}
use Rattle.irr_check.proofs.RowDifferences.{before_or_at}

module _ {S : Type 0} {G : Ghosts S} {h : ℕ} (T : PhaseTable h) (reps : List (RepText S G)) (checked : All (IsChecked T.order h) reps)
    (sound : All (IsSound T) reps) (a b : ℕ) (x y : RepText S G) (l : a < length reps) (m : b < length reps) where
  abbrev pub pair_characters : (xs ys : List S) → xs ≡ (get_or reps a x).chars.items → ys ≡ (get_or reps b y).chars.items
      → AreCharacters G.order_of G.value T xs ys
  pair_characters xs ys e f = characters_of T (get_or reps a x) (get_or reps b y) (checked a x l) (checked b y m) (sound a x l).small (sound b y m).small
      (sound a x l).traces (sound b y m).traces xs ys e f

  abbrev pub IsDimensionOf : ℕ → Type 0
  IsDimensionOf n = HasDimension (λ (i : Fin h). matrix_at T.order (get_or reps a x).family.dim (get_or reps a x).family.mats.items i)
      (λ (i : Fin h). matrix_at T.order (get_or reps b y).family.dim (get_or reps b y).family.mats.items i) n

  pub apart_any : (n : ℕ) → IsDimensionOf n → n ≡ 0 → AreApartAt T reps a b
  apart_any n p e d f = subst (λ u. AreApart T u (get_or reps b f)) (get_or_default reps a x d l)
      (subst (λ v. AreApart T (get_or reps a x) v) (get_or_default reps b y f m) (subst IsDimensionOf e p))

  pub not_apart : (n : ℕ) → IsDimensionOf n → ¬ (n ≡ 0) → (d e : RepText S G) → ¬ (AreApart T (get_or reps a d) (get_or reps b e))
  not_apart n p other d e q = other (dimension_unique (number_field T.order T.order_positive) (family_of T (get_or reps a x) (sound a x l).small)
      (family_of T (get_or reps b y) (sound b y m).small) n 0 p
      (subst (λ u. AreApart T u (get_or reps b y)) (get_or_default reps a d x l)
      (subst (λ v. AreApart T (get_or reps a d) v) (get_or_default reps b e y m) q)))

  pub apart_next : AreApartBelow T reps a b → AreApartAt T reps a b → AreApartBelow T reps a (b + 1)
  apart_next before here k from below = elim (before_or_at k b below) [
    | inl less ↦ before k from less
    | inr at ↦ subst (AreApartAt T reps a) (sym at) here
  ]
