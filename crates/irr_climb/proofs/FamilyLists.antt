-- Lists of families of the program, one after another, as lists of representations.
--   read_none, read_append, read_one     none, two lists, one family
--   AreFirst                 families that are those over the first k members of a list
--   first_none, first_more, first_all    none; one member more; all of them are a full list
use Rattle.std.specs.Prelude.{ℕ, suc, ◌≡◌, ◌<◌, ◌+◌, List, [], ◌∷◌, ◌++◌, length, slice_index_or}
use Rattle.std.proofs.Common.{sym, ◌∙◌, ap, subst, refl, get_or}
use Rattle.std.proofs.lemmas.List.{get_or_append_left, get_or-append-add, length-append}
use Rattle.irr_algebra.specs.Fin.{Fin, to_nat}
use Rattle.irr_algebra.specs.Fin.Fin.{first}
use Rattle.irr_algebra.specs.Field.{Field}
use Rattle.irr_algebra.specs.Pair.{left, right}
use Rattle.irr_algebra.proofs.Indices.{only_first, to_nat-lt}
use Rattle.irr_number.specs.Number.{numbers}
use Rattle.irr_number.proofs.NumberField.{number_field}
use Rattle.irr_theory.specs.FactorSystem.{FactorSystem, Representation}
use Rattle.irr_theory.specs.Representations.{IsFull, Representations}
use Rattle.irr_ascent.specs.Joined.{append, family, listed, none}
use Rattle.irr_ascent.specs.First.{IsOverFirst}
use Rattle.irr_ascent.proofs.Climbed.{union_full}
use Rattle.irr_ascent.proofs.First.{first_over, first_start, first_step}
use Rattle.irr_ascent.proofs.Places.{append-count, append-left, append-right, by_plus, to_nat-left, to_nat-right}
use Rattle.irr_cyc.specs.declared.scalars.Scalar.{Ghosts}
use Rattle.irr_rep.specs.declared.family.Family.{Family}
use Rattle.irr_climb.specs.declared.step.Step.{Step}
use Rattle.irr_climb.specs.Families.{AreRead, IsRead}
use Rattle.irr_climb.specs.Lists.{IsFullyRead}
use Rattle.irr_climb.specs.Steps.{AreFamiliesOver, AreTurns, IsStep, large, small}

module _ {S : Type 0} {G : Ghosts S} (M : ℕ) (P : FactorSystem (numbers M)) where
  -- a family of the program as a size with a family
  abbrev IsPair : (d : ℕ) × Representation P d → Family S G → Type 0
  IsPair p f = IsRead M P p.1 f

  pub read_none : AreRead {S = S} {G = G} M P (none P) []
  read_none = record { count = refl; read = λ m. elim m [ ] }

  pub read_one : {d : ℕ} (E : Representation P d) (f : Family S G) → IsRead M P E f → AreRead M P (listed d (λ (k : Fin 1). E)) (f ∷ [])
  unfolding to_nat
  read_one E f is = record {
    count = refl;
    read = λ m e. subst (λ k. IsRead M P E (slice_index_or (f ∷ []) (to_nat k) e)) (only_first m) is;
  }

  module _ (A B : Representations P) (xs ys : List (Family S G)) (a : AreRead M P A xs) (b : AreRead M P B ys) where
    at_left : (e : Family S G) (i : Fin A.count) → IsPair (family (append A B) (left B.count i)) (get_or (xs ++ ys) (to_nat (left B.count i)) e)
    at_left e i =
        let inside : to_nat i < length xs = subst (λ k. to_nat i < k) (sym a.count) (to_nat-lt i) in
        subst (λ p. IsPair p (get_or (xs ++ ys) (to_nat (left B.count i)) e)) (sym (append-left A B i))
        (subst (λ f. IsPair (family A i) f) (sym (ap (λ k. get_or (xs ++ ys) k e) (to_nat-left B.count i) ∙ get_or_append_left xs ys e
        (to_nat i) inside)) (a.read i e))

    at_right : (e : Family S G) (j : Fin B.count) → IsPair (family (append A B) (right A.count j)) (get_or (xs ++ ys) (to_nat (right A.count j)) e)
    at_right e j =
        subst (λ p. IsPair p (get_or (xs ++ ys) (to_nat (right A.count j)) e)) (sym (append-right A B j))
        (subst (λ f. IsPair (family B j) f)
        (sym (ap (λ k. get_or (xs ++ ys) k e) (to_nat-right A.count j ∙ ap (λ k. k + to_nat j) (sym a.count)) ∙ get_or-append-add xs ys (to_nat j) e))
        (b.read j e))

    pub read_append : AreRead M P (append A B) (xs ++ ys)
    read_append = record {
      count = length-append xs ys ∙ ap (λ k. k + length ys) a.count ∙ ap (λ k. A.count + k) b.count ∙ sym (append-count A B);
      read = λ m e. by_plus A.count B.count (λ k. IsPair (family (append A B) k) (get_or (xs ++ ys) (to_nat k) e)) (at_left e) (at_right e) m;
    }

-- the families over the first k members
pub record AreFirst {S : Type 0} {G : Ghosts S} {M : ℕ} {step : Step} (is : IsStep M step) (L : Representations (small is))
    (turn : Fin L.count → Fin L.count)
    (k : ℕ) (fs : List (Family S G)) : Type 0 where
  pub list : Representations (large is)
  pub over : IsOverFirst is.quotient L turn k list
  pub read : AreRead M (large is) list fs

module _ {S : Type 0} {G : Ghosts S} {M : ℕ} {step : Step} (is : IsStep M step) (L : Representations (small is)) where
  pub first_none : (turn : Fin L.count → Fin L.count) → AreFirst {S = S} {G = G} is L turn 0 []
  first_none turn = record { list = none (large is); over = first_start is.quotient L turn; read = read_none M (large is) }

  pub first_more : (turn : Fin L.count → Fin L.count) (k : ℕ) (l : Fin L.count) (fs gs : List (Family S G)) → to_nat l ≡ k
      → AreFirst is L turn k fs → AreFamiliesOver is L turn l gs → AreFirst is L turn (suc k) (fs ++ gs)
  first_more turn k l fs gs e f g = record {
    list = append f.list g.list;
    over = first_step is.quotient L turn k l f.list g.list e f.over g.over;
    read = read_append M (large is) f.list g.list fs gs f.read g.read;
  }

  pub first_all : IsFull L → (ts : List ℕ) (turns : AreTurns is L ts) (fs : List (Family S G)) → AreFirst is L turns.turn L.count fs
      → IsFullyRead M (large is) fs
  first_all full ts turns fs f = record {
    list = f.list;
    read = f.read;
    full = union_full (number_field M is.positive) is.quotient is.two_or_three L full turns.turn turns.turns_to f.over.over
        (first_over is.quotient L turns.turn f.list f.over) f.list f.over.union;
  }
