-- The full representations of a complete list as a content of the text.
--   full_of_list          each member of a list has a full representation
--   full_at_divisor       over the order of the table it is one, whichever way that divides itself
--   complete_content      those of a complete list in canonical order are a content
use Rattle.std.proofs.Common.{sym, ◌∙◌, ap, refl, ℕ, ◌<◌, List}
use Rattle.std.specs.Int.{◌∣◌}
use native.Mathlib.Nat as Nat
use Rattle.irr_algebra.specs.Fin.{Fin}
use Rattle.irr_algebra.specs.Matrix.{Matrix, scale}
use Rattle.irr_algebra.specs.Pair.{times}
use Rattle.irr_algebra.specs.Action.{IsIrreducible}
use Rattle.irr_number.specs.Number.{numbers, root_power}
use Rattle.irr_theory.specs.FactorSystem.{Representation}
use Rattle.irr_theory.specs.Representations.{Representations}
use Rattle.irr_space.specs.Operation.{Operation, WaveVector}
use Rattle.irr_space.specs.Reciprocal.{Sign, IsReduced}
use Rattle.irr_space.specs.PhaseTable.{phases_at}
use Rattle.irr_space.specs.CompleteList.{IsCompleteList, IsInOrder, over}
use Rattle.irr_cocycle.specs.SpaceGroupLaws.{IsGroup, HasCanonical}
use Rattle.irr_rep.proofs.Families.{at_own_order-over}
use Rattle.irr_full.specs.GroupRepresentation.{family, raised}
use Rattle.irr_full.specs.Star.{Star}
use Rattle.irr_full.specs.Full.{IsFullOf}
use Rattle.irr_full.proofs.FullExistence.{full_matrices, full_matrices-is_full}
use Rattle.irr_full.proofs.FullIrreducible.{full-irreducible}
use Rattle.irr_full.proofs.FullRaised.{raised-full}
use Rattle.irr_full_text.specs.FullText.{AreGeneratorsOf, IsFullContent, full_content}

module _ (G : Operation → Type 0) (group : IsGroup G) (chosen : HasCanonical G) {s : Sign} {k : WaveVector}
    (S : Star s G k) where
  abbrev N : ℕ
  N = S.table.order

  pub full_at_divisor : (v w : N ∣ N) {d : ℕ} (D : Representation (phases_at S.table) d)
      (A : Operation → Matrix (numbers N) (times S.arms d) (times S.arms d))
      → IsFullOf S N v (over S.table N v D) A → IsFullOf S N w (over S.table N w D) A
  full_at_divisor v w D A full = record {
    carried = λ g in_g i j n in_n e m is. full.carried g in_g i j n in_n e m (record {
      vector = is.vector;
      place = is.place;
      exponent = is.exponent;
      is_product = is.is_product;
      is_phase = is.is_phase;
      is_matrix = is.is_matrix ∙ ap (scale (numbers N) (root_power N is.exponent))
          (at_own_order-over S.table w D is.place ∙ sym (at_own_order-over S.table v D is.place));
    });
    apart = full.apart;
  }

  module _ (L : Representations (phases_at S.table)) where
    pub full_of_list : (m : Fin L.count) → Operation → Matrix (numbers N) (times S.arms (L.size m))
        (times S.arms (L.size m))
    full_of_list m = full_matrices G group chosen S N S.table.order_positive (Nat.dvd_refl N)
        (over S.table N (Nat.dvd_refl N) (L.member m))

    pub full_of_list-is : (v : N ∣ N) (m : Fin L.count) → IsFullOf S N v (over S.table N v (L.member m))
        (full_of_list m)
    unfolding full_of_list
    full_of_list-is v m = full_at_divisor (Nat.dvd_refl N) v (L.member m) (full_of_list m)
        (full_matrices-is_full G group chosen S N S.table.order_positive (Nat.dvd_refl N)
        (over S.table N (Nat.dvd_refl N) (L.member m)))

    module _ (complete : IsCompleteList S.table L) (ordered : IsInOrder S.table L) (reduced : IsReduced G k k)
        (A : (m : Fin L.count) → Operation → Matrix (numbers N) (times S.arms (L.size m)) (times S.arms (L.size m)))
        (v : N ∣ N) (full : (m : Fin L.count) → IsFullOf S N v (over S.table N v (L.member m)) (A m)) where
      irreducible : (K : ℕ) (u : N ∣ K) (positive : 0 < N) → 0 < K → (m : Fin L.count)
          → IsIrreducible (family G (raised N K positive u (A m)))
      irreducible K u positive above m = full-irreducible G group chosen S K above u (over S.table K u (L.member m))
          (raised N K positive u (A m))
          (raised-full G group chosen S N K positive above v u u (L.member m) (A m) (full m))
          (complete.irreducible K u above m)

      pub complete_content : (generators : List Operation) → AreGeneratorsOf G S.canonical generators
          → IsFullContent s G k (full_content k S generators (λ m. times S.arms (L.size m)) A)
      complete_content generators are = record {
        wave = k;
        reduced = reduced;
        star = S;
        list = L;
        complete = complete;
        in_order = ordered;
        full = A;
        is_full = λ w m. full_at_divisor v w (L.member m) (A m) (full m);
        irreducible = irreducible;
        generators = generators;
        are_generators = are;
        content = refl;
      }
