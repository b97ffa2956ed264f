-- Tables of phases of one place, and the list of the one family on them: the 1 by 1 unit matrix.
--   one_place_family, one_place_list
--   one_place_list-complete, one_place_list-in_order
--   row-one_place_family       its character is 1
use Rattle.std.proofs.Common.{◌≡◌, sym, ◌∙◌, ap, refl, ◌<◌, arith}
use Rattle.irr_algebra.specs.Fin.{Fin, to_nat}
use Rattle.irr_algebra.specs.Matrix.{unit, scale}
use Rattle.irr_algebra.specs.Ring.{whole}
use Rattle.irr_algebra.proofs.Indices.{only_first}
use Rattle.irr_algebra.proofs.Matrices.{unit-mul, scale-one, trace-unit}
use Rattle.irr_number.specs.Number.{numbers, root_power}
use Rattle.irr_number.proofs.RootPowers.{root_power-zero}
use Rattle.irr_theory.specs.FactorSystem.{Representation}
use Rattle.irr_theory.specs.Representations.{Representations, IsFull, count_total}
use Rattle.irr_theory.proofs.OnePlace.{one_family-simple}
use Rattle.irr_space.specs.PhaseTable.{PhaseTable, phases_at}
use Rattle.irr_space.specs.CompleteList.{IsCompleteList, IsInOrder, row}
use Rattle.irr_space.proofs.FullLists.{full_list-complete}

module _ (T : PhaseTable 1) where
  pub no_exponent : (i j : Fin 1) → T.exponent i j ≡ 0
  no_exponent i j = ap (λ a. T.exponent a j) (sym (only_first i) ∙ only_first T.start) ∙ T.start-exponent j

  abbrev pub one_place_family : Representation (phases_at T) 1
  one_place_family = record {
    at = λ i. unit (numbers T.order) 1;
    at-start = refl;
    at-product = λ i j. unit-mul (unit (numbers T.order) 1) ∙ sym (scale-one (unit (numbers T.order) 1))
        ∙ ap (λ c. scale (numbers T.order) c (unit (numbers T.order) 1)) (sym (ap (root_power T.order) (no_exponent i j) ∙ root_power-zero T.order));
  }

  abbrev pub one_place_list : Representations (phases_at T)
  one_place_list = record { count = 1; size = λ m. 1; member = λ m. one_place_family }

  one_place_list-full : IsFull one_place_list
  unfolding count_total
  one_place_list-full = record {
    positive = λ m. omega arith;
    simple = λ m. one_family-simple (numbers T.order);
    inequivalent = λ m n d e. d (sym (only_first m) ∙ only_first n);
    squares = refl;
  }

  pub one_place_list-complete : IsCompleteList T one_place_list
  one_place_list-complete = full_list-complete T one_place_list one_place_list-full

  pub nothing_below : (i j : Fin 1) → to_nat i < to_nat j → ⊥
  nothing_below i j h = let e : to_nat i ≡ to_nat j = ap to_nat (sym (only_first i) ∙ only_first j) in omega arith

  pub one_place_list-in_order : IsInOrder T one_place_list
  one_place_list-in_order = record { ordered = λ m n h. absurd (nothing_below m n h) }

  pub row-one_place_family : (i : Fin 1) → row T one_place_family i ≡ (numbers T.order).one
  unfolding row whole
  row-one_place_family i = trace-unit (numbers T.order) 1 ∙ (numbers T.order).add-zero (numbers T.order).one
