-- The parts of a representation on a line, member after member.
--   own_at                  the matrices of a representation, lifted to its own order
--   member, member-number   the member at a place of the loop
--   characters_here         what `multiplicity` asks for
--   mult_here               what it answers
--   size_here               the size that the program reads
use Rattle.std.proofs.Common.{◌≡◌, sym, ◌∙◌, ap, subst, subst₂, ℕ, ◌<◌, ◌≤◌, List, length, get_or, arith}
use Rattle.std.specs.Int.{◌∣◌}
use native.Mathlib.Nat as Nat
use mathlib.Core.Path.{fun_ext}
use Rattle.irr_algebra.specs.Fin.{Fin, to_nat}
use Rattle.irr_algebra.specs.Action.{HasDimension}
use Rattle.irr_algebra.specs.Matrix.{Matrix, trace}
use Rattle.irr_algebra.proofs.Folding.{dimension_unique}
use Rattle.irr_algebra.proofs.Indices.{from_nat, to_nat-from_nat}
use Rattle.irr_number.specs.Number.{Number, numbers}
use Rattle.irr_number.proofs.NumberField.{number_field}
use Rattle.irr_theory.specs.FactorSystem.{Representation}
use Rattle.irr_theory.specs.Representations.{Representations}
use Rattle.irr_space.specs.PhaseTable.{PhaseTable, phases_at}
use Rattle.irr_space.specs.CompleteList.{over}
use Rattle.irr_rep.proofs.Families.{at_own_order-over}
use Rattle.irr_char.specs.Characters.{AreCharacters, IsRowOf}
use Rattle.irr_mult.specs.declared.star.SmallCharacter.{SmallCharacter}
use Rattle.irr_compat.specs.Parts.{AreCharactersOn}

pub own_at : {h : ℕ} (T : PhaseTable h) (v : T.order ∣ T.order) {d : ℕ} (A : Representation (phases_at T) d) → (over T T.order v A).at ≡ A.at
own_at T v A = fun_ext (at_own_order-over T v A)

module _ {S : Type 0} (order : S → ℕ) (value : (n : ℕ) → S → Number n) where
  pub own_row : {h : ℕ} (T : PhaseTable h) (v : T.order ∣ T.order) {d : ℕ} (A : Representation (phases_at T) d) (row : List S)
      → IsRowOf {h = h} order value T.order (λ i. trace (A.at i)) row → IsRowOf {h = h} order value T.order (λ i. trace ((over T T.order v A).at i)) row
  own_row {h} T v {d} A row r = subst (λ (f : Fin h → Matrix (numbers T.order) d d). IsRowOf {h = h} order value T.order (λ i. trace (f i)) row) (sym (own_at T v A)) r

  module _ {h : ℕ} (T : PhaseTable h) (L : Representations (phases_at T)) (cs : List (SmallCharacter S))
      (are : AreCharactersOn order value T L cs) (k : ℕ) (l : k < length cs) (x : SmallCharacter S) (is : x ≡ get_or cs k x) where
    below : k < L.count
    below = subst (λ n. k < n) are.count l

    pub member : Fin L.count
    member = from_nat L.count k below

    pub member-number : to_nat member ≡ k
    unfolding member
    member-number = to_nat-from_nat L.count k below

    pub place_few : k ≤ 48
    place_few = let b = below in let f = are.few in omega (arith, b, f)

    pub size_here : x.dim ≡ L.size member
    size_here = ap (λ (y : SmallCharacter S). y.dim) (is ∙ ap (λ n. get_or cs n x) (sym member-number)) ∙ are.size member x

    pub row_here : (row : List S) → row ≡ x.row.items → IsRowOf {h = h} order value T.order (λ i. trace ((L.member member).at i)) row
    row_here row same = subst (IsRowOf {h = h} order value T.order (λ i. trace ((L.member member).at i)))
        (sym (same ∙ ap (λ (y : SmallCharacter S). y.row.items) (is ∙ ap (λ n. get_or cs n x) (sym member-number)))) (are.row member x)

    module _ (d : ℕ) (A : Representation (phases_at T) d) (few : d ≤ 48) (row : List S)
        (r : IsRowOf {h = h} order value T.order (λ a. trace (A.at a)) row) (first : List S) (same : first ≡ x.row.items) where
      pub own : T.order ∣ T.order
      own = Nat.dvd_refl T.order

      abbrev pub characters_here : AreCharacters order value T first row
      characters_here = record {
        n = T.order;
        divides = own;
        left_size = L.size member;
        right_size = d;
        left = over T T.order own (L.member member);
        right = over T T.order own A;
        left_few = are.small member;
        right_few = omega (arith, few);
        left_row = own_row T own (L.member member) first (row_here first same);
        right_row = own_row T own A row r;
      }

      pub mult_here : (m q : ℕ) → HasDimension (over T T.order own (L.member member)).at (over T T.order own A).at m
          → HasDimension (L.member member).at A.at q → m ≡ q
      mult_here m q p c = dimension_unique (number_field T.order T.order_positive) (L.member member).at A.at
          (subst₂ (λ (f : Fin h → Matrix (numbers T.order) (L.size member) (L.size member)) (g : Fin h → Matrix (numbers T.order) d d). HasDimension f g m)
          (own_at T own (L.member member)) (own_at T own A) p) c
