-- Rows of numbers, as numbers of a multiple of their order.
--   lifted_number                the number, as the program lifts it
--   LiftedSoFar                  the first k numbers
--   lifted_none, lifted_more, lifted_all
--   small_lift                   a number of a small row can be lifted
--   trace_row                    the traces of a sized family are a small row
--   lifted_character             the traces of the lifted representation
use Rattle.std.proofs.Common.{◌≡◌, refl, sym, ◌∙◌, ap, ap₂, subst, ℕ, ◌+◌, ◌*◌, ◌<◌, ◌≤◌, ◌^◌, List, [], ◌∷◌, ◌++◌, length, get_or, map, take, arith}
use Rattle.std.specs.List.{All}
use Rattle.std.specs.Int.{◌∣◌}
use Rattle.std.proofs.lemmas.List.{get_or-map, length-map, map-append, take_all, take_more}
use Rattle.std.proofs.lemmas.List.Elements.{All-get_or, All-nil, All-push}
use Rattle.irr_algebra.specs.Fin.{Fin, to_nat}
use Rattle.irr_algebra.specs.Matrix.{trace}
use Rattle.irr_algebra.proofs.Homomorphisms.{map-trace}
use Rattle.irr_algebra.proofs.Indices.{from_nat, to_nat-lt}
use Rattle.irr_number.specs.Number.{Number, numbers}
use Rattle.irr_number.specs.Lift.{lift, lift_of}
use Rattle.irr_number.proofs.Lifts.{lift_of-lift}
use Rattle.irr_canonical.specs.Coefficient.{size}
use Rattle.irr_canonical.specs.RootSum.{IsRootSum}
use Rattle.irr_canonical.proofs.RootSums.{IsRootSum-more}
use Rattle.irr_canonical.proofs.RootSizes.{size_of_IsRootSum}
use Rattle.irr_theory.specs.FactorSystem.{Representation}
use Rattle.irr_theory.specs.Scalars.{map_family}
use Rattle.irr_space.specs.PhaseTable.{PhaseTable, phases_at}
use Rattle.irr_space.specs.CompleteList.{over}
use Rattle.irr_cyc.specs.declared.scalars.Scalar.{Ghosts}
use Rattle.irr_rep.specs.declared.family.Family.{Family}
use Rattle.irr_rep.specs.Family.{HasShape, matrix_at}
use Rattle.irr_climb.specs.Families.{IsRead}
use Rattle.irr_climb.specs.Sizes.{IsSized}
use Rattle.irr_char.specs.Characters.{IsRowOf, IsSmallRow}
use Rattle.irr_char.proofs.AverageTerms.{item-order, item-small}
use Rattle.irr_mult.specs.Listing.{item}

module _ {S : Type 0} (order : S → ℕ) (value : (n : ℕ) → S → Number n) (M : ℕ) (row : List S) where
  abbrev pub lifted_number : S → Number M
  lifted_number x = lift_of (order x) M (value (order x) x)

  pub record LiftedSoFar (k : ℕ) (made : List S) : Type 0 where
    pub orders : All (λ x. order x ≡ M) made
    pub values : map (value M) made ≡ map (λ x. lift_of (order x) M (value (order x) x)) (take k row)

  pub lifted_none : LiftedSoFar 0 []
  lifted_none = record { orders = All-nil (λ x. order x ≡ M); values = refl }

  pub lifted_more : (k : ℕ) → k < length row → (x : S) → x ≡ get_or row k x → (y : S) → order y ≡ M
      → value M y ≡ lifted_number x
      → (made after : List S) → after ≡ made ++ y ∷ [] → LiftedSoFar k made → LiftedSoFar (k + 1) after
  lifted_more k l x is y o v made after e f = record {
    orders = subst (All (λ z. order z ≡ M)) (sym e) (All-push (λ z. order z ≡ M) made y f.orders o);
    values = ap (map (value M)) e ∙ map-append (value M) made (y ∷ [])
        ∙ ap₂ (λ xs z. xs ++ z ∷ []) f.values (v ∙ ap lifted_number is)
        ∙ sym (ap (map lifted_number) (take_more row k x l) ∙ map-append lifted_number (take k row)
        (get_or row k x ∷ []));
  }

  pub lifted_all : (k : ℕ) → k ≡ length row → (made : List S) → LiftedSoFar k made
      → (n h : ℕ) (f : Fin h → Number n) (p : 0 < n) (v : n ∣ M)
      → IsRowOf {h = h} order value n f row → IsRowOf {h = h} order value M (λ i. (lift n M p v).map (f i)) made
  lifted_all k done made so n h f p v r = record {
    count = sym (length-map made (value M)) ∙ ap length all ∙ length-map row lifted_number ∙ r.count;
    orders = so.orders;
    numbers_at = λ i. ap (λ xs. get_or xs (to_nat i) (numbers M).zero) all ∙ at i;
  }
    where
      all : map (value M) made ≡ map lifted_number row
      all = so.values ∙ ap (map lifted_number) (take_all k row (omega (arith, done)))

      at : (i : Fin h) → get_or (map lifted_number row) (to_nat i) (numbers M).zero ≡ (lift n M p v).map (f i)
      at i =
          let below : to_nat i < length row = subst (λ m. to_nat i < m) (sym r.count) (to_nat-lt i) in
          let d = item row (from_nat (length row) (to_nat i) below) in
          let y = get_or row (to_nat i) d in
          get_or-map lifted_number row (to_nat i) d (numbers M).zero below
          ∙ ap (λ m. lift_of m M (value m y)) (All-get_or (λ z. order z ≡ n) row (to_nat i) d below r.orders)
          ∙ lift_of-lift n M p v (value n y)
          ∙ ap (lift n M p v).map (sym (get_or-map (value n) row (to_nat i) d (numbers n).zero below) ∙ r.numbers_at i)

  -- sizes of numbers of a small row
  pub small_lift : (n h : ℕ) → IsSmallRow order value n h row → (k : ℕ) → k < length row → (x : S)
      → x ≡ get_or row k x → 0 < order x
      → order x ≤ 12000 → size (order x) (value (order x) x) ≤ 2 ^ 100
  small_lift n h small k l x is positive limited =
      let below : k < h = subst (λ m. k < m) small.count l in
      let o = item-order order value n h row small k below x is in
      let sum : IsRootSum (order x) 48 1 (value (order x) x) = subst (λ m. IsRootSum m 48 1 (value m x)) (sym o)
      (item-small order value n h row small k below x is) in
      let a : size (order x) (value (order x) x) ≤ 48 * order x = size_of_IsRootSum (order x) positive 48 1
      (value (order x) x) sum in
      omega (arith, a, limited)

module _ {S : Type 0} {G : Ghosts S} {h : ℕ} (T : PhaseTable h) (d : ℕ) (D : Representation (phases_at T) d)
    (f : Family S G)
    (is : IsRead T.order (phases_at T) D f) where
  shape_here : HasShape T.order h f.dim f.mats.items
  shape_here = subst (λ k. HasShape T.order h k f.mats.items) (sym is.size) is.shape

  -- the traces of a sized family are a small row
  pub trace_row : d ≤ 48 → IsSized T.order h f → (row : List S)
      → ((n g : ℕ) → HasShape n g f.dim f.mats.items → IsRowOf {h = g} G.order_of G.value n
      (λ i. trace (matrix_at n f.dim f.mats.items i)) row)
      → (slice : List S) → slice ≡ row → IsSmallRow G.order_of G.value T.order h slice
  trace_row few sized row all slice same =
      let r = all T.order h shape_here in
      subst (IsSmallRow G.order_of G.value T.order h) (sym same) (record {
        count = r.count;
        orders = r.orders;
        small = λ i. subst (IsRootSum T.order 48 1) (sym (r.numbers_at i))
            (IsRootSum-more T.order 48 (subst (λ k. k ≤ 48) (sym is.size) few) (sized.sharp.traces i));
      })

  pub lifted_character : (M : ℕ) (v : T.order ∣ M) (slice xs : List S)
      → ((n g : ℕ) (f : Fin g → Number n) (p : 0 < n) (v : n ∣ M) → IsRowOf {h = g} G.order_of G.value n f slice
      → IsRowOf {h = g} G.order_of G.value M (λ i. (lift n M p v).map (f i)) xs)
      → IsRowOf {h = h} G.order_of G.value T.order (λ i. trace (D.at i)) slice
      → IsRowOf {h = h} G.order_of G.value M (λ i. trace ((over T M v D).at i)) xs
  unfolding map_family
  lifted_character M v slice xs all r =
      let made = all T.order h (λ i. trace (D.at i)) T.order_positive v r in record {
        count = made.count;
        orders = made.orders;
        numbers_at = λ i. made.numbers_at i ∙ map-trace (lift T.order M T.order_positive v) (D.at i);
      }
