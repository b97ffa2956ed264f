-- Traces of the matrices of a family, and their sizes.
--   trace_fits, trace_value          the trace of the matrix at a place
--   admitted                         what holds of the order of each number holds of the order of the family
--   same_place                       a place of the table as one of a family with these matrices
--   item_fits, item_few              the trace of a small representation is a sum of at most 48 powers of z
--   short_traces                     traces of matrices of short entries
--   root_few                         a power of z
--   turned_few, turn_room, add_room  such a trace times a power of z, and sums of such
use Rattle.std.proofs.Common.{◌≡◌, sym, ◌∙◌, ap, subst, refl, ℕ, ◌+◌, ◌*◌, ◌<◌, ◌≤◌, ◌^◌, List, [], ◌∷◌, length}
use Rattle.std.proofs.Common.{get_or, arith}
use Rattle.std.proofs.lemmas.List.{get_or_default}
use native.Mathlib.Nat as Nat
use Rattle.irr_algebra.specs.Fin.{Fin, to_nat}
use Rattle.irr_algebra.specs.Matrix.{Matrix, trace}
use Rattle.irr_algebra.proofs.Indices.{from_nat, to_nat-from_nat, to_nat-lt}
use Rattle.irr_number.specs.Number.{Number, numbers, root_power}
use Rattle.irr_canonical.specs.RootSum.{IsRootSum}
use Rattle.irr_canonical.proofs.RootSums.{IsRootSum-more, IsRootSum-mul, IsRootSum-root}
use Rattle.irr_space.specs.PhaseTable.{PhaseTable}
use Rattle.irr_cyc.specs.declared.scalars.Scalar.{Ghosts}
use Rattle.irr_mat.specs.declared.matrices.Mat.{Mat}
use Rattle.irr_mat.specs.Entries.{first_order, matrix_of}
use Rattle.irr_mat.specs.Size.{IsWithin, TraceFits}
use Rattle.irr_rep.specs.declared.family.Family.{Family}
use Rattle.irr_rep.proofs.Families.{item-order, item-trace, item-trace_fits}
use Rattle.irr_rep.proofs.MatrixForms.{order_of_matrix}
use Rattle.irr_rep.proofs.TraceRoots.{trace-IsRootSum}
use Rattle.irr_real.specs.Families.{IsFamilyOf, IsSmallFamily}

module _ {X : Type 0} {V : Ghosts X} (M : ℕ) {h d : ℕ} (D : Fin h → Matrix (numbers M) d d) (f : Family X V)
    (is : IsFamilyOf M D f)
    (place : ℕ) (m : Mat X V) (at : m ≡ get_or f.mats.items place m) (p : Fin h) (e : to_nat p ≡ place) where
  pub below : place < length f.mats.items
  below = subst (λ n. n < length f.mats.items) e (subst (λ n. to_nat p < n) (sym is.shape.count) (to_nat-lt p))

  pub trace_fits : TraceFits (first_order V.order_of m.entries.items)
      (matrix_of V.value (first_order V.order_of m.entries.items) m.rows m.rows m.entries.items)
  trace_fits = item-trace_fits M d f.mats.items place m below at is.shape p e
      (subst (TraceFits M) (sym (is.matrices p)) (is.fits p))

  pub trace_value : (x : X)
      → V.value (first_order V.order_of m.entries.items) x
      ≡ trace (matrix_of V.value (first_order V.order_of m.entries.items) m.rows m.rows m.entries.items)
      → V.value M x ≡ trace (D p)
  trace_value x v = item-trace M d f.mats.items place m below at is.shape x p e v ∙ ap trace (is.matrices p)

  pub order_at : first_order V.order_of m.entries.items ≡ M
  order_at = item-order M d f.mats.items place m below at is.shape

  pub admitted_at : (P : ℕ → Type 0) → ((x : X) → P (V.order_of x)) → P M
  admitted_at P a = subst P order_at (order_of_matrix P a m)

item_of : {A : Type 0} (xs : List A) (k : ℕ) → k < length xs → (x : A) × (x ≡ get_or xs k x)
item_of [] k l = absurd (omega arith)
item_of (y ∷ ys) k l = (get_or (y ∷ ys) k y, sym (get_or_default (y ∷ ys) k (get_or (y ∷ ys) k y) y l))

module _ {X : Type 0} {V : Ghosts X} {h : ℕ} (T : PhaseTable h) (M : ℕ) (f : Family X V) (is : IsSmallFamily T M f)
  where
    pub admitted : (P : ℕ → Type 0) → ((x : X) → P (V.order_of x)) → P M
    admitted P a =
        let p = T.start in
        let l = subst (λ n. to_nat p < n) (sym is.family.shape.count) (to_nat-lt p) in
        let m = item_of f.mats.items (to_nat p) l in
        admitted_at M is.small.at f is.family (to_nat p) m.0 m.1 p refl P a

    pub place_at : (place : ℕ) → place < h → (p : Fin h) × (to_nat p ≡ place)
    place_at place l = (from_nat h place l, to_nat-from_nat h place l)

    pub same_place : {g d : ℕ} (D : Fin g → Matrix (numbers M) d d) → IsFamilyOf M D f → (place : ℕ) → place < h
        → (p : Fin g) × (to_nat p ≡ place)
    same_place {g} D other place l =
        let m = subst (λ n. place < n) (sym is.family.shape.count ∙ other.shape.count) l in
        (from_nat g place m, to_nat-from_nat g place m)

    module _ (place : ℕ) (l : place < h) (m : Mat X V) (at : m ≡ get_or f.mats.items place m) where
      pub item_fits : TraceFits (first_order V.order_of m.entries.items)
          (matrix_of V.value (first_order V.order_of m.entries.items) m.rows m.rows m.entries.items)
      item_fits = let p = place_at place l in trace_fits M is.small.at f is.family place m at p.0 p.1

      pub item_few : 0 < M → (x : X)
          → V.value (first_order V.order_of m.entries.items) x
          ≡ trace (matrix_of V.value (first_order V.order_of m.entries.items) m.rows m.rows m.entries.items)
          → IsRootSum M 48 1 (V.value M x)
      item_few positive x v = let p = place_at place l in
          subst (IsRootSum M 48 1) (sym (trace_value M is.small.at f is.family place m at p.0 p.1 x v))
          (IsRootSum-more M 48 is.family.few (trace-IsRootSum M positive T is.divides is.small p.0))

pub short_traces : (M d s e : ℕ) (a : Matrix (numbers M) d d) → M ≤ 12000 → d ≤ 48 → s ≤ 2 ^ 30 → e ≤ 4096
    → IsWithin M s e a → TraceFits M a
short_traces M d s e a limited few short small w = record {
  s = s;
  d = e;
  within = w;
  denominators = (let x : e * e ≤ 4096 * 4096 = Nat.mul-le-mul small small in
      let y : 4096 * 4096 ≤ 2 ^ 60 = omega arith in
      Nat.le_trans x y);
  sums = (let x : d * s * M * e ≤ 48 * 2 ^ 30 * 12000 * 4096
      = Nat.mul-le-mul (Nat.mul-le-mul (Nat.mul-le-mul few short) limited) small in
      let y : 48 * 2 ^ 30 * 12000 * 4096 < 2 ^ 110 = omega arith in
      Nat.lt_of_le_of_lt x y);
}

pub root_few : (n e : ℕ) (x : Number n) → x ≡ root_power n e → IsRootSum n 1 1 x
root_few n e x is = subst (IsRootSum n 1 1) (sym is) (IsRootSum-root n e)

pub turned_few : (n e : ℕ) (x y z : Number n) → x ≡ root_power n e → IsRootSum n 48 1 y → z ≡ (numbers n).mul x y
    → IsRootSum n 48 1 z
turned_few n e x y z first second product = subst (IsRootSum n 48 1) (sym product)
    (IsRootSum-mul n (root_few n e x first) second)

pub turn_room : (n : ℕ) → n ≤ 12000 → 1 * n * (48 * n) ≤ 2 ^ 100
turn_room n l =
    let a : 1 * n * (48 * n) ≤ 1 * 12000 * (48 * 12000) = Nat.mul-le-mul (Nat.mul-le-mul_left 1 l)
    (Nat.mul-le-mul_left 48 l) in
    let b : 1 * 12000 * (48 * 12000) ≤ 2 ^ 100 = omega arith in
    Nat.le_trans a b

pub add_room : (i n : ℕ) → i ≤ 48 → n ≤ 12000 → i * 48 * n * 1 + 48 * n * 1 < 2 ^ 110
add_room i n few limited =
    let a : i * 48 * n ≤ 48 * 48 * 12000 = Nat.mul-le-mul (Nat.mul-le-mul_right 48 few) limited in
    let b : 48 * n ≤ 48 * 12000 = Nat.mul-le-mul_left 48 limited in
    omega (arith, a, b)
