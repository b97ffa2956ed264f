-- Families of matrices of one row, whose entries are powers of z.
--   two_singles              two such matrices, made one after the other
--   singles_fit              the traces of such matrices can be worked out
--   singles-shape            they are square matrices of one row
--   no_defect                a family with no defect is a small representation
use Rattle.std.specs.Prelude.{Option, None}
use Rattle.std.specs.Int.{◌∣◌}
use Rattle.std.proofs.Common.{◌≡◌, sym, ◌∙◌, subst, ℕ, ◌<◌, ◌≤◌, List, [], ◌∷◌, ◌++◌, length, refl, arith}
use Rattle.irr_algebra.specs.Fin.{Fin, to_nat}
use Rattle.irr_algebra.specs.Matrix.{Matrix}
use Rattle.irr_algebra.proofs.Indices.{to_nat-lt}
use Rattle.irr_cyc.specs.declared.scalars.Scalar.{Ghosts}
use Rattle.irr_number.specs.Number.{numbers}
use Rattle.irr_mat.specs.declared.matrices.Mat.{Mat}
use Rattle.irr_mat.specs.Entries.{matrix_of}
use Rattle.irr_mat.specs.Size.{IsWithin, TraceFits}
use Rattle.irr_space.specs.PhaseTable.{PhaseTable}
use Rattle.irr_rep.specs.declared.family.Defect.{Defect}
use Rattle.irr_rep.specs.Defects.{IsFirstDefect}
use Rattle.irr_rep.specs.Family.{HasShape, IsRepresentationOf, matrix_at}
use Rattle.irr_rep.proofs.Families.{matrix_at-item}
use Rattle.irr_rep.proofs.SingleEntries.{IsSingle, item, singles-more, singles-none, SinglesSoFar}

trace_fits : (N : ℕ) → N ≤ 12000 → (a : Matrix (numbers N) 1 1) → IsWithin N 1 1 a → TraceFits N a
trace_fits N limit a w = record { s = 1; d = 1; within = w; denominators = omega arith; sums = omega (arith, limit) }

module _ {S : Type 0} {G : Ghosts S} (N : ℕ) where
  pub two_singles : (none one two : List (Mat S G)) (a b : Mat S G) → none ≡ [] → one ≡ none ++ a ∷ [] → two ≡ one ++ b ∷ [] → IsSingle N a
      → IsSingle N b → SinglesSoFar N 2 two
  two_singles none one two a b e f g s t = singles-more N 1 one two b (singles-more N 0 none one a (singles-none N none e) f s) g t

  pub singles_fit : (k : ℕ) (mats : List (Mat S G)) → SinglesSoFar N k mats → N ≤ 12000 → (n h : ℕ) → HasShape n h 1 mats → (i : Fin h)
      → TraceFits n (matrix_at n 1 mats i)
  singles_fit k mats s limit n h shape i =
      let l : to_nat i < length mats = subst (λ m. to_nat i < m) (sym shape.count) (to_nat-lt i) in
      let m = item mats (to_nat i) l in
      let single = s.single (to_nat i) m.0 l in
      subst (λ r. TraceFits r (matrix_at r 1 mats i)) (sym single.order ∙ shape.orders (to_nat i) m.0 l)
      (trace_fits N limit (matrix_at N 1 mats i)
      (subst (IsWithin N 1 1) (sym (matrix_at-item N 1 mats (to_nat i) m.0 l m.1 i refl))
      (subst (λ u. IsWithin N 1 1 (matrix_of G.value N 1 1 u.entries.items)) (sym m.1) single.within)))

-- where there is no defect, the family is a small representation
pub no_defect : {S : Type 0} {G : Ghosts S} {h : ℕ} (T : PhaseTable h) (n : ℕ) (v : T.order ∣ n) (d : ℕ) (mats : List (Mat S G)) (r : Option Defect)
    → r ≡ None → IsFirstDefect T n v d mats r → IsRepresentationOf T n v d mats
unfolding IsFirstDefect
no_defect T n v d mats r e f = let none : IsFirstDefect T n v d mats None = subst (IsFirstDefect T n v d mats) e f in none

-- each family that is made so has the shape of one
pub singles-shape : {S : Type 0} {G : Ghosts S} (N h : ℕ) (mats : List (Mat S G)) → SinglesSoFar N h mats → HasShape N h 1 mats
singles-shape N h mats s = record {
  count = s.count;
  positive = omega arith;
  rows = λ i d l. (s.single i d l).rows;
  cols = λ i d l. (s.single i d l).cols;
  orders = λ i d l. (s.single i d l).order;
}
