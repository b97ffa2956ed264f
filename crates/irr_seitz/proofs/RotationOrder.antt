-- The order of nine entries, row by row.
--   match_of_row          three entries of a row compare lexicographically
--   match_of_rotations    and three rows
--   below_irrefl          no rotation stands before itself
use Rattle.std.proofs.Common.{◌≡◌, sym, refl, ap, ℕ, ◌<◌, List, [], get_or, ℤ, pos, ◌<ℤ◌, arith}
use Rattle.std.specs.Ordering.{MatchOrdering, ordering_then, int_cmp}
use Rattle.std.specs.declared.cmp.Ordering.{Ordering}
use Rattle.std.specs.declared.cmp.Ordering.TheVariants.{Less, Equal, Greater}
use Rattle.std.proofs.lemmas.Cmp.{int_ranked}
use Rattle.std.proofs.lemmas.Int.{ints}
use Rattle.irr_algebra.specs.Fin.{Fin, to_nat}
use Rattle.irr_algebra.specs.Fin.Fin.{first, next}
use Rattle.irr_algebra.proofs.Matrices.{matrix-ext}
use Rattle.irr_space.specs.Operation.{Rotation}
use Rattle.irr_space.specs.CanonicalOperation.{IsRotationBelow}
use Rattle.irr_rat.proofs.Vectors.{each_of_three}
use Rattle.irr_seitz.specs.Rotation.{rotation_of}

-- a row of whole numbers stands before another
record IsRowBelow (f g : Fin 3 → ℤ) : Type 0 where
  place : Fin 3
  before : (j : Fin 3) → to_nat j < to_nat place → f j ≡ g j
  less : f place <ℤ g place

row_first : (f g : Fin 3 → ℤ) → f first <ℤ g first → IsRowBelow f g
unfolding to_nat
row_first f g l = record { place = first; before = λ i h. absurd (omega (arith, h)); less = l }

row_second : (f g : Fin 3 → ℤ) → f first ≡ g first → f (next first) <ℤ g (next first) → IsRowBelow f g
unfolding to_nat
row_second f g e l = record { place = next first; before = elim [ first ↦ λ h. e | next i ↦ λ h. absurd (omega (arith, h)) ]; less = l }

row_third : (f g : Fin 3 → ℤ) → f first ≡ g first → f (next first) ≡ g (next first) → f (next (next first)) <ℤ g (next (next first)) → IsRowBelow f g
unfolding to_nat
row_third f g e h l = record {
  place = next (next first);
  before = elim [ first ↦ λ k. e | next first ↦ λ k. h | next (next i) ↦ λ k. absurd (omega (arith, k)) ];
  less = l;
}

match_of_row : (f g : Fin 3 → ℤ) (o p q : Ordering)
    → MatchOrdering o (f first <ℤ g first) (f first ≡ g first) (g first <ℤ f first)
    → MatchOrdering p (f (next first) <ℤ g (next first)) (f (next first) ≡ g (next first)) (g (next first) <ℤ f (next first))
    → MatchOrdering q (f (next (next first)) <ℤ g (next (next first))) (f (next (next first)) ≡ g (next (next first))) (g (next (next first)) <ℤ f (next (next first)))
    → MatchOrdering (ordering_then (ordering_then o p) q) (IsRowBelow f g) ((i : Fin 3) → f i ≡ g i) (IsRowBelow g f)
match_of_row f g Less p q a b c = row_first f g a
match_of_row f g Greater p q a b c = row_first g f a
match_of_row f g Equal Less q a b c = row_second f g a b
match_of_row f g Equal Greater q a b c = row_second g f (sym a) b
match_of_row f g Equal Equal Less a b c = row_third f g a b c
match_of_row f g Equal Equal Greater a b c = row_third g f (sym a) (sym b) c
match_of_row f g Equal Equal Equal a b c = each_of_three (λ i. f i ≡ g i) a b c

SameRow : Rotation → Rotation → Fin 3 → Type 0
SameRow R S i = (j : Fin 3) → R.at i j ≡ S.at i j

rotation_first : (R S : Rotation) → IsRowBelow (R.at first) (S.at first) → IsRotationBelow R S
unfolding to_nat
rotation_first R S l = record { row = first; place = l.place; rows_before = λ i j h. absurd (omega (arith, h)); before = l.before; less = l.less }

rotation_second : (R S : Rotation) → SameRow R S first → IsRowBelow (R.at (next first)) (S.at (next first)) → IsRotationBelow R S
unfolding to_nat SameRow
rotation_second R S e l = record {
  row = next first;
  place = l.place;
  rows_before = elim [ first ↦ λ j h. e j | next i ↦ λ j h. absurd (omega (arith, h)) ];
  before = l.before;
  less = l.less;
}

rotation_third : (R S : Rotation) → SameRow R S first → SameRow R S (next first) → IsRowBelow (R.at (next (next first))) (S.at (next (next first))) → IsRotationBelow R S
unfolding to_nat SameRow
rotation_third R S e f l = record {
  row = next (next first);
  place = l.place;
  rows_before = elim [ first ↦ λ j h. e j | next first ↦ λ j h. f j | next (next i) ↦ λ j h. absurd (omega (arith, h)) ];
  before = l.before;
  less = l.less;
}

flipped : (R S : Rotation) (i : Fin 3) → SameRow R S i → SameRow S R i
unfolding SameRow
flipped R S i e j = sym (e j)

match_of_three_rows : (R S : Rotation) (o p q : Ordering)
    → MatchOrdering o (IsRowBelow (R.at first) (S.at first)) (SameRow R S first) (IsRowBelow (S.at first) (R.at first))
    → MatchOrdering p (IsRowBelow (R.at (next first)) (S.at (next first))) (SameRow R S (next first)) (IsRowBelow (S.at (next first)) (R.at (next first)))
    → MatchOrdering q (IsRowBelow (R.at (next (next first))) (S.at (next (next first)))) (SameRow R S (next (next first))) (IsRowBelow (S.at (next (next first))) (R.at (next (next first))))
    → MatchOrdering (ordering_then (ordering_then o p) q) (IsRotationBelow R S) (R ≡ S) (IsRotationBelow S R)
unfolding SameRow
match_of_three_rows R S Less p q a b c = rotation_first R S a
match_of_three_rows R S Greater p q a b c = rotation_first S R a
match_of_three_rows R S Equal Less q a b c = rotation_second R S a b
match_of_three_rows R S Equal Greater q a b c = rotation_second S R (flipped R S first a) b
match_of_three_rows R S Equal Equal Less a b c = rotation_third R S a b c
match_of_three_rows R S Equal Equal Greater a b c = rotation_third S R (flipped R S first a) (flipped R S (next first) b) c
match_of_three_rows R S Equal Equal Equal a b c = matrix-ext (each_of_three (λ i. (j : Fin 3) → R.at i j ≡ S.at i j) a b c)

abbrev pub row_cmp : List (List ℤ) → List (List ℤ) → ℕ → Ordering
row_cmp a b i = ordering_then
    (ordering_then (int_cmp (get_or (get_or a i []) 0 (pos 0)) (get_or (get_or b i []) 0 (pos 0))) (int_cmp (get_or (get_or a i []) 1 (pos 0)) (get_or (get_or b i []) 1 (pos 0))))
    (int_cmp (get_or (get_or a i []) 2 (pos 0)) (get_or (get_or b i []) 2 (pos 0)))

match_row_at : (a b : List (List ℤ)) (i : Fin 3)
    → MatchOrdering (row_cmp a b (to_nat i)) (IsRowBelow ((rotation_of a).at i) ((rotation_of b).at i)) (SameRow (rotation_of a) (rotation_of b) i) (IsRowBelow ((rotation_of b).at i) ((rotation_of a).at i))
unfolding rotation_of to_nat SameRow
match_row_at a b i = match_of_row ((rotation_of a).at i) ((rotation_of b).at i) (int_cmp (get_or (get_or a (to_nat i) []) 0 (pos 0)) (get_or (get_or b (to_nat i) []) 0 (pos 0))) (int_cmp (get_or (get_or a (to_nat i) []) 1 (pos 0)) (get_or (get_or b (to_nat i) []) 1 (pos 0))) (int_cmp (get_or (get_or a (to_nat i) []) 2 (pos 0)) (get_or (get_or b (to_nat i) []) 2 (pos 0)))
    (int_ranked (get_or (get_or a (to_nat i) []) 0 (pos 0)) (get_or (get_or b (to_nat i) []) 0 (pos 0)) (int_cmp (get_or (get_or a (to_nat i) []) 0 (pos 0)) (get_or (get_or b (to_nat i) []) 0 (pos 0))) refl)
    (int_ranked (get_or (get_or a (to_nat i) []) 1 (pos 0)) (get_or (get_or b (to_nat i) []) 1 (pos 0)) (int_cmp (get_or (get_or a (to_nat i) []) 1 (pos 0)) (get_or (get_or b (to_nat i) []) 1 (pos 0))) refl)
    (int_ranked (get_or (get_or a (to_nat i) []) 2 (pos 0)) (get_or (get_or b (to_nat i) []) 2 (pos 0)) (int_cmp (get_or (get_or a (to_nat i) []) 2 (pos 0)) (get_or (get_or b (to_nat i) []) 2 (pos 0))) refl)

pub match_of_rotations : (a b : List (List ℤ))
    → MatchOrdering (ordering_then (ordering_then (row_cmp a b 0) (row_cmp a b 1)) (row_cmp a b 2)) (IsRotationBelow (rotation_of a) (rotation_of b)) (rotation_of a ≡ rotation_of b) (IsRotationBelow (rotation_of b) (rotation_of a))
unfolding to_nat
match_of_rotations a b = match_of_three_rows (rotation_of a) (rotation_of b) (row_cmp a b 0) (row_cmp a b 1) (row_cmp a b 2) (match_row_at a b first) (match_row_at a b (next first)) (match_row_at a b (next (next first)))

irrefl_z : (x : ℤ) → x <ℤ x → ⊥
irrefl_z x l = absurd (omega (arith, ints))

pub below_irrefl : (R S : Rotation) → R ≡ S → IsRotationBelow R S → ⊥
below_irrefl R S e l = irrefl_z (R.at l.row l.place) (let h : S.at l.row l.place ≡ R.at l.row l.place = ap (λ (M : Rotation). M.at l.row l.place) (sym e) in let k : R.at l.row l.place <ℤ S.at l.row l.place = l.less in omega (arith, ints))
