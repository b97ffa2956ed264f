-- The comparison of three fractions over one denominator with three over another.
--   match_of_ratio            two fractions compare as their cross products
--   match_of_three            three numbers compare lexicographically
--   match_of_vectors          so do vectors, by the cross products of their components
use Rattle.std.proofs.Common.{◌≡◌, sym, subst₂, ℕ, ◌<◌, List, get_or, ℤ, pos, ◌*ℤ◌, ◌<ℤ◌, arith}
use Rattle.std.specs.Ordering.{MatchOrdering, ordering_then}
use Rattle.std.specs.declared.cmp.Ordering.{Ordering}
use Rattle.std.specs.declared.cmp.Ordering.TheVariants.{Less, Equal, Greater}
use Rattle.irr_algebra.specs.Fin.{Fin, to_nat}
use Rattle.irr_algebra.specs.Fin.Fin.{first, next}
use Rattle.irr_rational.specs.Rational.{Rational, ratio}
use Rattle.irr_rational.specs.Ratio.{entry}
use Rattle.irr_rational.specs.Order.{◌<ℚ◌, IsBelow}
use Rattle.irr_rational.proofs.Ratios.{ratio_same}
use Rattle.irr_rational.proofs.Orders.{ratio-lt}
use Rattle.irr_space.specs.Operation.{component}
use Rattle.irr_rat.specs.VectorMeaning.{vector_of}
use Rattle.irr_rat.proofs.Vectors.{component-vector_of, vector-ext, each_of_three}

pub match_of_ratio : (o : Ordering) (a c : ℤ) (b d : ℕ) → 0 < b → 0 < d
    → MatchOrdering o ((a *ℤ pos d) <ℤ (c *ℤ pos b)) ((a *ℤ pos d) ≡ (c *ℤ pos b)) ((c *ℤ pos b) <ℤ (a *ℤ pos d))
    → MatchOrdering o (ratio a b <ℚ ratio c d) (ratio a b ≡ ratio c d) (ratio c d <ℚ ratio a b)
match_of_ratio Less a c b d hb hd l = ratio-lt a c b d hb hd l
match_of_ratio Equal a c b d hb hd e = ratio_same a c b d hb hd e
match_of_ratio Greater a c b d hb hd l = ratio-lt c a d b hd hb l

below_first : (f g : Fin 3 → Rational) → f first <ℚ g first → IsBelow f g
unfolding to_nat
below_first f g l = record { place = first; before = λ i h. absurd (omega (arith, h)); less = l }

below_second : (f g : Fin 3 → Rational) → f first ≡ g first → f (next first) <ℚ g (next first) → IsBelow f g
unfolding to_nat
below_second f g e l = record {
  place = next first;
  before = elim [ first ↦ λ h. e | next i ↦ λ h. absurd (omega (arith, h)) ];
  less = l;
}

below_third : (f g : Fin 3 → Rational) → f first ≡ g first → f (next first) ≡ g (next first) → f (next (next first)) <ℚ g (next (next first)) → IsBelow f g
unfolding to_nat
below_third f g e h l = record {
  place = next (next first);
  before = elim [ first ↦ λ k. e | next first ↦ λ k. h | next (next i) ↦ λ k. absurd (omega (arith, k)) ];
  less = l;
}

pub match_of_three : (f g : Fin 3 → Rational) (o p q : Ordering)
    → MatchOrdering o (f first <ℚ g first) (f first ≡ g first) (g first <ℚ f first)
    → MatchOrdering p (f (next first) <ℚ g (next first)) (f (next first) ≡ g (next first)) (g (next first) <ℚ f (next first))
    → MatchOrdering q (f (next (next first)) <ℚ g (next (next first))) (f (next (next first)) ≡ g (next (next first))) (g (next (next first)) <ℚ f (next (next first)))
    → MatchOrdering (ordering_then (ordering_then o p) q) (IsBelow f g) ((i : Fin 3) → f i ≡ g i) (IsBelow g f)
match_of_three f g Less p q a b c = below_first f g a
match_of_three f g Greater p q a b c = below_first g f a
match_of_three f g Equal Less q a b c = below_second f g a b
match_of_three f g Equal Greater q a b c = below_second g f (sym a) b
match_of_three f g Equal Equal Less a b c = below_third f g a b c
match_of_three f g Equal Equal Greater a b c = below_third g f (sym a) (sym b) c
match_of_three f g Equal Equal Equal a b c = each_of_three (λ i. f i ≡ g i) a b c

same_at : (o : Ordering) (P Q R S : Type 0) → (Q → S) → MatchOrdering o P Q R → MatchOrdering o P S R
same_at Less P Q R S h m = m
same_at Equal P Q R S h m = h m
same_at Greater P Q R S h m = m

pub match_of_vectors : (a c : List ℤ) (b d : ℕ) (o p q : Ordering) → 0 < b → 0 < d
    → MatchOrdering o ((get_or a 0 (pos 0) *ℤ pos d) <ℤ (get_or c 0 (pos 0) *ℤ pos b)) ((get_or a 0 (pos 0) *ℤ pos d) ≡ (get_or c 0 (pos 0) *ℤ pos b)) ((get_or c 0 (pos 0) *ℤ pos b) <ℤ (get_or a 0 (pos 0) *ℤ pos d))
    → MatchOrdering p ((get_or a 1 (pos 0) *ℤ pos d) <ℤ (get_or c 1 (pos 0) *ℤ pos b)) ((get_or a 1 (pos 0) *ℤ pos d) ≡ (get_or c 1 (pos 0) *ℤ pos b)) ((get_or c 1 (pos 0) *ℤ pos b) <ℤ (get_or a 1 (pos 0) *ℤ pos d))
    → MatchOrdering q ((get_or a 2 (pos 0) *ℤ pos d) <ℤ (get_or c 2 (pos 0) *ℤ pos b)) ((get_or a 2 (pos 0) *ℤ pos d) ≡ (get_or c 2 (pos 0) *ℤ pos b)) ((get_or c 2 (pos 0) *ℤ pos b) <ℤ (get_or a 2 (pos 0) *ℤ pos d))
    → MatchOrdering (ordering_then (ordering_then o p) q) (IsBelow (component (vector_of a b)) (component (vector_of c d))) (vector_of a b ≡ vector_of c d)
    (IsBelow (component (vector_of c d)) (component (vector_of a b)))
unfolding to_nat
match_of_vectors a c b d o p q hb hd k l m = same_at (ordering_then (ordering_then o p) q) _ ((i : Fin 3) → component (vector_of a b) i ≡ component (vector_of c d) i) _ (vector_of a b ≡ vector_of c d)
    (vector-ext (vector_of a b) (vector_of c d))
    (match_of_three (component (vector_of a b)) (component (vector_of c d)) o p q (at_place o first (match_of_ratio o (entry {n = 3} a first) (entry {n = 3} c first) b d hb hd k))
    (at_place p (next first) (match_of_ratio p (entry {n = 3} a (next first)) (entry {n = 3} c (next first)) b d hb hd l))
    (at_place q (next (next first)) (match_of_ratio q (entry {n = 3} a (next (next first))) (entry {n = 3} c (next (next first))) b d hb hd m)))
  where
    at_place : (o : Ordering) (i : Fin 3) → MatchOrdering o (ratio (entry a i) b <ℚ ratio (entry c i) d) (ratio (entry a i) b ≡ ratio (entry c i) d) (ratio (entry c i) d <ℚ ratio (entry a i) b)
        → MatchOrdering o (component (vector_of a b) i <ℚ component (vector_of c d) i) (component (vector_of a b) i ≡ component (vector_of c d) i) (component (vector_of c d) i <ℚ component (vector_of a b) i)
    at_place o i = subst₂ (λ x y. MatchOrdering o (x <ℚ y) (x ≡ y) (y <ℚ x)) (sym (component-vector_of a b i)) (sym (component-vector_of c d i))
