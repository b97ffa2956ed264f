-- The climbed list: all extensions, and the induced family of the least member of each orbit.
use Rattle.std.proofs.Common.{◌≡◌, sym, ◌∙◌, ap, refl, subst, ℕ, ◌-◌, ◌<◌, ◌⊎◌, inl, inr, arith}
use Rattle.irr_algebra.specs.Ring.{Ring}
use Rattle.irr_algebra.specs.Field.{Field}
use Rattle.irr_algebra.specs.Fin.{Fin, to_nat}
use Rattle.irr_algebra.specs.Fin.Fin.{first}
use Rattle.irr_algebra.specs.Pair.{times}
use Rattle.irr_algebra.specs.Matrix.{Matrix, unit, scale, trace}
use Rattle.irr_algebra.specs.Action.{Equivalent}
use Rattle.irr_algebra.proofs.Indices.{same_or_not, only_first, to_nat-lt}
use Rattle.irr_algebra.proofs.Matrices.{unit-mul, mul-unit}
use Rattle.irr_theory.specs.Extension.{iterate}
use Rattle.irr_theory.specs.FactorSystem.{FactorSystem, Representation}
use Rattle.irr_theory.specs.Representations.{Representations, IsFull}
use Rattle.irr_clifford.specs.Subgroup.{Subgroup, restrict}
use Rattle.irr_clifford.specs.Cyclic.{CyclicQuotient, IsInduced}
use Rattle.irr_clifford.specs.Climb.{IsClimb, ClimbChoice, occurrences}
use Rattle.irr_clifford.proofs.Extended.{extended, extended-is}
use Rattle.irr_clifford.proofs.InducedFamily.{induced_family, induced_family-is}
use Rattle.irr_clifford.proofs.Roots.{stands_times_root, stands-ne-null, multiples_differ}
use Rattle.irr_clifford.proofs.Orbits.{iterate-fixed, iterate-back}
use Rattle.irr_clifford.proofs.Least.{IsLeast, least_or_not, least_unique, least_exists}
use Rattle.irr_clifford.proofs.Turns.{turned_period}
use Rattle.irr_clifford.proofs.Squares.{climb_full}
use Rattle.irr_clifford.proofs.Sections.{added, section_of, in_section, section_of-in, in_section-of, occurrences-section}

-- families with the same matrices are equivalent
pub equivalent_of_same : {R : Ring} {I : Type 0} {d : ℕ} (s t : I → Matrix R d d) → ((i : I) → s i ≡ t i) → Equivalent s t
equivalent_of_same {R} {I} {d} s t h = record {
  forward = unit R d;
  backward = unit R d;
  is_intertwiner = record { intertwines = λ i. mul-unit (t i) ∙ sym (h i) ∙ sym (unit-mul (s i)) };
  forward-backward = unit-mul (unit R d);
  backward-forward = unit-mul (unit R d);
}

module _ (F : Field) {T : FactorSystem F.ring} {H : Subgroup T} (Q : CyclicQuotient H) (L : Representations H.table) (c : ClimbChoice Q L) where
  open F use {ring as R}

  abbrev Fixed : Fin L.count → Type 0
  Fixed l = (c.turn l ≡ l) ⊎ (c.turn l ≡ l → ⊥)

  abbrev Chosen : Fin L.count → Type 0
  Chosen l = IsLeast c.turn Q.index l ⊎ ((a : Fin Q.index) × (to_nat (iterate c.turn (to_nat a) l) < to_nat l))

  -- how many members lie over l, their size, and they
  unfoldable number_over : (l : Fin L.count) → Fixed l → Chosen l → ℕ
  number_over l (inl e) b = Q.index
  number_over l (inr n) (inl i) = 1
  number_over l (inr n) (inr s) = 0

  unfoldable size_over : (l : Fin L.count) → Fixed l → ℕ
  size_over l (inl e) = L.size l
  size_over l (inr n) = times Q.index (L.size l)

  unfoldable member_over : (l : Fin L.count) (a : Fixed l) (b : Chosen l) → Fin (number_over l a b) → Representation T (size_over l a)
  unfolding number_over size_over
  member_over l (inl e) b k = extended Q (L.member l) (scale R (c.roots.root k) (c.matrix l e)) (stands_times_root Q (L.member l) (c.matrix l e) (c.roots.root k) (c.stands l e) (c.roots.power k))
  member_over l (inr n) (inl i) k = induced_family Q (L.member l)
  member_over l (inr n) (inr s) k = elim k [ ]

  extends_over : (l : Fin L.count) (a : Fixed l) (b : Chosen l) (k : Fin (number_over l a b)) → c.turn l ≡ l → Equivalent (restrict H (member_over l a b k)) (L.member l).at
  unfolding number_over size_over member_over
  extends_over l (inl e) b k f = equivalent_of_same (restrict H (extended Q (L.member l) _ _)) (L.member l).at (λ n. (extended-is Q (L.member l) _ _).at-member n)
  extends_over l (inr n) b k f = absurd (n f)

  induced_over : (l : Fin L.count) (a : Fixed l) (b : Chosen l) (k : Fin (number_over l a b)) → (c.turn l ≡ l → ⊥) → IsInduced Q (L.member l) (member_over l a b k)
  unfolding number_over size_over member_over
  induced_over l (inl e) b k f = absurd (f e)
  induced_over l (inr n) (inl i) k f = induced_family-is Q (L.member l)
  induced_over l (inr n) (inr s) k f = elim k [ ]

  module _ (full : IsFull L) where
    differ_over : (l : Fin L.count) (a : Fixed l) (b : Chosen l) (i j : Fin (number_over l a b)) → (i ≡ j → ⊥) → c.turn l ≡ l
        → (x : Fin T.places) × (trace ((member_over l a b i).at x) ≡ trace ((member_over l a b j).at x) → ⊥)
    unfolding number_over size_over member_over
    differ_over l (inl e) b i j d f =
        multiples_differ F Q (L.member l) (full.positive l) (full.simple l) (c.matrix l e)
        (stands-ne-null F Q (L.member l) (full.positive l) (c.matrix l e) (c.stands l e))
        (c.roots.root i) (c.roots.root j) (λ q. d (c.roots.injective i j q)) (extended Q (L.member l) _ _) (extended Q (L.member l) _ _)
        (extended-is Q (L.member l) _ _) (extended-is Q (L.member l) _ _)
    differ_over l (inr n) b i j d f = absurd (n f)

  chosen_over : (l : Fin L.count) (a : Fixed l) (b : Chosen l) → Fin (number_over l a b) → (c.turn l ≡ l → ⊥) → IsLeast c.turn Q.index l
  unfolding number_over
  chosen_over l (inl e) b k f = absurd (f e)
  chosen_over l (inr n) (inl i) k f = i
  chosen_over l (inr n) (inr s) k f = elim k [ ]

  one_over : (l : Fin L.count) (a : Fixed l) (b : Chosen l) (i j : Fin (number_over l a b)) → (c.turn l ≡ l → ⊥) → i ≡ j
  unfolding number_over
  one_over l (inl e) b i j f = absurd (f e)
  one_over l (inr n) (inl s) i j f = sym (only_first i) ∙ only_first j
  one_over l (inr n) (inr s) i j f = elim i [ ]

  some_over : (l : Fin L.count) (a : Fixed l) (b : Chosen l) → (c.turn l ≡ l → ⊥) → IsLeast c.turn Q.index l → Fin (number_over l a b)
  unfolding number_over
  some_over l (inl e) b f i = absurd (f e)
  some_over l (inr n) (inl s) f i = first
  some_over l (inr n) (inr s) f i = let h = i.below s.0 in let k = s.1 in absurd (omega arith)

  fixed_number : (l : Fin L.count) (a : Fixed l) (b : Chosen l) → c.turn l ≡ l → number_over l a b ≡ Q.index
  unfolding number_over
  fixed_number l (inl e) b f = refl
  fixed_number l (inr n) b f = absurd (n f)

  -- the number over each member of L
  unfoldable numbers : Fin L.count → ℕ
  numbers l = number_over l (same_or_not (c.turn l) l) (least_or_not c.turn Q.index l)

  unfoldable below : Fin (added L.count numbers) → Fin L.count
  below i = (section_of L.count numbers i).0

  unfoldable place : (i : Fin (added L.count numbers)) → Fin (numbers (below i))
  unfolding below
  place i = (section_of L.count numbers i).1

  unfoldable over : (l : Fin L.count) → Fin (numbers l) → Representation T (size_over l (same_or_not (c.turn l) l))
  unfolding numbers
  over l k = member_over l (same_or_not (c.turn l) l) (least_or_not c.turn Q.index l) k

  -- the list
  pub climb_list : Representations T
  climb_list = record {
    count = added L.count numbers;
    size = λ i. size_over (below i) (same_or_not (c.turn (below i)) (below i));
    member = λ i. over (below i) (place i);
  }

  below-occurrences : (l : Fin L.count) → occurrences below l ≡ numbers l
  unfolding below
  below-occurrences l = occurrences-section L.count numbers l

  below-section : (l : Fin L.count) (k : Fin (numbers l)) → below (in_section L.count numbers l k) ≡ l
  unfolding below
  below-section l k = ap (λ (s : (m : Fin L.count) × Fin (numbers m)). s.0) (section_of-in L.count numbers l k)

  section_inj : (i j : Fin (added L.count numbers)) → section_of L.count numbers i ≡ section_of L.count numbers j → i ≡ j
  section_inj i j e = sym (in_section-of L.count numbers i) ∙ ap (λ (s : (l : Fin L.count) × Fin (numbers l)). in_section L.count numbers s.0 s.1) e ∙ in_section-of L.count numbers j

  abbrev at_place : (l : Fin L.count) → Fin (numbers l) → (l : Fin L.count) × Fin (numbers l)
  at_place l k = (l, k)

  covered_by : (l r : Fin L.count) (a : Fin Q.index) → iterate c.turn (to_nat a) r ≡ l → Fin (numbers r) → (i : Fin (added L.count numbers)) × (a : Fin Q.index) × (iterate c.turn (to_nat a) (below i) ≡ l)
  covered_by l r a e k = (in_section L.count numbers r k, a, ap (iterate c.turn (to_nat a)) (below-section r k) ∙ e)

  -- what holds at each place of a section
  same_section : (l m : Fin L.count) (e : l ≡ m) (k : Fin (numbers l)) (i : Fin (numbers m)) (P : (m : Fin L.count) → Fin (numbers m) → Type 0) → ((i : Fin (numbers l)) → P l i) → P m i
  same_section l m e k i P h = subst (λ m. (i : Fin (numbers m)) → P m i) e h i

  module _ (small : (Q.index ≡ 2) ⊎ (Q.index ≡ 3)) (full : IsFull L) where
    period : (l : Fin L.count) → iterate c.turn Q.index l ≡ l
    period = turned_period F Q L c.turn c.turns full

    differ : (i j : Fin (added L.count numbers)) → (i ≡ j → ⊥) → c.turn (below i) ≡ below i → below i ≡ below j
        → (x : Fin T.places) × (trace ((over (below i) (place i)).at x) ≡ trace ((over (below j) (place j)).at x) → ⊥)
    unfolding below place over numbers
    differ i j d f e = same_section (below i) (below j) e (place i) (place j)
        (λ m k. (at_place (below i) (place i) ≡ at_place m k → ⊥) → (x : Fin T.places) × (trace ((over (below i) (place i)).at x) ≡ trace ((over m k).at x) → ⊥))
        (λ k n. differ_over full (below i) (same_or_not (c.turn (below i)) (below i)) (least_or_not c.turn Q.index (below i)) (place i) k (λ q. n (ap (at_place (below i)) q)) f)
        (λ q. d (section_inj i j q))

    apart : (i j : Fin (added L.count numbers)) → (i ≡ j → ⊥) → (c.turn (below i) ≡ below i → ⊥) → (a : Fin Q.index) → iterate c.turn (to_nat a) (below i) ≡ below j → ⊥
    unfolding below place numbers
    apart i j d f a e = d (section_inj i j (same_section (below i) (below j) one (place i) (place j) (λ m k. at_place (below i) (place i) ≡ at_place m k)
        (λ k. ap (at_place (below i)) (one_over (below i) (same_or_not (c.turn (below i)) (below i)) (least_or_not c.turn Q.index (below i)) (place i) k f))))
      where
        back : iterate c.turn (Q.index - to_nat a) (below j) ≡ below i
        back = let l = to_nat-lt a in iterate-back c.turn Q.index small period (to_nat a) (omega arith) (below i) (below j) e

        free : c.turn (below j) ≡ below j → ⊥
        free g = f (subst (λ l. c.turn l ≡ l) (sym (iterate-fixed c.turn (Q.index - to_nat a) (below j) g) ∙ back) g)

        one : below i ≡ below j
        one = least_unique c.turn Q.index small period (below i) (below j) a
            (chosen_over (below i) (same_or_not (c.turn (below i)) (below i)) (least_or_not c.turn Q.index (below i)) (place i) f)
            (chosen_over (below j) (same_or_not (c.turn (below j)) (below j)) (least_or_not c.turn Q.index (below j)) (place j) free) e

    covered : (l : Fin L.count) → (c.turn l ≡ l → ⊥) → (i : Fin (added L.count numbers)) × (a : Fin Q.index) × (iterate c.turn (to_nat a) (below i) ≡ l)
    unfolding numbers
    covered l f =
        let r = least_exists c.turn Q.index small period L.count l (to_nat-lt l) in
        covered_by l r.0 r.2.0 r.2.1 (some_over r.0 (same_or_not (c.turn r.0) r.0) (least_or_not c.turn Q.index r.0) (free l r.0 r.2.0 r.2.1 f) r.1)
      where
        free : (l r : Fin L.count) (a : Fin Q.index) → iterate c.turn (to_nat a) r ≡ l → (c.turn l ≡ l → ⊥) → c.turn r ≡ r → ⊥
        free l r a e f g = f (subst (λ m. c.turn m ≡ m) (sym (iterate-fixed c.turn (to_nat a) r g) ∙ e) g)

    pub climb_list-is : IsClimb Q L climb_list
    unfolding climb_list over numbers
    climb_list-is = record {
      turn = c.turn;
      turns = c.turns;
      below = below;
      extends = λ i e. extends_over (below i) (same_or_not (c.turn (below i)) (below i)) (least_or_not c.turn Q.index (below i)) (place i) e;
      induced = λ i n. induced_over (below i) (same_or_not (c.turn (below i)) (below i)) (least_or_not c.turn Q.index (below i)) (place i) n;
      extensions_differ = λ i j d f e. differ i j d f e;
      all_extensions = λ l e. all_of l e;
      orbits_covered = λ l n. covered l n;
      orbits_apart = λ i j d n a. apart i j d n a;
    }
      where
        all_of : (l : Fin L.count) → c.turn l ≡ l → occurrences below l ≡ Q.index
        all_of l e = below-occurrences l ∙ fixed_number l (same_or_not (c.turn l) l) (least_or_not c.turn Q.index l) e

    -- it is full
    pub climb_list_full : IsFull climb_list
    climb_list_full = climb_full F Q small L full climb_list climb_list-is
