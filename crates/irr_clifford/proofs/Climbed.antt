-- A climbed list has simple and pairwise inequivalent members.
use Rattle.std.proofs.Common.{◌≡◌, sym, ◌∙◌, subst, ℕ, ◌<◌, ◌⊎◌, inl, inr, arith}
use Rattle.irr_algebra.specs.Ring.{Ring}
use Rattle.irr_algebra.specs.Field.{Field}
use Rattle.irr_algebra.specs.Fin.{Fin, to_nat}
use Rattle.irr_algebra.specs.Matrix.{Matrix, ◌·◌, null}
use Rattle.irr_algebra.specs.Action.{IsIntertwiner, Equivalent, IsSimple}
use Rattle.irr_algebra.proofs.Indices.{same_or_not, to_nat-lt}
use Rattle.irr_algebra.proofs.Totals.{total-single}
use Rattle.irr_algebra.proofs.Rank.{left_inverse-le}
use Rattle.irr_algebra.proofs.Actions.{equivalent_refl, equivalent_sym, equivalent_trans, equivalent-trace}
use Rattle.irr_algebra.proofs.Irreducible.{equivalent-size, simple-scalar}
use Rattle.irr_theory.specs.Extension.{iterate}
use Rattle.irr_theory.specs.FactorSystem.{FactorSystem, Representation}
use Rattle.irr_theory.specs.Representations.{Representations, IsFull}
use Rattle.irr_theory.proofs.Traces.{simple-equivalent_family}
use Rattle.irr_clifford.specs.Subgroup.{Subgroup, restrict}
use Rattle.irr_clifford.specs.Cyclic.{CyclicQuotient}
use Rattle.irr_clifford.specs.Climb.{IsClimb}
use Rattle.irr_clifford.proofs.Representations.{restrict_family}
use Rattle.irr_clifford.proofs.Pieces.{Restriction, backward-intertwines, pieces-apart, null-inequivalent, inequivalent-null, simple_of_scalar}
use Rattle.irr_clifford.proofs.Conjugates.{conjugates}
use Rattle.irr_clifford.proofs.Turns.{turned_conjugates, turned_period}
use Rattle.irr_clifford.proofs.Translates.{induced-restriction}
use Rattle.irr_clifford.proofs.InducedSimple.{induced_simple}
use Rattle.irr_clifford.proofs.Orbits.{iterate-fixed, one_orbit, fixed_of_iterate}

-- a family that is D over the subgroup, in other coordinates
unfoldable pub extension-restriction : {R : Ring} {T : FactorSystem R} {H : Subgroup T} {d e : ℕ} (D : Representation H.table d) (E : Representation T e) → Equivalent (restrict H E) D.at → Restriction H E
extension-restriction {H = H} {d} D E q = record {
  count = 1;
  size = d;
  piece = λ a. D;
  into = λ a. q.backward;
  out = λ a. q.forward;
  member-into = λ a n. (backward-intertwines (restrict H E) D.at q).intertwines n;
  out-member = λ a n. sym (q.is_intertwiner.intertwines n);
  all_pieces = total-single (λ a. q.backward · q.forward) ∙ q.backward-forward;
}

-- an extension of a simple family is simple
pub extension_simple : (F : Field) {T : FactorSystem F.ring} (H : Subgroup T) {d e : ℕ} (D : Representation H.table d) (E : Representation T e) → 0 < e → Equivalent (restrict H E) D.at → IsSimple D.at → IsSimple E.at
unfolding restrict_family
extension_simple F H D E l q s =
    simple_of_scalar F E.at l (λ x i. simple-scalar F (restrict H E) (simple-equivalent_family F (restrict_family H E) D q s) x (record { intertwines = λ n. i.intertwines (H.member n) }))

module _ (F : Field) {T : FactorSystem F.ring} {H : Subgroup T} (Q : CyclicQuotient H) where
  open F use {ring as R}

  module _ (small : (Q.index ≡ 2) ⊎ (Q.index ≡ 3)) (L : Representations H.table) (full : IsFull L) (M : Representations T) (h : IsClimb Q L M) where
    -- the conjugates of a member, as members
    pub conjugates_turn : (l : Fin L.count) (a : ℕ) → Equivalent (conjugates Q (L.member l) a).at (L.member (iterate h.turn a l)).at
    conjugates_turn = turned_conjugates F Q L h.turn h.turns

    pub period : (l : Fin L.count) → iterate h.turn Q.index l ≡ l
    period = turned_period F Q L h.turn h.turns full

    -- the members of L over which a member of M lies are in the orbit of the one below it
    pub over : (m : Fin M.count) → (P : Restriction H (M.member m))
        × ((i : Fin P.count) → (a : Fin Q.index) × Equivalent (P.piece i).at (L.member (iterate h.turn (to_nat a) (h.below m))).at)
    unfolding extension-restriction induced-restriction
    over m = cases (same_or_not (h.turn (h.below m)) (h.below m))
      where
        cases : (h.turn (h.below m) ≡ h.below m) ⊎ (h.turn (h.below m) ≡ h.below m → ⊥) → (P : Restriction H (M.member m))
            × ((i : Fin P.count) → (a : Fin Q.index) × Equivalent (P.piece i).at (L.member (iterate h.turn (to_nat a) (h.below m))).at)
        cases (inl e) = (
          extension-restriction (L.member (h.below m)) (M.member m) (h.extends m e),
          λ i. (
            Q.exponent T.start,
            subst (λ l. Equivalent (L.member (h.below m)).at (L.member l).at)
                (sym (iterate-fixed h.turn (to_nat (Q.exponent T.start)) (h.below m) e)) (equivalent_refl (L.member (h.below m)).at),
          ),
        )
        cases (inr n) = (
          induced-restriction Q (M.member m) (L.member (h.below m)) (h.induced m n),
          λ a. (a, conjugates_turn (h.below m) (to_nat a)),
        )

    pub positive : (m : Fin M.count) → 0 < M.size m
    positive m = cases (same_or_not (h.turn (h.below m)) (h.below m))
      where
        cases : (h.turn (h.below m) ≡ h.below m) ⊎ (h.turn (h.below m) ≡ h.below m → ⊥) → 0 < M.size m
        cases (inl e) = let s = equivalent-size F (restrict H (M.member m)) (L.member (h.below m)).at (h.extends m e) in let l = full.positive (h.below m) in omega arith
        cases (inr n) = let s = left_inverse-le F (h.induced m n).into (h.induced m n).out (h.induced m n).out-into in let l = full.positive (h.below m) in omega arith

    -- families equivalent to different members have no intertwiner but 0
    pub piece-null : {a b : ℕ} (A : Representation H.table a) (B : Representation H.table b) (k l : Fin L.count) → Equivalent A.at (L.member k).at → Equivalent B.at (L.member l).at
        → (k ≡ l → ⊥) → (x : Matrix R b a) → IsIntertwiner A.at B.at x → x ≡ null
    piece-null {a} {b} A B k l p q n = inequivalent-null F A B (simple-equivalent_family F A (L.member k) p (full.simple k))
        (let s = equivalent-size F B.at (L.member l).at q in let i = full.positive l in omega arith) (simple-equivalent_family F B (L.member l) q (full.simple l))
        (λ e. full.inequivalent k l n (equivalent_trans (L.member k).at A.at (L.member l).at (equivalent_sym A.at (L.member k).at p) (equivalent_trans A.at B.at (L.member l).at e q)))

    -- members over different orbits are not equivalent
    apart : (m n : Fin M.count) → ((i j : Fin Q.index) → iterate h.turn (to_nat i) (h.below m) ≡ iterate h.turn (to_nat j) (h.below n) → ⊥)
        → Equivalent (M.member m).at (M.member n).at → ⊥
    apart m n d = null-inequivalent F (M.member m).at (M.member n).at (pieces-apart (M.member m) (M.member n) (over m).0 (over n).0 (λ i j.
        piece-null ((over m).0.piece i) ((over n).0.piece j) (iterate h.turn (to_nat ((over m).1 i).0) (h.below m)) (iterate h.turn (to_nat ((over n).1 j).0) (h.below n))
        ((over m).1 i).1 ((over n).1 j).1 (d ((over m).1 i).0 ((over n).1 j).0))) (positive n)

    none : Fin Q.index
    none = Q.exponent T.start

    -- a member over a fixed one and a member over another
    pub fixed-apart : (k l : Fin L.count) → h.turn k ≡ k → (k ≡ l → ⊥) → (i j : Fin Q.index) → iterate h.turn (to_nat i) k ≡ iterate h.turn (to_nat j) l → ⊥
    fixed-apart k l f n i j e =
        let o = one_orbit h.turn Q.index small period i j k l e in
        n (sym (iterate-fixed h.turn (to_nat o.0) k f) ∙ o.1)

    pub inequivalent : (m n : Fin M.count) → (m ≡ n → ⊥) → Equivalent (M.member m).at (M.member n).at → ⊥
    inequivalent m n d = cases (same_or_not (h.turn (h.below m)) (h.below m)) (same_or_not (h.below m) (h.below n))
      where
        cases : (h.turn (h.below m) ≡ h.below m) ⊎ (h.turn (h.below m) ≡ h.below m → ⊥) → (h.below m ≡ h.below n) ⊎ (h.below m ≡ h.below n → ⊥)
            → Equivalent (M.member m).at (M.member n).at → ⊥
        cases (inl f) (inl s) e = let t = h.extensions_differ m n d f s in t.1 (equivalent-trace (M.member m).at (M.member n).at e t.0)
        cases (inl f) (inr s) e = apart m n (fixed-apart (h.below m) (h.below n) f s) e
        cases (inr f) s e = apart m n (λ i j q. let o = one_orbit h.turn Q.index small period i j (h.below m) (h.below n) q in h.orbits_apart m n d f o.0 o.1) e

    pub simple : (m : Fin M.count) → IsSimple (M.member m).at
    simple m = cases (same_or_not (h.turn (h.below m)) (h.below m))
      where
        cases : (h.turn (h.below m) ≡ h.below m) ⊎ (h.turn (h.below m) ≡ h.below m → ⊥) → IsSimple (M.member m).at
        cases (inl e) = extension_simple F H (L.member (h.below m)) (M.member m) (positive m) (h.extends m e) (full.simple (h.below m))
        cases (inr n) = induced_simple F Q (L.member (h.below m)) (M.member m) (h.induced m n) (positive m) (full.simple (h.below m)) (λ a l.
            piece-null (L.member (h.below m)) (conjugates Q (L.member (h.below m)) (to_nat a)) (h.below m) (iterate h.turn (to_nat a) (h.below m))
            (equivalent_refl (L.member (h.below m)).at) (conjugates_turn (h.below m) (to_nat a))
            (λ e. n (fixed_of_iterate h.turn Q.index small period (to_nat a) l (to_nat-lt a) (h.below m) (sym e))))
