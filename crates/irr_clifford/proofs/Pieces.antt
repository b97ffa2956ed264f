-- Representations on a table that fall into pieces over a subgroup.
use Rattle.std.proofs.Common.{◌≡◌, sym, ◌∙◌, ap, ℕ, ◌<◌, ◌⊎◌, inl, inr}
use Rattle.irr_algebra.specs.Ring.{Ring}
use Rattle.irr_algebra.specs.Field.{Field}
use Rattle.irr_algebra.specs.Fin.{Fin}
use Rattle.irr_algebra.specs.Fin.Fin.{first}
use Rattle.irr_algebra.specs.Matrix.{Matrix, ◌·◌, unit, null, total, scale}
use Rattle.irr_algebra.specs.Action.{IsIntertwiner, Equivalent, IsSimple}
use Rattle.irr_algebra.proofs.Rings.{mul-zero}
use Rattle.irr_algebra.proofs.Fields.{mul_cancel}
use Rattle.irr_algebra.proofs.Indices.{only_first}
use Rattle.irr_algebra.proofs.Matrices.{mul_assoc, unit-mul, mul-unit, mul-null, null-mul, scale-at, entry_of_null}
use Rattle.irr_algebra.proofs.Totals.{mul-total, total-mul, total-null, combination-single}
use Rattle.irr_algebra.proofs.Actions.{unit-intertwines}
use Rattle.irr_algebra.proofs.Entries.{null_or_entry, unit-ne-null}
use Rattle.irr_theory.specs.FactorSystem.{FactorSystem, Representation}
use Rattle.irr_theory.proofs.Schur.{simple-equivalent}
use Rattle.irr_clifford.specs.Subgroup.{Subgroup}

-- over the subgroup E is the sum of `count` families of size d
pub record Restriction {R : Ring} {T : FactorSystem R} (H : Subgroup T) {e : ℕ} (E : Representation T e) : Type 0 where
  pub count : ℕ
  pub size : ℕ
  pub piece : Fin count → Representation H.table size
  pub into : Fin count → Matrix R e size
  pub out : Fin count → Matrix R size e
  pub member-into : (a : Fin count) (n : Fin H.table.places) → E.at (H.member n) · into a ≡ into a · (piece a).at n
  pub out-member : (a : Fin count) (n : Fin H.table.places) → out a · E.at (H.member n) ≡ (piece a).at n · out a
  pub all_pieces : total count (λ a. into a · out a) ≡ unit R e

-- the inverse of an equivalence intertwines
pub backward-intertwines : {R : Ring} {I : Type 0} {a b : ℕ} (s : I → Matrix R a a) (t : I → Matrix R b b) (e : Equivalent s t) → IsIntertwiner t s e.backward
backward-intertwines {R} {I} {a} {b} s t e = record {
  intertwines = λ i.
      sym (unit-mul (s i · e.backward)) ∙ ap (λ (m : Matrix R a a). m · (s i · e.backward)) (sym e.backward-forward)
      ∙ mul_assoc e.backward e.forward (s i · e.backward) ∙ ap (λ (m : Matrix R b b). e.backward · m) (
      sym (mul_assoc e.forward (s i) e.backward) ∙ ap (λ (m : Matrix R b a). m · e.backward) (sym (e.is_intertwiner.intertwines i))
      ∙ mul_assoc (t i) e.forward e.backward ∙ ap (λ (m : Matrix R b b). t i · m) e.forward-backward ∙ mul-unit (t i));
}

-- where only 0 intertwines pieces of A with pieces of B, only 0 intertwines A and B
pub pieces-apart : {R : Ring} {T : FactorSystem R} {H : Subgroup T} {a b : ℕ} (A : Representation T a) (B : Representation T b) (P : Restriction H A) (S : Restriction H B)
    → ((i : Fin P.count) (j : Fin S.count) (x : Matrix R S.size P.size) → IsIntertwiner (P.piece i).at (S.piece j).at x → x ≡ null)
    → (x : Matrix R b a) → IsIntertwiner A.at B.at x → x ≡ null
pieces-apart {R} {T} {H} {a} {b} A B P S none x h =
    sym (mul-unit x) ∙ ap (λ (m : Matrix R a a). x · m) (sym P.all_pieces) ∙ mul-total P.count x (λ i. P.into i · P.out i)
    ∙ total-null P.count (λ i. sym (mul_assoc x (P.into i) (P.out i)) ∙ ap (λ (m : Matrix R b P.size). m · P.out i) (column i) ∙ null-mul (P.out i))
  where
    entry : (i : Fin P.count) (j : Fin S.count) → IsIntertwiner (P.piece i).at (S.piece j).at (S.out j · x · P.into i)
    entry i j = record {
      intertwines = λ n.
          sym (mul_assoc ((S.piece j).at n) (S.out j · x) (P.into i)) ∙ ap (λ (m : Matrix R S.size a). m · P.into i) (
          sym (mul_assoc ((S.piece j).at n) (S.out j) x) ∙ ap (λ (m : Matrix R S.size b). m · x) (sym (S.out-member j n)) ∙ mul_assoc (S.out j) (B.at (H.member n)) x
          ∙ ap (λ (m : Matrix R b a). S.out j · m) (h.intertwines (H.member n)) ∙ sym (mul_assoc (S.out j) x (A.at (H.member n))))
          ∙ mul_assoc (S.out j · x) (A.at (H.member n)) (P.into i) ∙ ap (λ (m : Matrix R a P.size). S.out j · x · m) (P.member-into i n)
          ∙ sym (mul_assoc (S.out j · x) (P.into i) ((P.piece i).at n));
    }

    column : (i : Fin P.count) → x · P.into i ≡ null
    column i =
        sym (unit-mul (x · P.into i)) ∙ ap (λ (m : Matrix R b b). m · (x · P.into i)) (sym S.all_pieces) ∙ total-mul S.count (λ j. S.into j · S.out j) (x · P.into i)
        ∙ total-null S.count (λ j. mul_assoc (S.into j) (S.out j) (x · P.into i) ∙ ap (λ (m : Matrix R S.size P.size). S.into j · m)
        (sym (mul_assoc (S.out j) x (P.into i)) ∙ none i j (S.out j · x · P.into i) (entry i j)) ∙ mul-null (S.into j))

-- where only 0 intertwines them they are not equivalent
pub null-inequivalent : (F : Field) {I : Type 0} {a b : ℕ} (s : I → Matrix F.ring a a) (t : I → Matrix F.ring b b)
    → ((x : Matrix F.ring b a) → IsIntertwiner s t x → x ≡ null) → 0 < b → Equivalent s t → ⊥
null-inequivalent F {I} {a} {b} s t h l e = unit-ne-null F b l (sym e.forward-backward ∙ ap (λ (m : Matrix F.ring b a). m · e.backward) (h e.forward e.is_intertwiner) ∙ null-mul e.backward)

module _ (F : Field) where
  open F use {ring as R}

  -- only 0 intertwines simple families that are not equivalent
  pub inequivalent-null : {T : FactorSystem R} {a b : ℕ} (A : Representation T a) (B : Representation T b) → IsSimple A.at → 0 < b → IsSimple B.at → (Equivalent A.at B.at → ⊥)
      → (x : Matrix R b a) → IsIntertwiner A.at B.at x → x ≡ null
  inequivalent-null {T} {a} {b} A B s l t n x h = cases (null_or_entry F x)
    where
      cases : (x ≡ null) ⊎ ((i : Fin b) × (j : Fin a) × (x.at i j ≡ R.zero → ⊥)) → x ≡ null
      cases (inl e) = e
      cases (inr (i, j, k)) = absurd (n (simple-equivalent F A B s l t x h i j k))

  -- where only multiples of 1 intertwine a family with itself, it is simple
  pub simple_of_scalar : {I : Type 0} {d : ℕ} (s : I → Matrix R d d) → 0 < d → ((x : Matrix R d d) → IsIntertwiner s s x → (c : R.Carrier) × (x ≡ scale R c (unit R d))) → IsSimple s
  simple_of_scalar {I} {d} s l h = record {
    members = λ k. unit R d;
    are_intertwiners = λ k. unit-intertwines s;
    independent = λ c e k. ap c (sym (only_first k)) ∙ number (c first) (sym (combination-single R c (λ k. unit R d)) ∙ e);
    spanning = λ x i. (λ k. (h x i).0, (h x i).1 ∙ sym (combination-single R (λ k. (h x i).0) (λ k. unit R d)));
  }
    where
      number : (c : R.Carrier) → scale R c (unit R d) ≡ null → c ≡ R.zero
      number c e = cases (null_or_entry F (unit R d))
        where
          cases : (unit R d ≡ null) ⊎ ((i : Fin d) × (j : Fin d) × ((unit R d).at i j ≡ R.zero → ⊥)) → c ≡ R.zero
          cases (inl z) = absurd (unit-ne-null F d l z)
          cases (inr (i, j, n)) = cancelled c ((unit R d).at i j) n (sym (scale-at R c (unit R d) i j) ∙ entry_of_null i j e)
            where
              cancelled : (c x : R.Carrier) → (x ≡ R.zero → ⊥) → R.mul c x ≡ R.zero → c ≡ R.zero
              cancelled c x n e = mul_cancel F x c R.zero n (R.mul_comm x c ∙ e ∙ sym (mul-zero R x))
