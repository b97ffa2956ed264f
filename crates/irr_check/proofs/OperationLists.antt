-- Operations of a list beside those with given places in another.
--   reach             as long as they are the same, neither list has ended
--   same_here, other_here      the same or different operations at a number
--   first_ended, first_other_here, first_longer, none_other     the first number at which they differ
use Rattle.std.proofs.Common.{◌≡◌, sym, ◌∙◌, ap, ℕ, zero, suc, ◌<◌, ◌≤◌, List, length, get_or, slice_index, Some, None, arith}
use Rattle.std.proofs.lemmas.List.{get_or_default}
use Rattle.irr_seitz.specs.OperationMeaning.{operation}
use Rattle.irr_seitz.specs.declared.op.Op.{Op}
use Rattle.irr_check.specs.Operations.{AreSameAt, IsFirstOther}

module _ (all : List Op) (places : List ℕ) (ops : List Op) where
  pub reach : (i : ℕ) → ((k : ℕ) → k < i → AreSameAt all places ops k) → (i ≤ length places) × (i ≤ length ops)
  reach zero same = (omega arith, omega arith)
  reach (suc i) same =
      let s = same i (omega arith) in
      let a = s.left in
      let b = s.right in
      (omega arith, omega arith)

  module _ (k p : ℕ) (x y : Op) (inside : k < length places) (at : p ≡ slice_index places k) (known : p < length all) (is : x ≡ get_or all p x)
      (within : k < length ops) (is_other : y ≡ get_or ops k y) where
    pub same_here : operation x ≡ operation y → AreSameAt all places ops k
    same_here same = record {
      left = inside;
      right = within;
      same = λ d e. ap operation (ap (λ j. get_or all j d) (sym at) ∙ get_or_default all p d x known ∙ sym is) ∙ same
          ∙ ap operation (is_other ∙ get_or_default ops k y e within);
    }

    pub other_here : AreSameAt all places ops k → operation x ≡ operation y
    other_here same = ap operation (is ∙ ap (λ j. get_or all j x) at) ∙ same.same x y ∙ ap operation (sym is_other)

  pub first_ended : (i : ℕ) → i < length places → i ≡ length ops → ((k : ℕ) → k < i → AreSameAt all places ops k) → IsFirstOther all places ops (Some i)
  unfolding IsFirstOther
  first_ended i l e same = (omega arith, omega arith, λ s. (let r = s.right in omega (arith, r, e)), λ a b. omega (arith, a, l), same)

  pub first_other_here : (i : ℕ) → i < length places → i < length ops → ¬ (AreSameAt all places ops i) → ((k : ℕ) → k < i → AreSameAt all places ops k)
      → IsFirstOther all places ops (Some i)
  unfolding IsFirstOther
  first_other_here i l m other same = (omega arith, omega arith, other, λ a b. omega (arith, a, l), same)

  pub first_longer : (i : ℕ) → i ≡ length places → ¬ (i ≡ length ops) → ((k : ℕ) → k < i → AreSameAt all places ops k) → IsFirstOther all places ops (Some i)
  unfolding IsFirstOther
  first_longer i e other same = (omega arith, (reach i same).1, λ s. (let r = s.left in omega (arith, r, e)), λ a b. other b, same)

  pub none_other : (i : ℕ) → i ≡ length places → i ≡ length ops → ((k : ℕ) → k < i → AreSameAt all places ops k) → IsFirstOther all places ops None
  unfolding IsFirstOther
  none_other i e f same = (sym e ∙ f, λ k l. same k (omega (arith, e, l)))
