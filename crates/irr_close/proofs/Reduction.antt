-- Generators in the unit cell, each once, generate what the generators do.
--   same_line               how a program tells lines apart
--   found_line              a line that is seen is that of an operation of the list
--   reduced_start, reduced_more   none yet, and one more generator looked at
--   reduced_numbers, reduced_unimodular   what is asked of generators
--   reduced_group           both lists generate one group
--   reduced_accepted, reduced_refused     and pass the same limits
use Rattle.std.proofs.Common.{◌≡◌, ◌↔◌, sym, ◌∙◌, ap, subst, refl, true, false, Bool, ℕ, ℤ, ◌<◌, ◌+◌, ◌^◌, ◌&&◌, inl, inr, List, [], ◌∷◌, ◌++◌, length, get_or, map, unsigned_abs, arith, true≢false, int_eq, nat_eq}
use Rattle.std.specs.List.{All, HoldsAt, list_any}
use Rattle.std.specs.Int.{◌∣◌}
use Rattle.std.specs.Cmp.Lexicographic.{pointwise}
use Rattle.std.proofs.lemmas.Slice.Eq.{slice_eq-Decides}
use Rattle.std.proofs.lemmas.Bool.Decides.{Decides-eqb, Decides-int_eq}
use Rattle.indexmap.proofs.CallerLemmas.{Contains-list_any}
use Rattle.std.proofs.lemmas.List.{length-map, get_or-map, get_or_default, get_or_append_left, get_or_push, length_push}
use Rattle.std.proofs.lemmas.List.Elements.{All-push, All-nil}
use Rattle.std.proofs.lemmas.Bool.{cases_lt}
use Rattle.irr_algebra.specs.Matrix.{◌⊖◌}
use Rattle.irr_space.specs.Operation.{Operation}
use Rattle.irr_space.specs.SpaceGroup.{Generated}
use Rattle.irr_space.specs.CanonicalOperation.{IsInCell}
use Rattle.irr_rat.specs.VectorMeaning.{vector_of}
use Rattle.irr_seitz.specs.Rotation.{IsWithin, determinant, rotation_of}
use Rattle.irr_seitz.specs.OperationMeaning.{operation, AreWithin}
use Rattle.irr_seitz.specs.declared.op.Op.{Op}
use Rattle.irr_close.specs.declared.CloseError.{CloseError}
use Rattle.irr_close.specs.declared.CloseError.TheVariants.{Rotations, Denominator, Centrings, Memory}
use Rattle.irr_close.specs.Whole.{IsWholeVector}
use Rattle.irr_close.specs.Limits.{operations, HasFewRotations, HasSmallDenominator, HasFewCentrings}
use Rattle.irr_close.specs.Closing.{IsGenerator}
use Rattle.irr_close.specs.StandsFor.{IsAccepted, IsRefusal}
use Rattle.irr_close.specs.Distinct.{line, IsReduced, HasOperation, IsWithOperation, HasReduced, IsReducedOneOf, AreReduced}
use Rattle.irr_close.proofs.Closure.{whole_flipped}
use Rattle.irr_close.proofs.Denominators.{over_of_divides, over_modulo, divides_of_over}
use Rattle.irr_close.proofs.Keeping.{generated_at, generated_modulo}
use Rattle.irr_close.proofs.Seeds.{generated_by}

abbrev pub same_line : List (List ℤ) × List ℤ × ℕ → List (List ℤ) × List ℤ × ℕ → Bool
same_line x y = (pointwise (pointwise int_eq) x.0 y.0 && pointwise int_eq x.1 y.1) && nat_eq x.2 y.2

both : (a b : Bool) → (a && b) ≡ true → (a ≡ true) × (b ≡ true)
both true b h = (refl, h)
both false b h = absurd (true≢false (sym h))

lines_same : (x y : List (List ℤ) × List ℤ × ℕ) → same_line x y ≡ true → x ≡ y
lines_same x y h =
    let o = both (pointwise (pointwise int_eq) x.0 y.0 && pointwise int_eq x.1 y.1) (nat_eq x.2 y.2) h in
    let i = both (pointwise (pointwise int_eq) x.0 y.0) (pointwise int_eq x.1 y.1) o.0 in
    triples x.0 y.0 x.1 y.1 x.2 y.2
    ((slice_eq-Decides (λ a b. slice_eq-Decides Decides-int_eq a b (pointwise int_eq a b) refl) x.0 y.0 (pointwise (pointwise int_eq) x.0 y.0)
    refl).0 i.0)
    ((slice_eq-Decides Decides-int_eq x.1 y.1 (pointwise int_eq x.1 y.1) refl).0 i.1)
    ((Decides-eqb x.2 y.2).0 o.1)
  where
    triples : {A B C : Type 0} (a b : A) (c d : B) (e f : C) → a ≡ b → c ≡ d → e ≡ f → ◌≡◌ {A = A × B × C} (a, c, e) (b, d, f)
    triples a b c d e f p q r j = (p j, q j, r j)

operation_of : List (List ℤ) × List ℤ × ℕ → Operation
operation_of l = record { rotation = rotation_of l.0; vector = vector_of l.1 l.2 }

pub found_line : (old : List Op) (op : Op) → list_any (same_line (line op)) (map line old) ≡ true → HasOperation old op
unfolding operation_of
found_line old op h =
    let m = Contains-list_any same_line lines_same (map line old) (line op) h in
    let l : m.0 < length old = subst (λ n. m.0 < n) (length-map old line) m.1 in
    (m.0, l, λ d. ap operation_of (sym (get_or-map line old m.0 d (line op) l) ∙ m.2))

pub reduced_start : (gs ts : List Op) → ts ≡ [] → AreReduced gs ts 0
reduced_start gs ts e = subst (λ xs. AreReduced gs xs 0) (sym e) (record {
  each = λ j l. absurd (omega arith);
  from_list = All-nil (IsReducedOneOf gs);
})

-- an operation that stands for that of t is s in the cell as t is
same_reduced : (s t u : Op) → IsReduced s t → operation u ≡ operation t → AreWithin (10 ^ 12) u.num → IsReduced s u
same_reduced s t u r e n = record {
  rotation = ap (λ (g : Operation). g.rotation) e ∙ r.rotation;
  in_cell = subst (λ (g : Operation). IsInCell g.vector) (sym e) r.in_cell;
  whole = subst (λ (g : Operation). IsWholeVector ((operation s).vector ⊖ g.vector)) (sym e) r.whole;
  numerators = n;
}

pub reduced_more : (gs old : List Op) (s t : Op) (new : List Op) (n : ℕ) → n < length gs → s ≡ get_or gs n s → IsReduced s t → AreReduced gs old n
    → IsWithOperation old t new → AreReduced gs new (n + 1)
reduced_more gs old s t new n l e r a w = record { each = each w; from_list = from_list w }
  where
    last : (j : ℕ) (d : Op) → n ≡ j → s ≡ get_or gs j d
    last j d q = e ∙ get_or_default gs n s d l ∙ ap (λ k. get_or gs k d) q

    each : IsWithOperation old t new → (j : ℕ) → j < n + 1 → HoldsAt (HasReduced new) gs j
    each (inl h) j m d = subst (λ ts. HasReduced ts (get_or gs j d)) (sym h.1) (elim (cases_lt j n) [
      | inl less ↦ a.each j less d
      | inr over ↦ (let q : n ≡ j = omega arith in subst (HasReduced old) (last j d q)
          (h.0.0, h.0.1, λ f. same_reduced s t (get_or old h.0.0 f) r (h.0.2 f) ((a.from_list h.0.0 f h.0.1).2 f).numerators))
    ])
    each (inr h) j m d = subst (λ ts. HasReduced ts (get_or gs j d)) (sym h) (elim (cases_lt j n) [
      | inl less ↦ (let b = a.each j less d in (
        b.0,
        (let x : length (old ++ t ∷ []) ≡ length old + 1 = length_push old t in let y : b.0 < length old = b.1 in omega arith),
        λ f. subst (IsReduced (get_or gs j d)) (sym (get_or_append_left old (t ∷ []) f b.0 b.1)) (b.2 f),
      ))
      | inr over ↦ (let q : n ≡ j = omega arith in subst (HasReduced (old ++ t ∷ [])) (last j d q) (
        length old,
        (let x : length (old ++ t ∷ []) ≡ length old + 1 = length_push old t in omega arith),
        λ f. subst (IsReduced s) (sym (get_or_push old t f (length old) refl)) r,
      ))
    ])

    from_list : IsWithOperation old t new → All (IsReducedOneOf gs) new
    from_list (inl h) = subst (All (IsReducedOneOf gs)) (sym h.1) a.from_list
    from_list (inr h) = subst (All (IsReducedOneOf gs)) (sym h) (All-push (IsReducedOneOf gs) old t a.from_list
        (n, l, λ d. subst (λ x. IsReduced x t) (last n d refl) r))

-- a denominator of one is over what the other is over, where the vectors differ by a whole one
over_reduced : (s t : Op) → IsWholeVector ((operation s).vector ⊖ (operation t).vector) → (D : ℕ) → s.den ∣ D → t.den ∣ D
over_reduced s t w D h = divides_of_over t.num t.den D t.lowest
    (over_modulo D (operation s).vector (operation t).vector (over_of_divides s.num s.den D s.lowest.positive h) w)

module _ (gs ts : List Op) (a : AreReduced gs ts (length gs)) where
  pub reduced_numbers : All IsGenerator gs → All IsGenerator ts
  reduced_numbers all k d l = let h = a.from_list k d l in let r = h.2 d in record {
    within = subst (IsWithin 9) (sym r.rotation) (all h.0 d h.1).within;
    numerators = r.numerators;
  }

  pub reduced_unimodular : All (λ s. unsigned_abs (determinant (operation s).rotation) ≡ 1) gs
      → All (λ s. unsigned_abs (determinant (operation s).rotation) ≡ 1) ts
  reduced_unimodular all k d l = let h = a.from_list k d l in ap (λ R. unsigned_abs (determinant R)) (h.2 d).rotation ∙ all h.0 d h.1

  forth : {g : Operation} → Generated (operations gs) g → Generated (operations ts) g
  forth = generated_by gs (operations ts) (λ j d l. let h = a.each j l d in let r = h.2 d in
      generated_modulo (operations ts) (operation (get_or ts h.0 d)) (operation (get_or gs j d)) (sym r.rotation) r.whole (generated_at ts h.0 d h.1))

  back : {g : Operation} → Generated (operations ts) g → Generated (operations gs) g
  back = generated_by ts (operations gs) (λ k d l. let h = a.from_list k d l in let r = h.2 d in
      generated_modulo (operations gs) (operation (get_or gs h.0 d)) (operation (get_or ts k d)) r.rotation
      (whole_flipped (operation (get_or gs h.0 d)).vector (operation (get_or ts k d)).vector r.whole) (generated_at gs h.0 d h.1))

  pub reduced_group : (g : Operation) → Generated (operations ts) g ↔ Generated (operations gs) g
  reduced_group g = (back, forth)

  few_forth : HasFewRotations (operations gs) → HasFewRotations (operations ts)
  few_forth f = record { rotations = f.rotations; few = f.few; all = λ g h. f.all g (back h); within = λ g h. f.within g (back h) }

  few_back : HasFewRotations (operations ts) → HasFewRotations (operations gs)
  few_back f = record { rotations = f.rotations; few = f.few; all = λ g h. f.all g (forth h); within = λ g h. f.within g (forth h) }

  centrings_forth : HasFewCentrings (operations gs) → HasFewCentrings (operations ts)
  centrings_forth f = record { centrings = f.centrings; few = f.few; all = λ t h. f.all t (back h) }

  centrings_back : HasFewCentrings (operations ts) → HasFewCentrings (operations gs)
  centrings_back f = record { centrings = f.centrings; few = f.few; all = λ t h. f.all t (forth h) }

  small_forth : HasSmallDenominator gs → HasSmallDenominator ts
  small_forth c = record {
    common = c.common;
    positive = c.positive;
    small = c.small;
    multiple = λ k d l. let h = a.from_list k d l in over_reduced (get_or gs h.0 d) (get_or ts k d) (h.2 d).whole c.common (c.multiple h.0 d h.1);
  }

  small_back : HasSmallDenominator ts → HasSmallDenominator gs
  small_back c = record {
    common = c.common;
    positive = c.positive;
    small = c.small;
    multiple = λ j d l. let h = a.each j l d in over_reduced (get_or ts h.0 d) (get_or gs j d)
        (whole_flipped (operation (get_or gs j d)).vector (operation (get_or ts h.0 d)).vector (h.2 d).whole) c.common (c.multiple h.0 d h.1);
  }

  pub reduced_accepted : IsAccepted ts → IsAccepted gs
  reduced_accepted h = record { rotations = few_back h.rotations; denominator = small_back h.denominator; centrings = centrings_back h.centrings }

  pub reduced_refused : (e : CloseError) → IsRefusal ts e → IsRefusal gs e
  reduced_refused Rotations h = λ f. h (few_forth f)
  reduced_refused Denominator h = (few_back h.0, λ c. h.1 (small_forth c))
  reduced_refused Centrings h = (few_back h.0, small_back h.1, λ f. h.2 (centrings_forth f))
  reduced_refused Memory h = h
