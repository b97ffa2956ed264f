-- Generators that one text spells.
--   AreSame gens hens       they stand for the same operations, one by one
--   same_operations         the operations on lines are one by one those on lines that say the same
--   operations_same         so the groups are one
--   same_of_operations      lists whose operations are equal are so
--   refusal_along, accepted_along     and pass the same limits
use Rattle.std.proofs.Common.{◌≡◌, refl, sym, ap, ap₂, subst, ℕ, ◌≤◌, List, [], ◌∷◌, map, arith}
use Rattle.std.specs.List.{All}
use Rattle.std.specs.Int.{◌∣◌}
use Rattle.std.proofs.lemmas.List.Elements.{All-cons, All-head, All-tail}
use Rattle.irr_space.specs.Operation.{Operation}
use Rattle.irr_rat.specs.VectorMeaning.{vector_of}
use Rattle.irr_rat.proofs.CommonDenominators.{lowest_below}
use Rattle.irr_seitz.specs.OperationMeaning.{operation}
use Rattle.irr_seitz.specs.declared.op.Op.{Op}
use Rattle.irr_close.specs.Limits.{operations, HasFewRotations, HasSmallDenominator, HasFewCentrings}
use Rattle.irr_close.specs.StandsFor.{IsRefusal, IsAccepted}
use Rattle.irr_close.specs.declared.CloseError.{CloseError}
use Rattle.irr_close.specs.declared.CloseError.TheVariants.{Rotations, Denominator, Centrings, Memory}
use Rattle.irr_input.specs.Stages.{Placed}
use Rattle.irr_input.specs.InputLines.{placed}
use Rattle.irr_input.specs.declared.input.GenLine.{GenLine}

pub data AreSame : List Op → List Op → Type 0 where
  nothing : AreSame [] []
  pair : {g h : Op} {gens hens : List Op} → operation g ≡ operation h → AreSame gens hens → AreSame (g ∷ gens) (h ∷ hens)

same_first : (k l : GenLine) (ks ls : List GenLine) → placed (k ∷ ks) ≡ placed (l ∷ ls) → (operation k.op ≡ operation l.op) × (placed ks ≡ placed ls)
same_first k l ks ls e = (ap (λ (p : Placed). p.operation) (let f : first_placed k ≡ first_placed l = cc in f), cc)
  where
    first_placed : GenLine → Placed
    first_placed g = record { line = g.line; operation = operation g.op }

pub same_operations : (ks ls : List GenLine) → placed ks ≡ placed ls → AreSame (map (λ g. g.op) ks) (map (λ g. g.op) ls)
same_operations [] [] e = nothing
same_operations [] (l ∷ ls) e = absurd (cc)
same_operations (k ∷ ks) [] e = absurd (cc)
same_operations (k ∷ ks) (l ∷ ls) e = let both = same_first k l ks ls e in pair both.0 (same_operations ks ls both.1)

flipped : {gens hens : List Op} → AreSame gens hens → AreSame hens gens
flipped nothing = nothing
flipped (pair e s) = pair (sym e) (flipped s)

pub operations_same : {gens hens : List Op} → AreSame gens hens → operations gens ≡ operations hens
operations_same nothing = refl
operations_same (pair e s) = ap₂ (λ x xs. x ∷ xs) e (operations_same s)

pub same_of_operations : (gens hens : List Op) → operations gens ≡ operations hens → AreSame gens hens
same_of_operations [] [] e = nothing
same_of_operations [] (h ∷ hens) e = absurd (cc)
same_of_operations (g ∷ gens) [] e = absurd (cc)
same_of_operations (g ∷ gens) (h ∷ hens) e = pair (cc) (same_of_operations gens hens (cc))

denominator_below : (g h : Op) → operation g ≡ operation h → g.den ≤ h.den
denominator_below g h e =
    let v : vector_of g.num g.den ≡ vector_of h.num h.den = ap (λ (o : Operation). o.vector) e in
    lowest_below g.num h.num g.den h.den h.den g.lowest h.lowest.positive v (omega arith)

denominator_same : (g h : Op) → operation g ≡ operation h → g.den ≡ h.den
denominator_same g h e = let a = denominator_below g h e in let b = denominator_below h g (sym e) in omega arith

multiples_along : (m : ℕ) {gens hens : List Op} → AreSame gens hens → All (λ g. g.den ∣ m) gens → All (λ g. g.den ∣ m) hens
multiples_along m nothing a = λ k d lt. absurd (omega arith)
multiples_along m (pair {g = g} {h = h} {gens = gens} {hens = hens} e s) a = All-cons (λ x. x.den ∣ m) h hens
    (subst (λ n. n ∣ m) (denominator_same g h e) (All-head (λ x. x.den ∣ m) g gens a)) (multiples_along m s (All-tail (λ x. x.den ∣ m) g gens a))

small_along : {gens hens : List Op} → AreSame gens hens → HasSmallDenominator gens → HasSmallDenominator hens
small_along s h = record { common = h.common; positive = h.positive; small = h.small; multiple = multiples_along h.common s h.multiple }

pub refusal_along : {gens hens : List Op} (e : CloseError) → AreSame gens hens → IsRefusal gens e → IsRefusal hens e
refusal_along Rotations s r = subst (λ l. ¬ (HasFewRotations l)) (operations_same s) r
refusal_along Denominator s r = (subst HasFewRotations (operations_same s) r.0, λ h. r.1 (small_along (flipped s) h))
refusal_along Centrings s r = (
  subst HasFewRotations (operations_same s) r.0,
  small_along s r.1,
  subst (λ l. ¬ (HasFewCentrings l))
      (operations_same s) r.2,
)
refusal_along Memory s r = r

pub accepted_along : {gens hens : List Op} → AreSame gens hens → IsAccepted gens → IsAccepted hens
accepted_along s a = record {
  rotations = subst HasFewRotations (operations_same s) a.rotations;
  denominator = small_along s a.denominator;
  centrings = subst HasFewCentrings (operations_same s) a.centrings;
}
