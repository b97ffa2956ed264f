-- One generator for each rotation of a generator.
--   seeds_start, seeds_more     none yet, and one more generator looked at
--   seeds_refused               where none is kept, the rotations are too many
--   seed_generated              seeds are generated
--   generated_by            what generated operations generate is generated
--   generated_by_seeds          what the seeds generate, the generators do
--   few_of_seeds                the seeds generate few rotations where the generators do
--   few_kept                    a closing with few operations, all with small entries, shows that few rotations are generated
use Rattle.std.proofs.Common.{◌≡◌, sym, ◌∙◌, ap, subst, ℕ, ◌<◌, ◌≤◌, ◌+◌, inl, inr, List, [], ◌∷◌, length, get_or, map, arith}
use Rattle.std.specs.List.{All, AllPairs, Contains}
use Rattle.std.proofs.lemmas.List.{length-map, get_or-map, get_or_default}
use Rattle.std.proofs.lemmas.List.Elements.{All-push, All-nil}
use Rattle.std.proofs.lemmas.Bool.{cases_lt}
use Rattle.irr_space.specs.Operation.{Operation}
use Rattle.irr_space.specs.SpaceGroup.{Generated}
use Rattle.irr_space.specs.SpaceGroup.Generated.{one, generator, unit_translation, product, inverse}
use Rattle.irr_seitz.specs.Rotation.{IsWithin}
use Rattle.irr_seitz.specs.OperationMeaning.{operation}
use Rattle.irr_seitz.specs.declared.op.Op.{Op}
use Rattle.irr_close.specs.declared.CloseError.{CloseError}
use Rattle.irr_close.specs.declared.CloseError.TheVariants.{Rotations, Denominator, Centrings, Memory}
use Rattle.irr_close.specs.Limits.{operations, HasFewRotations}
use Rattle.irr_close.specs.Closing.{IsPartial, HasRotation, HasProducts, IsWithNew, IsKeepRefusal, IsClosingRefusal, IsOneOf, AreSeeds}
use Rattle.irr_close.specs.Centring.{AreInvertible}
use Rattle.irr_close.proofs.Keeping.{generated_at, has_longer, with_new-longer, with_new-has, distinct_push, too_many}
use Rattle.irr_close.proofs.Standing.{rotation_of_generated}

pub seeds_start : (gs seeds : List Op) → seeds ≡ [] → AreSeeds gs seeds 0
seeds_start gs seeds e = subst (λ xs. AreSeeds gs xs 0) (sym e) (record {
  seeded = λ j l. absurd (omega arith);
  from_list = All-nil (IsOneOf gs);
  distinct = λ i j d l m. absurd (omega arith);
})

one_of : (gs : List Op) (g : Op) (n : ℕ) → n < length gs → g ≡ get_or gs n g → IsOneOf gs g
one_of gs g n l e = (n, l, λ d. get_or_default gs n d g l ∙ sym e)

pub seeds_more : (gs old : List Op) (g : Op) (new : List Op) (n : ℕ) → n < length gs → g ≡ get_or gs n g → AreSeeds gs old n → IsWithNew old g new
    → AreSeeds gs new (n + 1)
seeds_more gs old g new n l e s w = record {
  seeded = λ j m d. elim (cases_lt j n) [
    | inl less ↦ has_longer old new (operation (get_or gs j d)).rotation (with_new-longer old g new w) (s.seeded j less d)
    | inr last ↦ (let q : n ≡ j = omega arith in subst (λ (x : Op). HasRotation new (operation x).rotation) (e ∙ get_or_default gs n g d l
        ∙ ap (λ k. get_or gs k d) q) (with_new-has old g new w))
  ];
  from_list = from_more w;
  distinct = distinct_more w;
}
  where
    from_more : IsWithNew old g new → All (IsOneOf gs) new
    from_more (inl h) = subst (All (IsOneOf gs)) (sym h.1) s.from_list
    from_more (inr h) = subst (All (IsOneOf gs)) (sym h.3) (All-push (IsOneOf gs) old g s.from_list (one_of gs g n l e))

    distinct_more : IsWithNew old g new → AllPairs (λ g h. ¬ ((operation g).rotation ≡ (operation h).rotation)) new
    distinct_more (inl h) = subst (AllPairs (λ g h. ¬ ((operation g).rotation ≡ (operation h).rotation))) (sym h.1) s.distinct
    distinct_more (inr h) = subst (AllPairs (λ g h. ¬ ((operation g).rotation ≡ (operation h).rotation))) (sym h.3)
        (distinct_push old g s.distinct h.0)

pub seed_generated : (gs : List Op) (g : Op) → IsOneOf gs g → Generated (operations gs) (operation g)
seed_generated gs g h = subst (λ (x : Op). Generated (operations gs) (operation x)) (h.2 g) (generated_at gs h.0 g h.1)

pub seeds_refused : (gs old : List Op) (g : Op) (e : CloseError) (n : ℕ) → n < length gs → g ≡ get_or gs n g → AreSeeds gs old n
    → IsKeepRefusal old g e → IsClosingRefusal gs e
seeds_refused gs old g Rotations n l e s (none, inl m) = too_many gs old g (λ i d k. seed_generated gs (get_or old i d) (s.from_list i d k))
    s.distinct (seed_generated gs g (one_of gs g n l e)) none m
seeds_refused gs old g Rotations n l e s (none, inr large) = λ few. large (few.within (operation g) (seed_generated gs g (one_of gs g n l e)))
seeds_refused gs old g Denominator n l e s h = h
seeds_refused gs old g Centrings n l e s h = h
seeds_refused gs old g Memory n l e s h = h

generated_along : (gens more : List Operation) → ((s : Operation) → Contains gens s → Generated more s) → {g : Operation} → Generated gens g
    → Generated more g
generated_along gens more all one = one
generated_along gens more all (generator {g} m) = all g m
generated_along gens more all (unit_translation i) = unit_translation i
generated_along gens more all (product p q) = product (generated_along gens more all p) (generated_along gens more all q)
generated_along gens more all (inverse e p) = inverse e (generated_along gens more all p)

pub generated_by : (xs : List Op) (gens : List Operation) → All (λ x. Generated gens (operation x)) xs → {g : Operation} → Generated (operations xs) g
    → Generated gens g
generated_by xs gens all h =
    generated_along (operations xs) gens (λ s m. of_member xs all s m.0 (subst (λ n. m.0 < n) (length-map xs operation) m.1) m.2) h
  where
    of_member : (ys : List Op) → All (λ x. Generated gens (operation x)) ys → (s : Operation) (k : ℕ) → k < length ys
        → get_or (map operation ys) k s ≡ s → Generated gens s
    of_member [] each s k l e = absurd (let h : k < 0 = l in omega arith)
    of_member (y ∷ ys) each s k l e = subst (Generated gens) (sym (get_or-map operation (y ∷ ys) k y s l) ∙ e) (each k y l)

pub generated_by_seeds : (gs seeds : List Op) → All (IsOneOf gs) seeds → {g : Operation} → Generated (operations seeds) g
    → Generated (operations gs) g
generated_by_seeds gs seeds from h = generated_by seeds (operations gs) (λ k d l. seed_generated gs (get_or seeds k d) (from k d l)) h

pub few_of_seeds : (gs seeds : List Op) → All (IsOneOf gs) seeds → HasFewRotations (operations gs) → HasFewRotations (operations seeds)
few_of_seeds gs seeds from few = record {
  rotations = few.rotations;
  few = few.few;
  all = λ g h. few.all g (generated_by_seeds gs seeds from h);
  within = λ g h. few.within g (generated_by_seeds gs seeds from h);
}

pub few_kept : (gs seeds kept : List Op) → AreInvertible gs → All (λ s. HasRotation seeds (operation s).rotation) gs → IsPartial seeds kept
    → All (λ g. HasProducts kept (operation g).rotation seeds (length seeds)) kept → Op → HasFewRotations (operations gs)
few_kept gs seeds kept inv seeded partial products d = record {
  rotations = map (λ (g : Op). (operation g).rotation) kept;
  few = (let e : length (map (λ (g : Op). (operation g).rotation) kept) ≡ length kept = length-map kept
      (λ (g : Op). (operation g).rotation) in let f : length kept ≤ 48 = partial.few in omega arith);
  all = λ g h. let t = rotation_of_generated gs seeds kept inv seeded partial products d g h in (
    t.0,
    (let e : length (map (λ (g : Op). (operation g).rotation) kept) ≡ length kept = length-map kept
        (λ (g : Op). (operation g).rotation) in let l : t.0 < length kept = t.1 in omega arith),
    get_or-map (λ (g : Op). (operation g).rotation) kept t.0 d g.rotation t.1 ∙ t.2 d,
  );
  within = λ g h. let t = rotation_of_generated gs seeds kept inv seeded partial products d g h in subst (IsWithin 9) (t.2 d)
      (partial.kept t.0 d t.1).within;
}
