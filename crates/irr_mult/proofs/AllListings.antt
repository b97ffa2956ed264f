-- The parts of a representation, one star after another.
--   stars_of, lists_of           the stars and the lists there, as the theory has them
--   Asked, asked_at              what `push_parts` asks for at a star
--   AllSoFar                     the parts on the first k stars
--   none_of_all, more_of_all     no star, and one more
--   all_of_all                   all stars
--   dimensions_add_up            multiplicities times dimensions add up to the number of rows
use Rattle.std.proofs.Common.{◌≡◌, sym, ◌∙◌, ap, subst, subst₂, ℕ, ◌+◌, ◌*◌, ◌<◌, inl, inr, refl, List, [], ◌++◌, length, get_or, map, Vec, Global, arith}
use Rattle.std.proofs.lemmas.Bool.{cases_lt}
use Rattle.std.proofs.lemmas.List.{get_or-map, map-append}
use Rattle.irr_algebra.specs.Fin.{Fin, to_nat}
use Rattle.irr_algebra.specs.Action.{HasDimension}
use Rattle.irr_algebra.proofs.Indices.{from_nat, to_nat-from_nat, to_nat_inj, to_nat-lt}
use Rattle.irr_number.specs.Number.{Number}
use Rattle.irr_number.proofs.NumberField.{number_field}
use Rattle.irr_rational.specs.Order.{IsBelow}
use Rattle.irr_rational.proofs.Lexicographic.{below_irrefl}
use Rattle.irr_theory.specs.Representations.{count_total}
use Rattle.irr_theory.proofs.Existence.{dimension_exists}
use Rattle.irr_space.specs.Operation.{WaveVector, wave_component}
use Rattle.irr_seitz.specs.PhaseMeaning.{sign_of}
use Rattle.irr_close.specs.StandsFor.{stands_for}
use Rattle.irr_close.proofs.SpaceGroups.{space_group}
use Rattle.irr_little.proofs.Spaces.{has_canonical}
use Rattle.irr_space.specs.Star.{IsInStar}
use Rattle.irr_space.specs.CompleteList.{over}
use Rattle.irr_rep.specs.Twisted.{phase_table}
use Rattle.irr_kvec.specs.WaveMeaning.{wave_vector}
use Rattle.irr_full.specs.Parts.{Part as FullPart, IsPartBefore, ArePartsOf}
use Rattle.irr_full.specs.Stars.{Stars}
use Rattle.irr_full.specs.StarParts.{StarLists, star_part}
use Rattle.irr_full.proofs.PartsAddUp.{parts_add_up, same_representative}
use Rattle.irr_full.proofs.PartsOfStars.{parts_of_stars, star_multiplicity}
use Rattle.irr_mult.specs.declared.part.Part.{Part}
use Rattle.irr_mult.specs.declared.star.StarCharacters.{StarCharacters}
use Rattle.irr_mult.specs.Listing.{item, IsListing}
use Rattle.irr_mult.specs.StarParts.{ArePushed, HasCharacters, IsPartRow, listed_part, part_of}
use Rattle.irr_mult.specs.Traced.{AreTraced, SpaceRepresentation, star_on, traces_at}
use Rattle.irr_mult.proofs.LittleLists.{is_full}
use Rattle.irr_mult.proofs.Listings.{item-read, listing-along, listing-append, listing-none}

module _ {S : Type 0} (order : S → ℕ) (value : (n : ℕ) → S → Number n) (A : SpaceRepresentation)
    (stars : List (StarCharacters S))
    (traces : List (Vec S Global)) (t : AreTraced order value A stars traces) where
  abbrev wave : Fin (length stars) → WaveVector
  wave i = wave_vector (item stars i).wave

  -- a wave vector is not below itself
  not_before : (i j : Fin (length stars)) → wave i ≡ wave j → to_nat i < to_nat j → ⊥
  not_before i j e l = below_irrefl (wave_component (wave j)) (subst
      (λ (k : WaveVector). IsBelow (wave_component k) (wave_component (wave j))) e (t.ordered i j l))

  different : (i j : Fin (length stars)) → IsInStar (stands_for A.group) (wave i) (wave j) → i ≡ j
  different i j h =
      let e = same_representative (stands_for A.group) (space_group A.group).is_group (wave i) (wave j)
      (t.star i).representative
      (t.star j).representative h in
      elim (cases_lt (to_nat i) (to_nat j)) [
        | inl l ↦ absurd (not_before i j e l)
        | inr f ↦ (elim (cases_lt (to_nat j) (to_nat i)) [
          | inl l ↦ absurd (not_before j i (sym e) l)
          | inr g ↦ to_nat_inj i j (omega (arith, f, g))
        ])
      ]

  abbrev stars_of : Stars (sign_of A.group.phase) (stands_for A.group) A.order A.at
  stars_of = record {
    count = length stars;
    wave = λ i. wave_vector (item stars i).wave;
    star = λ i. star_on (t.star i).has.star;
    divides = λ i. (t.star i).has.characters.divides;
    different = different;
    all = t.all;
  }

  -- how often the member m at the star i stands in A
  mult : (i : Fin (length stars)) → Fin (t.star i).has.characters.list.count → ℕ
  mult i m = (dimension_exists (number_field A.order A.positive)
      (over (phase_table (item stars i).table) A.order (t.star i).has.characters.divides
      ((t.star i).has.characters.list.member m)) (t.star i).row.part).0

  dimension : (i : Fin (length stars)) (m : Fin (t.star i).has.characters.list.count) → HasDimension
      (over (phase_table (item stars i).table) A.order (t.star i).has.characters.divides
      ((t.star i).has.characters.list.member m)).at (t.star i).row.part.at (mult i m)
  unfolding mult
  dimension i m = (dimension_exists (number_field A.order A.positive)
      (over (phase_table (item stars i).table) A.order (t.star i).has.characters.divides
      ((t.star i).has.characters.list.member m)) (t.star i).row.part).1

  abbrev lists_of : StarLists A.positive stars_of
  lists_of = record {
    list = λ i. (t.star i).has.characters.list;
    complete = λ i. (t.star i).has.complete;
    ordered = λ i. (t.star i).has.ordered;
    representative = λ i. (t.star i).representative;
    mult = mult;
    multiplicity = λ i m. star_multiplicity (stands_for A.group) (space_group A.group).is_group
        (has_canonical A.group) (sign_of A.group.phase) A.order
        A.positive A.at A.is_representation
        A.has_diagonal (star_on (t.star i).has.star) (t.star i).has.characters.divides (t.star i).has.characters.list
        (t.star i).has.complete (t.star i).has.ordered
        (t.star i).places (t.star i).row.part (t.star i).is_part m (mult i m) (dimension i m);
  }

  abbrev Member : Type 0
  Member = (i : Fin (length stars)) × Fin (t.star i).has.characters.list.count

  abbrev part_at : Member → FullPart
  part_at j = star_part lists_of j.0 j.1

  abbrev Stands : ℕ → Member → Type 0
  Stands k j = (to_nat j.0 < k) × (0 < mult j.0 j.1)

  abbrev Before : Member → Member → Type 0
  Before x y = IsPartBefore (part_at x) (part_at y)

  -- the parts on the first k stars
  pub AllSoFar : ℕ → List Part → Type 0
  AllSoFar k new = IsListing part_at (Stands k) Before (map part_of new)

  pub none_of_all : AllSoFar 0 []
  unfolding AllSoFar
  none_of_all = listing-none part_at Before (Stands 0) (λ j s. let l : to_nat j.0 < 0 = s.0 in omega (arith, l))

  module _ (i : Fin (length stars)) where
    Here : Member → Type 0
    Here j = (to_nat j.0 ≡ to_nat i) × (0 < mult j.0 j.1)

    -- the member that stands at this star
    back : (j : Member) → Here j → (m : Fin (t.star i).has.characters.list.count) × (0 < mult i m)
        × (◌≡◌ {A = Member} (i, m) j)
    unfolding Here
    back j s = at_star j.0 (sym (to_nat_inj j.0 i s.0)) j.1 s.1
      where
        at_star : (l : Fin (length stars)) → i ≡ l → (m : Fin (t.star l).has.characters.list.count) → 0 < mult l m
            → (n : Fin (t.star i).has.characters.list.count) × (0 < mult i n) × (◌≡◌ {A = Member} (i, n) (l, m))
        at_star l e = subst (λ l. (m : Fin (t.star l).has.characters.list.count) → 0 < mult l m
            → (n : Fin (t.star i).has.characters.list.count) × (0 < mult i n) × (◌≡◌ {A = Member} (i, n) (l, m))) e
            (λ m o. (m, o, refl))

    here : (pushed : List Part) → IsListing (listed_part (t.star i).has.characters (mult i)) (λ m. 0 < mult i m)
        (λ m n. to_nat m < to_nat n) (map part_of pushed)
        → IsListing part_at Here Before (map part_of pushed)
    unfolding Here
    here pushed h = listing-along (listed_part (t.star i).has.characters (mult i)) (λ m. 0 < mult i m)
        (λ m n. to_nat m < to_nat n) part_at Here Before
        (λ m. (i, m)) (λ m. refl) (λ m o. (refl, o)) back (λ m n l. inr (refl, omega (arith, l))) (map part_of pushed) h

    pub more_of_all : (k : ℕ) → to_nat i ≡ k → (old new : List Part)
        → ArePushed order value (item stars i) (traces_at traces (to_nat i)) old new → AllSoFar k old
        → AllSoFar (k + 1) new
    unfolding AllSoFar Here
    more_of_all k e old new p a = from_pushed (p A.order (t.star i).has.characters (t.star i).row (mult i)
        (dimension i))
      where
        from_pushed : (pushed : List Part) × (new ≡ old ++ pushed)
            × IsListing (listed_part (t.star i).has.characters (mult i)) (λ m. 0 < mult i m)
            (λ m n. to_nat m < to_nat n)
            (map part_of pushed)
            → IsListing part_at (Stands (k + 1)) Before (map part_of new)
        from_pushed (pushed, f, h) = subst (IsListing part_at (Stands (k + 1)) Before)
            (sym (ap (map part_of) f ∙ map-append part_of old pushed))
            (listing-append part_at Before (Stands k) Here (Stands (k + 1)) (map part_of old) (map part_of pushed) a
            (here pushed h)
            (λ j (b, o). (let w : to_nat j.0 < k = b in omega (arith, w), o))
            (λ j (b, o). (let w : to_nat j.0 ≡ to_nat i = b in omega (arith, w, e), o))
            (λ j (b, o). elim (cases_lt (to_nat j.0) k) [
              | inl l ↦ inl (l, o)
              | inr g ↦ inr
                  (omega (arith, b, g, e), o)
            ])
            (λ x y (b, o) (w, v). inl (t.ordered x.0 y.0 (let l : to_nat x.0 < k = b in let f : to_nat y.0 ≡ to_nat
            i = w in omega (arith, l, f, e)))))

  pub all_of_all : (k : ℕ) → k ≡ length stars → (new : List Part) → AllSoFar k new
      → ArePartsOf (sign_of A.group.phase) (stands_for A.group) A.positive A.at (item (map part_of new))
  unfolding AllSoFar
  all_of_all k e new h = parts_of_stars (stands_for A.group) (space_group A.group).is_group (has_canonical A.group)
      (sign_of A.group.phase) A.order A.positive
      A.at A.is_representation A.has_diagonal
      stars_of lists_of (item (map part_of new)) (record {
        from_star = λ u. ((h.index u).0, (h.index u).1, h.is u);
        occurs = λ u. subst (λ (p : FullPart). 0 < p.mult) (sym (h.is u)) (h.holds u).1;
        all = λ i m o. let found = h.all (i, m) (subst (λ n. to_nat i < n) (sym e) (to_nat-lt i), o) in
            (found.0, h.is found.0 ∙ ap part_at found.1);
        ordered = λ u v l. subst₂ IsPartBefore (sym (h.is u)) (sym (h.is v)) (h.ordered u v l);
      })

  pub dimensions_add_up : {n : ℕ} (parts : Fin n → FullPart) → ArePartsOf (sign_of A.group.phase) (stands_for A.group) A.positive A.at parts
      → count_total n (λ i. (parts i).mult * (parts i).dim) ≡ A.size
  dimensions_add_up parts are = parts_add_up (stands_for A.group) (space_group A.group).is_group (has_canonical A.group)
      (sign_of A.group.phase) A.order A.positive A.at A.is_representation A.has_diagonal stars_of
      (λ i. (t.star i).has.characters.list)
      (λ i. is_full A.group (star_on (t.star i).has.star) (t.star i).has.characters.list (t.star i).has.complete)
      (λ i. (t.star i).has.ordered) (λ i. (t.star i).representative) parts are

  -- what the program reads at the place k
  module _ (k : ℕ) (l : k < length stars) (x : StarCharacters S) (is : x ≡ get_or stars k x) (v : Vec S Global)
      (row : List S) (read : v ≡ get_or traces k v)
      (slice : row ≡ v.items) where
    abbrev pub place : Fin (length stars)
    place = from_nat (length stars) k l

    same_star : x ≡ item stars place
    same_star = item-read stars k l x is

    same_row : row ≡ traces_at traces (to_nat place)
    same_row = slice ∙ ap (λ (u : Vec S Global). u.items) read
        ∙ sym (get_or-map (λ (u : Vec S Global). u.items) traces k v [] (subst (λ n. k < n) (sym t.same_length) l))
        ∙ ap (traces_at traces) (sym (to_nat-from_nat (length stars) k l))

    -- what `push_parts` asks for
    pub asked_at : (M : ℕ) × (h : HasCharacters order value M x) × IsPartRow h row
    asked_at = subst₂ (λ y rs. (M : ℕ) × (h : HasCharacters order value M y) × IsPartRow h rs) (sym same_star)
        (sym same_row)
        (A.order, (t.star place).has.characters, (t.star place).row)

    pub next_of_all : (old new : List Part) → ArePushed order value x row old new → AllSoFar k old
        → AllSoFar (k + 1) new
    next_of_all old new p = more_of_all place k (to_nat-from_nat (length stars) k l) old new
        (subst₂ (λ y rs. ArePushed order value y rs old new) same_star same_row p)
