-- Up the levels of a series.
--   level_outer              what a level of a series generates
--   start_climbed            before the first level
--   next_climbed, last_climbed       after one that is not the last, and after the last
--   all_climbed              after all levels
use Rattle.std.specs.Prelude.{ℕ, zero, suc, ◌≡◌, ◌<◌, ◌≤◌, ◌+◌, ◌⊎◌, List, [], ◌∷◌, drop, length, slice_index}
use Rattle.std.proofs.Common.{sym, ◌∙◌, ap, subst, refl, inl, inr, get_or, arith}
use Rattle.std.proofs.Math.ListN.{drop_of_length-le}
use Rattle.std.proofs.lemmas.Bool.{cases_lt}
use Rattle.std.proofs.lemmas.List.{drop_more, ext_get_or}
use Rattle.irr_algebra.specs.Fin.{Fin, to_nat}
use Rattle.irr_algebra.proofs.Indices.{from_nat, to_nat-from_nat, to_nat-lt}
use Rattle.irr_space.specs.PhaseTable.{PhaseTable}
use Rattle.irr_cyc.specs.declared.scalars.Scalar.{Ghosts}
use Rattle.irr_rep.specs.declared.family.Family.{Family}
use Rattle.irr_chain.specs.declared.series.Level.{Level}
use Rattle.irr_chain.specs.NormalSubgroup.{In}
use Rattle.irr_chain.specs.Series.{IsLevel, IsSeries}
use Rattle.irr_chain.proofs.Chains.{whole_in, whole_subgroup}
use Rattle.irr_level.proofs.TableLevels.{other_order}
use Rattle.irr_climb.specs.Climbed.{IsClimbed, IsWhole}
use Rattle.irr_climb.specs.Lists.{IsFullOn}

module _ {h : ℕ} (T : PhaseTable h) where
  -- the list of the unit is whole where each place is in it
  unit_whole : ((i : Fin h) → In (0 ∷ []) i) → IsWhole h (0 ∷ [])
  unit_whole all = record { count = sym one; numbers = λ a l. at a (subst (λ n. a < n) one l) }
    where
      zero_number : (k a : ℕ) → a < 1 → get_or (0 ∷ []) a k ≡ k → k ≡ 0
      zero_number k a l e = sym e ∙ ap (λ b. get_or (0 ∷ []) b k) (let z : a ≡ 0 = omega (arith, l) in z)

      number : (i : Fin h) → to_nat i ≡ 0
      number i = let m = all i in zero_number (to_nat i) m.0 m.1 m.2

      by_size : (1 < h) ⊎ (h ≤ 1) → h ≡ 1
      by_size (inl more) = absurd (let e = sym (to_nat-from_nat h 1 more) ∙ number (from_nat h 1 more) in omega (arith, e))
      by_size (inr few) = let l = to_nat-lt T.start in omega (arith, l, few)

      one : h ≡ 1
      one = by_size (cases_lt 1 h)

      at : (a : ℕ) → a < 1 → slice_index (0 ∷ []) a ≡ a
      at a l = subst (λ b. slice_index (0 ∷ []) b ≡ b) (let z : 0 ≡ a = omega (arith, l) in z) refl

  whole_level : (level : Level) (outer whole : List ℕ) → IsLevel T level outer → ((i : Fin h) → In outer i) → IsWhole h whole → IsLevel T level whole
  whole_level level outer whole so all w = other_order T level outer whole so (whole_subgroup T whole w.count w.numbers)
      (λ i a. whole_in T whole w.count w.numbers i) (λ i a. all i)

  same_whole : (xs ys : List ℕ) → IsWhole h xs → IsWhole h ys → xs ≡ ys
  same_whole xs ys w v = ext_get_or 0 xs ys (w.count ∙ sym v.count)
      (λ i l. let m = subst (λ n. i < n) w.count l in w.numbers i m ∙ sym (v.numbers i m))

  module _ {S : Type 0} {G : Ghosts S} where
    pub start_climbed : (levels : List Level) (fs : List (Family S G)) → IsSeries T (0 ∷ []) levels → IsFullOn T T.order (0 ∷ []) fs
        → IsClimbed T levels 0 fs
    start_climbed levels fs series full = record {
      members = 0 ∷ [];
      series = series;
      full = full;
      whole = λ e. unit_whole (subst (IsSeries T (0 ∷ [])) (let same : levels ≡ [] = e in same) series);
    }

    pub all_climbed : (levels : List Level) (k : ℕ) (fs : List (Family S G)) → IsClimbed T levels k fs → k ≡ length levels
        → (members : List ℕ) → length members ≡ h → ((a : ℕ) → a < h → slice_index members a ≡ a) → IsFullOn T T.order members fs
    all_climbed levels k fs c e members count numbers =
        let none : drop k levels ≡ [] = drop_of_length-le levels (let l : length levels ≤ k = omega (arith, e) in l) in
        subst (λ xs. IsFullOn T T.order xs fs) (same_whole c.members members (c.whole none) (record { count = count; numbers = numbers })) c.full

    module _ (levels : List Level) (k : ℕ) (inside : k < length levels) (level : Level) (own : level ≡ get_or levels k level) (fs : List (Family S G))
        (climbed : IsClimbed T levels k fs) where
      here : IsSeries T climbed.members (level ∷ drop (k + 1) levels)
      here = subst (λ l. IsSeries T climbed.members (l ∷ drop (k + 1) levels)) (sym own)
          (subst (IsSeries T climbed.members) (drop_more levels k level inside) climbed.series)

      pub level_list : IsFullOn T T.order level.members.items fs
      level_list = subst (λ xs. IsFullOn T T.order xs fs) (sym here.0) climbed.full

      module _ (last : k + 1 ≡ length levels) (whole : List ℕ) (w : IsWhole h whole) where
        none_left : drop (k + 1) levels ≡ []
        none_left = drop_of_length-le levels (let l : length levels ≤ k + 1 = omega (arith, last) in l)

        pub last_level : IsLevel T level whole
        last_level = whole_level level here.1.0 whole here.1.1.0 (subst (IsSeries T here.1.0) none_left here.1.1.1) w

        pub last_climbed : (gs : List (Family S G)) → IsFullOn T T.order whole gs → IsClimbed T levels (k + 1) gs
        last_climbed gs full = record {
          members = whole;
          series = subst (IsSeries T whole) (sym none_left) (whole_in T whole w.count w.numbers);
          full = full;
          whole = λ e. w;
        }

      module _ (more : k + 1 < length levels) (next : Level) (then : next ≡ get_or levels (k + 1) next) where
        after : drop (k + 1) levels ≡ next ∷ drop (k + 1 + 1) levels
        after = drop_more levels (k + 1) next more ∙ ap (λ l. l ∷ drop (k + 1 + 1) levels) (sym then)

        beyond : IsSeries T here.1.0 (next ∷ drop (k + 1 + 1) levels)
        beyond = subst (IsSeries T here.1.0) after here.1.1.1

        pub next_level : IsLevel T level next.members.items
        next_level = subst (IsLevel T level) (sym beyond.0) here.1.1.0

        pub next_climbed : (gs : List (Family S G)) → IsFullOn T T.order next.members.items gs → IsClimbed T levels (k + 1) gs
        next_climbed gs full = record {
          members = next.members.items;
          series = subst (IsSeries T next.members.items) (sym after) (refl, beyond.1);
          full = full;
          whole = λ e. absurd (not_none next (drop (k + 1 + 1) levels) (sym after ∙ e));
        }
          where
            not_none : (l : Level) (ls : List Level) → l ∷ ls ≡ [] → ⊥
            not_none l ls e = cc
